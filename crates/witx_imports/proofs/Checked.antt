-- The first entry with an import's names; and steps of the loop that gathers the faults of imports.
use Rattle.std.proofs.Common.{◌≡◌, ℕ, zero, suc, ◌+◌, ◌<◌, ◌≤◌, Bool, true, false, List, [], ◌∷◌, ◌++◌, length, map, get_or, drop, Option, Some, None, refl, sym, ap, ◌∙◌, arith}
use Rattle.std.specs.List.{enumerate_from, filter_map, find, position, position_or_len}
use Rattle.std.proofs.lemmas.Bool.Decides.{nat_tests}
use Rattle.std.proofs.lemmas.List.Quantifiers.{position-Some}
use Rattle.std.proofs.lemmas.List.Sums.{fails_before_first}
use Rattle.std.proofs.lemmas.List.{append_assoc, append-nil, drop_more, drop_all}
use Rattle.witx_adapt.specs.declared.adapted.AdaptedFunc.{AdaptedFunc}
use Rattle.witx_imports.specs.declared.import.WasmImport.{WasmImport}
use Rattle.witx_imports.specs.declared.fault.ImportFault.{ImportFault}
use Rattle.witx_imports.specs.declared.fault.ImportFault.TheVariants.{Missing, Differs}
use Rattle.witx_imports.specs.Faults.{offered_import, has_import_names, has_words, fault_by, import_fault_of}

find_here : {X : Type 0} (p : X → Bool) (x : X) (xs : List X) → p x ≡ true → find p (x ∷ xs) ≡ Some x
find_here p x xs e = rw e refl

find_later : {X : Type 0} (p : X → Bool) (x : X) (xs : List X) → p x ≡ false → find p (x ∷ xs) ≡ find p xs
find_later p x xs e = rw e refl

-- ---- one import

same_words : (n k : ℕ) (i x : WasmImport) → has_words i x ≡ true → fault_by n i (Some (k, x)) ≡ None
same_words n k i x t = rw t refl

other_words : (n k : ℕ) (i x : WasmImport) → has_words i x ≡ false → fault_by n i (Some (k, x)) ≡ Some (Differs n k)
other_words n k i x t = rw t refl

module _ (i : WasmImport) where
  abbrev named : ℕ × WasmImport → Bool
  named x = has_import_names i x.1

  abbrev pub is_named : AdaptedFunc → Bool
  is_named e = has_import_names i (offered_import e)

  -- what is offered, numbered from k on
  abbrev onward : ℕ → List AdaptedFunc → List (ℕ × WasmImport)
  onward k es = enumerate_from k (map offered_import es)

  none_has : (es : List AdaptedFunc) (k : ℕ) → ((j : ℕ) (d : AdaptedFunc) → j < length es → is_named (get_or es j d) ≡ false) → find named (onward k es) ≡ None
  none_has [] k h = refl
  none_has (x ∷ es) k h =
      find_later named (k, offered_import x) (onward (k + 1) es) (h zero x (omega arith)) ∙ none_has es (k + 1) (λ j d lt. h (suc j) d (omega (arith, lt)))

  first_has : (es : List AdaptedFunc) (k j : ℕ) (d : AdaptedFunc) → j < length es → is_named (get_or es j d) ≡ true
      → ((l : ℕ) (e : AdaptedFunc) → l < j → is_named (get_or es l e) ≡ false) → find named (onward k es) ≡ Some (k + j, offered_import (get_or es j d))
  first_has [] k j d lt t h = absurd (omega (arith, lt))
  first_has (x ∷ es) k zero d lt t h =
      find_here named (k, offered_import x) (onward (k + 1) es) t ∙ ap (λ (n : ℕ). Some (n, offered_import x)) (omega arith)
  first_has (x ∷ es) k (suc j) d lt t h =
      find_later named (k, offered_import x) (onward (k + 1) es) (h zero x (omega arith))
      ∙ first_has es (k + 1) j d (omega (arith, lt)) t (λ l e less. h (suc l) e (omega (arith, less)))
      ∙ ap (λ (n : ℕ). Some (n, offered_import (get_or es j d))) (omega arith)

  module _ (es : List AdaptedFunc) where
    past_all : position is_named es ≡ None → length es ≤ position_or_len is_named es
    past_all e = grind (arith, nat_tests)

    none_first : position is_named es ≡ None → find named (onward 0 es) ≡ None
    none_first e = none_has es 0 (λ j d lt. fails_before_first is_named es j d (omega (arith, lt, past_all e)))

    the_first : (k : ℕ) (e : AdaptedFunc) → position is_named es ≡ Some k → e ≡ get_or es k e → find named (onward 0 es) ≡ Some (k, offered_import e)
    the_first k e p is =
        let h = position-Some is_named es k e p in
        first_has es 0 k e h.0 h.1 (λ l d less. (position-Some is_named es k d p).2 l less)
        ∙ ap (λ (n : ℕ). Some (n, offered_import (get_or es k e))) (omega arith) ∙ ap (λ (x : AdaptedFunc). Some (k, offered_import x)) (sym is)

    pub missing_is : (n : ℕ) → position is_named es ≡ None → Some (Missing n) ≡ import_fault_of (map offered_import es) n i
    missing_is n e = sym (ap (fault_by n i) (none_first e))

    pub match_is : (n k : ℕ) (e : AdaptedFunc) → position is_named es ≡ Some k → e ≡ get_or es k e → has_words i (offered_import e) ≡ true
        → None ≡ import_fault_of (map offered_import es) n i
    match_is n k e p is w = sym (ap (fault_by n i) (the_first k e p is) ∙ same_words n k i (offered_import e) w)

    pub differs_is : (n k : ℕ) (e : AdaptedFunc) → position is_named es ≡ Some k → e ≡ get_or es k e → has_words i (offered_import e) ≡ false
        → Some (Differs n k) ≡ import_fault_of (map offered_import es) n i
    differs_is n k e p is w = sym (ap (fault_by n i) (the_first k e p is) ∙ other_words n k i (offered_import e) w)

-- ---- all imports

kept : {X Y : Type 0} (h : X → Option Y) (x : X) (xs : List X) (y : Y) → h x ≡ Some y → filter_map h (x ∷ xs) ≡ y ∷ filter_map h xs
kept h x xs y e = rw e refl

left_out : {X Y : Type 0} (h : X → Option Y) (x : X) (xs : List X) → h x ≡ None → filter_map h (x ∷ xs) ≡ filter_map h xs
left_out h x xs e = rw e refl

module _ (xs is : List WasmImport) where
  abbrev told : ℕ × WasmImport → Option ImportFault
  told x = import_fault_of xs x.0 x.1

  -- the faults of the imports from the number k on
  abbrev pub faults_from : ℕ → List ImportFault
  faults_from k = filter_map told (enumerate_from k (drop k is))

  next_import : (k : ℕ) (i : WasmImport) → k < length is → i ≡ get_or is k i → enumerate_from k (drop k is) ≡ (k, i) ∷ enumerate_from (k + 1) (drop (k + 1) is)
  next_import k i lt e =
      ap (enumerate_from k) (drop_more is k i lt) ∙ ap (λ (x : WasmImport). (k, x) ∷ enumerate_from (k + 1) (drop (k + 1) is)) (sym e)

  pub one_more : (k : ℕ) (i : WasmImport) (f : ImportFault) (fs : List ImportFault) → k < length is → i ≡ get_or is k i → import_fault_of xs k i ≡ Some f
      → (fs ++ f ∷ []) ++ faults_from (k + 1) ≡ fs ++ faults_from k
  one_more k i f fs lt e t =
      append_assoc fs (f ∷ []) (faults_from (k + 1))
      ∙ ap (λ (x : List ImportFault). fs ++ x)
      (sym (ap (filter_map told) (next_import k i lt e) ∙ kept told (k, i) (enumerate_from (k + 1) (drop (k + 1) is)) f t))

  pub no_more : (k : ℕ) (i : WasmImport) → k < length is → i ≡ get_or is k i → import_fault_of xs k i ≡ None → faults_from (k + 1) ≡ faults_from k
  no_more k i lt e t = sym (ap (filter_map told) (next_import k i lt e) ∙ left_out told (k, i) (enumerate_from (k + 1) (drop (k + 1) is)) t)

  pub at_the_end : (k : ℕ) (fs : List ImportFault) → length is ≤ k → fs ++ faults_from k ≡ fs
  at_the_end k fs le = ap (λ (js : List WasmImport). fs ++ filter_map told (enumerate_from k js)) (drop_all k is le) ∙ append-nil fs
