-- The computed faults of imports are those that hold of the two lists.
use Rattle.std.proofs.Common.{◌≡◌, ℕ, zero, suc, ◌+◌, ◌<◌, Bool, true, false, cond, eqb, List, [], ◌∷◌, Option, Some, None, refl, sym, ap, ◌∙◌, subst, inl, inr, arith}
use Rattle.std.specs.Bool.{Decides}
use Rattle.std.specs.Cmp.Lexicographic.{pointwise}
use Rattle.std.specs.List.{AllPairs, enumerate_from, filter_map, find}
use Rattle.std.proofs.lemmas.List.Kept.{AllPairs-cons}
use Rattle.std.specs.Prelude.{All, slice_get, ◌⊎◌}
use Rattle.std.proofs.lemmas.Bool.{and_from, and_parts}
use Rattle.std.proofs.lemmas.Bool.Decides.{Decides-eqb}
use Rattle.std.proofs.lemmas.Slice.Eq.{slice_eq-Decides}
use Rattle.witx_base.specs.Texts.{same_text}
use Rattle.witx_grammar.specs.Grammar.{In}
use Rattle.witx_grammar.specs.Kinds.{enum_exact}
use Rattle.witx_values.proofs.Truths.{not_both}
use Rattle.witx_machine.specs.contracts.surface.WasmType.{the_type}
use Rattle.witx_machine.specs.contracts.surface.WasmTypePartialEq.TheImpl as words
use Rattle.witx_machine.specs.declared.surface.WasmType.{WasmType}
use Rattle.witx_imports.specs.declared.fault.ImportFault.{ImportFault}
use Rattle.witx_imports.specs.declared.fault.ImportFault.TheVariants.{Missing, Differs}
use Rattle.witx_imports.specs.declared.import.WasmImport.{WasmImport}
use Rattle.witx_imports.specs.Actions.{import_of}
use Rattle.witx_imports.specs.Exact.{import_number, HasNames, IsFirstNamed, IsFaultOfImport, IsFaultAmong}
use Rattle.witx_imports.specs.Faults.{same_words, has_import_names, has_words, fault_by, import_fault_of, import_faults}

no_some : {A : Type 0} (x : A) → None ≡ Some x → ⊥
no_some x e = cc

one_some : {A : Type 0} (x y : A) → Some x ≡ Some y → x ≡ y
one_some x y e = cc

-- ---- the tests decide

text_decides : (a b : List ℕ) → Decides (same_text a b) (a ≡ b)
unfolding same_text
text_decides a b = slice_eq-Decides Decides-eqb a b (pointwise eqb a b) refl

word_decides : (a b : WasmType) → Decides (words.ghosts.eq a b) (a ≡ b)
word_decides a b = enum_exact the_type tt a b

words_decide : (xs ys : List WasmType) → Decides (same_words xs ys) (xs ≡ ys)
words_decide xs ys = slice_eq-Decides word_decides xs ys (same_words xs ys) refl

names_of : (i x : WasmImport) → has_import_names i x ≡ true → HasNames i x
names_of i x e =
    let p = and_parts (same_text x.module i.module) (same_text x.name i.name) e in
    record { owner = (text_decides x.module i.module).0 p.0; name = (text_decides x.name i.name).0 p.1 }

named : (i x : WasmImport) → HasNames i x → has_import_names i x ≡ true
named i x h = and_from (same_text x.module i.module) (same_text x.name i.name) ((text_decides x.module i.module).1 h.owner) ((text_decides x.name i.name).1 h.name)

unnamed : (i x : WasmImport) → has_import_names i x ≡ false → HasNames i x → ⊥
unnamed i x f h = not_both (sym (named i x h) ∙ f)

same_import : (i x : WasmImport) → HasNames i x → has_words i x ≡ true → x ≡ i
same_import i x h e =
    let p = and_parts (same_words x.params i.params) (same_words x.results i.results) e in
    ap (λ (m : List ℕ). import_of m x.name x.params x.results) h.owner
    ∙ ap (λ (n : List ℕ). import_of i.module n x.params x.results) h.name
    ∙ ap (λ (ps : List WasmType). import_of i.module i.name ps x.results) ((words_decide x.params i.params).0 p.0)
    ∙ ap (λ (rs : List WasmType). import_of i.module i.name i.params rs) ((words_decide x.results i.results).0 p.1)

words_of : (i x : WasmImport) → x ≡ i → has_words i x ≡ true
words_of i x e =
    and_from (same_words x.params i.params) (same_words x.results i.results)
    ((words_decide x.params i.params).1 (ap (λ (y : WasmImport). y.params) e)) ((words_decide x.results i.results).1 (ap (λ (y : WasmImport). y.results) e))

-- ---- what the search finds

-- the first that passes, where the list is numbered from k on
abbrev Found : (WasmImport → Bool) → ℕ → List WasmImport → Option (ℕ × WasmImport) → Type 0
Found p k xs None = (j : ℕ) (y : WasmImport) → slice_get xs j ≡ Some y → p y ≡ false
Found p k xs (Some r) = (j : ℕ) × (r.0 ≡ k + j) × (slice_get xs j ≡ Some r.1) × (p r.1 ≡ true)
    × ((l : ℕ) (y : WasmImport) → l < j → slice_get xs l ≡ Some y → p y ≡ false)

none_behind : (p : WasmImport → Bool) (x : WasmImport) (xs : List WasmImport) → p x ≡ false → ((j : ℕ) (y : WasmImport) → slice_get xs j ≡ Some y → p y ≡ false)
    → (j : ℕ) (y : WasmImport) → slice_get (x ∷ xs) j ≡ Some y → p y ≡ false
none_behind p x xs t h zero y e = subst (λ (z : WasmImport). p z ≡ false) (one_some x y e) t
none_behind p x xs t h (suc j) y e = h j y e

none_before : (p : WasmImport → Bool) (x : WasmImport) (xs : List WasmImport) (j : ℕ) → p x ≡ false → ((l : ℕ) (y : WasmImport) → l < j → slice_get xs l ≡ Some y → p y ≡ false)
    → (l : ℕ) (y : WasmImport) → l < suc j → slice_get (x ∷ xs) l ≡ Some y → p y ≡ false
none_before p x xs j t h zero y less e = subst (λ (z : WasmImport). p z ≡ false) (one_some x y e) t
none_before p x xs j t h (suc l) y less e = h l y (omega (arith, less)) e

found_step : (p : WasmImport → Bool) (k : ℕ) (x : WasmImport) (xs : List WasmImport) (o : Option (ℕ × WasmImport)) (b : Bool) → p x ≡ b → Found p (k + 1) xs o
    → Found p k (x ∷ xs) (cond b (Some (k, x)) o)
found_step p k x xs o true t h = (0, (omega arith), refl, t, (λ l y less e. absurd (omega (arith, less))))
found_step p k x xs None false t h = none_behind p x xs t h
found_step p k x xs (Some r) false t h = (suc h.0, (omega (arith, h.1)), h.2, h.3, none_before p x xs h.0 t h.4)

found_is : (p : WasmImport → Bool) (k : ℕ) (xs : List WasmImport) → Found p k xs (find (λ x. p x.1) (enumerate_from k xs))
found_is p k [] = λ j y e. absurd (no_some y e)
found_is p k (x ∷ xs) = found_step p k x xs (find (λ y. p y.1) (enumerate_from (k + 1) xs)) (p x) refl (found_is p (k + 1) xs)

-- ---- one import

module _ (xs : List WasmImport) (n : ℕ) (i : WasmImport) where
  differs_some : (r : ℕ × WasmImport) (f : ImportFault) (b : Bool) → has_words i r.1 ≡ b → Found (has_import_names i) 0 xs (Some r) → cond b None (Some (Differs n r.0)) ≡ Some f
      → IsFaultOfImport xs n i f
  differs_some r f true t h e = absurd (no_some f e)
  differs_some r f false t h e =
      let place : r.0 ≡ h.0 = omega (arith, h.1) in
      let first : IsFirstNamed xs i r.0 r.1 = record {
        here = ap (slice_get xs) place ∙ h.2;
        named = names_of i r.1 h.3;
        before = (λ l y less g. unnamed i y (h.4 l y (omega (arith, less, place)) g));
      } in
      subst (λ (g : ImportFault). IsFaultOfImport xs n i g) (one_some (Differs n r.0) f e) (refl, r.1, first, (λ same. not_both (sym (words_of i r.1 same) ∙ t)))

  sound_by : (o : Option (ℕ × WasmImport)) (f : ImportFault) → Found (has_import_names i) 0 xs o → fault_by n i o ≡ Some f → IsFaultOfImport xs n i f
  sound_by None f h e =
      subst (λ (g : ImportFault). IsFaultOfImport xs n i g) (one_some (Missing n) f e) (refl, (λ k x g. unnamed i x (h k x g)))
  sound_by (Some r) f h e = differs_some r f (has_words i r.1) refl h e

  pub sound : (f : ImportFault) → import_fault_of xs n i ≡ Some f → IsFaultOfImport xs n i f
  sound f e = sound_by (find (λ x. has_import_names i x.1) (enumerate_from 0 xs)) f (found_is (has_import_names i) 0 xs) e

  -- of two firsts with the names neither stands before the other
  same_place : (j k : ℕ) (x y : WasmImport) → (j < k → ⊥) → (k < j → ⊥) → slice_get xs j ≡ Some x → slice_get xs k ≡ Some y → (j ≡ k) × (x ≡ y)
  same_place j k x y a b g h =
      let same : j ≡ k = omega (arith, a, b) in
      (same, one_some x y (sym g ∙ ap (slice_get xs) same ∙ h))

  differ_by : (k : ℕ) (x : WasmImport) (r : ℕ × WasmImport) (b : Bool) → has_words i r.1 ≡ b → HasNames i r.1 → r.0 ≡ k → r.1 ≡ x → (x ≡ i → ⊥)
      → cond b None (Some (Differs n r.0)) ≡ Some (Differs n k)
  differ_by k x r true t h place same other = absurd (other (sym same ∙ same_import i r.1 h t))
  differ_by k x r false t h place same other = ap (λ (m : ℕ). Some (Differs n m)) place

  complete_by : (o : Option (ℕ × WasmImport)) (f : ImportFault) → Found (has_import_names i) 0 xs o → IsFaultOfImport xs n i f → fault_by n i o ≡ Some f
  complete_by None (Missing m) h e = ap (λ (l : ℕ). Some (Missing l)) (sym e.0)
  complete_by (Some r) (Missing m) h e = absurd (e.1 h.0 r.1 h.2 (names_of i r.1 h.3))
  complete_by None (Differs m k) h e = absurd (unnamed i e.1 (h k e.1 e.2.here) e.2.named)
  complete_by (Some r) (Differs m k) h e =
      let there = same_place h.0 k r.1 e.1 (λ less. e.2.before h.0 r.1 less h.2 (names_of i r.1 h.3)) (λ less. unnamed i e.1 (h.4 k e.1 less e.2.here) e.2.named) h.2 e.2.here in
      differ_by k e.1 r (has_words i r.1) refl (names_of i r.1 h.3) (omega (arith, h.1, there.0)) there.1 e.3
      ∙ ap (λ (l : ℕ). Some (Differs l k)) (sym e.0)

  pub complete : (f : ImportFault) → IsFaultOfImport xs n i f → import_fault_of xs n i ≡ Some f
  complete f e = complete_by (find (λ x. has_import_names i x.1) (enumerate_from 0 xs)) f (found_is (has_import_names i) 0 xs) e

-- ---- all imports

all_of_in : (P : ImportFault → Type 0) (fs : List ImportFault) → ((f : ImportFault) → In f fs → P f) → All P fs
all_of_in P [] h i d lt = absurd (omega (arith, lt))
all_of_in P (f ∷ fs) h zero d lt = h f (inl refl)
all_of_in P (f ∷ fs) h (suc i) d lt = all_of_in P fs (λ g e. h g (inr e)) i d (omega (arith, lt))

at_first : (k : ℕ) → k + 0 ≡ k
at_first k = omega arith

at_next : (k j : ℕ) → k + suc j ≡ k + 1 + j
at_next k j = omega arith

from_zero : (j : ℕ) → 0 + j ≡ j
from_zero j = omega arith

module _ (xs : List WasmImport) where
  abbrev told : ℕ × WasmImport → Option ImportFault
  told x = import_fault_of xs x.0 x.1

  -- of the imports, numbered from k on, one is told this
  abbrev Told : ℕ → List WasmImport → ImportFault → Type 0
  Told k is f = (j : ℕ) × (i : WasmImport) × (slice_get is j ≡ Some i) × (import_fault_of xs (k + j) i ≡ Some f)

  abbrev front : (o : Option ImportFault) (fs : List ImportFault) → List ImportFault
  front None fs = fs
  front (Some g) fs = g ∷ fs

  in_front : (o : Option ImportFault) (f : ImportFault) (fs : List ImportFault) → In f (front o fs) → (o ≡ Some f) ⊎ In f fs
  in_front None f fs h = inr h
  in_front (Some g) f fs (inl e) = inl (ap (λ (x : ImportFault). Some x) (sym e))
  in_front (Some g) f fs (inr h) = inr h

  here_in : (o : Option ImportFault) (f : ImportFault) (fs : List ImportFault) → o ≡ Some f → In f (front o fs)
  here_in None f fs e = absurd (no_some f e)
  here_in (Some g) f fs e = inl (sym (one_some g f e))

  there_in : (o : Option ImportFault) (f : ImportFault) (fs : List ImportFault) → In f fs → In f (front o fs)
  there_in None f fs h = h
  there_in (Some g) f fs h = inr h

  parts : (x : ℕ × WasmImport) (ys : List (ℕ × WasmImport)) (o : Option ImportFault) → told x ≡ o → filter_map told (x ∷ ys) ≡ front o (filter_map told ys)
  parts x ys None e = rw e refl
  parts x ys (Some f) e = rw e refl

  told_of : (k : ℕ) (is : List WasmImport) (f : ImportFault) → In f (filter_map told (enumerate_from k is)) → Told k is f
  told_of k [] f h = absurd h
  told_of k (i ∷ is) f h =
      elim (in_front (told (k, i)) f (filter_map told (enumerate_from (k + 1) is))
      (subst (λ (fs : List ImportFault). In f fs) (parts (k, i) (enumerate_from (k + 1) is) (told (k, i)) refl) h)) [
        | inl e ↦ (0, i, refl, ap (λ (m : ℕ). import_fault_of xs m i) (at_first k) ∙ e)
        | inr g ↦
            let r = told_of (k + 1) is f g in
            (suc r.0, r.1, r.2, ap (λ (m : ℕ). import_fault_of xs m r.1) (at_next k r.0) ∙ r.3)
      ]

  in_told : (k : ℕ) (is : List WasmImport) (f : ImportFault) (j : ℕ) (i : WasmImport) → slice_get is j ≡ Some i → import_fault_of xs (k + j) i ≡ Some f
      → In f (filter_map told (enumerate_from k is))
  in_told k [] f j i g e = absurd (no_some i g)
  in_told k (x ∷ is) f zero i g e =
      subst (λ (fs : List ImportFault). In f fs) (sym (parts (k, x) (enumerate_from (k + 1) is) (told (k, x)) refl))
      (here_in (told (k, x)) f (filter_map told (enumerate_from (k + 1) is))
      (ap (λ (y : WasmImport). import_fault_of xs k y) (one_some x i g) ∙ ap (λ (m : ℕ). import_fault_of xs m i) (sym (at_first k)) ∙ e))
  in_told k (x ∷ is) f (suc j) i g e =
      subst (λ (fs : List ImportFault). In f fs) (sym (parts (k, x) (enumerate_from (k + 1) is) (told (k, x)) refl))
      (there_in (told (k, x)) f (filter_map told (enumerate_from (k + 1) is))
      (in_told (k + 1) is f j i g (ap (λ (m : ℕ). import_fault_of xs m i) (sym (at_next k j)) ∙ e)))

  pub only_faults : (is : List WasmImport) (f : ImportFault) → In f (import_faults xs is) → IsFaultAmong xs is f
  only_faults is f h =
      let r = told_of 0 is f h in
      (r.0, r.1, r.2, sound xs r.0 r.1 f (ap (λ (m : ℕ). import_fault_of xs m r.1) (sym (from_zero r.0)) ∙ r.3))

  pub all_faults : (is : List WasmImport) (f : ImportFault) → IsFaultAmong xs is f → In f (import_faults xs is)
  all_faults is f h = in_told 0 is f h.0 h.1 h.2 (ap (λ (m : ℕ). import_fault_of xs m h.1) (from_zero h.0) ∙ complete xs h.0 h.1 f h.3)

  number_of : (n : ℕ) (i : WasmImport) (f : ImportFault) → IsFaultOfImport xs n i f → import_number f ≡ n
  number_of n i (Missing m) e = e.0
  number_of n i (Differs m k) e = e.0

  told_number : (n : ℕ) (i : WasmImport) (f : ImportFault) → import_fault_of xs n i ≡ Some f → import_number f ≡ n
  told_number n i f e = number_of n i f (sound xs n i f e)

  abbrev Before : ImportFault → ImportFault → Type 0
  Before f g = import_number f < import_number g

  before_all : (k : ℕ) (is : List WasmImport) (f g : ImportFault) → import_number f ≡ k → In g (filter_map told (enumerate_from (k + 1) is)) → Before f g
  before_all k is f g e h =
      let r = told_of (k + 1) is g h in
      omega (arith, e, told_number (k + 1 + r.0) r.1 g r.3)

  ordered_front : (k : ℕ) (i : WasmImport) (is : List WasmImport) (o : Option ImportFault) → told (k, i) ≡ o
      → AllPairs Before (filter_map told (enumerate_from (k + 1) is)) → AllPairs Before (front o (filter_map told (enumerate_from (k + 1) is)))
  ordered_front k i is None e h = h
  ordered_front k i is (Some f) e h =
      AllPairs-cons Before f (filter_map told (enumerate_from (k + 1) is))
      (all_of_in (Before f) (filter_map told (enumerate_from (k + 1) is)) (λ g j. before_all k is f g (told_number k i f e) j)) h

  none_ordered : AllPairs Before []
  none_ordered i j d less lt = absurd (omega (arith, lt))

  ordered_from : (k : ℕ) (is : List WasmImport) → AllPairs Before (filter_map told (enumerate_from k is))
  ordered_from k [] = none_ordered
  ordered_from k (i ∷ is) =
      subst (λ (fs : List ImportFault). AllPairs Before fs) (sym (parts (k, i) (enumerate_from (k + 1) is) (told (k, i)) refl))
      (ordered_front k i is (told (k, i)) refl (ordered_from (k + 1) is))

  pub in_order : (is : List WasmImport) → AllPairs (λ f g. import_number f < import_number g) (import_faults xs is)
  in_order is = ordered_from 0 is
