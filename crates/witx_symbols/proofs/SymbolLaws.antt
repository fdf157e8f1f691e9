-- The symbols meet the laws of the machine, in each world.
use Rattle.std.proofs.Common.{◌≡◌, ◌≢◌, ℕ, zero, suc, ◌+◌, ◌≤◌, Bool, true, false, not, cond, ◌&&◌, T, refl, sym, ap, ◌∙◌, subst, arith, Option, Some, None, option_map, List, [], ◌∷◌, ◌++◌, length, nat_eq, eqb→eq, slice_get}
use lib.Dec.{eqb_refl}
use Rattle.witx_ast.specs.declared.function.Abi.{Abi}
use Rattle.witx_ast.specs.declared.types.RecordKind.{RecordKind}
use Rattle.witx_ast.specs.Tree.{Tree, Arms}
use Rattle.witx_ast.specs.Plain.{Plain, Fields, plain, field_count, all_bare}
use Rattle.witx_ast.specs.Alike.{same_plain}
use Rattle.witx_ast.specs.Same.{same_tree}
use Rattle.witx_ast.specs.SameLaws.{same-to, same-self}
use Rattle.witx_ast.proofs.AlikeLaws.{alike-self, alike-decides}
use Rattle.witx_machine.specs.declared.surface.WasmType.{WasmType}
use Rattle.witx_machine.specs.Words.{same_type, builtin_word_type, repr_word_type, word_type, same_types, Scalar, number_of, pointer, const_pointer, handle_of, flags_of, enum_of, is_for, when}
use Rattle.witx_machine.specs.Functions.{ok_of, err_of, result_cases}
use Rattle.witx_machine.specs.Signature.{param_words}
use Rattle.witx_symbols.specs.Symbols.{Source, argument, payload, reply, part, Symbol, Symbols, atom, tuple, made, bare_made, no_symbols, symbol, SymbolWord, word_of_symbol, list_address, list_length, given, zero_word, one_word, is_of, are_of, atom_is, symbol_from, parts_from, symbols_listed, symbols_of, same_source, same_symbol, same_members, same_option, same_symbols}
use Rattle.witx_symbols.specs.Symbolic.{SymbolCell, SymbolMemory, SymbolWorld, symbols, has_kind, lower_symbol, lift_word, symbol_list_words, list_of_words, symbol_parts, give_symbol, symbol_at, get_symbol, put_in, replaced, picks_in, chooses_in, payload_tells, result_in, same_case, made_of, payload_is, payload_from, word_has_type}
use Rattle.witx_symbols.specs.Verdicts.{direct_are, is_word_of}
use Rattle.witx_symbols.specs.Meaning.{StandsInCell, symbol_meaning}
use Rattle.witx_machine.proofs.Scalars.{truth, true_of, when_true, both_true, left_true, right_true, same_type_self, same_types_is}
use Rattle.witx_machine.proofs.Alikes.{AlikeOption}
use Rattle.witx_machine.proofs.Laws.{Laws, Lowers, AreMembers, PayloadIs, named_payload}

pub plain_same : (t u : Plain) → T (same_plain t u) → t ≡ u
plain_same t u h = (alike-decides t u).0 (true_of _ h)

pub same_plain_self : (t : Plain) → T (same_plain t t)
same_plain_self t = truth (alike-self t)

pub tree_same : (t u : Tree) → T (same_tree t u) → t ≡ u
tree_same t u h = same-to t u (true_of _ h)

pub same_tree_self : (t : Tree) → T (same_tree t t)
same_tree_self t = truth (same-self t)

pub source_same : (s z : Source) → T (same_source s z) → s ≡ z
source_same (argument i) (argument j) h = ap argument (eqb→eq i j h)
source_same payload payload h = refl
source_same reply reply h = refl
source_same (part s i) (part t j) h =
    let a = source_same s t (left_true (same_source s t) _ h) in
    let b = eqb→eq i j (right_true (same_source s t) _ h) in
    λ k. part (a k) (b k)
source_same _ _ h = absurd h

abbrev mutual
  pub symbol_same : (v u : Symbol) → T (same_symbol v u) → v ≡ u
  symbol_same (atom s t) (atom z u) h =
      let a = source_same s z (left_true (same_source s z) _ h) in
      let b = plain_same t u (right_true (same_source s z) _ h) in
      λ k. atom (a k) (b k)
  symbol_same (tuple vs) (tuple us) h = ap tuple (members_same vs us h)
  symbol_same (made i v) (made j u) h =
      let a = eqb→eq i j (left_true (nat_eq i j) _ h) in
      let b = symbol_same v u (right_true (nat_eq i j) _ h) in
      λ k. made (a k) (b k)
  symbol_same (bare_made i) (bare_made j) h = ap bare_made (eqb→eq i j h)
  symbol_same _ _ h = absurd h

  pub members_same : (vs us : Symbols) → T (same_members vs us) → vs ≡ us
  members_same no_symbols no_symbols h = refl
  members_same (symbol v vs) (symbol u us) h =
      let a = symbol_same v u (left_true (same_symbol v u) _ h) in
      let b = members_same vs us (right_true (same_symbol v u) _ h) in
      λ k. symbol (a k) (b k)
  members_same _ _ h = absurd h

pub source_refl : (s : Source) → T (same_source s s)
source_refl (argument i) = eqb_refl i
source_refl payload = tt
source_refl reply = tt
source_refl (part s i) = both_true _ _ (source_refl s) (eqb_refl i)

abbrev mutual
  pub symbol_refl : (v : Symbol) → T (same_symbol v v)
  symbol_refl (atom s t) = both_true _ _ (source_refl s) (same_plain_self t)
  symbol_refl (tuple vs) = members_refl vs
  symbol_refl (made i v) = both_true _ _ (eqb_refl i) (symbol_refl v)
  symbol_refl (bare_made i) = eqb_refl i

  pub members_refl : (vs : Symbols) → T (same_members vs vs)
  members_refl no_symbols = tt
  members_refl (symbol v vs) = both_true _ _ (symbol_refl v) (members_refl vs)

pub option_refl : (o : Option Symbol) → T (same_option o o)
option_refl None = tt
option_refl (Some v) = symbol_refl v

pub option_same : (o p : Option Symbol) → T (same_option o p) → o ≡ p
option_same None None h = refl
option_same None (Some v) h = absurd h
option_same (Some v) None h = absurd h
option_same (Some v) (Some u) h = ap Some (symbol_same v u h)

pub symbols_same : (xs ys : List Symbol) → T (same_symbols xs ys) → xs ≡ ys
symbols_same [] [] h = refl
symbols_same (x ∷ xs) (y ∷ ys) h = λ i. symbol_same x y (left_true (same_symbol x y) _ h) i ∷ symbols_same xs ys (right_true (same_symbol x y) _ h) i
symbols_same _ _ h = absurd h

pub symbols_refl : (vs : List Symbol) → T (same_symbols vs vs)
symbols_refl [] = tt
symbols_refl (v ∷ vs) = both_true _ _ (symbol_refl v) (symbols_refl vs)

abbrev pub Is : Plain → Symbol → Type 0
Is t v = T (is_of t v)

-- what a type comes from is of it
abbrev mutual
  pub from_is : (t : Plain) (s : Source) → Is t (symbol_from t s)
  from_is (Plain.record_of RecordKind.Tuple ms) s = parts_are ms s 0
  from_is (Plain.builtin k) s = same_plain_self (Plain.builtin k)
  from_is Plain.handle s = same_plain_self Plain.handle
  from_is (Plain.pointer_to t) s = same_plain_self (Plain.pointer_to t)
  from_is (Plain.const_pointer_to t) s = same_plain_self (Plain.const_pointer_to t)
  from_is (Plain.list_of t) s = same_plain_self (Plain.list_of t)
  from_is (Plain.record_of (RecordKind.Bitflags r) ms) s = same_plain_self (Plain.record_of (RecordKind.Bitflags r) ms)
  from_is (Plain.record_of RecordKind.Other ms) s = same_plain_self (Plain.record_of RecordKind.Other ms)
  from_is (Plain.variant_of r cs) s = same_plain_self (Plain.variant_of r cs)

  pub parts_are : (ms : Fields) (s : Source) (j : ℕ) → T (are_of ms (parts_from ms s j))
  parts_are Fields.no_fields s j = tt
  parts_are (Fields.field n t ms) s j = both_true _ _ (from_is t (part s j)) (parts_are ms s (j + 1))

-- what is of such a type is an atom of it
data Atom (t : Plain) : Symbol → Type 0 where
  atom_of : (s : Source) → Atom t (atom s t)

atom_by : (t : Plain) (v : Symbol) → T (atom_is t v) → Atom t v
atom_by t (atom s u) h = subst (λ u. Atom t (atom s u)) (sym (plain_same u t h)) (atom_of s)
atom_by t (tuple vs) h = absurd h
atom_by t (made i v) h = absurd h
atom_by t (bare_made i) h = absurd h

abbrev pub Converts : Scalar → Plain → Symbol → Type 0
Converts x t v = (w : SymbolWord) × (lower_symbol x v ≡ Some w) × (lift_word x w ≡ Some v) × T (word_has_type (word_type x) w) × T (direct_are t v (w ∷ []))

converted : (x : Scalar) (t : Plain) (v : Symbol) → T (has_kind x t) → ((s : Source) → T (direct_are t (atom s t) (word_of_symbol (atom s t) (word_type x) ∷ []))) → T (atom_is t v) → Converts x t v
converted x t v c d h = go v (atom_by t v h)
  where
    go : (v : Symbol) → Atom t v → Converts x t v
    go v (atom_of s) =
        (word_of_symbol (atom s t) (word_type x), when_true _ _ c, when_true _ _ (both_true _ _ (same_type_self (word_type x)) c), same_type_self (word_type x), d s)

along : (x : Scalar) (t q : Plain) (v : Symbol) → t ≡ q → (Is q v → Converts x q v) → Is t v → Converts x t v
along x t q v e f h = subst (λ t. Converts x t v) (sym e) (f (subst (λ t. Is t v) e h))

pub scalar_words : (x : Scalar) (t : Plain) (v : Symbol) → Lowers x t → Is t v → Converts x t v
scalar_words (number_of k) t v e h = along (number_of k) t (Plain.builtin k) v e (converted (number_of k) (Plain.builtin k) v (same_plain_self (Plain.builtin k)) (λ s. both_true _ _ (both_true _ _ (same_type_self (builtin_word_type k)) tt) (symbol_refl (atom s (Plain.builtin k))))) h
scalar_words pointer t v e h = along pointer t (Plain.pointer_to e.0) v e.1 (converted pointer (Plain.pointer_to e.0) v tt (λ s. symbol_refl (atom s (Plain.pointer_to e.0)))) h
scalar_words const_pointer t v e h = along const_pointer t (Plain.const_pointer_to e.0) v e.1 (converted const_pointer (Plain.const_pointer_to e.0) v tt (λ s. symbol_refl (atom s (Plain.const_pointer_to e.0)))) h
scalar_words (handle_of n) t v e h =
    let kind : T (has_kind (handle_of n) Plain.handle) = subst (λ q. T (is_for (handle_of n) q && same_plain Plain.handle q)) (sym e.1) (same_plain_self Plain.handle) in
    along (handle_of n) t Plain.handle v e.0 (converted (handle_of n) Plain.handle v kind (λ s. symbol_refl (atom s Plain.handle))) h
scalar_words (flags_of w n) t v e h =
    let q = Plain.record_of (RecordKind.Bitflags e.0) e.1 in
    let ty : T (same_type w (repr_word_type e.0)) = subst (λ u. T (same_type w u)) e.4 (same_type_self w) in
    let kind : T (has_kind (flags_of w n) q) = subst (λ p. T (is_for (flags_of w n) p && same_plain q p)) (sym e.3) (both_true _ _ ty (same_plain_self q)) in
    along (flags_of w n) t q v e.2 (converted (flags_of w n) q v kind (λ s. both_true _ _ (both_true _ _ ty tt) (symbol_refl (atom s q)))) h
scalar_words (enum_of n) t v e h =
    let q = Plain.variant_of e.0 e.1 in
    let kind : T (has_kind (enum_of n) q) = subst (λ p. T (is_for (enum_of n) p && same_plain q p)) (sym e.3) (both_true _ _ (bare (all_bare e.1) e.4) (same_plain_self q)) in
    along (enum_of n) t q v e.2 (converted (enum_of n) q v kind (λ s. symbol_refl (atom s q))) h
  where
    bare : (b : Bool) → not b ≡ false → T b
    bare true h = tt
    bare false h = absurd (clash h)
      where
        clash : true ≡ false → ⊥
        clash e = cc

pub list_back : (t : Plain) (v : Symbol) → Is (Plain.list_of t) v → (a : SymbolWord) × (l : SymbolWord) × (symbol_list_words v ≡ Some (a, l)) × (list_of_words a l ≡ Some v) × T (word_has_type WasmType.I32 a) × T (word_has_type WasmType.I32 l) × T (direct_are (Plain.list_of t) v (a ∷ l ∷ []))
list_back t v h = go v (atom_by (Plain.list_of t) v h)
  where
    go : (v : Symbol) → Atom (Plain.list_of t) v → (a : SymbolWord) × (l : SymbolWord) × (symbol_list_words v ≡ Some (a, l)) × (list_of_words a l ≡ Some v) × T (word_has_type WasmType.I32 a) × T (word_has_type WasmType.I32 l) × T (direct_are (Plain.list_of t) v (a ∷ l ∷ []))
    go v (atom_of s) =
        let u = atom s (Plain.list_of t) in
        (list_address u, list_length u, refl, when_true _ _ (symbol_refl u), tt, tt, both_true _ _ (symbol_refl u) (symbol_refl u))

members_are : (ms : Fields) (us : Symbols) → T (are_of ms us) → (field_count ms ≡ length (symbols_listed us)) × AreMembers Is ms (symbols_listed us)
members_are Fields.no_fields no_symbols h = (refl, tt)
members_are Fields.no_fields (symbol u us) h = absurd h
members_are (Fields.field n t ms) no_symbols h = absurd h
members_are (Fields.field n t ms) (symbol u us) h = let r = members_are ms us (right_true (is_of t u) _ h) in let e : field_count ms + 1 ≡ suc (length (symbols_listed us)) = let p = r.0 in omega arith in (e, (left_true (is_of t u) _ h, r.1))

symbols_again : (us : Symbols) → symbols_of (symbols_listed us) ≡ us
symbols_again no_symbols = refl
symbols_again (symbol u us) = ap (symbol u) (symbols_again us)

pub tuple_back : (ms : Fields) (v : Symbol) → Is (Plain.record_of RecordKind.Tuple ms) v → (vs : List Symbol) × (symbol_parts (field_count ms) v ≡ Some vs) × (tuple (symbols_of vs) ≡ v) × AreMembers Is ms vs
tuple_back ms (tuple us) h =
    let r = members_are ms us h in
    (symbols_listed us, when_true _ _ (subst (λ n. T (nat_eq (field_count ms) n)) r.0 (eqb_refl (field_count ms))), ap tuple (symbols_again us), r.1)
tuple_back ms (atom s u) h = absurd h
tuple_back ms (made i v) h = absurd h
tuple_back ms (bare_made i) h = absurd h

-- memories
pub record Keeps (m m' : SymbolMemory) : Type 0 where
  pub kept : (k : ℕ) (c : SymbolCell) → slice_get m.made k ≡ Some c → slice_get m'.made k ≡ Some c

abbrev pub New : SymbolMemory → SymbolWord → Type 0
New m w = (k : ℕ) × (w ≡ given k) × (slice_get m.made k ≡ None)

pub kept_stands : (m m' : SymbolMemory) (w : SymbolWord) (P : SymbolCell → Type 0) → Keeps m m' → StandsInCell m w P → StandsInCell m' w P
kept_stands m m' w P g h = (h.0, h.1, h.2, g.kept h.0 h.2 h.3, h.4)

pub none_some : {A : Type 0} {x : A} {o : Option A} → o ≡ None → o ≡ Some x → ⊥
none_some {A} {x} {o} e k = clash (sym e ∙ k)
  where
    clash : None ≡ Some x → ⊥
    clash e = cc

pub same_given : {a b : ℕ} → given a ≡ given b → a ≡ b
same_given {a} e = ap number_of e
  where
    number_of : SymbolWord → ℕ
    number_of (given k) = k
    number_of _ = 0

last_got : {A : Type 0} (xs : List A) (x : A) → slice_get (xs ++ x ∷ []) (length xs) ≡ Some x
last_got [] x = refl
last_got (y ∷ xs) x = last_got xs x

pub past_end : {A : Type 0} (xs : List A) → slice_get xs (length xs) ≡ None
past_end [] = refl
past_end (y ∷ xs) = past_end xs

before_end : {A : Type 0} (xs : List A) (x c : A) (k : ℕ) → slice_get xs k ≡ Some c → slice_get (xs ++ x ∷ []) k ≡ Some c
before_end {A} [] x c k e = absurd (clash e)
  where
    clash : None ≡ Some c → ⊥
    clash e = cc
before_end (y ∷ xs) x c zero e = e
before_end (y ∷ xs) x c (suc k) e = before_end xs x c k e

replaced_own : {A : Type 0} (k : ℕ) (a c : A) (xs : List A) → slice_get xs k ≡ Some c → slice_get (replaced k a xs) k ≡ Some a
replaced_own {A} k a c [] e = absurd (clash e)
  where
    clash : None ≡ Some c → ⊥
    clash e = cc
replaced_own zero a c (x ∷ xs) e = refl
replaced_own (suc k) a c (x ∷ xs) e = replaced_own k a c xs e

replaced_other : {A : Type 0} (k j : ℕ) (a : A) (xs : List A) → j ≢ k → slice_get (replaced k a xs) j ≡ slice_get xs j
replaced_other k j a [] n = refl
replaced_other zero zero a (x ∷ xs) n = absurd (n refl)
replaced_other zero (suc j) a (x ∷ xs) n = refl
replaced_other (suc k) zero a (x ∷ xs) n = refl
replaced_other (suc k) (suc j) a (x ∷ xs) n = replaced_other k j a xs (λ e. n (ap suc e))

pub got_kept : (cells cells' : List SymbolCell) (t : Tree) (w : SymbolWord) (v : Symbol) (l l' : ℕ) → ((k : ℕ) (c : SymbolCell) → w ≡ given k → slice_get cells k ≡ Some c → slice_get cells' k ≡ Some c) → get_symbol t w (record { made = cells; left = l }) ≡ Some v → get_symbol t w (record { made = cells'; left = l' }) ≡ Some v
got_kept cells cells' t (given k) v l l' f e = go (slice_get cells k) refl e
  where
    none : None ≡ Some v → ⊥
    none e = cc

    go : (o : Option SymbolCell) → slice_get cells k ≡ o → symbol_at t o ≡ Some v → symbol_at t (slice_get cells' k) ≡ Some v
    go None is e = absurd (none e)
    go (Some c) is e = ap (symbol_at t) (f k c refl is) ∙ e
got_kept cells cells' t (word_of_symbol u x) v l l' f e = absurd (none_some refl e)
got_kept cells cells' t (list_address u) v l l' f e = absurd (none_some refl e)
got_kept cells cells' t (list_length u) v l l' f e = absurd (none_some refl e)
got_kept cells cells' t zero_word v l l' f e = absurd (none_some refl e)
got_kept cells cells' t one_word v l l' f e = absurd (none_some refl e)

abbrev pub Gave : Tree → Option Symbol → ℕ → SymbolMemory → Type 0
Gave t v n m = (m' : SymbolMemory) × (give_symbol t v m.made m.left ≡ Some (given (length m.made), m')) × (slice_get m'.made (length m.made) ≡ Some (t, v)) × Keeps m m' × (n ≤ m'.left)

pub gave : (t : Tree) (v : Option Symbol) (n : ℕ) (cells : List SymbolCell) (left : ℕ) → suc n ≤ left → Gave t v n (record { made = cells; left = left })
gave t v n cells zero room = absurd (omega arith)
gave t v n cells (suc l) room = (record { made = cells ++ (t, v) ∷ []; left = l }, refl, last_got cells (t, v), record { kept = λ k c e. before_end cells (t, v) c k e }, omega arith)

abbrev pub Sets : SymbolWorld → SymbolMemory → SymbolMemory → Tree → SymbolWord → Symbol → Type 0
Sets w base m t x v =
    (m' : SymbolMemory) × ((symbols w).set t x v m ≡ Some m') × (get_symbol t x m' ≡ Some v) × symbol_meaning.holds m' x v × Keeps base m' ×
    ((u : SymbolWord) → symbol_meaning.given m u → symbol_meaning.given m' u) × ((u : SymbolWord) (q : Tree) → u ≢ x → symbol_meaning.made_for m u q → symbol_meaning.made_for m' u q) ×
    ((u : SymbolWord) (y : Symbol) → u ≢ x → symbol_meaning.holds m u y → symbol_meaning.holds m' u y) × ((q : Tree) (u : SymbolWord) (y : Symbol) → u ≢ x → get_symbol q u m ≡ Some y → get_symbol q u m' ≡ Some y)

sets_at : (w : SymbolWorld) (base m : SymbolMemory) (t : Tree) (k : ℕ) (v : Symbol) (c : SymbolCell) → Keeps base m → slice_get base.made k ≡ None → slice_get m.made k ≡ Some c → plain c.0 ≡ plain t → Is (plain t) v → Sets w base m t (given k) v
sets_at w base m t k v c keeps none found made_t is =
    let alike_t : T (same_plain (plain c.0) (plain t)) = subst (λ q. T (same_plain q (plain t))) (sym made_t) (same_plain_self (plain t)) in
    let new : SymbolCell = (c.0, Some v) in
    let m' : SymbolMemory = record { made = replaced k new m.made; left = m.left } in
    let own = replaced_own k new c m.made found in (
      m',
      ap (put_in t v k m) found ∙ when_true _ _ (both_true _ _ alike_t is),
      ap (symbol_at t) own ∙ when_true _ _ alike_t,
      (k, refl, new, own, refl),
      record { kept = λ j d e. other base.made j d none e ∙ keeps.kept j d e },
      λ u g. given_kept u g (nat_eq g.0 k) refl,
      λ u q n h. (h.0, h.1, h.2, replaced_other k h.0 new m.made (λ p. n (h.1 ∙ ap given p)) ∙ h.3, h.4),
      λ u y n h. (h.0, h.1, h.2, replaced_other k h.0 new m.made (λ p. n (h.1 ∙ ap given p)) ∙ h.3, h.4),
      λ q u y n e. got_kept m.made (replaced k new m.made) q u y m.left m.left (λ j d is e. replaced_other k j new m.made (λ p. n (is ∙ ap given p)) ∙ e) e,
    )
  where
    other : (cells : List SymbolCell) (j : ℕ) (d : SymbolCell) → slice_get cells k ≡ None → slice_get cells j ≡ Some d → slice_get (replaced k (c.0, Some v) m.made) j ≡ slice_get m.made j
    other cells j d none e = replaced_other k j (c.0, Some v) m.made (λ p. none_some none (subst (λ j. slice_get cells j ≡ Some d) p e))

    given_kept : (u : SymbolWord) (g : StandsInCell m u (λ c. Unit {0})) (b : Bool) → nat_eq g.0 k ≡ b → StandsInCell (record { made = replaced k (c.0, Some v) m.made; left = m.left }) u (λ c. Unit {0})
    given_kept u g true e = (g.0, g.1, (c.0, Some v), subst (λ j. slice_get (replaced k (c.0, Some v) m.made) j ≡ Some (c.0, Some v)) (sym (eqb→eq g.0 k (subst T (sym e) tt))) (replaced_own k (c.0, Some v) c m.made found), tt)
    given_kept u g false e = (g.0, g.1, g.2, replaced_other k g.0 (c.0, Some v) m.made (λ p. same_not (subst (λ j. nat_eq g.0 j ≡ false) (sym p) e)) ∙ g.3, tt)
      where
        same_not : nat_eq g.0 g.0 ≡ false → ⊥
        same_not q = subst T q (eqb_refl g.0)

pub sets : (w : SymbolWorld) (base m : SymbolMemory) (made_t t : Tree) (x : SymbolWord) (v : Symbol) → plain made_t ≡ plain t → Keeps base m → New base x → symbol_meaning.made_for m x made_t → Is (plain t) v → Sets w base m t x v
sets w base m made_t t x v alike keeps new stands is =
    let k = new.0 in
    let same : stands.0 ≡ k = same_given (sym stands.1 ∙ new.1) in
    let found : slice_get m.made k ≡ Some stands.2 = subst (λ b. slice_get m.made b ≡ Some stands.2) same stands.3 in
    subst (λ x. Sets w base m t x v) (sym new.1) (sets_at w base m t k v stands.2 keeps new.2 found (ap plain stands.4 ∙ alike) is)

-- the reply in a world: under Preview1 it is known which case it is, where it is one of two
abbrev pub Fits : SymbolWorld → Tree → Type 0
Fits w t = (cs : Arms) → result_cases t ≡ Some cs → (e : Bool) × (w.error ≡ Some e) × (w.load ≡ payload_from (cond e (err_of cs) (ok_of cs)))

abbrev pub FitsUnder : Abi → SymbolWorld → Tree → Type 0
FitsUnder Abi.Preview1 w t = (w.abi ≡ Abi.Preview1) × Fits w t
FitsUnder Abi.Stored w t = Unit {0}

abbrev pub Returned : SymbolWorld → Plain → Symbol → Type 0
Returned w t v = (w.abi ≡ Abi.Preview1) × (w.error ≡ Some true) × (w.load ≡ Some v)

abbrev PicksAny : SymbolWorld → Option Tree → Option Tree → Bool → Option Symbol → Symbol → Type 0
PicksAny w ok err e p v = (ok' err' : Option Tree) → AlikeOption ok ok' → AlikeOption err err' → (symbols w).picks ok' err' v ≡ Some (e, named_payload (cond e err' ok') p)

abbrev pub Came : SymbolWorld → Option Tree → Option Tree → Symbol → Type 0
Came w ok err v =
    (e : Bool) × (p : Option Symbol) × ((symbols w).result e p ≡ v) × ((symbols w).chooses ((symbols w).case_word e) ≡ Some e) × PayloadIs (λ u q. Is u q × cond e (Returned w u q) (Unit {0})) (cond e err ok) p × PicksAny w ok err e p v

pub payload_there : (w : SymbolWorld) (e : Bool) (t : Option Tree) → w.abi ≡ Abi.Preview1 → w.error ≡ Some e → w.load ≡ payload_from t → PayloadIs (λ u q. Is u q × cond e (Returned w u q) (Unit {0})) t (payload_from t)
payload_there w e None a i l = tt
payload_there w e (Some u) a i l = (from_is (plain u) payload, back e i)
  where
    back : (e : Bool) → w.error ≡ Some e → cond e (Returned w (plain u) (symbol_from (plain u) payload)) (Unit {0})
    back true i = (a, i, l)
    back false i = tt

-- the payload is of any type alike to its own
pub payload_is_there : (t u : Option Tree) → AlikeOption t u → payload_is u (payload_from t) ≡ Some (named_payload u (payload_from t))
payload_is_there None None a = refl
payload_is_there None (Some u) a = absurd a
payload_is_there (Some t) None a = absurd a
payload_is_there (Some t) (Some u) a = when_true _ _ (subst (λ q. T (is_of q (symbol_from (plain t) payload))) a (from_is (plain t) payload))

pub either : (e : Bool) (ok err ok' err' : Option Tree) → AlikeOption ok ok' → AlikeOption err err' → AlikeOption (cond e err ok) (cond e err' ok')
either true ok err ok' err' a b = b
either false ok err ok' err' a b = a

unfoldable pub came : (w : SymbolWorld) (ok err : Option Tree) (v : Symbol) (e : Bool) → w.abi ≡ Abi.Preview1 → w.whole ≡ Some v → w.error ≡ Some e → w.load ≡ payload_from (cond e err ok) → Came w ok err v
came w ok err v e abi whole is load =
    let p = payload_from (cond e err ok) in (
      e,
      p,
      ap (λ o. result_in w e p o w.error) whole ∙ ap (result_in w e p (Some v)) is ∙ chosen e (same_option w.load p) v (made_of (cond e 1 0) p) (subst (λ o. T (same_option w.load o)) load (option_refl w.load)),
      ap (λ x. chooses_in x w (cond e one_word zero_word)) is ∙ word e,
      payload_there w e (cond e err ok) abi is load,
      λ ok' err' a b.
          ap (λ x. picks_in x w ok' err' v) is ∙ when_true _ _ (subst (λ o. T (same_option o (Some v))) (sym whole) (symbol_refl v)) ∙ ap (λ o. option_map (λ p. (e, p)) (payload_is (cond e err' ok') o)) load
          ∙ ap (option_map (λ p. (e, p))) (payload_is_there (cond e err ok) (cond e err' ok') (either e ok err ok' err' a b)),
    )
  where
    chosen : (e b : Bool) (r s : Symbol) → T b → cond (same_case e e && b) r s ≡ r
    chosen true true r s h = refl
    chosen true false r s h = absurd h
    chosen false true r s h = refl
    chosen false false r s h = absurd h

    word : (e : Bool) → chooses_in (Some e) w (cond e one_word zero_word) ≡ Some e
    word true = refl
    word false = refl

direct_one : (t : Plain) (v : Symbol) (x : SymbolWord) → T (direct_are t v (x ∷ [])) → T (is_word_of (param_words t) v x)
direct_one (Plain.list_of t) v (list_address u) h = absurd h
direct_one (Plain.list_of t) v (word_of_symbol u w) h = absurd h
direct_one (Plain.list_of t) v (list_length u) h = absurd h
direct_one (Plain.list_of t) v (given k) h = absurd h
direct_one (Plain.list_of t) v zero_word h = absurd h
direct_one (Plain.list_of t) v one_word h = absurd h
direct_one (Plain.builtin k) v x h = h
direct_one Plain.handle v x h = h
direct_one (Plain.pointer_to t) v x h = h
direct_one (Plain.const_pointer_to t) v x h = h
direct_one (Plain.record_of k ms) v x h = h
direct_one (Plain.variant_of r cs) v x h = h

pub error_word : (w : SymbolWorld) (t : Plain) (v : Symbol) (x : SymbolWord) → Returned w t v → T (word_has_type WasmType.I32 x) → T (direct_are t v (x ∷ [])) → (symbols w).chooses x ≡ Some true
error_word w t v x r is h = ap (λ e. chooses_in e w x) r.1 ∙ go x is (direct_one t v x h)
  where
    go : (x : SymbolWord) → T (word_has_type WasmType.I32 x) → T (is_word_of (param_words t) v x) → chooses_in (Some true) w x ≡ Some true
    go (word_of_symbol u ty) is h = when_true _ _ (both_true _ _ (subst (λ a. T (payload_tells a)) (sym r.0) tt) (both_true _ _ is (subst (λ o. T (same_option o (Some u))) (sym r.2) (right_true (same_types (ty ∷ []) (param_words t)) _ h))))
    go (list_address u) is h = absurd h
    go (list_length u) is h = absurd h
    go (given k) is h = absurd h
    go zero_word is h = absurd h
    go one_word is h = absurd h

-- the words of a value are of one kind
pub data Direct (t : Plain) (v : Symbol) : List SymbolWord → Type 0 where
  single : (ty : WasmType) → ty ∷ [] ≡ param_words t → Direct t v (word_of_symbol v ty ∷ [])
  double : (q : Plain) → t ≡ Plain.list_of q → Direct t v (list_address v ∷ list_length v ∷ [])

pub one_word_of : (ts : List WasmType) (v : Symbol) (x : SymbolWord) → T (is_word_of ts v x) → (ty : WasmType) × (ty ∷ [] ≡ ts) × (x ≡ word_of_symbol v ty)
one_word_of ts v (word_of_symbol u ty) h =
    (ty, same_types_is (ty ∷ []) ts (left_true (same_types (ty ∷ []) ts) _ h), ap (λ u. word_of_symbol u ty) (sym (symbol_same v u (right_true (same_types (ty ∷ []) ts) _ h))))
one_word_of ts v (list_address u) h = absurd h
one_word_of ts v (list_length u) h = absurd h
one_word_of ts v (given k) h = absurd h
one_word_of ts v zero_word h = absurd h
one_word_of ts v one_word h = absurd h

pub direct_sort : (t : Plain) (v : Symbol) (xs : List SymbolWord) → T (direct_are t v xs) → Direct t v xs
direct_sort t v xs h = go t xs h
  where
    one : (t : Plain) (x : SymbolWord) → T (is_word_of (param_words t) v x) → Direct t v (x ∷ [])
    one t x h = let r = one_word_of (param_words t) v x h in subst (λ x. Direct t v (x ∷ [])) (sym r.2) (single r.0 r.1)

    go : (q : Plain) (xs : List SymbolWord) → T (direct_are q v xs) → Direct q v xs
    go (Plain.list_of t) (list_address a ∷ list_length l ∷ []) h =
        let p = symbol_same v a (left_true (same_symbol v a) _ h) in
        let q = symbol_same v l (right_true (same_symbol v a) _ h) in
        subst (λ a. Direct (Plain.list_of t) v (list_address a ∷ list_length l ∷ [])) p (subst (λ l. Direct (Plain.list_of t) v (list_address v ∷ list_length l ∷ [])) q (double t refl))
    go (Plain.builtin b) (x ∷ []) h = one (Plain.builtin b) x h
    go Plain.handle (x ∷ []) h = one Plain.handle x h
    go (Plain.pointer_to t) (x ∷ []) h = one (Plain.pointer_to t) x h
    go (Plain.const_pointer_to t) (x ∷ []) h = one (Plain.const_pointer_to t) x h
    go (Plain.record_of k ms) (x ∷ []) h = one (Plain.record_of k ms) x h
    go (Plain.variant_of r cs) (x ∷ []) h = one (Plain.variant_of r cs) x h
    go _ _ h = absurd h

pub direct_once : (t : Plain) (v : Symbol) (ws us : List SymbolWord) → T (direct_are t v ws) → T (direct_are t v us) → ws ≡ us
direct_once t v ws us h k = go t ws us (direct_sort t v ws h) (direct_sort t v us k)
  where
    head_type : WasmType → List WasmType → WasmType
    head_type d [] = d
    head_type d (w ∷ ws) = w

    not_one : (ty : WasmType) (q : Plain) → ty ∷ [] ≡ param_words (Plain.list_of q) → ⊥
    not_one ty q e = cc

    go : (t : Plain) (ws us : List SymbolWord) → Direct t v ws → Direct t v us → ws ≡ us
    go t ws us (single a e) (single b f) = ap (λ ty. word_of_symbol v ty ∷ []) (ap (head_type a) (e ∙ sym f))
    go t ws us (single a e) (double q i) = absurd (not_one a q (e ∙ ap param_words i))
    go t ws us (double q i) (single a e) = absurd (not_one a q (e ∙ ap param_words i))
    go t ws us (double q i) (double p j) = refl

pub got_alike : (m : SymbolMemory) (t q : Tree) (x : SymbolWord) (v : Symbol) → plain t ≡ plain q → get_symbol t x m ≡ Some v → get_symbol q x m ≡ Some v
got_alike m t q x v e h = sym (go x) ∙ h
  where
    same : (o : Option SymbolCell) → symbol_at t o ≡ symbol_at q o
    same None = refl
    same (Some c) = ap (λ p. when (same_plain (plain c.0) p) c.1) e

    go : (x : SymbolWord) → get_symbol t x m ≡ get_symbol q x m
    go (given k) = same (slice_get m.made k)
    go (word_of_symbol u w) = refl
    go (list_address u) = refl
    go (list_length u) = refl
    go zero_word = refl
    go one_word = refl

unfoldable pub symbol_laws : (w : SymbolWorld) → Laws (symbols w) symbol_meaning
symbol_laws w = record {
  Is = Is;
  Replies = λ abi t v. (w.whole ≡ Some v) × Is (plain t) v × FitsUnder abi w t;
  Returned = Returned w;
  Room = λ n m. n ≤ m.left;
  Keeps = Keeps;
  New = New;
  reply_is = λ abi t v h. h.1;
  scalar = scalar_words;
  list = list_back;
  direct_once = direct_once;
  tuple = tuple_back;
  cases = λ t r cs v e p is has h. let d = h.2.1 cs e in came w (ok_of cs) (err_of cs) v d.0 h.2.0 h.0 d.1 d.2;
  case_type = case_typed;
  error_word = error_word w;
  keeps_all = λ m. record { kept = λ k c e. e };
  keeps_then = λ m m' m'' g h. record { kept = λ k c e. h.kept k c (g.kept k c e) };
  keeps_given = λ m m' x g h. kept_stands m m' x (λ c. Unit {0}) g h;
  keeps_held = λ m m' x v g h. kept_stands m m' x (λ c. c.1 ≡ Some v) g h;
  keeps_made = λ m m' x t g h. kept_stands m m' x (λ c. c.0 ≡ t) g h;
  keeps_got = λ m m' t x v g e. got_kept m.made m'.made t x v m.left m'.left (λ k c is e. g.kept k c e) e;
  got_alike = got_alike;
  less_room = λ n m r. omega arith;
  new_before = λ m m' x g h. (h.0, h.1, before m m' h.0 g h.2);
  new_other = λ m u x t made_t new e. none_some new.2 (subst (λ b. slice_get m.made b ≡ Some made_t.2) (same_given (sym made_t.1 ∙ e ∙ new.1)) made_t.3);
  put = λ t v n m by is room. let d = gave t (Some v) n m.made m.left room in
      (given (length m.made), d.0, when_true _ _ by ∙ d.1, (length m.made, refl, (t, Some v), d.2, tt), (length m.made, refl, (t, Some v), d.2, refl), ap (symbol_at t) d.2 ∙ when_true _ _ (same_plain_self (plain t)), tt, record { kept = d.3.kept }, d.4, λ u r. ap (λ e. chooses_in e w (given (length m.made))) r.1);
  give = λ t n m room. let d = gave t None n m.made m.left room in
      (given (length m.made), d.0, d.1, (length m.made, refl, (t, None), d.2, tt), (length m.made, refl, (t, None), d.2, refl), tt, record { kept = d.3.kept }, d.4, (length m.made, refl, past_end m.made));
  set = sets w;
}
  where
    case_typed : (e : Bool) → T (word_has_type WasmType.I32 (cond e one_word zero_word))
    case_typed true = tt
    case_typed false = tt

    before : (m m' : SymbolMemory) (k : ℕ) → Keeps m m' → slice_get m'.made k ≡ None → slice_get m.made k ≡ None
    before m m' k g none = go (slice_get m.made k) refl
      where
        go : (o : Option SymbolCell) → slice_get m.made k ≡ o → o ≡ None
        go None e = refl
        go (Some c) e = absurd (none_some none (g.kept k c e))
