-- Symbols denote values: the cells follow the symbols.
use Rattle.std.proofs.Common.{◌≡◌, ◌≢◌, ℕ, zero, suc, ◌<◌, ◌^◌, Bool, true, false, cond, ◌&&◌, T, refl, sym, ap, ◌∙◌, subst, arith, Option, Some, None, option_map, List, [], ◌∷◌, ◌++◌, length, nat_eq, nat_le, eqb→eq, slice_get, drop, ◌⊎◌, inl, inr, not}
use Rattle.witx_ast.specs.declared.function.Abi.{Abi}
use Rattle.witx_ast.specs.declared.types.RecordKind.{RecordKind}
use Rattle.witx_ast.specs.Tree.{Tree}
use Rattle.witx_ast.specs.Plain.{Plain, Fields, plain, arm_count, field_count, all_bare}
use Rattle.witx_ast.specs.Alike.{same_plain}
use Rattle.witx_ast.specs.Values.{Value, Values}
use Rattle.witx_ast.specs.ValueTests.{is_value, are_values}
use Rattle.witx_ast.specs.Tags.{fits, node_fits, repr_bits}
use Rattle.witx_machine.specs.declared.surface.WasmType.{WasmType}
use Rattle.witx_machine.specs.Words.{Word, i32, same_type, repr_word_type, word_type, Scalar, number_of, pointer, const_pointer, handle_of, flags_of, enum_of, is_for, word_of, value_of, when, is_u32}
use Rattle.witx_machine.specs.Functions.{by_address, name_of}
use Rattle.witx_machine.specs.Cells.{Cell, Cells, Memory, Taken, get, insert, loaded, stored, is_i32, list_at, cells, list_of_values, values_of, payload_of, picked, case_picked, result_value, tuple_parts}
use Rattle.witx_machine.specs.Cells as machine_cells
use Rattle.witx_machine.specs.Faithful.{direct_words, IsTaken}
use Rattle.witx_symbols.specs.Symbols.{Source, Symbol, Symbols, atom, tuple, made, bare_made, no_symbols, symbol, SymbolWord, word_of_symbol, list_address, list_length, given, zero_word, one_word, is_of, are_of, atom_is, symbols_listed, symbols_of, same_symbol, same_option}
use Rattle.witx_symbols.specs.Symbolic.{SymbolCell, SymbolMemory, SymbolWorld, symbols, has_kind, lower_symbol, lift_word, symbol_list_words, list_of_words, symbol_parts, give_symbol, symbol_at, get_symbol, put_in, set_symbol, replaced, picks_in, chooses_in, payload_tells, result_in, same_case, made_of, payload_is, word_has_type}
use Rattle.witx_machine.proofs.Scalars.{when_true, both_true, left_true, right_true, same_type_is}
use Rattle.witx_machine.proofs.Laws.{Lowers}
use Rattle.witx_machine.proofs.CellLaws.{scalar_words, own_cell, insert_other, not_zero}
use Rattle.witx_machine.proofs.Simulation.{Follows, Both, Each, Makes, Simulates, both_follows}
use Rattle.witx_symbols.proofs.SymbolLaws.{plain_same, symbol_same, option_same, none_some}

pub some_same : {A : Type 0} {x y : A} → Some x ≡ Some y → x ≡ y
some_same {A} {x} e = ap (of x) e
  where
    of : A → Option A → A
    of d (Some y) = y
    of d None = d

taken_last : (xs : Taken) (a : ℕ) (t : Tree) → IsTaken (xs ++ (a, t) ∷ []) a
taken_last [] a t = inl refl
taken_last (x ∷ xs) a t = inr (taken_last xs a t)

taken_before : (xs : Taken) (a : ℕ) (x : ℕ × Tree) → IsTaken xs a → IsTaken (xs ++ x ∷ []) a
taken_before [] a x h = absurd h
taken_before (y ∷ xs) a x (inl e) = inl e
taken_before (y ∷ xs) a x (inr h) = inr (taken_before xs a x h)

head_same : {A : Type 0} {x y : A} {xs ys : List A} → x ∷ xs ≡ y ∷ ys → x ≡ y
head_same {A} {x} e = ap (of x) e
  where
    of : A → List A → A
    of d (y ∷ ys) = y
    of d [] = d

-- a conversion that a type has is for it
lowers_by : (x : Scalar) (t : Plain) → T (has_kind x t) → T (fits t) → Lowers x t
lowers_by (number_of k) t c f = plain_same t (Plain.builtin k) c
lowers_by pointer (Plain.pointer_to t) c f = (t, refl)
lowers_by const_pointer (Plain.const_pointer_to t) c f = (t, refl)
lowers_by pointer _ c f = absurd c
lowers_by const_pointer _ c f = absurd c
lowers_by (handle_of n) t c f = let k = right_true (is_for (handle_of n) (plain n)) _ c in go (plain n) refl (left_true (is_for (handle_of n) (plain n)) _ c) (plain_same t (plain n) k)
  where
    go : (q : Plain) → plain n ≡ q → T (is_for (handle_of n) q) → t ≡ plain n → Lowers (handle_of n) t
    go Plain.handle e h k = (k ∙ e, e)
    go _ e h k = absurd h
lowers_by (flags_of w n) t c f = let k = right_true (is_for (flags_of w n) (plain n)) _ c in go (plain n) refl (left_true (is_for (flags_of w n) (plain n)) _ c) (plain_same t (plain n) k)
  where
    go : (q : Plain) → plain n ≡ q → T (is_for (flags_of w n) q) → t ≡ plain n → Lowers (flags_of w n) t
    go (Plain.record_of (RecordKind.Bitflags r) ms) e h k =
        (r, ms, k ∙ e, e, same_type_is w (repr_word_type r) h, left_true (nat_le (field_count ms) (repr_bits r)) _ (subst (λ q. T (fits q)) (k ∙ e) f))
    go _ e h k = absurd h
lowers_by (enum_of n) t c f = let k = right_true (is_for (enum_of n) (plain n)) _ c in go (plain n) refl (left_true (is_for (enum_of n) (plain n)) _ c) (plain_same t (plain n) k)
  where
    bare : (b : Bool) → T b → not b ≡ false
    bare true h = refl
    bare false h = absurd h

    go : (q : Plain) → plain n ≡ q → T (is_for (enum_of n) q) → t ≡ plain n → Lowers (enum_of n) t
    go (Plain.variant_of r cs) e h k =
        (r, cs, k ∙ e, e, bare (all_bare cs) h, left_true (nat_le (arm_count cs) (2 ^ repr_bits r)) _ (left_true (node_fits (Plain.variant_of r cs)) _ (subst (λ q. T (fits q)) (k ∙ e) f)))
    go _ e h k = absurd h

-- a list's two numbers are words
list_fits : (t : Plain) (a l : ℕ) → T (is_value t (Value.list_at a l)) → T (is_u32 a && is_u32 l)
list_fits (Plain.list_of t) a l h = h
list_fits (Plain.builtin k) a l h = absurd h
list_fits Plain.handle a l h = absurd h
list_fits (Plain.pointer_to t) a l h = absurd h
list_fits (Plain.const_pointer_to t) a l h = absurd h
list_fits (Plain.record_of (RecordKind.Bitflags r) ms) a l h = absurd h
list_fits (Plain.record_of RecordKind.Tuple ms) a l h = absurd h
list_fits (Plain.record_of RecordKind.Other ms) a l h = absurd h
list_fits (Plain.variant_of r cs) a l h = absurd h

-- at: what a source stands for
module _ (at : Source → Option Value) where
  abbrev pub AtomIs : Source → Plain → Value → Type 0
  AtomIs s t v = (at s ≡ Some v) × T (is_value t v) × T (fits t)

  abbrev mutual
    pub Denotes : Symbol → Value → Type 0
    Denotes (atom s t) v = AtomIs s t v
    Denotes (tuple vs) v = (us : Values) × (v ≡ Value.tuple_values us) × DenoteAll vs us
    Denotes (made i p) v = (u : Value) × (v ≡ Value.case_with i u) × Denotes p u
    Denotes (bare_made i) v = v ≡ Value.bare_case i

    pub DenoteAll : Symbols → Values → Type 0
    DenoteAll no_symbols Values.no_values = Unit {0}
    DenoteAll no_symbols (Values.value_then u us) = ⊥
    DenoteAll (symbol v vs) Values.no_values = ⊥
    DenoteAll (symbol v vs) (Values.value_then u us) = Denotes v u × DenoteAll vs us

  -- a symbol denotes one value
  abbrev mutual
    pub denotes_one : (v : Symbol) (u u' : Value) → Denotes v u → Denotes v u' → u ≡ u'
    denotes_one (atom s t) u u' h k = some_same (sym h.0 ∙ k.0)
    denotes_one (tuple vs) u u' h k = h.1 ∙ ap Value.tuple_values (denote_one vs h.0 k.0 h.2 k.2) ∙ sym k.1
    denotes_one (made i p) u u' h k = h.1 ∙ ap (Value.case_with i) (denotes_one p h.0 k.0 h.2 k.2) ∙ sym k.1
    denotes_one (bare_made i) u u' h k = h ∙ sym k

    pub denote_one : (vs : Symbols) (us us' : Values) → DenoteAll vs us → DenoteAll vs us' → us ≡ us'
    denote_one no_symbols Values.no_values Values.no_values h k = refl
    denote_one no_symbols Values.no_values (Values.value_then u us) h k = absurd k
    denote_one no_symbols (Values.value_then u us) us' h k = absurd h
    denote_one (symbol v vs) Values.no_values us' h k = absurd h
    denote_one (symbol v vs) (Values.value_then u us) Values.no_values h k = absurd k
    denote_one (symbol v vs) (Values.value_then u us) (Values.value_then u' us') h k = λ i. Values.value_then (denotes_one v u u' h.0 k.0 i) (denote_one vs us us' h.1 k.1 i)

  -- of a type by its symbol, of the type itself
  atom_value : (t : Plain) (v : Symbol) (u : Value) → T (atom_is t v) → Denotes v u → T (is_value t u)
  atom_value t (atom s q) u h d = subst (λ q. T (is_value q u)) (plain_same q t h) d.1
  atom_value t (tuple vs) u h d = absurd h
  atom_value t (made i p) u h d = absurd h
  atom_value t (bare_made i) u h d = absurd h

  abbrev mutual
    is_of_value : (t : Plain) (v : Symbol) (u : Value) → T (is_of t v) → Denotes v u → T (is_value t u)
    is_of_value (Plain.record_of RecordKind.Tuple ms) (tuple vs) u h d = subst (λ u. T (is_value (Plain.record_of RecordKind.Tuple ms) u)) (sym d.1) (are_of_values ms vs d.0 h d.2)
    is_of_value (Plain.record_of RecordKind.Tuple ms) (atom s t) u h d = absurd h
    is_of_value (Plain.record_of RecordKind.Tuple ms) (made i p) u h d = absurd h
    is_of_value (Plain.record_of RecordKind.Tuple ms) (bare_made i) u h d = absurd h
    is_of_value (Plain.builtin k) v u h d = atom_value (Plain.builtin k) v u h d
    is_of_value Plain.handle v u h d = atom_value Plain.handle v u h d
    is_of_value (Plain.pointer_to t) v u h d = atom_value (Plain.pointer_to t) v u h d
    is_of_value (Plain.const_pointer_to t) v u h d = atom_value (Plain.const_pointer_to t) v u h d
    is_of_value (Plain.list_of t) v u h d = atom_value (Plain.list_of t) v u h d
    is_of_value (Plain.record_of (RecordKind.Bitflags r) ms) v u h d = atom_value (Plain.record_of (RecordKind.Bitflags r) ms) v u h d
    is_of_value (Plain.record_of RecordKind.Other ms) v u h d = atom_value (Plain.record_of RecordKind.Other ms) v u h d
    is_of_value (Plain.variant_of r cs) v u h d = atom_value (Plain.variant_of r cs) v u h d

    are_of_values : (ms : Fields) (vs : Symbols) (us : Values) → T (are_of ms vs) → DenoteAll vs us → T (are_values ms us)
    are_of_values Fields.no_fields no_symbols Values.no_values h d = tt
    are_of_values Fields.no_fields no_symbols (Values.value_then u us) h d = absurd d
    are_of_values Fields.no_fields (symbol v vs) us h d = absurd h
    are_of_values (Fields.field n t ms) no_symbols us h d = absurd h
    are_of_values (Fields.field n t ms) (symbol v vs) Values.no_values h d = absurd d
    are_of_values (Fields.field n t ms) (symbol v vs) (Values.value_then u us) h d = both_true _ _ (is_of_value t v u (left_true (is_of t v) _ h) d.0) (are_of_values ms vs us (right_true (is_of t v) _ h) d.1)

  all_denoted : (vs : List Symbol) (us : List Value) → Each Denotes vs us → DenoteAll (symbols_of vs) (values_of us)
  all_denoted [] [] h = tt
  all_denoted [] (u ∷ us) h = absurd h
  all_denoted (v ∷ vs) [] h = absurd h
  all_denoted (v ∷ vs) (u ∷ us) h = (h.0, all_denoted vs us h.1)

  each_denoted : (vs : Symbols) (us : Values) → DenoteAll vs us → (length (symbols_listed vs) ≡ length (list_of_values us)) × Each Denotes (symbols_listed vs) (list_of_values us)
  each_denoted no_symbols Values.no_values h = (refl, tt)
  each_denoted no_symbols (Values.value_then u us) h = absurd h
  each_denoted (symbol v vs) Values.no_values h = absurd h
  each_denoted (symbol v vs) (Values.value_then u us) h = let r = each_denoted vs us h.1 in (ap suc r.0, (h.0, r.1))

  -- words
  -- addresses: those that are given; first: what stood in the memory before
  module _ (addresses : List ℕ) (first : Cells) where
    abbrev WordOf : Symbol → WasmType → Word → Type 0
    WordOf (atom s t) ty w = (u : Value) × AtomIs s t u × (direct_words t u ≡ Some (w ∷ [])) × (w.type ≡ ty)
    WordOf _ ty w = ⊥

    abbrev ListIs : Symbol → ℕ → ℕ → Type 0
    ListIs (atom s t) a l = AtomIs s t (Value.list_at a l)
    ListIs _ a l = ⊥

    abbrev pub WordIs : SymbolWord → Word → Type 0
    WordIs (word_of_symbol v ty) w = WordOf v ty w
    WordIs (list_address v) w = (a : ℕ) × (l : ℕ) × (w ≡ i32 a) × ListIs v a l
    WordIs (list_length v) w = (a : ℕ) × (l : ℕ) × (w ≡ i32 l) × ListIs v a l
    WordIs (given k) w = (a : ℕ) × (w ≡ i32 a) × (slice_get addresses k ≡ Some a)
    WordIs zero_word w = w ≡ i32 0
    WordIs one_word w = w ≡ i32 1

    lower_follows : (x : Scalar) (v : Symbol) (u : Value) → Denotes v u → Follows WordIs (lower_symbol x v) (word_of x u)
    lower_follows x (tuple vs) u d = tt
    lower_follows x (made i p) u d = tt
    lower_follows x (bare_made i) u d = tt
    lower_follows x (atom s t) u d = go (has_kind x t) refl
      where
        go : (b : Bool) → has_kind x t ≡ b → Follows WordIs (when b (Some (word_of_symbol (atom s t) (word_type x)))) (word_of x u)
        go false e = tt
        go true e =
            let c = scalar_words x t u (lowers_by x t (subst T (sym e) tt) d.2) d.1 in
            subst (λ o. Follows WordIs (Some (word_of_symbol (atom s t) (word_type x))) o) (sym c.1) (u, d, c.4, same_type_is c.0.type (word_type x) c.3)

    lift_follows : (x : Scalar) (y : SymbolWord) (w : Word) → WordIs y w → Follows Denotes (lift_word x y) (value_of x w)
    lift_follows x (list_address v) w h = tt
    lift_follows x (list_length v) w h = tt
    lift_follows x (given k) w h = tt
    lift_follows x zero_word w h = tt
    lift_follows x one_word w h = tt
    lift_follows x (word_of_symbol (tuple vs) ty) w h = absurd h
    lift_follows x (word_of_symbol (made i p) ty) w h = absurd h
    lift_follows x (word_of_symbol (bare_made i) ty) w h = absurd h
    lift_follows x (word_of_symbol (atom s t) ty) w h = go (same_type ty (word_type x) && has_kind x t) refl
      where
        go : (b : Bool) → (same_type ty (word_type x) && has_kind x t) ≡ b → Follows Denotes (when b (Some (atom s t))) (value_of x w)
        go false e = tt
        go true e =
            let c = scalar_words x t h.0 (lowers_by x t (right_true (same_type ty (word_type x)) _ (subst T (sym e) tt)) h.1.2) h.1.1 in
            let is : c.0 ≡ w = head_same (some_same (sym c.4 ∙ h.2)) in
            subst (λ o. Follows Denotes (Some (atom s t)) o) (sym (subst (λ w. value_of x w ≡ Some h.0) is c.2)) h.1

    list_words_follow : (v : Symbol) (u : Value) → Denotes v u → Follows (λ p q. WordIs p.0 q.0 × WordIs p.1 q.1) (symbol_list_words v) (machine_cells.list_words u)
    list_words_follow (tuple vs) u d = tt
    list_words_follow (made i p) u d = tt
    list_words_follow (bare_made i) u d = tt
    list_words_follow (atom s (Plain.list_of t)) (Value.list_at a l) d =
        subst (λ o. Follows (λ p q. WordIs p.0 q.0 × WordIs p.1 q.1) (symbol_list_words (atom s (Plain.list_of t))) o) (sym (when_true (is_u32 a && is_u32 l) (Some (i32 a, i32 l)) d.1)) ((a, l, refl, d), (a, l, refl, d))
    list_words_follow (atom s (Plain.list_of t)) (Value.number k z) d = absurd d.1
    list_words_follow (atom s (Plain.list_of t)) (Value.handle_number n) d = absurd d.1
    list_words_follow (atom s (Plain.list_of t)) (Value.address n) d = absurd d.1
    list_words_follow (atom s (Plain.list_of t)) (Value.const_address n) d = absurd d.1
    list_words_follow (atom s (Plain.list_of t)) (Value.flag_bits bs) d = absurd d.1
    list_words_follow (atom s (Plain.list_of t)) (Value.tuple_values us) d = absurd d.1
    list_words_follow (atom s (Plain.list_of t)) (Value.record_values us) d = absurd d.1
    list_words_follow (atom s (Plain.list_of t)) (Value.enum_index i) d = absurd d.1
    list_words_follow (atom s (Plain.list_of t)) (Value.case_with i p) d = absurd d.1
    list_words_follow (atom s (Plain.list_of t)) (Value.bare_case i) d = absurd d.1
    list_words_follow (atom s (Plain.builtin k)) u d = tt
    list_words_follow (atom s Plain.handle) u d = tt
    list_words_follow (atom s (Plain.pointer_to t)) u d = tt
    list_words_follow (atom s (Plain.const_pointer_to t)) u d = tt
    list_words_follow (atom s (Plain.record_of (RecordKind.Bitflags r) ms)) u d = tt
    list_words_follow (atom s (Plain.record_of RecordKind.Tuple ms)) u d = tt
    list_words_follow (atom s (Plain.record_of RecordKind.Other ms)) u d = tt
    list_words_follow (atom s (Plain.variant_of r cs)) u d = tt

    list_denoted : (v u : Symbol) (a l a' l' : ℕ) → v ≡ u → ListIs v a l → ListIs u a' l' → T (is_u32 a && is_u32 l') × Denotes v (Value.list_at a l')
    list_denoted (tuple vs) u a l a' l' e h k = absurd h
    list_denoted (made i p) u a l a' l' e h k = absurd h
    list_denoted (bare_made i) u a l a' l' e h k = absurd h
    list_denoted (atom s t) u a l a' l' e h k =
        let k' = subst (λ v. ListIs v a' l') (sym e) k in
        let is : Value.list_at a l ≡ Value.list_at a' l' = some_same (sym h.0 ∙ k'.0) in
        let ls : l ≡ l' = ap length_of is in
        let own : AtomIs s t (Value.list_at a l') = subst (λ l. AtomIs s t (Value.list_at a l)) ls h in
        (list_fits t a l' own.1, own)
      where
        length_of : Value → ℕ
        length_of (Value.list_at a l) = l
        length_of _ = 0

    list_value_follows : (a : SymbolWord) (a' : Word) (l : SymbolWord) (l' : Word) → WordIs a a' → WordIs l l' → Follows Denotes (list_of_words a l) (cells.list_value a' l')
    list_value_follows (list_address v) a' (list_length u) l' h k = go (same_symbol v u) refl
      where
        go : (b : Bool) → same_symbol v u ≡ b → Follows Denotes (when b (Some v)) (cells.list_value a' l')
        go false e = tt
        go true e =
            let d = list_denoted v u h.0 h.1 k.0 k.1 (symbol_same v u (subst T (sym e) tt)) h.3 k.3 in
            subst (λ a'. Follows Denotes (Some v) (cells.list_value a' l')) (sym h.2) (subst (λ l'. Follows Denotes (Some v) (cells.list_value (i32 h.0) l')) (sym k.2)
            (subst (λ o. Follows Denotes (Some v) o) (sym (when_true (is_u32 h.0 && is_u32 k.1) (Some (Value.list_at h.0 k.1)) d.0)) d.1))
    list_value_follows (list_address v) a' (word_of_symbol u ty) l' h k = tt
    list_value_follows (list_address v) a' (list_address u) l' h k = tt
    list_value_follows (list_address v) a' (given i) l' h k = tt
    list_value_follows (list_address v) a' zero_word l' h k = tt
    list_value_follows (list_address v) a' one_word l' h k = tt
    list_value_follows (word_of_symbol u ty) a' l l' h k = tt
    list_value_follows (list_length u) a' l l' h k = tt
    list_value_follows (given i) a' l l' h k = tt
    list_value_follows zero_word a' l l' h k = tt
    list_value_follows one_word a' l l' h k = tt

    parts_follow : (n : ℕ) (v : Symbol) (u : Value) → Denotes v u → Follows (Each Denotes) (symbol_parts n v) (tuple_parts n u)
    parts_follow n (atom s t) u d = tt
    parts_follow n (made i p) u d = tt
    parts_follow n (bare_made i) u d = tt
    parts_follow n (tuple vs) u d =
        let e = each_denoted vs d.0 d.2 in
        subst (λ u. Follows (Each Denotes) (symbol_parts n (tuple vs)) (tuple_parts n u)) (sym d.1) (go (nat_eq n (length (symbols_listed vs))) (nat_eq n (length (list_of_values d.0))) (ap (nat_eq n) e.0) e.1)
      where
        go : (b b' : Bool) → b ≡ b' → Each Denotes (symbols_listed vs) (list_of_values d.0) → Follows (Each Denotes) (when b (Some (symbols_listed vs))) (when b' (Some (list_of_values d.0)))
        go false b' e h = tt
        go true true e h = h
        go true false e h = absurd (subst T e tt)

    type_follows : (t : WasmType) (y : SymbolWord) (w : Word) → WordIs y w → T (word_has_type t y) → T (same_type w.type t)
    type_follows t (word_of_symbol (atom s q) ty) w h k = subst (λ u. T (same_type u t)) (sym h.3) k
    type_follows t (word_of_symbol (tuple vs) ty) w h k = absurd h
    type_follows t (word_of_symbol (made i p) ty) w h k = absurd h
    type_follows t (word_of_symbol (bare_made i) ty) w h k = absurd h
    type_follows t (list_address v) w h k = subst (λ w. T (same_type w.type t)) (sym h.2) k
    type_follows t (list_length v) w h k = subst (λ w. T (same_type w.type t)) (sym h.2) k
    type_follows t (given i) w h k = subst (λ w. T (same_type w.type t)) (sym h.1) k
    type_follows t zero_word w h k = subst (λ w. T (same_type w.type t)) (sym h) k
    type_follows t one_word w h k = subst (λ w. T (same_type w.type t)) (sym h) k

    -- memories: what stands at the k-th address given, and what is left
    abbrev AddressAt : ℕ → ℕ → Type 0
    AddressAt k a = slice_get addresses k ≡ Some a

    pub record MemoryIs (m : SymbolMemory) (m' : Memory) : Type 0 where
      pub stands : (k : ℕ) (c : SymbolCell) → slice_get m.made k ≡ Some c → (a : ℕ) × AddressAt k a × (d : Cell) × (get m'.cells a ≡ Some d) × (d.made_for ≡ c.0) × Both Denotes c.1 d.content × IsTaken m'.taken a
      pub fresh : m'.fresh ≡ drop (length m.made) addresses
      pub left : m.left ≡ length m'.fresh
      pub kept : (a : ℕ) (c : Cell) → get first a ≡ Some c → get m'.cells a ≡ Some c

    -- the addresses differ, none is zero, and all are free at first
    module _ (distinct : (j k a : ℕ) → AddressAt j a → AddressAt k a → j ≡ k) (positive : (k a : ℕ) → AddressAt k a → 0 < a) (free : (k a : ℕ) → AddressAt k a → get first a ≡ None) where
      next_address : (xs : List ℕ) (k a : ℕ) (more : List ℕ) → drop k xs ≡ a ∷ more → (slice_get xs k ≡ Some a) × (drop (suc k) xs ≡ more)
      next_address [] zero a more e = absurd (clash e)
        where
          clash : [] ≡ a ∷ more → ⊥
          clash e = cc
      next_address [] (suc k) a more e = absurd (clash e)
        where
          clash : [] ≡ a ∷ more → ⊥
          clash e = cc
      next_address (x ∷ xs) zero a more e = (ap Some (head_same e), drop_none xs ∙ ap tail_of e)
        where
          tail_of : List ℕ → List ℕ
          tail_of [] = []
          tail_of (y ∷ ys) = ys

          drop_none : (xs : List ℕ) → drop 0 xs ≡ xs
          drop_none [] = refl
          drop_none (y ∷ ys) = refl
      next_address (x ∷ xs) (suc k) a more e = next_address xs k a more e

      which : {A : Type 0} (xs : List A) (x c : A) (k : ℕ) → slice_get (xs ++ x ∷ []) k ≡ Some c → ((k ≡ length xs) × (x ≡ c)) ⊎ (slice_get xs k ≡ Some c)
      which [] x c zero e = inl (refl, some_same e)
      which {A} [] x c (suc k) e = absurd (clash e)
        where
          clash : None ≡ Some c → ⊥
          clash e = cc
      which (y ∷ xs) x c zero e = inr e
      which (y ∷ xs) x c (suc k) e = go (which xs x c k e)
        where
          go : ((k ≡ length xs) × (x ≡ c)) ⊎ (slice_get xs k ≡ Some c) → ((suc k ≡ suc (length xs)) × (x ≡ c)) ⊎ (slice_get xs k ≡ Some c)
          go (inl h) = inl (ap suc h.0, h.1)
          go (inr h) = inr h

      one_longer : {A : Type 0} (xs : List A) (x : A) → length (xs ++ x ∷ []) ≡ suc (length xs)
      one_longer [] x = refl
      one_longer (y ∷ xs) x = ap suc (one_longer xs x)

      abbrev Gives : (SymbolWord × SymbolMemory) → (Word × Memory) → Type 0
      Gives p q = WordIs p.0 q.0 × MemoryIs p.1 q.1

      abbrev AnyAt : (SymbolWord × SymbolMemory) → Type 0
      AnyAt p = Unit {0}

      abbrev Any : SymbolMemory → Type 0
      Any m = Unit {0}

      gives : (t : Tree) (v : Option Symbol) (u : Option Value) (cs0 : List SymbolCell) (left : ℕ) (cs : Cells) (fresh : List ℕ) (taken : List (ℕ × Tree)) → Both Denotes v u → MemoryIs (record { made = cs0; left = left }) (record { cells = cs; fresh = fresh; taken = taken }) → Makes AnyAt Gives (give_symbol t v cs0 left) (machine_cells.cell_given t u cs fresh taken)
      gives t v u cs0 zero cs fresh taken b r = tt
      gives t v u cs0 (suc n) cs [] taken b r = absurd (omega (arith, r.left))
      gives t v u cs0 (suc n) cs (a ∷ more) taken b r =
          let d : Cell = record { made_for = t; content = u } in
          let here = next_address addresses (length cs0) a more (sym r.fresh) in
          let old = r.stands in
          λ g. (
            (a, refl, here.0),
            record {
              stands = λ k c e. stood (length cs0) refl here.0 old k c (which cs0 (t, v) c k e);
              fresh = sym here.1 ∙ ap (λ n. drop n addresses) (sym (one_longer cs0 (t, v)));
              left = let e = r.left in omega arith;
              kept = λ b c e. insert_other cs a b _ (λ p. none_some (free (length cs0) a here.0) (subst (λ b. get first b ≡ Some c) p e)) ∙ r.kept b c e;
            },
          )
        where
          stood : (n : ℕ) → n ≡ length cs0 → AddressAt n a → ((k : ℕ) (c : SymbolCell) → slice_get cs0 k ≡ Some c → (a : ℕ) × AddressAt k a × (d : Cell) × (get cs a ≡ Some d) × (d.made_for ≡ c.0) × Both Denotes c.1 d.content × IsTaken taken a) → (k : ℕ) (c : SymbolCell) → ((k ≡ length cs0) × ((t, v) ≡ c)) ⊎ (slice_get cs0 k ≡ Some c) → (b : ℕ) × AddressAt k b × (d : Cell) × (get (insert cs a (record { made_for = t; content = u })) b ≡ Some d) × (d.made_for ≡ c.0) × Both Denotes c.1 d.content × IsTaken (taken ++ (a, t) ∷ []) b
          stood n is at_n old k c (inl h) = (a, subst (λ k. AddressAt k a) (is ∙ sym h.0) at_n, record { made_for = t; content = u }, own_cell cs a _, ap (λ c. c.0) h.1, subst (λ c. Both Denotes c.1 u) h.1 b, taken_last taken a t)
          stood n is at_n old k c (inr h) =
              let o = old k c h in
              (o.0, o.1, o.2, insert_other cs a o.0 _ (λ p. past k h (distinct k n a (subst (AddressAt k) p o.1) at_n ∙ is)) ∙ o.3, o.4, o.5, taken_before taken o.0 (a, t) o.6)
            where
              past : (k : ℕ) → slice_get cs0 k ≡ Some c → k ≡ length cs0 → ⊥
              past k e is = over cs0 k c e is
                where
                  over : {A : Type 0} (xs : List A) (k : ℕ) (c : A) → slice_get xs k ≡ Some c → k ≡ length xs → ⊥
                  over {A} [] k c e is = clash e
                    where
                      clash : None ≡ Some c → ⊥
                      clash e = cc
                  over (x ∷ xs) zero c e is = absurd (omega arith)
                  over (x ∷ xs) (suc k) c e is = over xs k c e (omega arith)

      same_when : {A B : Type 0} (R : A → B → Type 0) (b b' : Bool) (o : Option A) (p : Option B) → (T b → T b') → Follows R o p → Follows R (when b o) (when b' p)
      same_when R false b' o p h k = tt
      same_when R true true o p h k = k
      same_when R true false o p h k = absurd (h tt)

      get_follows : (t : Tree) (y : SymbolWord) (w : Word) (m : SymbolMemory) (m' : Memory) → WordIs y w → MemoryIs m m' → Follows Denotes (get_symbol t y m) (cells.get t w m')
      get_follows t (word_of_symbol v ty) w m m' h r = tt
      get_follows t (list_address v) w m m' h r = tt
      get_follows t (list_length v) w m m' h r = tt
      get_follows t zero_word w m m' h r = tt
      get_follows t one_word w m m' h r = tt
      get_follows t (given k) w m m' h r = subst (λ w. Follows Denotes (symbol_at t (slice_get m.made k)) (cells.get t w m')) (sym h.1) (go (slice_get m.made k) refl)
        where
          go : (o : Option SymbolCell) → slice_get m.made k ≡ o → Follows Denotes (symbol_at t o) (cells.get t (i32 h.0) m')
          go None e = tt
          go (Some c) e =
              let s = r.stands k c e in
              let is : s.0 ≡ h.0 = some_same (sym s.1 ∙ h.2) in
              let found : get m'.cells h.0 ≡ Some s.2 = subst (λ a. get m'.cells a ≡ Some s.2) is s.3 in
              subst (λ o. Follows Denotes (symbol_at t (Some c)) (loaded t o)) (sym found) (same_when Denotes _ _ c.1 s.2.content (subst (λ q. T (same_plain (plain q) (plain t))) (sym s.4)) (both_follows Denotes c.1 s.2.content s.5))

      replaced_length : {A : Type 0} (k : ℕ) (a : A) (xs : List A) → length (replaced k a xs) ≡ length xs
      replaced_length k a [] = refl
      replaced_length zero a (x ∷ xs) = refl
      replaced_length (suc k) a (x ∷ xs) = ap suc (replaced_length k a xs)

      replaced_at : {A : Type 0} (k j : ℕ) (a c : A) (xs : List A) → slice_get (replaced k a xs) j ≡ Some c → ((j ≡ k) × (a ≡ c)) ⊎ ((j ≢ k) × (slice_get xs j ≡ Some c))
      replaced_at {A} k j a c [] e = absurd (clash e)
        where
          clash : None ≡ Some c → ⊥
          clash e = cc
      replaced_at zero zero a c (x ∷ xs) e = inl (refl, some_same e)
      replaced_at zero (suc j) a c (x ∷ xs) e = inr (λ p. absurd (omega arith), e)
      replaced_at (suc k) zero a c (x ∷ xs) e = inr (λ p. absurd (omega arith), e)
      replaced_at (suc k) (suc j) a c (x ∷ xs) e = go (replaced_at k j a c xs e)
        where
          go : ((j ≡ k) × (a ≡ c)) ⊎ ((j ≢ k) × (slice_get xs j ≡ Some c)) → ((suc j ≡ suc k) × (a ≡ c)) ⊎ ((suc j ≢ suc k) × (slice_get xs j ≡ Some c))
          go (inl h) = inl (ap suc h.0, h.1)
          go (inr h) = inr (λ p. h.0 (omega arith), h.1)

      abbrev changed : Memory → ℕ → Cell → Memory
      changed m a c = record { cells = insert m.cells a c; fresh = m.fresh; taken = m.taken }

      set_follows : (t : Tree) (y : SymbolWord) (w : Word) (v : Symbol) (u : Value) (m : SymbolMemory) (m' : Memory) → WordIs y w → Denotes v u → MemoryIs m m' → Makes Any MemoryIs (set_symbol t y v m) (cells.set t w u m')
      set_follows t (word_of_symbol x ty) w v u m m' h d r = tt
      set_follows t (list_address x) w v u m m' h d r = tt
      set_follows t (list_length x) w v u m m' h d r = tt
      set_follows t zero_word w v u m m' h d r = tt
      set_follows t one_word w v u m m' h d r = tt
      set_follows t (given k) w v u m m' h d r = subst (λ w. Makes Any MemoryIs (put_in t v k m (slice_get m.made k)) (cells.set t w u m')) (sym h.1) (go (slice_get m.made k) refl)
        where
          related : (c : SymbolCell) (x : Cell) → x.made_for ≡ c.0 → IsTaken m'.taken h.0 → MemoryIs (record { made = replaced k (c.0, Some v) m.made; left = m.left }) (changed m' h.0 (record x { content = Some u }))
          related c x e tk = record {
            stands = λ j q is. stood j q (replaced_at k j (c.0, Some v) q m.made is);
            fresh = r.fresh ∙ ap (λ n. drop n addresses) (sym (replaced_length k (c.0, Some v) m.made));
            left = r.left;
            kept = λ b q e. insert_other m'.cells h.0 b _ (λ p. none_some (free k h.0 h.2) (subst (λ b. get first b ≡ Some q) p e)) ∙ r.kept b q e;
          }
            where
              stood : (j : ℕ) (q : SymbolCell) → ((j ≡ k) × ((c.0, Some v) ≡ q)) ⊎ ((j ≢ k) × (slice_get m.made j ≡ Some q)) → (b : ℕ) × AddressAt j b × (d : Cell) × (get (insert m'.cells h.0 (record x { content = Some u })) b ≡ Some d) × (d.made_for ≡ q.0) × Both Denotes q.1 d.content × IsTaken m'.taken b
              stood j q (inl p) = (h.0, subst (λ j. AddressAt j h.0) (sym p.0) h.2, record x { content = Some u }, own_cell m'.cells h.0 _, e ∙ ap (λ c. c.0) p.1, subst (λ q. Both Denotes q.1 (Some u)) p.1 d, tk)
              stood j q (inr p) =
                  let o = r.stands j q p.1 in
                  (o.0, o.1, o.2, insert_other m'.cells h.0 o.0 _ (λ is. p.0 (distinct j k h.0 (subst (AddressAt j) is o.1) h.2)) ∙ o.3, o.4, o.5, o.6)

          makes_when : (b b' : Bool) (x : SymbolMemory) (y : Cell) → (T b → T b') → MemoryIs x (changed m' h.0 y) → Makes Any MemoryIs (when b (Some x)) (option_map (changed m' h.0) (when b' (Some y)))
          makes_when false b' x y f q = tt
          makes_when true true x y f q = λ g. q
          makes_when true false x y f q = absurd (f tt)

          go : (o : Option SymbolCell) → slice_get m.made k ≡ o → Makes Any MemoryIs (put_in t v k m o) (cells.set t (i32 h.0) u m')
          go None e = tt
          go (Some c) e =
              let s = r.stands k c e in
              let is : s.0 ≡ h.0 = some_same (sym s.1 ∙ h.2) in
              let found : get m'.cells h.0 ≡ Some s.2 = subst (λ a. get m'.cells a ≡ Some s.2) is s.3 in
              subst (λ o. Makes Any MemoryIs (put_in t v k m (Some c)) (option_map (changed m' h.0) (stored t u o))) (sym found)
              (makes_when _ _ _ _ (λ b. both_true _ _ (subst (λ q. T (same_plain (plain q) (plain t))) (sym s.4) (left_true (same_plain (plain c.0) (plain t)) _ b)) (is_of_value (plain t) v u (right_true (same_plain (plain c.0) (plain t)) _ b) d)) (related c s.2 s.4 (subst (IsTaken m'.taken) is s.6)))

      -- the world is the reply's: whole, case and payload are those of the value
      module _ (w : SymbolWorld)
          (world : (e : Bool) (v : Symbol) (u : Value) → w.error ≡ Some e → w.whole ≡ Some v → Denotes v u → (p : Option Value) × (u ≡ result_value e p) × Both Denotes w.load p)
          (known : (e : Bool) (v : Symbol) → w.error ≡ Some e → w.whole ≡ Some v → (u : Value) × Denotes v u)
          (nonzero : (s : Source) (t : Plain) (u : Value) (x : Word) → w.abi ≡ Abi.Preview1 → w.error ≡ Some true → w.load ≡ Some (atom s t) → AtomIs s t u → direct_words t u ≡ Some (x ∷ []) → T (nat_eq x.bits 0) → ⊥) where
        abbrev Pays : (Symbol × Option Tree) → (Value × Option Tree) → Type 0
        Pays p q = Denotes p.0 q.0 × (p.1 ≡ q.1)

        abbrev Picks : (Bool × Option (Symbol × Option Tree)) → (Bool × Option (Value × Option Tree)) → Type 0
        Picks p q = (p.0 ≡ q.0) × Both Pays p.1 q.1

        payload_follows : (t : Option Tree) (p : Option Symbol) (q : Option Value) → Both Denotes p q → Follows (Both Pays) (payload_is t p) (payload_of t q)
        payload_follows None None None h = tt
        payload_follows None None (Some q) h = absurd h
        payload_follows None (Some p) q h = tt
        payload_follows (Some t) None q h = tt
        payload_follows (Some t) (Some p) None h = absurd h
        payload_follows (Some t) (Some p) (Some q) h = same_when (Both Pays) _ _ (Some (Some (p, name_of t))) (Some (Some (q, name_of t))) (λ i. is_of_value (plain t) p q i h) (h, refl)

        with_case : (e : Bool) (o : Option (Option (Symbol × Option Tree))) (p : Option (Option (Value × Option Tree))) → Follows (Both Pays) o p → Follows Picks (option_map (λ x. (e, x)) o) (option_map (λ x. (e, x)) p)
        with_case e None p h = tt
        with_case e (Some x) None h = absurd h
        with_case e (Some x) (Some y) h = (refl, h)

        by_case : (ok err : Option Tree) (e : Bool) (q : Option Value) → case_picked ok err (result_value e q) ≡ picked e (cond e err ok) q
        by_case ok err true None = refl
        by_case ok err true (Some q) = refl
        by_case ok err false None = refl
        by_case ok err false (Some q) = refl

        whole_same : (o : Option Symbol) (v : Symbol) → T (same_option o (Some v)) → o ≡ Some v
        whole_same None v h = absurd h
        whole_same (Some x) v h = ap Some (symbol_same x v h)

        picks_follow : (ok err : Option Tree) (v : Symbol) (u : Value) → Denotes v u → Follows Picks (picks_in w.error w ok err v) (case_picked ok err u)
        picks_follow ok err v u d = go w.error refl
          where
            go : (o : Option Bool) → w.error ≡ o → Follows Picks (picks_in o w ok err v) (case_picked ok err u)
            go None is = tt
            go (Some e) is = here (same_option w.whole (Some v)) refl
              where
                here : (b : Bool) → same_option w.whole (Some v) ≡ b → Follows Picks (when b (option_map (λ p. (e, p)) (payload_is (cond e err ok) w.load))) (case_picked ok err u)
                here false q = tt
                here true q =
                    let r = world e v u is (whole_same w.whole v (subst T (sym q) tt)) d in
                    subst (λ u. Follows Picks (option_map (λ p. (e, p)) (payload_is (cond e err ok) w.load)) (case_picked ok err u)) (sym r.1) (subst (λ o. Follows Picks (option_map (λ p. (e, p)) (payload_is (cond e err ok) w.load)) o) (sym (by_case ok err e r.0)) (with_case e _ _ (payload_follows (cond e err ok) w.load r.0 r.2)))

        case_is : (e : Bool) → WordIs (cond e one_word zero_word) (i32 (cond e 1 0))
        case_is true = refl
        case_is false = refl

        not_none : (n : ℕ) → 0 < n → T (nat_eq n 0) → ⊥
        not_none n lt h = let e = eqb→eq n 0 h in absurd (omega arith)

        chooses_follow : (y : SymbolWord) (x : Word) → WordIs y x → Follows ◌≡◌ (chooses_in w.error w y) (cells.chooses x)
        chooses_follow y x h = go w.error refl y h
          where
            go : (o : Option Bool) → w.error ≡ o → (y : SymbolWord) → WordIs y x → Follows ◌≡◌ (chooses_in o w y) (cells.chooses x)
            go None is y h = tt
            go (Some false) is zero_word h = subst (λ x. Follows ◌≡◌ (Some false) (cells.chooses x)) (sym h) refl
            go (Some false) is one_word h = tt
            go (Some false) is (given k) h = tt
            go (Some false) is (word_of_symbol v ty) h = tt
            go (Some false) is (list_address v) h = tt
            go (Some false) is (list_length v) h = tt
            go (Some true) is zero_word h = tt
            go (Some true) is one_word h = subst (λ x. Follows ◌≡◌ (Some true) (cells.chooses x)) (sym h) refl
            go (Some true) is (given k) h = subst (λ x. Follows ◌≡◌ (Some true) (cells.chooses x)) (sym h.1) (sym (not_zero h.0 (not_none h.0 (positive k h.0 h.2))))
            go (Some true) is (list_address v) h = tt
            go (Some true) is (list_length v) h = tt
            go (Some true) is (word_of_symbol (tuple vs) ty) h = absurd h
            go (Some true) is (word_of_symbol (made i p) ty) h = absurd h
            go (Some true) is (word_of_symbol (bare_made i) ty) h = absurd h
            go (Some true) is (word_of_symbol (atom s t) ty) h = here (payload_tells w.abi && (same_type ty WasmType.I32 && same_option w.load (Some (atom s t)))) refl
              where
                told : (a : Abi) → T (payload_tells a) → a ≡ Abi.Preview1
                told Abi.Preview1 h = refl
                told Abi.Stored h = absurd h

                here : (b : Bool) → (payload_tells w.abi && (same_type ty WasmType.I32 && same_option w.load (Some (atom s t)))) ≡ b → Follows ◌≡◌ (when b (Some true)) (cells.chooses x)
                here false q = tt
                here true q =
                    let all : T (payload_tells w.abi && (same_type ty WasmType.I32 && same_option w.load (Some (atom s t)))) = subst T (sym q) tt in
                    let both = right_true (payload_tells w.abi) _ all in
                    let n = nonzero s t h.0 x (told w.abi (left_true (payload_tells w.abi) _ all)) is (whole_same w.load (atom s t) (right_true (same_type ty WasmType.I32) _ both)) h.1 h.2 in
                    let typed : T (is_i32 x) = subst (λ u. T (same_type u WasmType.I32)) (sym h.3) (left_true (same_type ty WasmType.I32) _ both) in
                    subst (λ o. Follows ◌≡◌ (Some true) o) (sym (when_true (is_i32 x) (Some (cond (nat_eq x.bits 0) false true)) typed)) (sym (not_zero x.bits n))

        option_one : (o : Option Symbol) (p q : Option Value) → Both Denotes o p → Both Denotes o q → p ≡ q
        option_one None None None h k = refl
        option_one None None (Some q) h k = absurd k
        option_one None (Some p) q h k = absurd h
        option_one (Some v) None q h k = absurd h
        option_one (Some v) (Some p) None h k = absurd k
        option_one (Some v) (Some p) (Some q) h k = ap Some (denotes_one v p q h k)

        made_denotes : (e : Bool) (p : Option Symbol) (q : Option Value) → Both Denotes p q → Denotes (made_of (cond e 1 0) p) (result_value e q)
        made_denotes e None None h = refl
        made_denotes e None (Some q) h = absurd h
        made_denotes e (Some p) None h = absurd h
        made_denotes e (Some p) (Some q) h = (q, refl, h)

        result_denotes : (e : Bool) (p : Option Symbol) (q : Option Value) → Both Denotes p q → Denotes (result_in w e p w.whole w.error) (result_value e q)
        result_denotes e p q h = go w.whole w.error refl refl
          where
            go : (o : Option Symbol) (k : Option Bool) → w.whole ≡ o → w.error ≡ k → Denotes (result_in w e p o k) (result_value e q)
            go None k i j = made_denotes e p q h
            go (Some r) None i j = made_denotes e p q h
            go (Some r) (Some x) i j = here (same_case e x && same_option w.load p) refl
              where
                case_same : (e x : Bool) → T (same_case e x) → x ≡ e
                case_same true true h = refl
                case_same true false h = absurd h
                case_same false true h = absurd h
                case_same false false h = refl

                here : (b : Bool) → (same_case e x && same_option w.load p) ≡ b → Denotes (cond b r (made_of (cond e 1 0) p)) (result_value e q)
                here false y = made_denotes e p q h
                here true y =
                    let t : T (same_case e x && same_option w.load p) = subst T (sym y) tt in
                    let is : x ≡ e = case_same e x (left_true (same_case e x) _ t) in
                    let ld : w.load ≡ p = option_same w.load p (right_true (same_case e x) _ t) in
                    let d = known x r j i in
                    let s = world x r d.0 j i d.1 in
                    let same_q : s.0 ≡ q = option_one p s.0 q (subst (λ o. Both Denotes o s.0) ld s.2) h in
                    subst (Denotes r) (s.1 ∙ ap (λ x. result_value x s.0) is ∙ ap (result_value e) same_q) d.1

        -- what a yes rests on, in one world: the cells follow the symbols
        pub cells_follow_symbols : Simulates (symbols w) cells Denotes (λ t. Denotes) WordIs MemoryIs Any
        cells_follow_symbols = record {
          plain = λ v u d. d;
          forget = λ t v u d. d;
          lower = lower_follows;
          lift = lift_follows;
          list_words = list_words_follow;
          list_value = list_value_follows;
          tuple = λ vs us h. (values_of us, refl, all_denoted vs us h);
          parts = parts_follow;
          give = λ t m m' r. gives t None None m.made m.left m'.cells m'.fresh m'.taken tt (record { stands = r.stands; fresh = r.fresh; left = r.left; kept = r.kept });
          put = λ t v u m m' d r. put_by (by_address (plain t)) t v u m m' d r;
          get = get_follows;
          set = set_follows;
          picks = picks_follow;
          case_word = λ ok err v c e. case_is c.0;
          chooses = chooses_follow;
          result = result_denotes;
          has_type = type_follows;
        }
          where
            put_by : (b : Bool) (t : Tree) (v : Symbol) (u : Value) (m : SymbolMemory) (m' : Memory) → Denotes v u → MemoryIs m m' → Makes AnyAt Gives (when b (give_symbol t (Some v) m.made m.left)) (when b (machine_cells.cell_given t (Some u) m'.cells m'.fresh m'.taken))
            put_by false t v u m m' d r = tt
            put_by true t v u m m' d r = gives t (Some v) (Some u) m.made m.left m'.cells m'.fresh m'.taken d (record { stands = r.stands; fresh = r.fresh; left = r.left; kept = r.kept })
