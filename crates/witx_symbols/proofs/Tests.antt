-- The tests of symbols hold exactly where what they test holds: the words going in, and those coming back.
use Rattle.std.proofs.Common.{◌≡◌, ℕ, Bool, true, false, cond, T, refl, sym, ap, ◌∙◌, subst, Option, Some, None, List, [], ◌∷◌, ◌++◌, length, take, drop, slice_get}
use Rattle.witx_ast.specs.declared.function.Abi.{Abi}
use Rattle.witx_ast.specs.declared.types.RecordKind.{RecordKind}
use Rattle.witx_ast.specs.Tree.{Tree, Arms}
use Rattle.witx_ast.specs.Plain.{Plain, plain}
use Rattle.witx_ast.specs.Same.{same_tree}
use Rattle.witx_machine.specs.Functions.{by_address, is_tuple, ok_of, err_of, result_cases}
use Rattle.witx_machine.specs.Signature.{param_words, pointers_by}
use Rattle.witx_machine.specs.Machine.{is_nil}
use Rattle.witx_machine.specs.Run.{Outcome}
use Rattle.witx_machine.specs.Passage.{last_words, PassesWords, PointerWords, ParamWords, HoldAll, HoldParts, ok_values, ReturnsCase, ReturnsPicked, ReturnsBy, ReturnsUnder, ReturnsOf}
use Rattle.witx_symbols.specs.Symbols.{Symbol, SymbolWord, word_of_symbol, list_address, list_length, given, zero_word, one_word, same_option}
use Rattle.witx_symbols.specs.Symbolic.{SymbolCell, SymbolMemory, SymbolWorld, symbols, picks_in}
use Rattle.witx_symbols.specs.Verdicts.{direct_are, cell_holds, cell_is_for, holds_symbol, is_made_for, param_are, pointers_are, passes, hold_all, hold_parts, ok_parts, is_case_word, returns_case, returns_picked, returns_by, returns_under, gives_back}
use Rattle.witx_symbols.specs.Meaning.{symbol_meaning, TestsTell}
use Rattle.witx_machine.proofs.Scalars.{truth, true_of, both_true, left_true, right_true}
use Rattle.witx_symbols.proofs.SymbolLaws.{tree_same, same_tree_self, option_same, symbol_refl}
use Rattle.witx_symbols.proofs.Passing.{taken_again}

take_first : {A : Type 0} (a b : List A) (n : ℕ) → n ≡ length a → take n (a ++ b) ≡ a
take_first {A} a b n e = ap (λ n. take n (a ++ b)) e ∙ go a b
  where
    none : (b : List A) → take 0 b ≡ []
    none [] = refl
    none (x ∷ b) = refl

    go : (a b : List A) → take (length a) (a ++ b) ≡ a
    go [] b = none b
    go (x ∷ a) b = ap (λ l. x ∷ l) (go a b)

drop_first : {A : Type 0} (a b : List A) (n : ℕ) → n ≡ length a → drop n (a ++ b) ≡ b
drop_first {A} a b n e = ap (λ n. drop n (a ++ b)) e ∙ go a b
  where
    none : (b : List A) → drop 0 b ≡ b
    none [] = refl
    none (x ∷ b) = refl

    go : (a b : List A) → drop (length a) (a ++ b) ≡ b
    go [] b = none b
    go (x ∷ a) b = go a b

module _ (w : SymbolWorld) where
  -- where the things hold, so do the tests
  held : (m : SymbolMemory) (x : SymbolWord) (v : Symbol) → symbol_meaning.holds m x v → T (holds_symbol m x v)
  held m x v h = subst (λ x. T (holds_symbol m x v)) (sym h.1) (subst (λ o. T (cell_holds v o)) (sym h.3) (subst (λ o. T (same_option o (Some v))) (sym h.4) (symbol_refl v)))

  made_for : (m : SymbolMemory) (x : SymbolWord) (t : Tree) → symbol_meaning.made_for m x t → T (is_made_for m x t)
  made_for m x t h = subst (λ x. T (is_made_for m x t)) (sym h.1) (subst (λ o. T (cell_is_for t o)) (sym h.3) (subst (λ q. T (same_tree q t)) (sym h.4) (same_tree_self t)))

  one_long : (t : Plain) → by_address t ≡ true → length (param_words t) ≡ 1
  one_long (Plain.record_of RecordKind.Tuple ms) e = refl
  one_long (Plain.record_of RecordKind.Other ms) e = refl
  one_long (Plain.record_of (RecordKind.Bitflags r) ms) e = refl
  one_long (Plain.variant_of r cs) e = refl
  one_long (Plain.builtin k) e = refl
  one_long Plain.handle e = refl
  one_long (Plain.pointer_to t) e = refl
  one_long (Plain.const_pointer_to t) e = refl
  one_long (Plain.list_of t) e = absurd (clash e)
    where
      clash : false ≡ true → ⊥
      clash e = cc

  direct_long : (t : Plain) (v : Symbol) (ws : List SymbolWord) → T (direct_are t v ws) → length (param_words t) ≡ length ws
  direct_long (Plain.list_of t) v (list_address a ∷ list_length l ∷ []) h = refl
  direct_long (Plain.builtin k) v (x ∷ []) h = refl
  direct_long Plain.handle v (x ∷ []) h = refl
  direct_long (Plain.pointer_to t) v (x ∷ []) h = refl
  direct_long (Plain.const_pointer_to t) v (x ∷ []) h = refl
  direct_long (Plain.record_of (RecordKind.Bitflags r) ms) v (x ∷ []) h = refl
  direct_long (Plain.record_of RecordKind.Tuple ms) v (x ∷ []) h = refl
  direct_long (Plain.record_of RecordKind.Other ms) v (x ∷ []) h = refl
  direct_long (Plain.variant_of r cs) v (x ∷ []) h = refl
  direct_long _ v _ h = absurd h

  param_test : (m : SymbolMemory) (t : Plain) (v : Symbol) (ws : List SymbolWord) → ParamWords (symbols w) symbol_meaning m t v ws → (length (param_words t) ≡ length ws) × T (param_are m t v ws)
  param_test m t v ws h = go (by_address t) refl h
    where
      go : (b : Bool) → by_address t ≡ b → cond b ((a : SymbolWord) × (ws ≡ a ∷ []) × symbol_meaning.given m a × symbol_meaning.holds m a v) (T (direct_are t v ws)) → (length (param_words t) ≡ length ws) × T (cond b (hold_all m ws (v ∷ [])) (direct_are t v ws))
      go true e h = (one_long t e ∙ ap length (sym h.1), subst (λ ws. T (hold_all m ws (v ∷ []))) (sym h.1) (both_true _ _ (held m h.0 v h.3) tt))
      go false e h = (direct_long t v ws h, h)

  pointers_test : (m : SymbolMemory) (ts : List Tree) (ws : List SymbolWord) → PointerWords (symbols w) symbol_meaning m ts ws → T (pointers_are m ts ws)
  pointers_test m [] ws h = subst (λ ws. T (pointers_are m [] ws)) (sym h) tt
  pointers_test m (t ∷ ts) ws h = subst (λ ws. T (pointers_are m (t ∷ ts) ws)) (sym h.2) (both_true _ _ (made_for m h.0 t h.4) (pointers_test m ts h.1 h.5))

  pub passes_test : (m : SymbolMemory) (pointers : List Tree) (ts : List Tree) (vs : List Symbol) (ws : List SymbolWord) → PassesWords (symbols w) symbol_meaning m pointers ts vs ws → T (passes m pointers ts vs ws)
  passes_test m pointers [] [] ws h = pointers_test m pointers ws h
  passes_test m pointers [] (v ∷ vs) ws h = absurd h
  passes_test m pointers (t ∷ ts) [] ws h = absurd h
  passes_test m pointers (t ∷ ts) (v ∷ vs) ws h =
      let p = param_test m (plain t) v h.0 h.3 in
      subst (λ ws. T (passes m pointers (t ∷ ts) (v ∷ vs) ws)) (sym h.2)
      (both_true _ _ (subst (λ us. T (param_are m (plain t) v us)) (sym (take_first h.0 h.1 (length (param_words (plain t))) p.0)) p.1)
      (subst (λ us. T (passes m pointers ts vs us)) (sym (drop_first h.0 h.1 (length (param_words (plain t))) p.0)) (passes_test m pointers ts vs h.1 h.4)))

  holds_test : (m : SymbolMemory) (ws : List SymbolWord) (vs : List Symbol) → HoldAll (symbols w) symbol_meaning m ws vs → T (hold_all m ws vs)
  holds_test m [] [] h = tt
  holds_test m [] (v ∷ vs) h = absurd h
  holds_test m (x ∷ ws) [] h = absurd h
  holds_test m (x ∷ ws) (v ∷ vs) h = both_true _ _ (held m x v h.0) (holds_test m ws vs h.1)

  parts_same : (b : Bool) (n : ℕ) (v : Symbol) → ok_values (symbols w) symbol_meaning b n v ≡ ok_parts b n v
  parts_same true n v = refl
  parts_same false n v = refl

  parts_test : (m : SymbolMemory) (ws : List SymbolWord) (o : Option (List Symbol)) → HoldParts (symbols w) symbol_meaning m ws o → T (hold_parts m ws o)
  parts_test m ws None h = absurd h
  parts_test m ws (Some vs) h = holds_test m ws vs h

  word_test : (e : Bool) (ws : List SymbolWord) → ws ≡ (symbols w).case_word e ∷ [] → T (is_case_word e ws)
  word_test true ws h = subst (λ ws. T (is_case_word true ws)) (sym h) tt
  word_test false ws h = subst (λ ws. T (is_case_word false ws)) (sym h) tt

  case_test : (ok err : Option Tree) (pointers : List SymbolWord) (e : Bool) (p : Option (Symbol × Option Tree)) (o : Outcome Symbol SymbolWord SymbolMemory) → ReturnsCase (symbols w) symbol_meaning ok err pointers e p o → T (returns_case ok err pointers e p o.call.at_return o.call.callee_words)
  case_test ok err pointers e None o h = word_test e o.call.callee_words h
  case_test None err pointers false (Some p) o h = absurd h
  case_test (Some t) err pointers false (Some p) o h =
      both_true _ _ (word_test false o.call.callee_words h.0) (parts_test o.call.at_return pointers (ok_parts (is_tuple t) (length pointers) p.0) (subst (HoldParts (symbols w) symbol_meaning o.call.at_return pointers) (parts_same (is_tuple t) (length pointers) p.0) h.1))
  case_test ok None pointers true (Some p) o h = absurd h
  case_test ok (Some t) pointers true (Some p) o h = (param_test o.call.at_return (plain t) p.0 o.call.callee_words h).1

  picked_test : (ok err : Option Tree) (pointers : List SymbolWord) (c : Option (Bool × Option (Symbol × Option Tree))) (o : Outcome Symbol SymbolWord SymbolMemory) → ReturnsPicked (symbols w) symbol_meaning ok err pointers c o → T (returns_picked ok err pointers c o.call.at_return o.call.callee_words)
  picked_test ok err pointers None o h = absurd h
  picked_test ok err pointers (Some c) o h = case_test ok err pointers c.0 c.1 o h

  by_test : (cs : Option Arms) (t : Tree) (v : Symbol) (o : Outcome Symbol SymbolWord SymbolMemory) → ReturnsBy (symbols w) symbol_meaning cs t v o → T (returns_by w cs t v o)
  by_test None t v o h = h
  by_test (Some cs) t v o h = picked_test (ok_of cs) (err_of cs) (last_words (length (pointers_by (Some cs))) o.call.words) (picks_in w.error w (ok_of cs) (err_of cs) v) o h

  under_test : (abi : Abi) (t : Tree) (v : Symbol) (o : Outcome Symbol SymbolWord SymbolMemory) → ReturnsUnder (symbols w) symbol_meaning abi t v o → T (returns_under abi w t v o)
  under_test Abi.Preview1 t v o h = by_test (result_cases t) t v o h
  under_test Abi.Stored t v o h = both_true _ _ (subst (λ ws. T (is_nil ws)) (sym h.0) tt) (holds_test o.call.at_return (last_words 1 o.call.words) (v ∷ []) h.1)

  pub returns_test : (abi : Abi) (ts : List Tree) (v : Option Symbol) (o : Outcome Symbol SymbolWord SymbolMemory) → ReturnsOf (symbols w) symbol_meaning abi ts v o → T (gives_back abi w ts v o)
  returns_test abi [] None o h = subst (λ ws. T (is_nil ws)) (sym h) tt
  returns_test abi [] (Some v) o h = absurd h
  returns_test abi (t ∷ []) None o h = absurd h
  returns_test abi (t ∷ []) (Some v) o h = under_test abi t v o h
  returns_test abi (t ∷ u ∷ ts) v o h = absurd h

  -- and where the tests hold, so do the things
  holds_back : (m : SymbolMemory) (x : SymbolWord) (v : Symbol) → T (holds_symbol m x v) → symbol_meaning.given m x × symbol_meaning.holds m x v
  holds_back m (given k) v h = go (slice_get m.made k) refl h
    where
      go : (o : Option SymbolCell) → slice_get m.made k ≡ o → T (cell_holds v o) → symbol_meaning.given m (given k) × symbol_meaning.holds m (given k) v
      go None e h = absurd h
      go (Some c) e h = ((k, refl, c, e, tt), (k, refl, c, e, option_same c.1 (Some v) h))
  holds_back m (word_of_symbol y ty) v h = absurd h
  holds_back m (list_address y) v h = absurd h
  holds_back m (list_length y) v h = absurd h
  holds_back m zero_word v h = absurd h
  holds_back m one_word v h = absurd h

  made_back : (m : SymbolMemory) (x : SymbolWord) (t : Tree) → T (is_made_for m x t) → symbol_meaning.given m x × symbol_meaning.made_for m x t
  made_back m (given k) t h = go (slice_get m.made k) refl h
    where
      go : (o : Option SymbolCell) → slice_get m.made k ≡ o → T (cell_is_for t o) → symbol_meaning.given m (given k) × symbol_meaning.made_for m (given k) t
      go None e h = absurd h
      go (Some c) e h = ((k, refl, c, e, tt), (k, refl, c, e, tree_same c.0 t h))
  made_back m (word_of_symbol y ty) t h = absurd h
  made_back m (list_address y) t h = absurd h
  made_back m (list_length y) t h = absurd h
  made_back m zero_word t h = absurd h
  made_back m one_word t h = absurd h

  param_back : (m : SymbolMemory) (t : Plain) (v : Symbol) (ws : List SymbolWord) → T (param_are m t v ws) → ParamWords (symbols w) symbol_meaning m t v ws
  param_back m t v ws h = go (by_address t) h
    where
      single : (ws : List SymbolWord) → T (hold_all m ws (v ∷ [])) → (a : SymbolWord) × (ws ≡ a ∷ []) × symbol_meaning.given m a × symbol_meaning.holds m a v
      single [] h = absurd h
      single (x ∷ []) h = let r = holds_back m x v (left_true (holds_symbol m x v) _ h) in (x, refl, r.0, r.1)
      single (x ∷ y ∷ ws) h = absurd (right_true (holds_symbol m x v) _ h)

      go : (b : Bool) → T (cond b (hold_all m ws (v ∷ [])) (direct_are t v ws)) → cond b ((a : SymbolWord) × (ws ≡ a ∷ []) × symbol_meaning.given m a × symbol_meaning.holds m a v) (T (direct_are t v ws))
      go true h = single ws h
      go false h = h

  pointers_back : (m : SymbolMemory) (ts : List Tree) (ws : List SymbolWord) → T (pointers_are m ts ws) → PointerWords (symbols w) symbol_meaning m ts ws
  pointers_back m [] [] h = refl
  pointers_back m [] (x ∷ ws) h = absurd h
  pointers_back m (t ∷ ts) [] h = absurd h
  pointers_back m (t ∷ ts) (x ∷ ws) h = let r = made_back m x t (left_true (is_made_for m x t) _ h) in (x, ws, refl, r.0, r.1, pointers_back m ts ws (right_true (is_made_for m x t) _ h))

  pub passes_back : (m : SymbolMemory) (pointers : List Tree) (ts : List Tree) (vs : List Symbol) (ws : List SymbolWord) → T (passes m pointers ts vs ws) → PassesWords (symbols w) symbol_meaning m pointers ts vs ws
  passes_back m pointers [] [] ws h = pointers_back m pointers ws h
  passes_back m pointers [] (v ∷ vs) ws h = absurd h
  passes_back m pointers (t ∷ ts) [] ws h = absurd h
  passes_back m pointers (t ∷ ts) (v ∷ vs) ws h =
      let n = length (param_words (plain t)) in
      (take n ws, drop n ws, taken_again n ws, param_back m (plain t) v (take n ws) (left_true (param_are m (plain t) v (take n ws)) _ h), passes_back m pointers ts vs (drop n ws) (right_true (param_are m (plain t) v (take n ws)) _ h))

  all_back : (m : SymbolMemory) (ws : List SymbolWord) (vs : List Symbol) → T (hold_all m ws vs) → HoldAll (symbols w) symbol_meaning m ws vs
  all_back m [] [] h = tt
  all_back m [] (v ∷ vs) h = absurd h
  all_back m (x ∷ ws) [] h = absurd h
  all_back m (x ∷ ws) (v ∷ vs) h = ((holds_back m x v (left_true (holds_symbol m x v) _ h)).1, all_back m ws vs (right_true (holds_symbol m x v) _ h))

  parts_back : (m : SymbolMemory) (ws : List SymbolWord) (o : Option (List Symbol)) → T (hold_parts m ws o) → HoldParts (symbols w) symbol_meaning m ws o
  parts_back m ws None h = absurd h
  parts_back m ws (Some vs) h = all_back m ws vs h

  word_back : (e : Bool) (ws : List SymbolWord) → T (is_case_word e ws) → ws ≡ (symbols w).case_word e ∷ []
  word_back true (one_word ∷ []) h = refl
  word_back false (zero_word ∷ []) h = refl
  word_back _ _ h = absurd h

  case_back : (ok err : Option Tree) (pointers : List SymbolWord) (e : Bool) (p : Option (Symbol × Option Tree)) (o : Outcome Symbol SymbolWord SymbolMemory) → T (returns_case ok err pointers e p o.call.at_return o.call.callee_words) → ReturnsCase (symbols w) symbol_meaning ok err pointers e p o
  case_back ok err pointers e None o h = word_back e o.call.callee_words h
  case_back None err pointers false (Some p) o h = absurd h
  case_back (Some t) err pointers false (Some p) o h = (
    word_back false o.call.callee_words (left_true (is_case_word false o.call.callee_words) _ h),
    subst (HoldParts (symbols w) symbol_meaning o.call.at_return pointers) (sym (parts_same (is_tuple t) (length pointers) p.0)) (parts_back o.call.at_return pointers (ok_parts (is_tuple t) (length pointers) p.0) (right_true (is_case_word false o.call.callee_words) _ h)),
  )
  case_back ok None pointers true (Some p) o h = absurd h
  case_back ok (Some t) pointers true (Some p) o h = param_back o.call.at_return (plain t) p.0 o.call.callee_words h

  picked_back : (ok err : Option Tree) (pointers : List SymbolWord) (c : Option (Bool × Option (Symbol × Option Tree))) (o : Outcome Symbol SymbolWord SymbolMemory) → T (returns_picked ok err pointers c o.call.at_return o.call.callee_words) → ReturnsPicked (symbols w) symbol_meaning ok err pointers c o
  picked_back ok err pointers None o h = absurd h
  picked_back ok err pointers (Some c) o h = case_back ok err pointers c.0 c.1 o h

  by_back : (cs : Option Arms) (t : Tree) (v : Symbol) (o : Outcome Symbol SymbolWord SymbolMemory) → T (returns_by w cs t v o) → ReturnsBy (symbols w) symbol_meaning cs t v o
  by_back None t v o h = h
  by_back (Some cs) t v o h = picked_back (ok_of cs) (err_of cs) (last_words (length (pointers_by (Some cs))) o.call.words) (picks_in w.error w (ok_of cs) (err_of cs) v) o h

  nil_back : (ws : List SymbolWord) → T (is_nil ws) → ws ≡ []
  nil_back [] h = refl
  nil_back (x ∷ ws) h = absurd h

  under_back : (abi : Abi) (t : Tree) (v : Symbol) (o : Outcome Symbol SymbolWord SymbolMemory) → T (returns_under abi w t v o) → ReturnsUnder (symbols w) symbol_meaning abi t v o
  under_back Abi.Preview1 t v o h = by_back (result_cases t) t v o h
  under_back Abi.Stored t v o h =
      (nil_back o.call.callee_words (left_true (is_nil o.call.callee_words) _ h), all_back o.call.at_return (last_words 1 o.call.words) (v ∷ []) (right_true (is_nil o.call.callee_words) _ h))

  pub returns_back : (abi : Abi) (ts : List Tree) (v : Option Symbol) (o : Outcome Symbol SymbolWord SymbolMemory) → T (gives_back abi w ts v o) → ReturnsOf (symbols w) symbol_meaning abi ts v o
  returns_back abi [] None o h = nil_back o.call.callee_words h
  returns_back abi [] (Some v) o h = absurd h
  returns_back abi (t ∷ []) None o h = absurd h
  returns_back abi (t ∷ []) (Some v) o h = under_back abi t v o h
  returns_back abi (t ∷ u ∷ ts) v o h = absurd h

pub tests_tell : TestsTell
tests_tell w = (
  λ m pointers ts vs ws. (λ h. passes_back w m pointers ts vs ws (truth h), λ h. true_of _ (passes_test w m pointers ts vs ws h)),
  λ abi ts v o. (λ h. returns_back w abi ts v o (truth h), λ h. true_of _ (returns_test w abi ts v o h)),
)
