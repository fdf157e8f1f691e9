-- What the tests say of symbols at the end of a run holds of the cells at the end of theirs.
use Rattle.std.proofs.Common.{◌≡◌, ℕ, zero, suc, ◌-◌, Bool, true, false, cond, T, refl, sym, ap, ◌∙◌, subst, Option, Some, None, option_map, List, [], ◌∷◌, ◌++◌, length, slice_get, take, drop}
use Rattle.witx_ast.specs.declared.function.Abi.{Abi}
use Rattle.witx_ast.specs.declared.types.RecordKind.{RecordKind}
use Rattle.witx_ast.specs.Tree.{Tree, Arms}
use Rattle.witx_ast.specs.Plain.{Plain, plain}
use Rattle.witx_ast.specs.Values.{Value}
use Rattle.witx_machine.specs.declared.surface.WasmType.{WasmType}
use Rattle.witx_machine.specs.Words.{Word, i32, when}
use Rattle.witx_machine.specs.Functions.{by_address, name_of, is_tuple, ok_of, err_of, result_cases}
use Rattle.witx_machine.specs.Signature.{param_words, pointers_by}
use Rattle.witx_machine.specs.Machine.{is_nil}
use Rattle.witx_machine.specs.Run.{Outcome}
use Rattle.witx_machine.specs.Cells.{Cells, Memory, get, cells}
use Rattle.witx_machine.specs.Passage.{last_words, PassesWords, PointerWords, ParamWords, HoldAll, HoldParts, ok_values, ReturnsCase, ReturnsPicked, ReturnsBy, ReturnsUnder}
use Rattle.witx_machine.specs.Faithful.{cell_meaning, direct_words, IsTaken}
use Rattle.witx_symbols.specs.Symbols.{Source, Symbol, atom, tuple, made, bare_made, SymbolWord, word_of_symbol, list_address, list_length, given, zero_word, one_word, is_of, same_option}
use Rattle.witx_symbols.specs.Symbolic.{SymbolCell, SymbolMemory, SymbolWorld, symbols, picks_in, payload_is}
use Rattle.witx_symbols.specs.Verdicts.{direct_are, cell_holds, cell_is_for, holds_symbol, is_made_for, param_are, pointers_are, passes, hold_all, hold_parts, ok_parts, is_case_word, returns_case, returns_picked, returns_by, returns_under}
use Rattle.witx_machine.proofs.Scalars.{left_true, right_true}
use Rattle.witx_machine.proofs.Simulation.{Follows, Both, Each, Simulates, each_length}
use Rattle.witx_symbols.proofs.SymbolLaws.{plain_same, tree_same, option_same, Direct, single, double, direct_sort}
use Rattle.witx_symbols.proofs.Denotes.{Denotes, WordIs, MemoryIs, denotes_one, some_same}

each_taken : {A B : Type 0} (R : A → B → Type 0) (n : ℕ) (xs : List A) (ys : List B) → Each R xs ys → Each R (take n xs) (take n ys) × Each R (drop n xs) (drop n ys)
each_taken R zero [] [] h = (tt, tt)
each_taken R zero [] (y ∷ ys) h = absurd h
each_taken R zero (x ∷ xs) [] h = absurd h
each_taken R zero (x ∷ xs) (y ∷ ys) h = (tt, h)
each_taken R (suc n) [] [] h = (tt, tt)
each_taken R (suc n) [] (y ∷ ys) h = absurd h
each_taken R (suc n) (x ∷ xs) [] h = absurd h
each_taken R (suc n) (x ∷ xs) (y ∷ ys) h = let r = each_taken R n xs ys h.1 in ((h.0, r.0), r.1)

pub taken_again : {A : Type 0} (n : ℕ) (xs : List A) → xs ≡ take n xs ++ drop n xs
taken_again zero [] = refl
taken_again zero (x ∷ xs) = refl
taken_again (suc n) [] = refl
taken_again (suc n) (x ∷ xs) = ap (λ l. x ∷ l) (taken_again n xs)

pub each_last : {A B : Type 0} (R : A → B → Type 0) (n : ℕ) (xs : List A) (ys : List B) → Each R xs ys → Each R (last_words n xs) (last_words n ys)
each_last R n xs ys h = subst (λ m. Each R (last_words n xs) (drop (m - n) ys)) (each_length R xs ys h) (each_taken R (length xs - n) xs ys h).1

module _ (at : Source → Option Value) (addresses : List ℕ) (first : Cells) where
  abbrev Stand : SymbolWord → Word → Type 0
  Stand = WordIs at addresses first

  -- a value that isn't passed by address
  one_direct : (t : Plain) (v : Symbol) (u : Value) (ty : WasmType) (w : Word) → T (is_of t v) → Denotes at v u → Stand (word_of_symbol v ty) w → direct_words t u ≡ Some (w ∷ [])
  one_direct t v u ty w is d k = by v is d k
    where
      typed : (t q : Plain) (s : Source) → T (is_of t (atom s q)) → q ≡ t
      typed (Plain.record_of RecordKind.Tuple ms) q s h = absurd h
      typed (Plain.record_of (RecordKind.Bitflags r) ms) q s h = plain_same q _ h
      typed (Plain.record_of RecordKind.Other ms) q s h = plain_same q _ h
      typed (Plain.builtin b) q s h = plain_same q _ h
      typed Plain.handle q s h = plain_same q _ h
      typed (Plain.pointer_to t) q s h = plain_same q _ h
      typed (Plain.const_pointer_to t) q s h = plain_same q _ h
      typed (Plain.list_of t) q s h = plain_same q _ h
      typed (Plain.variant_of r cs) q s h = plain_same q _ h

      by : (v : Symbol) → T (is_of t v) → Denotes at v u → Stand (word_of_symbol v ty) w → direct_words t u ≡ Some (w ∷ [])
      by (tuple vs) is d k = absurd k
      by (made i p) is d k = absurd k
      by (bare_made i) is d k = absurd k
      by (atom s q) is d k =
          let same : k.0 ≡ u = some_same (sym k.1.0 ∙ d.0) in
          subst (λ t. direct_words t u ≡ Some (w ∷ [])) (typed t q s is) (subst (λ u. direct_words q u ≡ Some (w ∷ [])) same k.2)

  list_direct : (t : Plain) (v : Symbol) (u : Value) (x y : Word) → Denotes at v u → Stand (list_address v) x → Stand (list_length v) y → direct_words (Plain.list_of t) u ≡ Some (x ∷ y ∷ [])
  list_direct t (tuple vs) u x y d h k = absurd h.3
  list_direct t (made i p) u x y d h k = absurd h.3
  list_direct t (bare_made i) u x y d h k = absurd h.3
  list_direct t (atom s q) u x y d h k =
      let here : Value.list_at h.0 h.1 ≡ u = some_same (sym h.3.0 ∙ d.0) in
      let there : Value.list_at k.0 k.1 ≡ u = some_same (sym k.3.0 ∙ d.0) in
      let long : h.1 ≡ k.1 = ap length_of (here ∙ sym there) in
      subst (λ u. direct_words (Plain.list_of t) u ≡ Some (x ∷ y ∷ [])) here
      (subst (λ x. Some (i32 h.0 ∷ i32 h.1 ∷ []) ≡ Some (x ∷ y ∷ [])) (sym h.2) (subst (λ y. Some (i32 h.0 ∷ i32 h.1 ∷ []) ≡ Some (i32 h.0 ∷ y ∷ [])) (sym k.2) (ap (λ n. Some (i32 h.0 ∷ i32 n ∷ [])) long)))
    where
      length_of : Value → ℕ
      length_of (Value.list_at a l) = l
      length_of _ = 0

  pub direct_follows : (t : Plain) (v : Symbol) (u : Value) (xs : List SymbolWord) (ws : List Word) → T (is_of t v) → Denotes at v u → T (direct_are t v xs) → Each Stand xs ws → direct_words t u ≡ Some ws
  direct_follows t v u xs ws is d h k = go xs ws (direct_sort t v xs h) k
    where
      go : (xs : List SymbolWord) (ws : List Word) → Direct t v xs → Each Stand xs ws → direct_words t u ≡ Some ws
      go xs [] (single ty e) k = absurd k
      go xs (w ∷ []) (single ty e) k = one_direct t v u ty w is d k.0
      go xs (w ∷ y ∷ ws) (single ty e) k = absurd k.1
      go xs [] (double q e) k = absurd k
      go xs (w ∷ []) (double q e) k = absurd k.1
      go xs (w ∷ y ∷ []) (double q e) k = subst (λ t. direct_words t u ≡ Some (w ∷ y ∷ [])) (sym e) (list_direct q v u w y d k.0 k.1.0)
      go xs (w ∷ y ∷ z ∷ ws) (double q e) k = absurd k.1.1

  -- what stands at an address
  holds_follows : (m : SymbolMemory) (m' : Memory) (x : SymbolWord) (w : Word) (v : Symbol) (u : Value) → MemoryIs at addresses first m m' → Stand x w → Denotes at v u → T (holds_symbol m x v) → cell_meaning.given m' w × cell_meaning.holds m' w u
  holds_follows m m' (word_of_symbol y ty) w v u r k d h = absurd h
  holds_follows m m' (list_address y) w v u r k d h = absurd h
  holds_follows m m' (list_length y) w v u r k d h = absurd h
  holds_follows m m' zero_word w v u r k d h = absurd h
  holds_follows m m' one_word w v u r k d h = absurd h
  holds_follows m m' (given i) w v u r k d h = go (slice_get m.made i) refl h
    where
      content : (o : Option Symbol) (p : Option Value) → o ≡ Some v → Both (Denotes at) o p → p ≡ Some u
      content None p e b = absurd (clash e)
        where
          clash : None ≡ Some v → ⊥
          clash e = cc
      content (Some y) None e b = absurd b
      content (Some y) (Some p) e b = ap Some (denotes_one at y p u b (subst (λ v. Denotes at v u) (sym (some_same e)) d))

      go : (o : Option SymbolCell) → slice_get m.made i ≡ o → T (cell_holds v o) → cell_meaning.given m' w × cell_meaning.holds m' w u
      go None e h = absurd h
      go (Some c) e h =
          let s = r.stands i c e in
          let is : s.0 ≡ k.0 = some_same (sym s.1 ∙ k.2) in (
            (k.0, k.1, subst (IsTaken m'.taken) is s.6),
            (k.0, k.1, (s.2, subst (λ a. get m'.cells a ≡ Some s.2) is s.3, content c.1 s.2.content (option_same c.1 (Some v) h) s.5)),
          )

  made_follows : (m : SymbolMemory) (m' : Memory) (x : SymbolWord) (w : Word) (t : Tree) → MemoryIs at addresses first m m' → Stand x w → T (is_made_for m x t) → cell_meaning.given m' w × cell_meaning.made_for m' w t
  made_follows m m' (word_of_symbol y ty) w t r k h = absurd h
  made_follows m m' (list_address y) w t r k h = absurd h
  made_follows m m' (list_length y) w t r k h = absurd h
  made_follows m m' zero_word w t r k h = absurd h
  made_follows m m' one_word w t r k h = absurd h
  made_follows m m' (given i) w t r k h = go (slice_get m.made i) refl h
    where
      go : (o : Option SymbolCell) → slice_get m.made i ≡ o → T (cell_is_for t o) → cell_meaning.given m' w × cell_meaning.made_for m' w t
      go None e h = absurd h
      go (Some c) e h =
          let s = r.stands i c e in
          let is : s.0 ≡ k.0 = some_same (sym s.1 ∙ k.2) in (
            (k.0, k.1, subst (IsTaken m'.taken) is s.6),
            (k.0, k.1, (s.2, subst (λ a. get m'.cells a ≡ Some s.2) is s.3, s.4 ∙ tree_same c.0 t h)),
          )

  pub param_follows : (m : SymbolMemory) (m' : Memory) (t : Plain) (v : Symbol) (u : Value) (xs : List SymbolWord) (ws : List Word) → MemoryIs at addresses first m m' → T (is_of t v) → Denotes at v u → Each Stand xs ws → T (param_are m t v xs) → ParamWords cells cell_meaning m' t u ws
  param_follows m m' t v u xs ws r is d k h = go (by_address t) h
    where
      addressed_follows : (xs : List SymbolWord) (ws : List Word) → Each Stand xs ws → T (hold_all m xs (v ∷ [])) → (a : Word) × (ws ≡ a ∷ []) × cell_meaning.given m' a × cell_meaning.holds m' a u
      addressed_follows (x ∷ []) (w ∷ []) k h = let g = holds_follows m m' x w v u r k.0 d (left_true (holds_symbol m x v) _ h) in (w, refl, g.0, g.1)
      addressed_follows (x ∷ []) (w ∷ y ∷ ws) k h = absurd k.1
      addressed_follows (x ∷ []) [] k h = absurd k
      addressed_follows [] ws k h = absurd h
      addressed_follows (x ∷ y ∷ xs) ws k h = absurd (right_true (holds_symbol m x v) _ h)

      go : (b : Bool) → T (cond b (hold_all m xs (v ∷ [])) (direct_are t v xs)) → cond b ((a : Word) × (ws ≡ a ∷ []) × cell_meaning.given m' a × cell_meaning.holds m' a u) (direct_words t u ≡ Some ws)
      go true h = addressed_follows xs ws k h
      go false h = direct_follows t v u xs ws is d h k

  pointers_follow : (m : SymbolMemory) (m' : Memory) (ts : List Tree) (xs : List SymbolWord) (ws : List Word) → MemoryIs at addresses first m m' → Each Stand xs ws → T (pointers_are m ts xs) → PointerWords cells cell_meaning m' ts ws
  pointers_follow m m' [] [] [] r k h = refl
  pointers_follow m m' [] [] (w ∷ ws) r k h = absurd k
  pointers_follow m m' [] (x ∷ xs) ws r k h = absurd h
  pointers_follow m m' (t ∷ ts) [] ws r k h = absurd h
  pointers_follow m m' (t ∷ ts) (x ∷ xs) [] r k h = absurd k
  pointers_follow m m' (t ∷ ts) (x ∷ xs) (w ∷ ws) r k h =
      let g = made_follows m m' x w t r k.0 (left_true (is_made_for m x t) _ h) in
      (w, ws, refl, g.0, g.1, pointers_follow m m' ts xs ws r k.1 (right_true (is_made_for m x t) _ h))

  -- the arguments are of their types
  abbrev pub AllOf : List Tree → List Symbol → Type 0
  AllOf [] vs = Unit {0}
  AllOf (t ∷ ts) [] = Unit {0}
  AllOf (t ∷ ts) (v ∷ vs) = T (is_of (plain t) v) × AllOf ts vs

  pub passes_follow : (m : SymbolMemory) (m' : Memory) (pointers ts : List Tree) (vs : List Symbol) (us : List Value) (xs : List SymbolWord) (ws : List Word) → MemoryIs at addresses first m m' → AllOf ts vs → Each (Denotes at) vs us → Each Stand xs ws → T (passes m pointers ts vs xs) → PassesWords cells cell_meaning m' pointers ts us ws
  passes_follow m m' pointers [] [] [] xs ws r is d k h = pointers_follow m m' pointers xs ws r k h
  passes_follow m m' pointers ts [] (u ∷ us) xs ws r is d k h = absurd d
  passes_follow m m' pointers ts (v ∷ vs) [] xs ws r is d k h = absurd d
  passes_follow m m' pointers [] (v ∷ vs) (u ∷ us) xs ws r is d k h = absurd h
  passes_follow m m' pointers (t ∷ ts) [] [] xs ws r is d k h = absurd h
  passes_follow m m' pointers (t ∷ ts) (v ∷ vs) (u ∷ us) xs ws r is d k h =
      let n = length (param_words (plain t)) in
      let cut = each_taken Stand n xs ws k in (
        take n ws,
        drop n ws,
        taken_again n ws,
        param_follows m m' (plain t) v u (take n xs) (take n ws) r is.0 d.0 cut.0 (left_true (param_are m (plain t) v (take n xs)) _ h),
        passes_follow m m' pointers ts vs us (drop n xs) (drop n ws) r is.1 d.1 cut.1 (right_true (param_are m (plain t) v (take n xs)) _ h),
      )

  holds_all : (m : SymbolMemory) (m' : Memory) (xs : List SymbolWord) (ws : List Word) (vs : List Symbol) (us : List Value) → MemoryIs at addresses first m m' → Each Stand xs ws → Each (Denotes at) vs us → T (hold_all m xs vs) → HoldAll cells cell_meaning m' ws us
  holds_all m m' [] [] [] [] r k d h = tt
  holds_all m m' [] (w ∷ ws) vs us r k d h = absurd k
  holds_all m m' (x ∷ xs) [] vs us r k d h = absurd k
  holds_all m m' xs ws [] (u ∷ us) r k d h = absurd d
  holds_all m m' xs ws (v ∷ vs) [] r k d h = absurd d
  holds_all m m' [] [] (v ∷ vs) (u ∷ us) r k d h = absurd h
  holds_all m m' (x ∷ xs) (w ∷ ws) [] [] r k d h = absurd h
  holds_all m m' (x ∷ xs) (w ∷ ws) (v ∷ vs) (u ∷ us) r k d h =
      ((holds_follows m m' x w v u r k.0 d.0 (left_true (holds_symbol m x v) _ h)).1, holds_all m m' xs ws vs us r k.1 d.1 (right_true (holds_symbol m x v) _ h))

  holds_parts : (m : SymbolMemory) (m' : Memory) (xs : List SymbolWord) (ws : List Word) (o : Option (List Symbol)) (p : Option (List Value)) → MemoryIs at addresses first m m' → Each Stand xs ws → Follows (Each (Denotes at)) o p → T (hold_parts m xs o) → HoldParts cells cell_meaning m' ws p
  holds_parts m m' xs ws None p r k d h = absurd h
  holds_parts m m' xs ws (Some vs) None r k d h = absurd d
  holds_parts m m' xs ws (Some vs) (Some us) r k d h = holds_all m m' xs ws vs us r k d h

  case_word_follows : (e : Bool) (xs : List SymbolWord) (ws : List Word) → Each Stand xs ws → T (is_case_word e xs) → ws ≡ cells.case_word e ∷ []
  case_word_follows true (one_word ∷ []) (w ∷ []) k h = ap (λ w. w ∷ []) k.0
  case_word_follows true (one_word ∷ []) (w ∷ y ∷ ws) k h = absurd k.1
  case_word_follows true (one_word ∷ []) [] k h = absurd k
  case_word_follows false (zero_word ∷ []) (w ∷ []) k h = ap (λ w. w ∷ []) k.0
  case_word_follows false (zero_word ∷ []) (w ∷ y ∷ ws) k h = absurd k.1
  case_word_follows false (zero_word ∷ []) [] k h = absurd k
  case_word_follows _ _ ws k h = absurd h

  -- the payload is of the type of its case
  abbrev Typed : Option Tree → Option (Symbol × Option Tree) → Type 0
  Typed (Some t) (Some p) = T (is_of (plain t) p.0)
  Typed _ _ = Unit {0}

  payload_typed : (t : Option Tree) (o : Option Symbol) (p : Option (Symbol × Option Tree)) → payload_is t o ≡ Some p → Typed t p
  payload_typed None o p e = tt
  payload_typed (Some t) None p e = absurd (clash e)
    where
      clash : None ≡ Some p → ⊥
      clash e = cc
  payload_typed (Some t) (Some v) p e = go (is_of (plain t) v) refl e
    where
      clash : None ≡ Some p → ⊥
      clash e = cc

      go : (b : Bool) → is_of (plain t) v ≡ b → when b (Some (Some (v, name_of t))) ≡ Some p → Typed (Some t) p
      go false i e = absurd (clash e)
      go true i e = subst (λ p. Typed (Some t) p) (some_same e) (subst T (sym i) tt)

  picked_typed : (w : SymbolWorld) (ok err : Option Tree) (v : Symbol) (c : Bool × Option (Symbol × Option Tree)) → picks_in w.error w ok err v ≡ Some c → Typed (cond c.0 err ok) c.1
  picked_typed w ok err v c e = go w.error e
    where
      clash : None ≡ Some c → ⊥
      clash e = cc

      named : (b : Bool) (o : Option (Option (Symbol × Option Tree))) → payload_is (cond b err ok) w.load ≡ o → option_map (λ p. (b, p)) o ≡ Some c → Typed (cond c.0 err ok) c.1
      named b None i e = absurd (clash e)
      named b (Some p) i e = subst (λ c. Typed (cond c.0 err ok) c.1) (some_same e) (payload_typed (cond b err ok) w.load p i)

      go : (o : Option Bool) → picks_in o w ok err v ≡ Some c → Typed (cond c.0 err ok) c.1
      go None e = absurd (clash e)
      go (Some b) e = here (same_option w.whole (Some v)) e
        where
          here : (x : Bool) → when x (option_map (λ p. (b, p)) (payload_is (cond b err ok) w.load)) ≡ Some c → Typed (cond c.0 err ok) c.1
          here false e = absurd (clash e)
          here true e = named b (payload_is (cond b err ok) w.load) refl e

  module _ (w : SymbolWorld) (G : SymbolMemory → Type 0) (H : Simulates (symbols w) cells (Denotes at) (λ t. Denotes at) Stand (MemoryIs at addresses first) G) where
    abbrev Pays : (Symbol × Option Tree) → (Value × Option Tree) → Type 0
    Pays p q = Denotes at p.0 q.0 × (p.1 ≡ q.1)

    parts_follow : (b : Bool) (n : ℕ) (v : Symbol) (u : Value) → Denotes at v u → Follows (Each (Denotes at)) (ok_parts b n v) (ok_values cells cell_meaning b n u)
    parts_follow true n v u d = H.parts n v u d
    parts_follow false n v u d = (d, tt)

    case_follows : (ok err : Option Tree) (pxs : List SymbolWord) (pws : List Word) (e : Bool) (p : Option (Symbol × Option Tree)) (q : Option (Value × Option Tree)) (m : SymbolMemory) (xs : List SymbolWord) (o : Outcome Value Word Memory) → Typed (cond e err ok) p → Both Pays p q → MemoryIs at addresses first m o.call.at_return → Each Stand pxs pws → Each Stand xs o.call.callee_words → T (returns_case ok err pxs e p m xs) → ReturnsCase cells cell_meaning ok err pws e q o
    case_follows ok err pxs pws e None None m xs o is b r g k h = case_word_follows e xs o.call.callee_words k h
    case_follows ok err pxs pws e None (Some q) m xs o is b r g k h = absurd b
    case_follows ok err pxs pws e (Some p) None m xs o is b r g k h = absurd b
    case_follows None err pxs pws false (Some p) (Some q) m xs o is b r g k h = absurd h
    case_follows (Some t) err pxs pws false (Some p) (Some q) m xs o is b r g k h = (
      case_word_follows false xs o.call.callee_words k (left_true (is_case_word false xs) _ h),
      holds_parts m o.call.at_return pxs pws (ok_parts (is_tuple t) (length pxs) p.0) (ok_values cells cell_meaning (is_tuple t) (length pws) q.0) r g
          (subst (λ n. Follows (Each (Denotes at)) (ok_parts (is_tuple t) (length pxs) p.0) (ok_values cells cell_meaning (is_tuple t) n q.0)) (each_length Stand pxs pws g) (parts_follow (is_tuple t) (length pxs) p.0 q.0 b.0))
          (right_true (is_case_word false xs) _ h),
    )
    case_follows ok None pxs pws true (Some p) (Some q) m xs o is b r g k h = absurd h
    case_follows ok (Some t) pxs pws true (Some p) (Some q) m xs o is b r g k h = param_follows m o.call.at_return (plain t) p.0 q.0 xs o.call.callee_words r is b.0 k h

    picked_follows : (ok err : Option Tree) (pxs : List SymbolWord) (pws : List Word) (v : Symbol) (u : Value) (m : SymbolMemory) (xs : List SymbolWord) (o : Outcome Value Word Memory) → Denotes at v u → MemoryIs at addresses first m o.call.at_return → Each Stand pxs pws → Each Stand xs o.call.callee_words → T (returns_picked ok err pxs (picks_in w.error w ok err v) m xs) → ReturnsPicked cells cell_meaning ok err pws (cells.picks ok err u) o
    picked_follows ok err pxs pws v u m xs o d r g k h = go (picks_in w.error w ok err v) (cells.picks ok err u) refl (H.picks ok err v u d) h
      where
        go : (c : Option (Bool × Option (Symbol × Option Tree))) (c' : Option (Bool × Option (Value × Option Tree))) → picks_in w.error w ok err v ≡ c → Follows (λ p q. (p.0 ≡ q.0) × Both Pays p.1 q.1) c c' → T (returns_picked ok err pxs c m xs) → ReturnsPicked cells cell_meaning ok err pws c' o
        go None c' i f h = absurd h
        go (Some c) None i f h = absurd f
        go (Some c) (Some d) i f h =
            subst (λ e. ReturnsCase cells cell_meaning ok err pws e d.1 o) f.0 (case_follows ok err pxs pws c.0 c.1 d.1 m xs o (picked_typed w ok err v c i) f.1 r g k h)

    by_follow : (cs : Option Arms) (t : Tree) (v : Symbol) (u : Value) (o : Outcome Symbol SymbolWord SymbolMemory) (o' : Outcome Value Word Memory) → T (is_of (plain t) v) → Denotes at v u → MemoryIs at addresses first o.call.at_return o'.call.at_return → Each Stand o.call.words o'.call.words → Each Stand o.call.callee_words o'.call.callee_words → T (returns_by w cs t v o) → ReturnsBy cells cell_meaning cs t u o'
    by_follow None t v u o o' is d r g k h = direct_follows (plain t) v u o.call.callee_words o'.call.callee_words is d h k
    by_follow (Some cs) t v u o o' is d r g k h =
        let n = length (pointers_by (Some cs)) in
        picked_follows (ok_of cs) (err_of cs) (last_words n o.call.words) (last_words n o'.call.words) v u o.call.at_return o.call.callee_words o' d r (each_last Stand n o.call.words o'.call.words g) k h

    pub nil_follows : (xs : List SymbolWord) (ws : List Word) → Each Stand xs ws → T (is_nil xs) → ws ≡ []
    nil_follows [] [] k h = refl
    nil_follows [] (w ∷ ws) k h = absurd k
    nil_follows (x ∷ xs) ws k h = absurd h

    pub returns_follow : (abi : Abi) (t : Tree) (v : Symbol) (u : Value) (o : Outcome Symbol SymbolWord SymbolMemory) (o' : Outcome Value Word Memory) → T (is_of (plain t) v) → Denotes at v u → MemoryIs at addresses first o.call.at_return o'.call.at_return → Each Stand o.call.words o'.call.words → Each Stand o.call.callee_words o'.call.callee_words → T (returns_under abi w t v o) → ReturnsUnder cells cell_meaning abi t u o'
    returns_follow Abi.Preview1 t v u o o' is d r g k h = by_follow (result_cases t) t v u o o' is d r g k h
    returns_follow Abi.Stored t v u o o' is d r g k h = (
      nil_follows o.call.callee_words o'.call.callee_words k (left_true (is_nil o.call.callee_words) _ h),
      holds_all o.call.at_return o'.call.at_return (last_words 1 o.call.words) (last_words 1 o'.call.words) (v ∷ []) (u ∷ []) r (each_last Stand 1 o.call.words o'.call.words g) (d, tt) (right_true (is_nil o.call.callee_words) _ h),
    )
