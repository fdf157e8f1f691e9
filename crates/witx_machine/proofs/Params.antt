-- Parameters: what the caller lowers, the callee lifts.
use Rattle.std.proofs.Common.{◌≡◌, ℕ, suc, ◌+◌, Bool, true, false, cond, T, refl, sym, ap, ◌∙◌, subst, arith, Option, Some, None, List, [], ◌∷◌, ◌++◌, append_assoc, map, length, slice_get}
use Rattle.witx_ast.specs.Tree.{Tree}
use Rattle.witx_ast.specs.Plain.{Plain, plain}
use Rattle.witx_machine.specs.declared.surface.WasmType.{WasmType}
use Rattle.witx_machine.specs.Events.{Step, Event, emit}
use Rattle.witx_machine.specs.Rows.{Row, row, addr_of, lowering, lifting, list_pointer_length, list_from_pointer_length, load}
use Rattle.witx_machine.specs.Functions.{by_address, name_of}
use Rattle.witx_machine.specs.Signature.{param_words}
use Rattle.witx_machine.specs.Traces.{lower_at, lift_at, lift_step, lower_params, lift_params, get_args}
use Rattle.witx_machine.specs.Machine.{Domain, went, State, Side, Inside, Item, word_item, value_item, plain_item, Block, if_found, pushed}
use Rattle.witx_machine.specs.Run.{typed, argument_items}
use Rattle.witx_machine.specs.Passage.{Meaning, ParamWords}
use Rattle.witx_machine.proofs.Scalars.{both_true, left_true, right_true}
use Rattle.witx_machine.proofs.Laws.{Laws}
use Rattle.witx_machine.proofs.Runs.{Try, Runs, runs_none, runs_then, plays, acts, runs_act, AreItemsOf}
use Rattle.witx_machine.proofs.Ways.{Way, one_word, two_words, by_cell, Ways}

-- the items stand among the arguments from the i-th on
abbrev pub StandAt : {A : Type 0} → List A → ℕ → List A → Type 0
StandAt args i [] = Unit {0}
StandAt args i (x ∷ xs) = (slice_get args i ≡ Some x) × StandAt args (i + 1) xs

module _ {V W : Type 0} where
  pub pushed_words : (a b : List W) (stack : List (Item V W)) → pushed (map word_item b) (pushed (map word_item a) stack) ≡ pushed (map word_item (a ++ b)) stack
  pushed_words [] b stack = refl
  pushed_words (w ∷ a) b stack = pushed_words a b (word_item w ∷ stack)

  pub stand_front : (args : List (Item V W)) (i : ℕ) (a b : List W) → StandAt args i (map word_item (a ++ b)) → StandAt args i (map word_item a)
  stand_front args i [] b h = tt
  stand_front args i (w ∷ a) b h = (h.0, stand_front args (i + 1) a b h.1)

  pub stand_back : (args : List (Item V W)) (i : ℕ) (a b : List W) → StandAt args i (map word_item (a ++ b)) → StandAt args (i + length a) (map word_item b)
  stand_back args i [] b h = let e : i ≡ i + 0 = omega arith in subst (λ i. StandAt args i (map word_item b)) e h
  stand_back args i (w ∷ a) b h =
      let e : i + 1 + length a ≡ i + length (w ∷ a) = omega arith in
      subst (λ i. StandAt args i (map word_item b)) e (stand_back args (i + 1) a b h.1)

pub head_same : {A : Type 0} {a b : A} {xs ys : List A} → a ∷ xs ≡ b ∷ ys → a ≡ b
head_same {A} {a} e = ap (λ l. first_of a l) e
  where
    first_of : A → List A → A
    first_of d [] = d
    first_of d (x ∷ xs) = x

module _ {V W M : Type 0} (D : Domain V W M) where
  pub typed_append : (ts us : List WasmType) (ws xs : List W) → T (typed D ts ws) → T (typed D us xs) → T (typed D (ts ++ us) (ws ++ xs))
  typed_append [] us [] xs h k = k
  typed_append [] us (w ∷ ws) xs h k = absurd h
  typed_append (t ∷ ts) us [] xs h k = absurd h
  typed_append (t ∷ ts) us (w ∷ ws) xs h k = both_true _ _ (left_true (D.has_type t w) _ h) (typed_append ts us ws xs (right_true (D.has_type t w) _ h) k)

  pub typed_length : (ts : List WasmType) (ws : List W) → T (typed D ts ws) → length ts ≡ length ws
  typed_length [] [] h = refl
  typed_length [] (w ∷ ws) h = absurd h
  typed_length (t ∷ ts) [] h = absurd h
  typed_length (t ∷ ts) (w ∷ ws) h = ap suc (typed_length ts ws (right_true (D.has_type t w) _ h))

module _ {V W M : Type 0} {D : Domain V W M} {J : Meaning V W M} (L : Laws D J) where
  -- what lifting finds
  abbrev pub Carries : M → (carried : Option Tree) (whole : Tree) (t : Tree) → Way carried whole t → V → List W → Type 0
  Carries m c whole t (one_word x o) v ws = (w : W) × (ws ≡ w ∷ []) × (D.lift x w ≡ Some v)
  Carries m c whole t (two_words o) v ws = (a : W) × (l : W) × (ws ≡ a ∷ l ∷ []) × (D.list_value a l ≡ Some v)
  Carries m c whole t (by_cell o) v ws = (a : W) × (ws ≡ a ∷ []) × (D.get whole a m ≡ Some v)

  -- a parameter's words
  pub record Passed (m : M) (t : Tree) (way : Way (name_of t) t t) (v : V) (words : List W) : Type 0 where
    pub types : T (typed D (param_words (plain t)) words)
    pub carries : Carries m (name_of t) t t way v words
    pub passes : ParamWords D J m (plain t) v words

  abbrev pub PassedAll : M → (ts : List Tree) → Ways ts → List V → List W → Type 0
  PassedAll m [] ways [] ws = ws ≡ []
  PassedAll m [] ways (v ∷ vs) ws = ⊥
  PassedAll m (t ∷ ts) ways [] ws = ⊥
  PassedAll m (t ∷ ts) ways (v ∷ vs) ws =
      (first : List W) × (rest : List W) × (ws ≡ first ++ rest) × Passed m t ways.0 v first × PassedAll m ts ways.1 vs rest

  abbrev pub AreArguments : List Tree → List V → Type 0
  AreArguments [] [] = Unit {0}
  AreArguments [] (v ∷ vs) = ⊥
  AreArguments (t ∷ ts) [] = ⊥
  AreArguments (t ∷ ts) (v ∷ vs) = L.Is (plain t) v × AreArguments ts vs

  abbrev ByAddress : M → V → List W → Type 0
  ByAddress m v ws = (a : W) × (ws ≡ a ∷ []) × J.given m a × J.holds m a v

  pub passes_directly : (m : M) (t : Plain) (v : V) (ws : List W) → by_address t ≡ false → J.direct t v ws → ParamWords D J m t v ws
  passes_directly m t v ws e h = subst (λ b. cond b (ByAddress m v ws) (J.direct t v ws)) (sym e) h

  pub direct_of : (m : M) (t : Plain) (v : V) (ws : List W) → by_address t ≡ false → ParamWords D J m t v ws → J.direct t v ws
  direct_of m t v ws e h = subst (λ b. cond b (ByAddress m v ws) (J.direct t v ws)) e h

  passes_by_address : (m : M) (t : Plain) (v : V) (ws : List W) → by_address t ≡ true → ByAddress m v ws → ParamWords D J m t v ws
  passes_by_address m t v ws e h = subst (λ b. cond b (ByAddress m v ws) (J.direct t v ws)) (sym e) h

  pub param_kept : (m m' : M) (t : Plain) (v : V) (ws : List W) → L.Keeps m m' → ParamWords D J m t v ws → ParamWords D J m' t v ws
  param_kept m m' t v ws g = go (by_address t)
    where
      go : (b : Bool) → cond b (ByAddress m v ws) (J.direct t v ws) → cond b (ByAddress m' v ws) (J.direct t v ws)
      go true h = (h.0, h.1, L.keeps_given m m' h.0 g h.2, L.keeps_held m m' h.0 v g h.3)
      go false h = h

  pub carries_kept : (m m' : M) (c : Option Tree) (whole : Tree) (t : Tree) (way : Way c whole t) (v : V) (ws : List W) → L.Keeps m m' → Carries m c whole t way v ws → Carries m' c whole t way v ws
  carries_kept m m' c whole t (one_word x o) v ws g h = h
  carries_kept m m' c whole t (two_words o) v ws g h = h
  carries_kept m m' c whole t (by_cell o) v ws g h = (h.0, h.1, L.keeps_got m m' whole h.0 v g h.2)

  pub passed_kept : (m m' : M) (t : Tree) (way : Way (name_of t) t t) (v : V) (ws : List W) → L.Keeps m m' → Passed m t way v ws → Passed m' t way v ws
  passed_kept m m' t way v ws g p = record { types = p.types; carries = carries_kept m m' (name_of t) t t way v ws g p.carries; passes = param_kept m m' (plain t) v ws g p.passes }

  pub passed_all_kept : (m m' : M) (ts : List Tree) (ways : Ways ts) (vs : List V) (ws : List W) → L.Keeps m m' → PassedAll m ts ways vs ws → PassedAll m' ts ways vs ws
  passed_all_kept m m' [] ways [] ws g p = p
  passed_all_kept m m' [] ways (v ∷ vs) ws g p = p
  passed_all_kept m m' (t ∷ ts) ways [] ws g p = p
  passed_all_kept m m' (t ∷ ts) ways (v ∷ vs) ws g p = (p.0, p.1, p.2, passed_kept m m' t ways.0 v p.0 g p.3, passed_all_kept m m' ts ways.1 vs p.1 g p.4)

  -- lifting finds the same under an alike type
  carried : (m : M) (t u : Tree) (way : Way (name_of t) t t) (own : Way (name_of u) u u) (v : V) (ws : List W) → plain t ≡ plain u → L.Is (plain u) v → Carries m (name_of t) t t way v ws → ParamWords D J m (plain u) v ws → Carries m (name_of u) u u own v ws
  carried m t u way (one_word x o) v ws e is c h =
      let d = L.scalar x (plain u) v o.lowers is in
      (d.0, L.direct_once (plain u) v ws (d.0 ∷ []) (direct_of m (plain u) v ws o.direct h) d.4, d.2)
  carried m t u way (two_words o) v ws e is c h =
      let d = L.list o.target v (subst (λ q. L.Is q v) o.is_list is) in
      let direct = subst (λ q. ParamWords D J m q v ws) o.is_list h in
      (d.0, d.1, L.direct_once (Plain.list_of o.target) v ws (d.0 ∷ d.1 ∷ []) direct d.6, d.3)
  carried m t u (by_cell o) (by_cell own) v ws e is c h = (c.0, c.1, L.got_alike m t u c.0 v e c.2)
  carried m t u (one_word x o) (by_cell own) v ws e is c h = absurd (clash (sym own.address ∙ sym (ap by_address e) ∙ o.direct))
    where
      clash : true ≡ false → ⊥
      clash e = cc
  carried m t u (two_words o) (by_cell own) v ws e is c h = absurd (clash (sym own.address ∙ sym (ap by_address e) ∙ ap by_address o.is_list))
    where
      clash : true ≡ false → ⊥
      clash e = cc

  -- what was passed for a type was passed for an alike one
  pub passed_alike : (m : M) (t u : Tree) (way : Way (name_of t) t t) (own : Way (name_of u) u u) (v : V) (ws : List W) → plain t ≡ plain u → L.Is (plain t) v → Passed m t way v ws → Passed m u own v ws
  passed_alike m t u way own v ws e is p =
      let passes = subst (λ q. ParamWords D J m q v ws) e p.passes in
      record {
        types = subst (λ q. T (typed D (param_words q) ws)) e p.types;
        carries = carried m t u way own v ws e (subst (λ q. L.Is q v) e is) p.carries passes;
        passes = passes;
      }

  module _ {C : Type 0} (side : Side (Unit {0}) Event V W M C) (runs : Inside V W → List Event → State Event V W M C → Try (State Event V W M C)) (inside : Inside V W) (slots : List (ℕ × W)) (blocks : List (Block Event)) (returned : Option W) (called : Option C) where
    abbrev pub at : List (Item V W) → M → State Event V W M C
    at stack memory = record { stack = stack; slots = slots; memory = memory; blocks = blocks; returned = returned; called = called; answer = None }

    abbrev pub Goes : List Event → State Event V W M C → State Event V W M C → Type 0
    Goes = Runs (plays D side runs inside)

    -- a step by its row
    pub row_goes : (x : Step) (r : Row) (stack stack' : List (Item V W)) (m m' : M) → row x ≡ r → acts D side runs inside r (at stack m) ≡ went (at stack' m') → Goes (emit x ∷ []) (at stack m) (at stack' m')
    row_goes x r stack stack' m m' e a = runs_act D side runs inside x (at stack m) (at stack' m') (ap (λ r. acts D side runs inside r (at stack m)) e ∙ a) refl

    pub get_goes : (i : ℕ) (x : Item V W) (stack : List (Item V W)) (m : M) → slice_get side.arguments i ≡ Some x → Goes (emit (Step.GetArg i) ∷ []) (at stack m) (at (x ∷ stack) m)
    get_goes i x stack m e = row_goes (Step.GetArg i) _ stack (x ∷ stack) m m refl (ap (λ o. if_found o (λ x. went (at (x ∷ stack) m))) e)

    -- a parameter that was lowered
    pub record Lowered (carried : Option Tree) (whole : Tree) (t : Tree) (way : Way carried whole t) (v : V) (n : ℕ) (stack : List (Item V W)) (m : M) : Type 0 where
      pub words : List W
      pub memory : M
      pub lowers : Goes (emit (lower_at whole t) ∷ []) (at (value_item v carried ∷ stack) m) (at (pushed (map word_item words) stack) memory)
      pub types : T (typed D (param_words (plain t)) words)
      pub carries : Carries memory carried whole t way v words
      pub passes : ParamWords D J memory (plain t) v words
      pub keeps : L.Keeps m memory
      pub room : L.Room n memory
      pub chosen : by_address (plain t) ≡ true → (w : W) → words ≡ w ∷ [] → (u : Plain) → L.Returned u v → D.chooses w ≡ Some true

    pub lower_one : (carried : Option Tree) (whole : Tree) (t : Tree) (way : Way carried whole t) (v : V) (n : ℕ) (stack : List (Item V W)) (m : M) → L.Is (plain t) v → L.Room (suc n) m → Lowered carried whole t way v n stack m
    lower_one carried whole t (one_word x o) v n stack m h room =
        let d = L.scalar x (plain t) v o.lowers h in
        record {
          words = d.0 ∷ [];
          memory = m;
          lowers = row_goes (lower_at whole t) (lowering x) (value_item v carried ∷ stack) (word_item d.0 ∷ stack) m m o.lower (ap (λ r. if_found r (λ w. went (at (word_item w ∷ stack) m))) d.1);
          types = subst (λ ts. T (typed D ts (d.0 ∷ []))) (sym o.types) (both_true _ _ d.3 tt);
          carries = (d.0, refl, d.2);
          passes = passes_directly m (plain t) v (d.0 ∷ []) o.direct d.4;
          keeps = L.keeps_all m;
          room = L.less_room n m room;
          chosen = λ e. absurd (clash (sym e ∙ o.direct));
        }
      where
        clash : true ≡ false → ⊥
        clash e = cc
    lower_one carried whole t (two_words o) v n stack m h room =
        let d = L.list o.target v (subst (λ p. L.Is p v) o.is_list h) in
        record {
          words = d.0 ∷ d.1 ∷ [];
          memory = m;
          lowers = row_goes (lower_at whole t) list_pointer_length (value_item v carried ∷ stack) (word_item d.1 ∷ word_item d.0 ∷ stack) m m o.lower (ap (λ r. if_found r (λ ws. went (at (word_item ws.1 ∷ word_item ws.0 ∷ stack) m))) d.2);
          types = subst (λ q. T (typed D (param_words q) (d.0 ∷ d.1 ∷ []))) (sym o.is_list) (both_true _ _ d.4 (both_true _ _ d.5 tt));
          carries = (d.0, d.1, refl, d.3);
          passes = subst (λ q. ParamWords D J m q v (d.0 ∷ d.1 ∷ [])) (sym o.is_list) d.6;
          keeps = L.keeps_all m;
          room = L.less_room n m room;
          chosen = λ e. absurd (clash (sym e ∙ ap by_address o.is_list));
        }
      where
        clash : true ≡ false → ⊥
        clash e = cc
    lower_one carried whole t (by_cell o) v n stack m h room =
        let d = L.put whole v n m (subst T (sym (ap by_address o.same ∙ o.address)) tt) (subst (λ q. L.Is q v) (sym o.same) h) room in
        record {
          words = d.0 ∷ [];
          memory = d.1;
          lowers = row_goes (lower_at whole t) addr_of (value_item v carried ∷ stack) (word_item d.0 ∷ stack) m d.1 o.lower
              (ap (λ c. if_found c (λ t. if_found (D.put t v m) (λ r. went (at (word_item r.0 ∷ stack) r.1)))) o.carries ∙ ap (λ r. if_found r (λ r. went (at (word_item r.0 ∷ stack) r.1))) d.2);
          types = subst (λ ts. T (typed D ts (d.0 ∷ []))) (sym o.types) (both_true _ _ d.6 tt);
          carries = (d.0, refl, d.5);
          passes = passes_by_address d.1 (plain t) v (d.0 ∷ []) o.address (d.0, refl, d.3, d.4);
          keeps = d.7;
          room = d.8;
          chosen = λ e w is u r. ap (λ w. D.chooses w) (sym (head_same is)) ∙ d.9 u r;
        }

    -- a parameter that was lifted
    pub record Lifted (whole : Tree) (t : Tree) (v : V) (w : ℕ) (stack : List (Item V W)) (m : M) : Type 0 where
      pub name : Option Tree
      pub goes : Goes (get_args w (param_words (plain t)) ++ emit (lift_at whole t) ∷ []) (at stack m) (at (value_item v name ∷ stack) m)

    pub lift_one : (carried : Option Tree) (whole : Tree) (t : Tree) (way : Way carried whole t) (v : V) (words : List W) (w : ℕ) (stack : List (Item V W)) (m : M) → StandAt side.arguments w (map word_item words) → Carries m carried whole t way v words → Lifted whole t v w stack m
    lift_one carried whole t (one_word x o) v words w stack m stands c =
        let st = subst (λ ws. StandAt side.arguments w (map word_item ws)) c.1 stands in
        let lifts = row_goes (lift_at whole t) (lifting x) (word_item c.0 ∷ stack) (plain_item v ∷ stack) m m o.lift (ap (λ r. if_found r (λ v. went (at (plain_item v ∷ stack) m))) c.2) in
        record { name = None; goes = subst (λ ps. Goes (get_args w ps ++ emit (lift_at whole t) ∷ []) (at stack m) (at (value_item v None ∷ stack) m)) (sym o.types) (runs_then (get_goes w (word_item c.0) stack m st.0) lifts) }
    lift_one carried whole t (two_words o) v words w stack m stands c =
        let st = subst (λ ws. StandAt side.arguments w (map word_item ws)) c.2 stands in
        let lifts = row_goes (lift_at whole t) list_from_pointer_length (word_item c.1 ∷ word_item c.0 ∷ stack) (plain_item v ∷ stack) m m o.lift (ap (λ r. if_found r (λ v. went (at (plain_item v ∷ stack) m))) c.3) in
        record { name = None; goes = subst (λ q. Goes (get_args w (param_words q) ++ emit (lift_at whole t) ∷ []) (at stack m) (at (value_item v None ∷ stack) m)) (sym o.is_list) (runs_then (get_goes w (word_item c.0) stack m st.0) (runs_then (get_goes (w + 1) (word_item c.1) (word_item c.0 ∷ stack) m st.1.0) lifts)) }
    lift_one carried whole t (by_cell o) v words w stack m stands c =
        let st = subst (λ ws. StandAt side.arguments w (map word_item ws)) c.1 stands in
        let lifts = row_goes (lift_at whole t) (load whole) (word_item c.0 ∷ stack) (value_item v (Some whole) ∷ stack) m m o.lift (ap (λ r. if_found r (λ v. went (at (value_item v (Some whole) ∷ stack) m))) c.2) in
        record { name = Some whole; goes = subst (λ ps. Goes (get_args w ps ++ emit (lift_at whole t) ∷ []) (at stack m) (at (value_item v (Some whole) ∷ stack) m)) (sym o.types) (runs_then (get_goes w (word_item c.0) stack m st.0) lifts) }

    -- from one word that is on the stack
    pub lift_word : (carried : Option Tree) (whole : Tree) (t : Tree) (way : Way carried whole t) (v : V) (words : List W) (w : W) (stack : List (Item V W)) (m : M) → words ≡ w ∷ [] → Carries m carried whole t way v words → (name : Option Tree) × Goes (emit (lift_at whole t) ∷ []) (at (word_item w ∷ stack) m) (at (value_item v name ∷ stack) m)
    lift_word carried whole t (one_word x o) v words w stack m is c =
        let same : w ≡ c.0 = head_same (sym is ∙ c.1) in
        (None, row_goes (lift_at whole t) (lifting x) (word_item w ∷ stack) (plain_item v ∷ stack) m m o.lift (ap (λ r. if_found r (λ v. went (at (plain_item v ∷ stack) m))) (ap (λ w. D.lift x w) same ∙ c.2)))
    lift_word carried whole t (two_words o) v words w stack m is c = absurd (too_many (sym is ∙ c.2))
      where
        too_many : w ∷ [] ≡ c.0 ∷ c.1 ∷ [] → ⊥
        too_many e = cc
    lift_word carried whole t (by_cell o) v words w stack m is c =
        let same : w ≡ c.0 = head_same (sym is ∙ c.1) in
        (Some whole, row_goes (lift_at whole t) (load whole) (word_item w ∷ stack) (value_item v (Some whole) ∷ stack) m m o.lift (ap (λ r. if_found r (λ v. went (at (value_item v (Some whole) ∷ stack) m))) (ap (λ w. D.get whole w m) same ∙ c.2)))

    -- several parameters
    pub record LoweredParams (ts : List Tree) (ways : Ways ts) (vs : List V) (i n : ℕ) (stack : List (Item V W)) (m : M) : Type 0 where
      pub words : List W
      pub memory : M
      pub goes : Goes (lower_params i ts) (at stack m) (at (pushed (map word_item words) stack) memory)
      pub passed : PassedAll memory ts ways vs words
      pub keeps : L.Keeps m memory
      pub room : L.Room n memory

    pub params_lowered : (ts : List Tree) (ways : Ways ts) (vs : List V) (i n : ℕ) (stack : List (Item V W)) (m : M) → AreArguments ts vs → StandAt side.arguments i (argument_items ts vs) → L.Room (n + length ts) m → LoweredParams ts ways vs i n stack m
    params_lowered [] ways [] i n stack m h stands room =
        let e : n + 0 ≡ n = omega arith in
        record { words = []; memory = m; goes = runs_none (at stack m); passed = refl; keeps = L.keeps_all m; room = subst (λ k. L.Room k m) e room }
    params_lowered [] ways (v ∷ vs) i n stack m h stands room = absurd h
    params_lowered (t ∷ ts) ways [] i n stack m h stands room = absurd h
    params_lowered (t ∷ ts) ways (v ∷ vs) i n stack m h stands room =
        let e : n + length (t ∷ ts) ≡ suc (n + length ts) = omega arith in
        let one = lower_one (name_of t) t t ways.0 v (n + length ts) stack m h.0 (subst (λ k. L.Room k m) e room) in
        let more = params_lowered ts ways.1 vs (i + 1) n (pushed (map word_item one.words) stack) one.memory h.1 stands.1 one.room in
        record {
          words = one.words ++ more.words;
          memory = more.memory;
          goes = subst (λ st. Goes (lower_params i (t ∷ ts)) (at stack m) (at st more.memory)) (pushed_words one.words more.words stack) (runs_then (get_goes i (value_item v (name_of t)) stack m stands.0) (runs_then one.lowers more.goes));
          passed = (one.words, more.words, refl, passed_kept one.memory more.memory t ways.0 v one.words more.keeps (record { types = one.types; carries = one.carries; passes = one.passes }), more.passed);
          keeps = L.keeps_then m one.memory more.memory one.keeps more.keeps;
          room = more.room;
        }

    pub record LiftedParams (ts : List Tree) (vs : List V) (w : ℕ) (stack : List (Item V W)) (m : M) : Type 0 where
      pub items : List (Item V W)
      pub goes : Goes (lift_params w ts) (at stack m) (at (pushed items stack) m)
      pub values : AreItemsOf items vs

    pub params_lifted : (ts : List Tree) (ways : Ways ts) (vs : List V) (words : List W) (w : ℕ) (stack : List (Item V W)) (m : M) → PassedAll m ts ways vs words → StandAt side.arguments w (map word_item words) → LiftedParams ts vs w stack m
    params_lifted [] ways [] words w stack m p stands = record { items = []; goes = runs_none (at stack m); values = tt }
    params_lifted [] ways (v ∷ vs) words w stack m p stands = absurd p
    params_lifted (t ∷ ts) ways [] words w stack m p stands = absurd p
    params_lifted (t ∷ ts) ways (v ∷ vs) words w stack m p stands =
        let stands' = subst (λ ws. StandAt side.arguments w (map word_item ws)) p.2 stands in
        let one = lift_one (name_of t) t t ways.0 v p.0 w stack m (stand_front side.arguments w p.0 p.1 stands') p.3.carries in
        let long : w + length p.0 ≡ w + length (param_words (plain t)) = ap (λ n. w + n) (sym (typed_length D (param_words (plain t)) p.0 p.3.types)) in
        let back = subst (λ w. StandAt side.arguments w (map word_item p.1)) long (stand_back side.arguments w p.0 p.1 stands') in
        let more = params_lifted ts ways.1 vs p.1 (w + length (param_words (plain t))) (value_item v one.name ∷ stack) m p.4 back in
        record {
          items = value_item v one.name ∷ more.items;
          goes = subst (λ es. Goes es (at stack m) (at (pushed more.items (value_item v one.name ∷ stack)) m)) (append_assoc (get_args w (param_words (plain t))) (emit (lift_step t) ∷ []) _) (runs_then one.goes more.goes);
          values = (refl, more.values);
        }
