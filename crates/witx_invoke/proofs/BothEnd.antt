-- Runs of the same traces over two domains with the same values and words, which both end.
-- Where the domains answer alike wherever both answer, their outcomes are the same but for the memories, and those are related.
use Rattle.std.proofs.Common.{◌≡◌, ℕ, zero, suc, Bool, true, false, cond, refl, sym, ap, subst, Option, Some, None, List, [], ◌∷◌, ◌++◌, slice_get, map, length}
use Rattle.witx_ast.specs.Tree.{Tree}
use Rattle.witx_machine.specs.declared.surface.WasmType.{WasmType}
use Rattle.witx_machine.specs.Words.{Scalar}
use Rattle.witx_machine.specs.Events.{Event, emit, space, push, finish}
use Rattle.witx_machine.specs.Functions.{Function}
use Rattle.witx_machine.specs.Rows.{Row, row, get_arg, addr_of, lowering, lifting, list_pointer_length, list_from_pointer_length, return_pointer_get, load, store, tuple_lift, tuple_lower, variant_payload, reuse_return, result_lower, result_lift, call_wasm, call_interface, returns}
use Rattle.witx_machine.specs.Machine.{Domain, Tried, went, no_rule, stuck_at, if_found, goes_on, only, Item, word_item, value_item, plain_item, Block, State, Inside, outside, in_lower, in_lift, Side, is_nil, slot_word, values_off, items_off, words_off, pushed, top_word, top_value, two_blocks, payload_item, payload_in, with_stack, left_over, return_items, run_block, block_word, lifted_payload, act, give_slot, Flow, flowing, gathering, after, set_aside, flows, gathers, play, runs_within, ended, run_trace}
use Rattle.witx_machine.specs.Signature.{signature_results}
use Rattle.witx_machine.proofs.Simulation.{Both}
use Rattle.witx_machine.specs.Run.{words_in, typed, reply_items, Call, Outcome, start, Receiver, picked_in_order, callee_side, answered, handed_on, caller_side, run_to}

-- where both have an answer, the answers are related
abbrev pub Meets : {A B : Type 0} → (A → B → Type 0) → Option A → Option B → Type 0
Meets R None p = Unit {0}
Meets R (Some x) None = Unit {0}
Meets R (Some x) (Some y) = R x y

-- where both went on, they went on to what is related
abbrev pub Joins : {P P' A B : Type 0} → (A → B → Type 0) → Tried P A → Tried P' B → Type 0
Joins R (went x) (went y) = R x y
Joins R (went x) no_rule = Unit {0}
Joins R (went x) (stuck_at p) = Unit {0}
Joins R no_rule t = Unit {0}
Joins R (stuck_at p) t = Unit {0}

pub meets_self : {A : Type 0} (o : Option A) → Meets ◌≡◌ o o
meets_self None = tt
meets_self (Some x) = refl

pub meets_same : {A : Type 0} (o p : Option A) → o ≡ p → Meets ◌≡◌ o p
meets_same o p e = subst (λ p. Meets ◌≡◌ o p) e (meets_self o)

stops : {P C D : Type 0} (P' : Type 0) (S : C → D → Type 0) (t : Tried P C) → Joins {P' = P'} S t no_rule
stops P' S (went x) = tt
stops P' S no_rule = tt
stops P' S (stuck_at p) = tt

module _ {P P' C D : Type 0} (S : C → D → Type 0) where
  stuck : (p : P') (t : Tried P C) → Joins S t (stuck_at p)
  stuck p (went x) = tt
  stuck p no_rule = tt
  stuck p (stuck_at q) = tt

  only_joins : (b b' : Bool) (t : Tried P C) (t' : Tried P' D) → Joins S t t' → Joins S (only b t) (only b' t')
  only_joins false b' t t' h = tt
  only_joins true false t t' h = stops P' S t
  only_joins true true t t' h = h

  cond_joins : (p : P) (p' : P') (b b' : Bool) (t : Tried P C) (t' : Tried P' D) → Joins S t t' → Joins S (cond b t (stuck_at p)) (cond b' t' (stuck_at p'))
  cond_joins p p' false b' t t' h = tt
  cond_joins p p' true false t t' h = stuck p' t
  cond_joins p p' true true t t' h = h

module _ {P P' A B C D : Type 0} (S : C → D → Type 0) where
  found_joins : (R : A → B → Type 0) (f : A → Tried P C) (g : B → Tried P' D) (o : Option A) (p : Option B) → Meets R o p → ((x : A) (y : B) → R x y → Joins S (f x) (g y)) → Joins S (if_found o f) (if_found p g)
  found_joins R f g None p h k = tt
  found_joins R f g (Some x) None h k = stops P' S (f x)
  found_joins R f g (Some x) (Some y) h k = k x y h

  next_joins : (R : A → B → Type 0) (f : A → Tried P C) (g : B → Tried P' D) (t : Tried P A) (t' : Tried P' B) → Joins R t t' → ((x : A) (y : B) → R x y → Joins S (f x) (g y)) → Joins S (goes_on t f) (goes_on t' g)
  next_joins R f g (went x) (went y) h k = k x y h
  next_joins R f g (went x) no_rule h k = stops P' S (f x)
  next_joins R f g (went x) (stuck_at p) h k = stuck S p (f x)
  next_joins R f g no_rule t' h k = tt
  next_joins R f g (stuck_at p) t' h k = tt

module _ {P P' A C D : Type 0} (S : C → D → Type 0) where
  -- of one answer
  same_joins : (f : A → Tried P C) (g : A → Tried P' D) (o p : Option A) → Meets ◌≡◌ o p → ((x : A) → Joins S (f x) (g x)) → Joins S (if_found o f) (if_found p g)
  same_joins f g o p h k = found_joins S ◌≡◌ f g o p h (λ x y e. subst (λ y. Joins S (f x) (g y)) e (k x))

  one_joins : (f : A → Tried P C) (g : A → Tried P' D) (o : Option A) → ((x : A) → Joins S (f x) (g x)) → Joins S (if_found o f) (if_found o g)
  one_joins f g o k = same_joins f g o o (meets_self o) k

module _ {P P' V W C D : Type 0} (S : C → D → Type 0) where
  word_joins : (f : W → List (Item V W) → Tried P C) (g : W → List (Item V W) → Tried P' D) (xs : List (Item V W)) → ((w : W) (rest : List (Item V W)) → Joins S (f w rest) (g w rest)) → Joins S (top_word xs f) (top_word xs g)
  word_joins f g [] k = tt
  word_joins f g (word_item w ∷ rest) k = k w rest
  word_joins f g (value_item v t ∷ rest) k = tt

  value_joins : (f : V → Option Tree → List (Item V W) → Tried P C) (g : V → Option Tree → List (Item V W) → Tried P' D) (xs : List (Item V W)) → ((v : V) (t : Option Tree) (rest : List (Item V W)) → Joins S (f v t rest) (g v t rest)) → Joins S (top_value xs f) (top_value xs g)
  value_joins f g [] k = tt
  value_joins f g (word_item w ∷ rest) k = tt
  value_joins f g (value_item v t ∷ rest) k = k v t rest

blocks_join : {P P' E C D : Type 0} (S : C → D → Type 0) (f : Block E → Block E → List (Block E) → Tried P C) (g : Block E → Block E → List (Block E) → Tried P' D) (xs : List (Block E)) → ((a b : Block E) (m : List (Block E)) → Joins S (f a b m) (g a b m)) → Joins S (two_blocks xs f) (two_blocks xs g)
blocks_join S f g [] k = tt
blocks_join S f g (b ∷ []) k = tt
blocks_join S f g (b ∷ a ∷ m) k = k a b m

module _ {V W M M' : Type 0} (D : Domain V W M) (D' : Domain V W M') (RM : M → M' → Type 0) where
  abbrev pub Gives : W × M → W × M' → Type 0
  Gives p q = (p.0 ≡ q.0) × RM p.1 q.1

  -- wherever both domains answer, they answer alike
  pub record Alike : Type 0 where
    pub lower : (x : Scalar) (v : V) → Meets ◌≡◌ (D.lower x v) (D'.lower x v)
    pub lift : (x : Scalar) (w : W) → Meets ◌≡◌ (D.lift x w) (D'.lift x w)
    pub list_words : (v : V) → Meets ◌≡◌ (D.list_words v) (D'.list_words v)
    pub list_value : (a l : W) → Meets ◌≡◌ (D.list_value a l) (D'.list_value a l)
    pub tuple : (vs : List V) → D.tuple vs ≡ D'.tuple vs
    pub parts : (n : ℕ) (v : V) → Meets ◌≡◌ (D.parts n v) (D'.parts n v)
    pub give : (t : Tree) (m : M) (m' : M') → RM m m' → Meets Gives (D.give t m) (D'.give t m')
    pub put : (t : Tree) (v : V) (m : M) (m' : M') → RM m m' → Meets Gives (D.put t v m) (D'.put t v m')
    pub get : (t : Tree) (w : W) (m : M) (m' : M') → RM m m' → Meets ◌≡◌ (D.get t w m) (D'.get t w m')
    pub set : (t : Tree) (w : W) (v : V) (m : M) (m' : M') → RM m m' → Meets RM (D.set t w v m) (D'.set t w v m')
    pub picks : (ok err : Option Tree) (v : V) → Meets ◌≡◌ (D.picks ok err v) (D'.picks ok err v)
    pub case_word : (e : Bool) → D.case_word e ≡ D'.case_word e
    pub chooses : (w : W) → Meets ◌≡◌ (D.chooses w) (D'.chooses w)
    pub result : (e : Bool) (p : Option V) → D.result e p ≡ D'.result e p

  pub record Calls (c : Call V W M) (c' : Call V W M') : Type 0 where
    pub words : c'.words ≡ c.words
    pub at_call : RM c.at_call c'.at_call
    pub noted : c'.noted ≡ c.noted
    pub callee_words : c'.callee_words ≡ c.callee_words
    pub at_return : RM c.at_return c'.at_return

  pub record Outcomes (o : Outcome V W M) (o' : Outcome V W M') : Type 0 where
    pub call : Calls o.call o'.call
    pub back : o'.back ≡ o.back
    pub memory : RM o.memory o'.memory

  module _ (H : Alike) where
    word_of_block : (e : Bool) (x : Option (Item V W)) → Meets ◌≡◌ (block_word D e x) (block_word D' e x)
    word_of_block e None = H.case_word e
    word_of_block e (Some (value_item v t)) = tt
    word_of_block e (Some (word_item w)) = by (D.has_type WasmType.I32 w) (D'.has_type WasmType.I32 w)
      where
        by : (b b' : Bool) → Meets ◌≡◌ (cond b (Some w) None) (cond b' (Some w) None)
        by false b' = tt
        by true false = tt
        by true true = refl

    module _ {P P' E : Type 0} (event : E → Event) (place : E → P) (place' : E → P') where
      module _ {C C' : Type 0} (RC : C → C' → Type 0) where
        -- the same state, with another memory and another call
        abbrev pub moved : State E V W M C → M' → Option C' → State E V W M' C'
        moved s m c = record { stack = s.stack; slots = s.slots; memory = m; blocks = s.blocks; returned = s.returned; called = c; answer = s.answer }

        pub record Beside (s : State E V W M C) (s' : State E V W M' C') : Type 0 where
          pub memory : M'
          pub called : Option C'
          pub is : s' ≡ moved s memory called
          pub remembers : RM s.memory memory
          pub calls : Both RC s.called called

        stacked : (xs : List (Item V W)) (s : State E V W M C) (s' : State E V W M' C') → Beside s s' → Beside (with_stack xs s) (with_stack xs s')
        stacked xs s s' r = record { memory = r.memory; called = r.called; is = ap (with_stack xs) r.is; remembers = r.remembers; calls = r.calls }

        -- what is to be shown of s' is shown of the moved state
        of_moved : {A B : Type 0} (S : A → B → Type 0) (t : Tried P A) (g : State E V W M' C' → Tried P' B) (s : State E V W M C) (s' : State E V W M' C') → Beside s s' → ((m : M') (c : Option C') → RM s.memory m → Both RC s.called c → Joins S t (g (moved s m c))) → Joins S t (g s')
        of_moved S t g s s' r k = subst (λ s'. Joins S t (g s')) (sym r.is) (k r.memory r.called r.remembers r.calls)

        abbrev pub Left : Option (Item V W) × State E V W M C → Option (Item V W) × State E V W M' C' → Type 0
        Left p q = (p.0 ≡ q.0) × Beside p.1 q.1

        abbrev pub Ends : C × List (Item V W) × State E V W M C → C' × List (Item V W) × State E V W M' C' → Type 0
        Ends p q = RC p.0 q.0 × (q.1 ≡ p.1) × Beside p.2 q.2

        left_joins : (p : P) (p' : P') (v : Bool) (xs : List (Item V W)) (s : State E V W M C) (s' : State E V W M' C') → Beside s s' → Joins Left (left_over p v xs s) (left_over p' v xs s')
        left_joins p p' true [] s s' r = tt
        left_joins p p' true (x ∷ []) s s' r = (refl, r)
        left_joins p p' true (x ∷ y ∷ xs) s s' r = tt
        left_joins p p' false [] s s' r = (refl, r)
        left_joins p p' false (x ∷ xs) s s' r = tt

        module _ (side : Side P E V W M C) (side' : Side P' E V W M' C') (arguments : side'.arguments ≡ side.arguments)
            (wasm : (m n : List ℕ) (ps rs : List WasmType) (s : State E V W M C) (s' : State E V W M' C') → Beside s s' → Joins Beside (side.on_wasm m n ps rs s) (side'.on_wasm m n ps rs s'))
            (interface : (m n : List ℕ) (ps rs : List Tree) (s : State E V W M C) (s' : State E V W M' C') → Beside s s' → Joins Beside (side.on_interface m n ps rs s) (side'.on_interface m n ps rs s')) where
          abbrev RunsJoin : (Inside V W → List E → State E V W M C → Tried P (State E V W M C)) → (Inside V W → List E → State E V W M' C' → Tried P' (State E V W M' C')) → Type 0
          RunsJoin runs runs' = (inside : Inside V W) (es : List E) (s : State E V W M C) (s' : State E V W M' C') → Beside s s' → Joins Beside (runs inside es s) (runs' inside es s')

          module _ (runs : Inside V W → List E → State E V W M C → Tried P (State E V W M C)) (runs' : Inside V W → List E → State E V W M' C' → Tried P' (State E V W M' C')) (join : RunsJoin runs runs') (inside : Inside V W) where
            block_joins : (i : Inside V W) (b : Block E) (s : State E V W M C) (s' : State E V W M' C') → Beside s s' → Joins Left (run_block event place D side runs i b s) (run_block event place' D' side' runs' i b s')
            block_joins i b s s' r =
                next_joins Left Beside (λ s. left_over (place b.end) b.has_value s.stack s) (λ s. left_over (place' b.end) b.has_value s.stack s) (runs i b.events (with_stack [] s)) (runs' i b.events (with_stack [] s'))
                (join i b.events (with_stack [] s) (with_stack [] s') (stacked [] s s' r))
                (λ x y q. subst (λ xs. Joins Left (left_over (place b.end) b.has_value x.stack x) (left_over (place' b.end) b.has_value xs y)) (sym (ap (λ s. s.stack) q.is)) (left_joins (place b.end) (place' b.end) b.has_value x.stack x y q))

            module _ (s : State E V W M C) (m : M') (c : Option C') (r : RM s.memory m) (q : Both RC s.called c) where
              abbrev new : State E V W M' C'
              new = moved s m c

              -- another stack
              onto : (xs : List (Item V W)) → Joins {P = P} {P' = P'} Beside (went (with_stack xs s)) (went (with_stack xs new))
              onto xs = record { memory = m; called = c; is = refl; remembers = r; calls = q }

              lowered : (rest : List (Item V W)) (a b : Block E) (more : List (Block E)) (d : Bool × Option (V × Option Tree)) →
                  Joins Beside (goes_on (run_block event place D side runs (in_lower (payload_item d.1)) (cond d.0 b a) (record s { blocks = more })) (λ r. if_found (block_word D d.0 r.0) (λ w. went (with_stack (word_item w ∷ rest) r.1))))
                  (goes_on (run_block event place' D' side' runs' (in_lower (payload_item d.1)) (cond d.0 b a) (record new { blocks = more })) (λ r. if_found (block_word D' d.0 r.0) (λ w. went (with_stack (word_item w ∷ rest) r.1))))
              lowered rest a b more d =
                  next_joins Beside Left _ _ _ _ (block_joins (in_lower (payload_item d.1)) (cond d.0 b a) (record s { blocks = more }) (record new { blocks = more }) (record { memory = m; called = c; is = refl; remembers = r; calls = q }))
                  (λ x y l. same_joins Beside _ _ (block_word D d.0 x.0) (block_word D' d.0 y.0) (subst (λ o. Meets ◌≡◌ (block_word D d.0 x.0) (block_word D' d.0 o)) l.0 (word_of_block d.0 x.0)) (λ w. stacked (word_item w ∷ rest) x.1 y.1 l.1))

              lifted : (rest : List (Item V W)) (a b : Block E) (more : List (Block E)) (e : Bool) →
                  Joins Beside (goes_on (run_block event place D side runs in_lift (cond e b a) (record s { blocks = more })) (λ r. if_found (lifted_payload r.0) (λ p. went (with_stack (plain_item (D.result e p) ∷ rest) r.1))))
                  (goes_on (run_block event place' D' side' runs' in_lift (cond e b a) (record new { blocks = more })) (λ r. if_found (lifted_payload r.0) (λ p. went (with_stack (plain_item (D'.result e p) ∷ rest) r.1))))
              lifted rest a b more e =
                  next_joins Beside Left _ _ _ _ (block_joins in_lift (cond e b a) (record s { blocks = more }) (record new { blocks = more }) (record { memory = m; called = c; is = refl; remembers = r; calls = q }))
                  (λ x y l. same_joins Beside _ _ (lifted_payload x.0) (lifted_payload y.0) (meets_same _ _ (ap lifted_payload l.0)) (λ p. subst (λ v. Beside (with_stack (plain_item (D.result e p) ∷ rest) x.1) (with_stack (plain_item v ∷ rest) y.1)) (H.result e p) (stacked (plain_item (D.result e p) ∷ rest) x.1 y.1 l.1)))

              act_moved : (x : Row) → Joins Beside (act event place D side runs inside x s) (act event place' D' side' runs' inside x new)
              act_moved (get_arg i) = same_joins Beside _ _ (slice_get side.arguments i) (slice_get side'.arguments i) (meets_same _ _ (ap (λ xs. slice_get xs i) (sym arguments))) (λ x. onto (x ∷ s.stack))
              act_moved addr_of = value_joins Beside _ _ s.stack (λ v t rest. one_joins Beside _ _ t (λ t. found_joins Beside Gives _ _ (D.put t v s.memory) (D'.put t v m) (H.put t v s.memory m r) (λ x y g. record { memory = y.1; called = c; is = ap (λ w. record { stack = word_item w ∷ rest; slots = s.slots; memory = y.1; blocks = s.blocks; returned = s.returned; called = c; answer = s.answer }) (sym g.0); remembers = g.1; calls = q })))
              act_moved (lowering x) = value_joins Beside _ _ s.stack (λ v t rest. same_joins Beside _ _ (D.lower x v) (D'.lower x v) (H.lower x v) (λ w. onto (word_item w ∷ rest)))
              act_moved (lifting x) = word_joins Beside _ _ s.stack (λ w rest. same_joins Beside _ _ (D.lift x w) (D'.lift x w) (H.lift x w) (λ v. onto (plain_item v ∷ rest)))
              act_moved list_pointer_length = value_joins Beside _ _ s.stack (λ v t rest. same_joins Beside _ _ (D.list_words v) (D'.list_words v) (H.list_words v) (λ ws. onto (word_item ws.1 ∷ word_item ws.0 ∷ rest)))
              act_moved list_from_pointer_length = word_joins Beside _ _ s.stack (λ l rest. word_joins Beside _ _ rest (λ a rest. same_joins Beside _ _ (D.list_value a l) (D'.list_value a l) (H.list_value a l) (λ v. onto (plain_item v ∷ rest))))
              act_moved (return_pointer_get k) = one_joins Beside _ _ (slot_word k s.slots) (λ w. onto (word_item w ∷ s.stack))
              act_moved (load t) = word_joins Beside _ _ s.stack (λ a rest. same_joins Beside _ _ (D.get t a s.memory) (D'.get t a m) (H.get t a s.memory m r) (λ v. onto (value_item v (Some t) ∷ rest)))
              act_moved (store t) = word_joins Beside _ _ s.stack (λ a rest. value_joins Beside _ _ rest (λ v n rest. found_joins Beside RM _ _ (D.set t a v s.memory) (D'.set t a v m) (H.set t a v s.memory m r) (λ x y g. record { memory = y; called = c; is = refl; remembers = g; calls = q })))
              act_moved (tuple_lift n) = one_joins Beside _ _ (values_off n [] s.stack) (λ p. subst (λ v. Joins {P = P} {P' = P'} Beside (went (with_stack (plain_item (D.tuple p.0) ∷ p.1) s)) (went (with_stack (plain_item v ∷ p.1) new))) (H.tuple p.0) (onto (plain_item (D.tuple p.0) ∷ p.1)))
              act_moved (tuple_lower n) = value_joins Beside _ _ s.stack (λ v t rest. same_joins Beside _ _ (D.parts n v) (D'.parts n v) (H.parts n v) (λ vs. onto (pushed (map plain_item vs) rest)))
              act_moved variant_payload = one_joins Beside _ _ (payload_in inside) (λ x. onto (x ∷ s.stack))
              act_moved reuse_return = one_joins Beside _ _ s.returned (λ w. onto (word_item w ∷ s.stack))
              act_moved (result_lower ok err) = only_joins Beside (side.has_cases ok err) (side'.has_cases ok err) _ _ (value_joins Beside _ _ s.stack (λ v t rest. blocks_join Beside _ _ s.blocks (λ a b more. same_joins Beside _ _ (D.picks ok err v) (D'.picks ok err v) (H.picks ok err v) (lowered rest a b more))))
              act_moved result_lift = word_joins Beside _ _ s.stack (λ w rest. blocks_join Beside _ _ s.blocks (λ a b more. same_joins Beside _ _ (D.chooses w) (D'.chooses w) (H.chooses w) (lifted rest a b more)))
              act_moved (call_wasm k n ps rs) = wasm k n ps rs s new (record { memory = m; called = c; is = refl; remembers = r; calls = q })
              act_moved (call_interface k n ps rs) = interface k n ps rs s new (record { memory = m; called = c; is = refl; remembers = r; calls = q })
              act_moved (returns n) = by inside
                where
                  by : (i : Inside V W) → Joins {P = P} {P' = P'} Beside (return_items n i s) (return_items n i new)
                  by outside = one_joins Beside _ _ (items_off n [] s.stack) (λ p. only_joins Beside _ _ (went (record s { stack = p.1; answer = Some p.0 })) (went (record new { stack = p.1; answer = Some p.0 })) (record { memory = m; called = c; is = refl; remembers = r; calls = q }))
                  by (in_lower x) = tt
                  by in_lift = tt

              slot_moved : (k : ℕ) (t : Tree) (o : Option W) → Joins Beside (give_slot event place D side runs inside k t o s) (give_slot event place' D' side' runs' inside k t o new)
              slot_moved k t (Some w) = tt
              slot_moved k t None = found_joins Beside Gives _ _ (D.give t s.memory) (D'.give t m) (H.give t s.memory m r) (λ x y g. record { memory = y.1; called = c; is = ap (λ w. record { stack = s.stack; slots = (k, w) ∷ s.slots; memory = y.1; blocks = s.blocks; returned = s.returned; called = c; answer = s.answer }) (sym g.0); remembers = g.1; calls = q })

            act_joins : (x : Row) (s : State E V W M C) (s' : State E V W M' C') → Beside s s' → Joins Beside (act event place D side runs inside x s) (act event place' D' side' runs' inside x s')
            act_joins x s s' b = of_moved Beside (act event place D side runs inside x s) (act event place' D' side' runs' inside x) s s' b (λ m c r q. act_moved s m c r q x)

            space_joins : (k : ℕ) (t : Tree) (s : State E V W M C) (s' : State E V W M' C') → Beside s s' → Joins Beside (give_slot event place D side runs inside k t (slot_word k s.slots) s) (give_slot event place' D' side' runs' inside k t (slot_word k s'.slots) s')
            space_joins k t s s' b = of_moved Beside (give_slot event place D side runs inside k t (slot_word k s.slots) s) (λ s'. give_slot event place' D' side' runs' inside k t (slot_word k s'.slots) s') s s' b (λ m c r q. slot_moved s m c r q k t (slot_word k s.slots))

            abbrev FlowsJoin : (Flow E → State E V W M C → Tried P (State E V W M C)) → (Flow E → State E V W M' C' → Tried P' (State E V W M' C')) → Type 0
            FlowsJoin f g = (fl : Flow E) (s : State E V W M C) (s' : State E V W M' C') → Beside s s' → Joins Beside (f fl s) (g fl s')

            after_joins : (p : P) (p' : P') (last : Bool) (t : Tried P (State E V W M C)) (t' : Tried P' (State E V W M' C')) (go : State E V W M C → Tried P (State E V W M C)) (go' : State E V W M' C' → Tried P' (State E V W M' C')) → Joins Beside t t' → ((x : State E V W M C) (y : State E V W M' C') → Beside x y → Joins Beside (go x) (go' y)) → Joins Beside (after p last t go) (after p' last t' go')
            after_joins p p' last (went x) (went y) go go' h k = cond_joins Beside p p' _ _ (go x) (go' y) (k x y h)
            after_joins p p' last (went x) no_rule go go' h k = stuck Beside p' _
            after_joins p p' last (went x) (stuck_at q) go go' h k = stuck Beside q _
            after_joins p p' last no_rule t' go go' h k = tt
            after_joins p p' last (stuck_at q) t' go go' h k = tt

            flows_join : (x : Event) (e : E) (last : Bool) (f : Flow E → State E V W M C → Tried P (State E V W M C)) (g : Flow E → State E V W M' C' → Tried P' (State E V W M' C')) → FlowsJoin f g → (s : State E V W M C) (s' : State E V W M' C') → Beside s s' → Joins Beside (flows event place D side runs inside x e last f s) (flows event place' D' side' runs' inside x e last g s')
            flows_join (emit x) e last f g h s s' b = after_joins (place e) (place' e) last _ _ (f flowing) (g flowing) (act_joins (row x) s s' b) (λ t t' q. h flowing t t' q)
            flows_join (space k t) e last f g h s s' b = after_joins (place e) (place' e) last _ _ (f flowing) (g flowing) (space_joins k t s s' b) (λ t t' q. h flowing t t' q)
            flows_join push e last f g h s s' b = h (gathering e 0 []) s s' b
            flows_join (finish v) e last f g h s s' b = tt

            gathers_join : (x : Event) (e b : E) (d : ℕ) (es : List E) (f : Flow E → State E V W M C → Tried P (State E V W M C)) (g : Flow E → State E V W M' C' → Tried P' (State E V W M' C')) → FlowsJoin f g → (s : State E V W M C) (s' : State E V W M' C') → Beside s s' → Joins Beside (gathers event place D side x e b d es f s) (gathers event place' D' side' x e b d es g s')
            gathers_join (emit x) e b d es f g h s s' r = h (gathering b d (es ++ e ∷ [])) s s' r
            gathers_join (space n t) e b d es f g h s s' r = h (gathering b d (es ++ e ∷ [])) s s' r
            gathers_join push e b d es f g h s s' r = h (gathering b (suc d) (es ++ e ∷ [])) s s' r
            gathers_join (finish v) e b zero es f g h s s' r = h flowing (set_aside es v e s) (set_aside es v e s') (record { memory = r.memory; called = r.called; is = ap (set_aside es v e) r.is; remembers = r.remembers; calls = r.calls })
            gathers_join (finish v) e b (suc d) es f g h s s' r = h (gathering b d (es ++ e ∷ [])) s s' r

            play_joins : (es : List E) → FlowsJoin (play event place D side runs inside es) (play event place' D' side' runs' inside es)
            play_joins [] flowing s s' b = b
            play_joins [] (gathering g d es) s s' b = tt
            play_joins (e ∷ es) flowing s s' b = flows_join (event e) e (is_nil es) (play event place D side runs inside es) (play event place' D' side' runs' inside es) (play_joins es) s s' b
            play_joins (e ∷ es) (gathering g d gs) s s' b = gathers_join (event e) e g d gs (play event place D side runs inside es) (play event place' D' side' runs' inside es) (play_joins es) s s' b

          runs_join : (n : ℕ) → RunsJoin (runs_within event place D side n) (runs_within event place' D' side' n)
          runs_join zero inside es s s' b = tt
          runs_join (suc n) inside es s s' b = play_joins (runs_within event place D side n) (runs_within event place' D' side' n) (runs_join n) inside es flowing s s' b

          ended_joins : (p : P) (p' : P') (c : Option C) (c' : Option C') (xs : Option (List (Item V W))) (s : State E V W M C) (s' : State E V W M' C') → Both RC c c' → Beside s s' → Joins Ends (ended p c xs s) (ended p' c' xs s')
          ended_joins p p' None c' None s s' h b = tt
          ended_joins p p' (Some c) c' None s s' h b = tt
          ended_joins p p' None c' (Some xs) s s' h b = tt
          ended_joins p p' (Some c) None (Some xs) s s' h b = absurd h
          ended_joins p p' (Some c) (Some c') (Some xs) s s' h b = (h, refl, b)

          pub trace_joins : (p : P) (p' : P') (es : List E) (s : State E V W M C) (s' : State E V W M' C') → Beside s s' → Joins Ends (run_trace event place D side p es s) (run_trace event place' D' side' p' es s')
          trace_joins p p' es s s' b =
              next_joins Ends Beside (λ s. ended p s.called s.answer s) (λ s. ended p' s.called s.answer s) (runs_within event place D side (suc (length es)) outside es s) (runs_within event place' D' side' (suc (length es)) outside es s')
              (runs_join (suc (length es)) outside es s s' b)
              (λ x y q. subst (λ o. Joins Ends (ended p x.called x.answer x) (ended p' y.called o y)) (sym (ap (λ s. s.answer) q.is)) (ended_joins p p' x.called y.called x.answer x y (subst (Both RC x.called) (sym (ap (λ s. s.called) q.is)) q.calls) q))

        started : (a : M) (b : M') → RM a b → Beside (start a) (start b)
        started a b h = record { memory = b; called = None; is = refl; remembers = h; calls = tt }

      -- the callee, a function f of the module m
      module _ (m : List ℕ) (f : Function) (reply : Option V) (words : List W) where
        interface_joins : (k n : List ℕ) (ps rs : List Tree) (s : State E V W M (List V)) (s' : State E V W M' (List V)) → Beside ◌≡◌ s s' → Joins (Beside ◌≡◌) ((callee_side event place D m f reply words).on_interface k n ps rs s) ((callee_side event place' D' m f reply words).on_interface k n ps rs s')
        interface_joins k n ps rs s s' b =
            of_moved ◌≡◌ (Beside ◌≡◌) ((callee_side event place D m f reply words).on_interface k n ps rs s) ((callee_side event place' D' m f reply words).on_interface k n ps rs) s s' b (λ a c r q.
            only_joins (Beside ◌≡◌) _ _ _ _ (one_joins (Beside ◌≡◌) _ _ (values_off (length f.params) [] s.stack) (λ p.
            one_joins (Beside ◌≡◌) _ _ (reply_items f.results reply) (λ xs. record { memory = a; called = Some p.0; is = refl; remembers = r; calls = refl }))))

        callee_joins : (last : P) (last' : P') (callee : List E) (a : M) (b : M') → RM a b → Joins (Ends ◌≡◌) (run_trace event place D (callee_side event place D m f reply words) last callee (start a)) (run_trace event place' D' (callee_side event place' D' m f reply words) last' callee (start b))
        callee_joins last last' callee a b h =
            trace_joins ◌≡◌ (callee_side event place D m f reply words) (callee_side event place' D' m f reply words) refl (λ k n ps rs s s' q. tt) interface_joins last last' callee (start a) (start b) (started ◌≡◌ a b h)

      -- the caller, a function f of the module m, and who gets its words
      module _ (m : List ℕ) (f : Function) (to : Receiver) (last : P) (last' : P') (callee : List E) (arguments : List V) (reply : Option V) where
        handed_joins : (words own : List W) (s : State E V W M (Call V W M)) (a : M') (c : Option (Call V W M')) → RM s.memory a → Both Calls s.called c → Joins (Beside Calls) (handed_on event place D m f to last callee reply words s own) (handed_on event place' D' m f to last' callee reply words (moved Calls s a c) own)
        handed_joins words own s a c r q =
            next_joins (Beside Calls) (Ends ◌≡◌) _ _ _ _ (callee_joins to.module_name to.function reply own last last' callee s.memory a r) (λ x y e.
            same_joins (Beside Calls) _ _ (words_in x.1) (words_in y.1) (meets_same _ _ (ap words_in (sym e.1))) (λ ws.
            only_joins {P = P} {P' = P'} (Beside Calls) (typed D (signature_results f) ws) (typed D' (signature_results f) ws) (went (answered event place D m f to words x.0 ws x.2.memory s)) (went (answered event place' D' m f to words y.0 ws y.2.memory (moved Calls s a c))) (came x y e ws)))
          where
            came : (x : List V × List (Item V W) × State E V W M (List V)) (y : List V × List (Item V W) × State E V W M' (List V)) → Ends ◌≡◌ x y → (ws : List W) → Beside Calls (answered event place D m f to words x.0 ws x.2.memory s) (answered event place' D' m f to words y.0 ws y.2.memory (moved Calls s a c))
            came x y e ws = record {
              memory = y.2.memory;
              called = Some (record { words = words; at_call = a; noted = y.0; callee_words = ws; at_return = y.2.memory });
              is = refl;
              remembers = subst (RM x.2.memory) (sym (ap (λ s. s.memory) e.2.is)) e.2.remembers;
              calls = record { words = refl; at_call = r; noted = sym e.0; callee_words = refl; at_return = subst (RM x.2.memory) (sym (ap (λ s. s.memory) e.2.is)) e.2.remembers };
            }

        wasm_joins : (k n : List ℕ) (ps rs : List WasmType) (s : State E V W M (Call V W M)) (s' : State E V W M' (Call V W M')) → Beside Calls s s' → Joins (Beside Calls) ((caller_side event place D m f to last callee arguments reply).on_wasm k n ps rs s) ((caller_side event place' D' m f to last' callee arguments reply).on_wasm k n ps rs s')
        wasm_joins k n ps rs s s' b =
            of_moved Calls (Beside Calls) ((caller_side event place D m f to last callee arguments reply).on_wasm k n ps rs s) ((caller_side event place' D' m f to last' callee arguments reply).on_wasm k n ps rs) s s' b (λ a c r q.
            only_joins (Beside Calls) _ _ _ _ (one_joins (Beside Calls) _ _ (words_off (length ps) [] s.stack) (λ p.
            only_joins (Beside Calls) _ _ _ _ (one_joins (Beside Calls) _ _ (picked_in_order to.order p.0) (λ own. handed_joins p.0 own (record s { stack = p.1 }) a c r q)))))

        pub run_joins : (p : P) (p' : P') (caller : List E) (a : M) (b : M') → RM a b → Joins Outcomes (run_to event place D m f to p last caller callee arguments reply a) (run_to event place' D' m f to p' last' caller callee arguments reply b)
        run_joins p p' caller a b h =
            next_joins Outcomes (Ends Calls) _ _ _ _
            (trace_joins Calls (caller_side event place D m f to last callee arguments reply) (caller_side event place' D' m f to last' callee arguments reply) refl wasm_joins (λ k n ps rs s s' q. tt) p p' caller (start a) (start b) (started Calls a b h))
            (λ x y e. record { call = e.0; back = e.1; memory = subst (RM x.2.memory) (sym (ap (λ s. s.memory) e.2.is)) e.2.remembers })
