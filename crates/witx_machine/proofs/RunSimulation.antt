-- The two sides together: a whole run is followed by a run over a related domain, with the same receiver.
use Rattle.std.proofs.Common.{◌≡◌, ℕ, zero, suc, Bool, true, false, ◌&&◌, T, refl, sym, ap, ◌∙◌, subst, Option, Some, None, option_and_then, List, [], ◌∷◌, slice_get, map, length}
use Rattle.witx_ast.specs.Tree.{Tree}
use Rattle.witx_base.specs.SameBytes.{same_bytes}
use Rattle.witx_machine.specs.declared.surface.WasmType.{WasmType}
use Rattle.witx_machine.specs.Events.{Event}
use Rattle.witx_machine.specs.Functions.{Function}
use Rattle.witx_machine.specs.Words.{same_types}
use Rattle.witx_machine.specs.Signature.{signature_params, signature_results}
use Rattle.witx_machine.specs.Machine.{Domain, Tried, went, if_found, only, Item, word_item, value_item, State, Inside, Side, Flow, words_off, values_off, play, runs_within, run_trace}
use Rattle.witx_machine.specs.Run.{same_trees, words_in, typed, argument_items, reply_items, one_word, Call, Outcome, start, Receiver, picked_in_order, callee_side, answered, handed_on, called_with, caller_side, run_to}
use Rattle.witx_machine.proofs.Scalars.{both_true, left_true, right_true}
use Rattle.witx_machine.proofs.Simulation.{Follows, Both, Each, Goes, Back, only_if, found_goes, next_goes, only_goes, not_went, not_stuck, went_same, both_follows, both_none, each_at, each_append, each_pushed, Simulates}
use Rattle.witx_machine.proofs.Simulation as sim

-- what is known of the memory after any part of a run is known of the one before
abbrev pub BacksOf : {P E V W M C : Type 0} → (M → Type 0) → (E → Event) → (E → P) → Domain V W M → Side P E V W M C → Type 0
BacksOf {P} {E} {V} {W} {M} {C} G event place D side = (n : ℕ) (i : Inside V W) (es : List E) (fl : Flow E) → Back (λ s. G s.memory) (λ s. G s.memory) (play event place D side (runs_within event place D side n) i es fl)

module _ {V W M V' W' M' : Type 0} (D : Domain V W M) (D' : Domain V' W' M') (RV : V → V' → Type 0) (RI : Option Tree → V → V' → Type 0) (RW : W → W' → Type 0) (RM : M → M' → Type 0) (G : M → Type 0) where
  abbrev pub Items : Item V W → Item V' W' → Type 0
  Items = sim.Items D D' RV RI RW RM G

  words_follow : (xs : List (Item V W)) (ys : List (Item V' W')) → Each Items xs ys → Follows (Each RW) (words_in xs) (words_in ys)
  words_follow [] [] h = tt
  words_follow [] (y ∷ ys) h = absurd h
  words_follow (x ∷ xs) [] h = absurd h
  words_follow (value_item v t ∷ xs) (y ∷ ys) h = tt
  words_follow (word_item w ∷ xs) (value_item v t ∷ ys) h = absurd h.0
  words_follow (word_item w ∷ xs) (word_item w' ∷ ys) h = go (words_in xs) (words_in ys) (words_follow xs ys h.1)
    where
      go : (o : Option (List W)) (p : Option (List W')) → Follows (Each RW) o p → Follows (Each RW) (option_and_then (λ ws. Some (w ∷ ws)) o) (option_and_then (λ ws. Some (w' ∷ ws)) p)
      go None p k = tt
      go (Some x) None k = absurd k
      go (Some x) (Some y) k = (h.0, k)

  off_words : (n : ℕ) (as' : List W) (bs : List W') (xs : List (Item V W)) (ys : List (Item V' W')) → Each RW as' bs → Each Items xs ys → Follows (λ p q. Each RW p.0 q.0 × Each Items p.1 q.1) (words_off n as' xs) (words_off n bs ys)
  off_words zero as' bs xs ys g h = (g, h)
  off_words (suc n) as' bs [] ys g h = tt
  off_words (suc n) as' bs (value_item v t ∷ xs) ys g h = tt
  off_words (suc n) as' bs (word_item w ∷ xs) [] g h = absurd h
  off_words (suc n) as' bs (word_item w ∷ xs) (value_item v t ∷ ys) g h = absurd h.0
  off_words (suc n) as' bs (word_item w ∷ xs) (word_item w' ∷ ys) g h = off_words n (w ∷ as') (w' ∷ bs) xs ys (h.0, g) h.1

  word_items : (ws : List W) (ws' : List W') → Each RW ws ws' → Each Items (map word_item ws) (map word_item ws')
  word_items [] [] h = tt
  word_items [] (w' ∷ ws') h = absurd h
  word_items (w ∷ ws) [] h = absurd h
  word_items (w ∷ ws) (w' ∷ ws') h = (h.0, word_items ws ws' h.1)

  one_both : (ws : List W) (ws' : List W') → Each RW ws ws' → Both RW (one_word ws) (one_word ws')
  one_both [] [] h = tt
  one_both [] (w' ∷ ws') h = absurd h
  one_both (w ∷ ws) [] h = absurd h
  one_both (w ∷ []) (w' ∷ []) h = h.0
  one_both (w ∷ []) (w' ∷ x' ∷ ws') h = absurd h.1
  one_both (w ∷ x ∷ ws) (w' ∷ []) h = absurd h.1
  one_both (w ∷ x ∷ ws) (w' ∷ x' ∷ ws') h = tt

  ordered : (is : List ℕ) (ws : List W) (ws' : List W') → Each RW ws ws' → Follows (Each RW) (picked_in_order is ws) (picked_in_order is ws')
  ordered [] ws ws' h = tt
  ordered (i ∷ is) ws ws' h = go (slice_get ws i) (slice_get ws' i) (picked_in_order is ws) (picked_in_order is ws') (each_at RW ws ws' i h) (ordered is ws ws' h)
    where
      go : (o : Option W) (o' : Option W') (p : Option (List W)) (p' : Option (List W')) → Follows RW o o' → Follows (Each RW) p p' → Follows (Each RW) (option_and_then (λ x. option_and_then (λ more. Some (x ∷ more)) p) o) (option_and_then (λ x. option_and_then (λ more. Some (x ∷ more)) p') o')
      go None o' p p' h k = tt
      go (Some x) None p p' h k = absurd h
      go (Some x) (Some y) None p' h k = tt
      go (Some x) (Some y) (Some xs) None h k = absurd k
      go (Some x) (Some y) (Some xs) (Some ys) h k = (h, k)

  pub record Calls (c : Call V W M) (c' : Call V' W' M') : Type 0 where
    pub words : Each RW c.words c'.words
    pub at_call : RM c.at_call c'.at_call
    pub noted : Each RV c.noted c'.noted
    pub callee_words : Each RW c.callee_words c'.callee_words
    pub at_return : RM c.at_return c'.at_return

  pub record Outcomes (o : Outcome V W M) (o' : Outcome V' W' M') : Type 0 where
    pub call : Calls o.call o'.call
    pub back : Each Items o.back o'.back
    pub memory : RM o.memory o'.memory

  module _ (H : Simulates D D' RV RI RW RM G) where
    typed_also : (ts : List WasmType) (ws : List W) (ws' : List W') → Each RW ws ws' → T (typed D ts ws) → T (typed D' ts ws')
    typed_also [] [] [] h k = tt
    typed_also [] [] (w' ∷ ws') h k = absurd h
    typed_also [] (w ∷ ws) ws' h k = absurd k
    typed_also (t ∷ ts) [] ws' h k = absurd k
    typed_also (t ∷ ts) (w ∷ ws) [] h k = absurd h
    typed_also (t ∷ ts) (w ∷ ws) (w' ∷ ws') h k = both_true _ _ (H.has_type t w w' h.0 (left_true (D.has_type t w) _ k)) (typed_also ts ws ws' h.1 (right_true (D.has_type t w) _ k))

    module _ {P P' E E' : Type 0} (event : E → Event) (event' : E' → Event) (place : E → P) (place' : E' → P') where
      abbrev pub Events : List E → List E' → Type 0
      Events = Each (λ e e'. event e ≡ event' e')

      abbrev CalleeStates : State E V W M (List V) → State E' V' W' M' (List V') → Type 0
      CalleeStates = sim.States D D' RV RI RW RM G H event event' place place' (Each RV)

      abbrev pub CallerStates : (Call V W M → Call V' W' M' → Type 0) → State E V W M (Call V W M) → State E' V' W' M' (Call V' W' M') → Type 0
      CallerStates RC = sim.States D D' RV RI RW RM G H event event' place place' RC

      abbrev CalleeRules : Tried P (State E V W M (List V)) → Tried P' (State E' V' W' M' (List V')) → Type 0
      CalleeRules = Goes (λ s. G s.memory) CalleeStates

      abbrev CallerRules : (Call V W M → Call V' W' M' → Type 0) → Tried P (State E V W M (Call V W M)) → Tried P' (State E' V' W' M' (Call V' W' M')) → Type 0
      CallerRules RC = Goes (λ s. G s.memory) (CallerStates RC)

      started : {C C' : Type 0} (RC : C → C' → Type 0) (a : M) (b : M') → RM a b → sim.States D D' RV RI RW RM G H event event' place place' RC (start a) (start b)
      started RC a b h = record { stack = tt; slots = tt; memory = h; blocks = tt; returned = tt; called = tt; answer = tt }

      -- the callee, a function f of the module m
      module _ (m : List ℕ) (f : Function) where
        abbrev pub Replies : Option V → Option V' → Type 0
        Replies reply reply' = Follows (Each Items) (reply_items f.results reply) (reply_items f.results reply')

        pub callee_interface : (reply : Option V) (reply' : Option V') (words : List W) (words' : List W') → Replies reply reply' → (m' n : List ℕ) (ps rs : List Tree) (s : State E V W M (List V)) (s' : State E' V' W' M' (List V')) → CalleeStates s s' → CalleeRules ((callee_side event place D m f reply words).on_interface m' n ps rs s) ((callee_side event' place' D' m f reply' words').on_interface m' n ps rs s')
        callee_interface reply reply' words words' h m' n ps rs s s' r =
            only_goes _ _ _ _ _ _ (λ t. subst (λ b. T (b && (same_bytes m' m && (same_bytes n f.name && (same_trees ps f.params && same_trees rs f.results))))) (both_none (Each RV) s.called s'.called r.called) t)
            (found_goes _ _ _ _ _ (values_off (length f.params) [] s.stack) (values_off (length f.params) [] s'.stack) (sim.off_values D D' RV RI RW RM G H (length f.params) [] [] s.stack s'.stack tt r.stack) (λ p q k.
            found_goes (Each Items) _ _ _ _ (reply_items f.results reply) (reply_items f.results reply') h (λ xs ys u g.
            record { stack = each_append Items xs p.1 ys q.1 u k.1; slots = r.slots; memory = r.memory; blocks = r.blocks; returned = r.returned; called = k.0; answer = r.answer })))

        -- its two runs
        module _ (backs : (reply : Option V) (words : List W) → BacksOf G event place D (callee_side event place D m f reply words)) where
          callee_trace : (last : P) (last' : P') (callee : List E) (callee' : List E') (reply : Option V) (reply' : Option V') (words : List W) (words' : List W') (a : M) (b : M') → Events callee callee' → Replies reply reply' → Each RW words words' → RM a b → Goes (λ r. G r.2.memory) (λ r r'. Each RV r.0 r'.0 × Each Items r.1 r'.1 × CalleeStates r.2 r'.2) (run_trace event place D (callee_side event place D m f reply words) last callee (start a)) (run_trace event' place' D' (callee_side event' place' D' m f reply' words') last' callee' (start b))
          callee_trace last last' callee callee' reply reply' words words' a b k h u r =
              sim.trace_goes D D' RV RI RW RM G H event event' place place' (Each RV) (callee_side event place D m f reply words) (callee_side event' place' D' m f reply' words') (word_items words words' u) (λ ok err t. t) (λ m n ps rs s s' q. tt) (callee_interface reply reply' words words' h) (backs reply words) last last' callee callee' (start a) (start b) k (started (Each RV) a b r)

      -- the caller, a function f of the module m, and who gets its words
      module _ (m : List ℕ) (f : Function) (to : Receiver) (callee_backs : (reply : Option V) (words : List W) → BacksOf G event place D (callee_side event place D to.module_name to.function reply words)) where
        abbrev pub Answers : Option V → Option V' → Type 0
        Answers = Replies to.module_name to.function

        -- RC: what is to be known of the two calls
        module _ (RC : Call V W M → Call V' W' M' → Type 0) (into : (c : Call V W M) (c' : Call V' W' M') → Calls c c' → RC c c') where
          handed_goes : (last : P) (last' : P') (callee : List E) (callee' : List E') (reply : Option V) (reply' : Option V') (words own : List W) (words' own' : List W') (s : State E V W M (Call V W M)) (s' : State E' V' W' M' (Call V' W' M')) → Events callee callee' → Answers reply reply' → Each RW words words' → Each RW own own' → CallerStates RC s s' → CallerRules RC (handed_on event place D m f to last callee reply words s own) (handed_on event' place' D' m f to last' callee' reply' words' s' own')
          handed_goes last last' callee callee' reply reply' words own words' own' s s' k h u o r =
              next_goes _ _ _ _ _ _ _ _ (callee_trace to.module_name to.function callee_backs last last' callee callee' reply reply' own own' s.memory s'.memory k h o r.memory)
              (λ x z e g. back x (words_in x.1) z e g)
              (λ x y q. found_goes (Each RW) _ _ _ _ (words_in x.1) (words_in y.1) (words_follow x.1 y.1 q.1) (λ ws ws' v.
              only_goes _ _ _ _ _ _ (typed_also (signature_results f) ws ws' v) (λ g.
              record { stack = each_pushed Items (map word_item ws) s.stack (map word_item ws') s'.stack (word_items ws ws' v) r.stack; slots = r.slots; memory = q.2.memory; blocks = r.blocks; returned = one_both ws ws' v; called = into _ _ (record { words = u; at_call = r.memory; noted = q.0; callee_words = v; at_return = q.2.memory }); answer = r.answer })))
            where
              only_back : (b : Bool) (x : State E V W M (Call V W M)) (a : M) (z : State E V W M (Call V W M)) → x.memory ≡ a → sim.Gone {P = P} (only b (went x)) z → G z.memory → G a
              only_back false x a z h e g = absurd (not_went e)
              only_back true x a z h e g = subst G (ap (λ s. s.memory) (sym (went_same e)) ∙ h) g

              back : (x : List V × List (Item V W) × State E V W M (List V)) (o : Option (List W)) (z : State E V W M (Call V W M)) → sim.Gone {P = P} (if_found o (λ ws. only (typed D (signature_results f) ws) (went (answered event place D m f to words x.0 ws x.2.memory s)))) z → G z.memory → G x.2.memory
              back x None z e g = absurd (not_went e)
              back x (Some ws) z e g = only_back (typed D (signature_results f) ws) _ x.2.memory z refl e g

          called_goes : (last : P) (last' : P') (callee : List E) (callee' : List E') (reply : Option V) (reply' : Option V') (words : List W) (words' : List W') (s : State E V W M (Call V W M)) (s' : State E' V' W' M' (Call V' W' M')) → Events callee callee' → Answers reply reply' → Each RW words words' → CallerStates RC s s' → CallerRules RC (called_with event place D m f to last callee reply words s) (called_with event' place' D' m f to last' callee' reply' words' s')
          called_goes last last' callee callee' reply reply' words words' s s' k h u r =
              found_goes (Each RW) _ _ _ _ (picked_in_order to.order words) (picked_in_order to.order words') (ordered to.order words words' u) (λ own own' o. handed_goes last last' callee callee' reply reply' words own words' own' s s' k h u o r)

          pub caller_wasm : (last : P) (last' : P') (callee : List E) (callee' : List E') (arguments : List V) (arguments' : List V') (reply : Option V) (reply' : Option V') → Events callee callee' → Answers reply reply' → (m' n : List ℕ) (ps rs : List WasmType) (s : State E V W M (Call V W M)) (s' : State E' V' W' M' (Call V' W' M')) → CallerStates RC s s' → CallerRules RC ((caller_side event place D m f to last callee arguments reply).on_wasm m' n ps rs s) ((caller_side event' place' D' m f to last' callee' arguments' reply').on_wasm m' n ps rs s')
          caller_wasm last last' callee callee' arguments arguments' reply reply' k h m' n ps rs s s' r =
              only_goes _ _ _ _ _ _ (λ t. subst (λ b. T (b && (same_bytes m' m && (same_bytes n f.name && (same_types ps (signature_params f) && same_types rs (signature_results f)))))) (both_none RC s.called s'.called r.called) t)
              (found_goes _ _ _ _ _ (words_off (length ps) [] s.stack) (words_off (length ps) [] s'.stack) (off_words (length ps) [] [] s.stack s'.stack tt r.stack) (λ p q u.
              only_goes _ _ _ _ _ _ (typed_also ps p.0 q.0 u.0) (called_goes last last' callee callee' reply reply' p.0 q.0 (record s { stack = p.1 }) (record s' { stack = q.1 }) k h u.0 (record { stack = u.1; slots = r.slots; memory = r.memory; blocks = r.blocks; returned = r.returned; called = r.called; answer = r.answer }))))

        -- the whole run
        pub run_goes : (p : P) (p' : P') (last : P) (last' : P') (caller callee : List E) (caller' callee' : List E') (arguments : List V) (arguments' : List V') (reply : Option V) (reply' : Option V') (a : M) (b : M') → BacksOf G event place D (caller_side event place D m f to last callee arguments reply) → Events caller caller' → Events callee callee' → Each Items (argument_items f.params arguments) (argument_items f.params arguments') → Answers reply reply' → RM a b →
            Goes (λ o. G o.memory) Outcomes (run_to event place D m f to p last caller callee arguments reply a) (run_to event' place' D' m f to p' last' caller' callee' arguments' reply' b)
        run_goes p p' last last' caller callee caller' callee' arguments arguments' reply reply' a b backs k l are h r =
            next_goes _ _ _ _ _ _ _ _
            (sim.trace_goes D D' RV RI RW RM G H event event' place place' Calls (caller_side event place D m f to last callee arguments reply) (caller_side event' place' D' m f to last' callee' arguments' reply') are (λ ok err t. t) (caller_wasm Calls (λ c c' h. h) last last' callee callee' arguments arguments' reply reply' l h) (λ m n ps rs s s' q. tt) backs p p' caller caller' (start a) (start b) k (started Calls a b r))
            (λ x z e g. subst G (ap (λ o. o.memory) (sym (went_same e))) g)
            (λ x y q g. record { call = q.0; back = q.1; memory = q.2.memory })
