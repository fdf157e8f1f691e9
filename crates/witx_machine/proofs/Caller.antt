-- The caller's whole run, around the callee's.
use Rattle.std.proofs.Common.{◌≡◌, ℕ, ◌+◌, true, T, refl, sym, ap, ◌∙◌, Option, Some, None, List, [], ◌∷◌, ◌++◌, append_assoc, option_and_then, option_to_list, map, length}
use Rattle.witx_machine.specs.Events.{Step, Event, emit}
use Rattle.witx_machine.specs.Functions.{Function}
use Rattle.witx_machine.specs.Signature.{signature_params, signature_results, return_pointers}
use Rattle.witx_machine.specs.Traces.{lower_params, make_spaces, lift_results, caller_events}
use Rattle.witx_machine.specs.Machine.{Domain, went, State, Side, Inside, outside, Item, word_item, value_item, Flow, if_found, goes_on, only, flowing, after, pushed, runs_within, run_trace, ended, is_nil}
use Rattle.witx_machine.specs.Run.{callee_side, caller_side, handed_on, called_with, Receiver, numbers, picked_in_order, start, typed, words_in, values_in, one_word, Call, run_to}
use Rattle.witx_machine.specs.Passage.{Meaning}
use Rattle.witx_machine.proofs.Scalars.{both_true, same_types_self}
use Rattle.witx_machine.proofs.Laws.{Laws}
use Rattle.witx_machine.proofs.Runs.{Try, Runs, only_true, runs_then, plays, runs_act, AreItemsOf, all_words_off, all_items_off}
use Rattle.witx_machine.proofs.Params.{StandAt, typed_length}
use Rattle.witx_machine.proofs.Callee.{same_name_refl, as_items, stand_all}

words_in_items : {W : Type 0} (V : Type 0) (ws : List W) → words_in (as_items V ws) ≡ Some ws
words_in_items V [] = refl
words_in_items V (w ∷ ws) = ap (option_and_then (λ ws. Some (w ∷ ws))) (words_in_items V ws)

-- all words, as they are
pub words_from : {W : Type 0} (all : List W) (k : ℕ) (ws : List W) → StandAt all k ws → picked_in_order (numbers k (length ws)) all ≡ Some ws
words_from all k [] h = refl
words_from all k (w ∷ ws) h =
    ap (option_and_then (λ w. option_and_then (λ more. Some (w ∷ more)) (picked_in_order (numbers (k + 1) (length ws)) all))) h.0
    ∙ ap (option_and_then (λ more. Some (w ∷ more))) (words_from all (k + 1) ws h.1)

pub all_in_order : {W : Type 0} (ws : List W) (n : ℕ) → n ≡ length ws → picked_in_order (numbers 0 n) ws ≡ Some ws
all_in_order ws n e = ap (λ n. picked_in_order (numbers 0 n) ws) e ∙ words_from ws 0 ws (stand_all ws)

module _ {V W : Type 0} where
  pub values_in_items : (xs : List (Item V W)) (vs : List V) → AreItemsOf xs vs → values_in xs ≡ Some vs
  values_in_items [] [] h = refl
  values_in_items (value_item x t ∷ xs) (v ∷ vs) h = ap (option_and_then (λ vs. Some (x ∷ vs))) (values_in_items xs vs h.1) ∙ ap (λ x. Some (x ∷ vs)) h.0
  values_in_items (word_item w ∷ xs) (v ∷ vs) h = absurd h
  values_in_items [] (v ∷ vs) h = absurd h
  values_in_items (value_item x t ∷ xs) [] h = absurd h
  values_in_items (word_item w ∷ xs) [] h = absurd h

module _ {V W M : Type 0} {D : Domain V W M} {J : Meaning V W M} (L : Laws D J) where
  -- what the callee did
  pub record CalleeRan (m : List ℕ) (f : Function) (to : Receiver) (callee : List Event) (reply : Option V) (words : List W) (before : M) : Type 0 where
    pub own : List W
    pub handed : picked_in_order to.order words ≡ Some own
    pub noted : List V
    pub results : List W
    pub end : State Event V W M (List V)
    pub ran : run_trace {P = Unit {0}} (λ e. e) (λ e. tt) D (callee_side (λ e. e) (λ e. tt) D to.module_name to.function reply own) tt callee (start before) ≡ went (noted, map word_item results, end)
    pub types : T (typed D (signature_results f) results)

  module _ (m : List ℕ) (f : Function) (to : Receiver) (callee : List Event) (vs : List V) (reply : Option V) where
    abbrev pub side : Side (Unit {0}) Event V W M (Call V W M)
    side = caller_side (λ e. e) (λ e. tt) D m f to tt callee vs reply

    abbrev pub deep : ℕ → Inside V W → List Event → State Event V W M (Call V W M) → Try (State Event V W M (Call V W M))
    deep n = runs_within (λ e. e) (λ e. tt) D side n

    abbrev pub rule : ℕ → List Event → Flow Event → State Event V W M (Call V W M) → Try (State Event V W M (Call V W M))
    rule n = plays D side (deep n) outside

    abbrev pub early : List (ℕ × W) → List (Item V W) → M → State Event V W M (Call V W M)
    early slots stack memory = record { stack = stack; slots = slots; memory = memory; blocks = []; returned = None; called = None; answer = None }

    abbrev pub late : List (ℕ × W) → List W → Call V W M → List (Item V W) → M → State Event V W M (Call V W M)
    late slots results call stack memory = record { stack = stack; slots = slots; memory = memory; blocks = []; returned = one_word results; called = Some call; answer = None }

    abbrev pub call_of : {words : List W} {before : M} → CalleeRan m f to callee reply words before → Call V W M
    call_of {words} {before} r = record { words = words; at_call = before; noted = r.noted; callee_words = r.results; at_return = r.end.memory }

    pub call_goes : (n : ℕ) (slots : List (ℕ × W)) (words : List W) (before : M) → T (typed D (signature_params f) words) → (r : CalleeRan m f to callee reply words before) → Runs (rule n) (emit (Step.CallWasm m f.name (signature_params f) (signature_results f)) ∷ []) (early slots (pushed (map word_item words) []) before) (late slots r.results (call_of r) (pushed (map word_item r.results) []) r.end.memory)
    call_goes n slots words before types r =
        let ps = signature_params f in
        let long : length ps ≡ length words = typed_length D ps words types in
        let ok = both_true _ _ (same_name_refl m) (both_true _ _ (same_name_refl f.name) (both_true _ _ (same_types_self ps) (same_types_self (signature_results f)))) in
        let s = early slots [] before in
        let after : List W → List V × List (Item V W) × State Event V W M (List V) → Try (State Event V W M (Call V W M)) = λ ws r'. went (record s { stack = pushed (map word_item ws) []; memory = r'.2.memory; returned = one_word ws; called = Some (record { words = words; at_call = before; noted = r'.0; callee_words = ws; at_return = r'.2.memory }) }) in
        let ran : called_with (λ e. e) (λ e. tt) D m f to tt callee reply words s ≡ went (late slots r.results (call_of r) (pushed (map word_item r.results) []) r.end.memory) =
        ap (λ o. if_found o (handed_on (λ e. e) (λ e. tt) D m f to tt callee reply words s)) r.handed
        ∙ ap (λ t. goes_on t (λ r'. if_found (words_in r'.1) (λ ws. only (typed D (signature_results f) ws) (after ws r')))) r.ran
        ∙ ap (λ o. if_found o (λ ws. only (typed D (signature_results f) ws) (after ws (r.noted, map word_item r.results, r.end)))) (words_in_items V r.results)
        ∙ only_true _ _ r.types in
        runs_act D side (deep n) outside _ (early slots (pushed (map word_item words) []) before) (late slots r.results (call_of r) (pushed (map word_item r.results) []) r.end.memory) (only_true _ _ ok
        ∙ ap (λ o. if_found o (λ r. only (typed D ps r.0) (called_with (λ e. e) (λ e. tt) D m f to tt callee reply r.0 (early slots r.1 before)))) (all_words_off words (length ps) long)
        ∙ only_true _ _ types
        ∙ ran) refl

    -- from the call's state to the end
    pub record ResultLifted (n : ℕ) (slots : List (ℕ × W)) (results : List W) (call : Call V W M) (memory : M) : Type 0 where
      pub items : List (Item V W)
      pub values : AreItemsOf items (option_to_list reply)
      pub many : length f.results ≡ length items
      pub goes : Runs (rule n) (lift_results f) (late slots results call (pushed (map word_item results) []) memory) (late slots results call (pushed items []) memory)

    pub record ParamsPassed (n : ℕ) (before : M) : Type 0 where
      pub words : List W
      pub slots : List (ℕ × W)
      pub after : M
      pub types : T (typed D (signature_params f) words)
      pub goes : Runs (rule n) (lower_params 0 f.params ++ make_spaces 0 (return_pointers f)) (early [] [] before) (early slots (pushed (map word_item words) []) after)

    pub caller_runs : (before : M) (p : ParamsPassed (length (caller_events m f)) before) (r : CalleeRan m f to callee reply p.words p.after) → (l : ResultLifted (length (caller_events m f)) p.slots r.results (call_of r) r.end.memory) → run_to {P = Unit {0}} (λ e. e) (λ e. tt) D m f to tt tt (caller_events m f) callee vs reply before ≡ went (record { call = call_of r; back = l.items; memory = r.end.memory })
    caller_runs before p r l =
        let n = length (caller_events m f) in
        let call = emit (Step.CallWasm m f.name (signature_params f) (signature_results f)) in
        let last = emit (Step.Return (length f.results)) in
        let s1 = early p.slots (pushed (map word_item p.words) []) p.after in
        let s2 = late p.slots r.results (call_of r) (pushed (map word_item r.results) []) r.end.memory in
        let body = runs_then {s' = s1} p.goes (runs_then {s' = s2} (call_goes n p.slots p.words p.after p.types r) l.goes) in
        let end = late p.slots r.results (call_of r) [] r.end.memory in
        let done : State Event V W M (Call V W M) = record end { answer = Some l.items } in
        let returns : rule n (last ∷ []) flowing (late p.slots r.results (call_of r) (pushed l.items []) r.end.memory) ≡ went done = ap (λ o. after tt true (if_found o (λ r'. only (is_nil r'.1) (went (record (late p.slots r.results (call_of r) r'.1 r.end.memory) { answer = Some r'.0 })))) (rule n [] flowing)) (all_items_off l.items (length f.results) l.many) in
        let lp = lower_params 0 f.params in
        let ms = make_spaces 0 (return_pointers f) in
        let lr = lift_results f in
        let split : lp ++ (ms ++ (call ∷ (lr ++ last ∷ []))) ≡ ((lp ++ ms) ++ (call ∷ lr)) ++ last ∷ [] = sym (append_assoc (lp ++ ms) (call ∷ lr) (last ∷ []) ∙ append_assoc lp ms (call ∷ (lr ++ last ∷ []))) in
        let whole : rule n (caller_events m f) flowing (early [] [] before) ≡ went done = ap (λ es. rule n es flowing (early [] [] before)) split ∙ body.by (last ∷ []) ∙ returns in
        let traced : run_trace {P = Unit {0}} (λ e. e) (λ e. tt) D side tt (caller_events m f) (start before) ≡ went (call_of r, l.items, done) = ap (λ t. goes_on t (λ s. ended tt s.called s.answer s)) whole in
        ap (λ t. goes_on t (λ r. went (record { call = r.0; back = r.1; memory = r.2.memory }))) traced
