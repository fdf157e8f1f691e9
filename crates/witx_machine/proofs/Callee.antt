-- The callee's whole run.
use Rattle.std.proofs.Common.{◌≡◌, ℕ, suc, ◌+◌, true, T, refl, sym, ap, ◌∙◌, subst, Option, Some, None, List, [], ◌∷◌, ◌++◌, append_assoc, append-nil, map, length, slice_get, length-append}
use Rattle.witx_ast.specs.Tree.{Tree}
use Rattle.witx_base.specs.SameBytes.{same_bytes, bytes-self}
use Rattle.witx_ast.specs.SameLaws.{same-self}
use Rattle.witx_machine.specs.Events.{Step, Event, emit}
use Rattle.witx_machine.specs.Functions.{Function}
use Rattle.witx_machine.specs.Signature.{signature_results}
use Rattle.witx_machine.specs.Traces.{lift_params, lower_results, callee_events}
use Rattle.witx_machine.specs.Machine.{Domain, went, State, Side, Inside, outside, Item, word_item, Flow, if_found, goes_on, only, flowing, after, pushed, runs_within, run_trace, ended, is_nil}
use Rattle.witx_machine.specs.Run.{callee_side, start, reply_items, typed, same_trees}
use Rattle.witx_machine.specs.Passage.{Meaning}
use Rattle.witx_machine.proofs.Scalars.{both_true, truth}
use Rattle.witx_machine.proofs.Laws.{Laws}
use Rattle.witx_machine.proofs.Runs.{Try, Runs, only_true, runs_then, plays, runs_act, AreItemsOf, all_values_off, all_items_off}
use Rattle.witx_machine.proofs.Ways.{Ways}
use Rattle.witx_machine.proofs.Params.{PassedAll, StandAt, params_lifted, AreArguments, typed_length}

pub same_name_refl : (n : List ℕ) → T (same_bytes n n)
same_name_refl n = truth (bytes-self n)

pub same_trees_refl : (ts : List Tree) → T (same_trees ts ts)
same_trees_refl [] = tt
same_trees_refl (t ∷ ts) = both_true _ _ (truth (same-self t)) (same_trees_refl ts)

stand_after : {A : Type 0} (before xs : List A) → StandAt (before ++ xs) (length before) xs
stand_after before [] = tt
stand_after {A} before (x ∷ xs) =
    let e : length (before ++ x ∷ []) ≡ length before + 1 = length-append before (x ∷ []) in
    (get_after before x xs, subst (λ i. StandAt (before ++ x ∷ xs) i xs) e (subst (λ args. StandAt args (length (before ++ x ∷ [])) xs) (append_assoc before (x ∷ []) xs) (stand_after (before ++ x ∷ []) xs)))
  where
    get_after : (before : List A) (x : A) (xs : List A) → slice_get (before ++ x ∷ xs) (length before) ≡ Some x
    get_after [] x xs = refl
    get_after (y ∷ before) x xs = get_after before x xs

pub stand_all : {A : Type 0} (xs : List A) → StandAt xs 0 xs
stand_all xs = stand_after [] xs

abbrev pub as_items : {W : Type 0} (V : Type 0) → List W → List (Item V W)
as_items V ws = map word_item ws

pub length_of_items : {W : Type 0} (V : Type 0) (ws : List W) → length (as_items V ws) ≡ length ws
length_of_items V [] = refl
length_of_items V (w ∷ ws) = ap suc (length_of_items V ws)

module _ {V W M : Type 0} {D : Domain V W M} {J : Meaning V W M} (L : Laws D J) where
  pub argument_count : (ts : List Tree) (vs : List V) → AreArguments L ts vs → length ts ≡ length vs
  argument_count [] [] h = refl
  argument_count (t ∷ ts) (v ∷ vs) h = ap suc (argument_count ts vs h.1)
  argument_count [] (v ∷ vs) h = absurd h
  argument_count (t ∷ ts) [] h = absurd h

  module _ (m : List ℕ) (f : Function) (reply : Option V) (words : List W) where
    abbrev pub side : Side (Unit {0}) Event V W M (List V)
    side = callee_side (λ e. e) (λ e. tt) D m f reply words

    abbrev pub deep : ℕ → Inside V W → List Event → State Event V W M (List V) → Try (State Event V W M (List V))
    deep n = runs_within (λ e. e) (λ e. tt) D side n

    abbrev pub rule : ℕ → List Event → Flow Event → State Event V W M (List V) → Try (State Event V W M (List V))
    rule n = plays D side (deep n) outside

    -- before the call, and after it
    abbrev pub early : List (Item V W) → M → State Event V W M (List V)
    early stack memory = record { stack = stack; slots = []; memory = memory; blocks = []; returned = None; called = None; answer = None }

    abbrev pub late : List V → List (Item V W) → M → State Event V W M (List V)
    late vs stack memory = record { stack = stack; slots = []; memory = memory; blocks = []; returned = None; called = Some vs; answer = None }

    -- the result that was lowered
    pub record ResultLowered (vs : List V) (n : ℕ) (memory : M) : Type 0 where
      pub items : List (Item V W)
      pub given : reply_items f.results reply ≡ Some items
      pub results : List W
      pub after : M
      pub types : T (typed D (signature_results f) results)
      pub goes : Runs (rule n) (lower_results f) (late vs items memory) (late vs (pushed (map word_item results) []) after)

    calls : (n : ℕ) (vs : List V) (xs items : List (Item V W)) (memory : M) → AreItemsOf xs vs → length f.params ≡ length vs → reply_items f.results reply ≡ Some items → Runs (rule n) (emit (Step.CallInterface m f.name f.params f.results) ∷ []) (early (pushed xs []) memory) (late vs items memory)
    calls n vs xs items memory h e given =
        let ok = both_true _ _ (same_name_refl m) (both_true _ _ (same_name_refl f.name) (both_true _ _ (same_trees_refl f.params) (same_trees_refl f.results))) in
        let off = all_values_off xs vs (length f.params) e h in
        runs_act D side (deep n) outside _ (early (pushed xs []) memory) (late vs items memory) (only_true _ _ ok
        ∙ ap (λ o. if_found o (λ r. if_found (reply_items f.results reply) (λ xs. went (late r.0 (xs ++ r.1) memory)))) off
        ∙ ap (λ o. if_found o (λ xs. went (late vs (xs ++ []) memory))) given
        ∙ ap (λ xs. went (late vs xs memory)) (append-nil items)) refl

    pub callee_runs : (ways : Ways f.params) (vs : List V) (ws : List W) (memory : M) → AreArguments L f.params vs → PassedAll L memory f.params ways vs ws → StandAt (as_items V words) 0 (map word_item ws) → (r : ResultLowered vs (length (callee_events m f)) memory) → run_trace (λ e. e) (λ e. tt) D side tt (callee_events m f) (start memory) ≡ went (vs, map word_item r.results, record (late vs [] r.after) { answer = Some (map word_item r.results) })
    callee_runs ways vs ws memory h passed stands r =
        let n = length (callee_events m f) in
        let lifted = params_lifted L side (deep n) outside [] [] None None f.params ways vs ws 0 [] memory passed stands in
        let called = calls n vs lifted.items r.items memory lifted.values (argument_count f.params vs h) r.given in
        let body = runs_then {s' = early (pushed lifted.items []) memory} lifted.goes (runs_then {s' = late vs r.items memory} called r.goes) in
        let end = late vs (pushed (map word_item r.results) []) r.after in
        let done : State Event V W M (List V) = record (late vs [] r.after) { answer = Some (map word_item r.results) } in
        let k = length (signature_results f) in
        let long : k ≡ length (as_items V r.results) = typed_length D (signature_results f) r.results r.types ∙ sym (length_of_items V r.results) in
        let last : rule n (emit (Step.Return k) ∷ []) flowing end ≡ went done = ap (λ o. after tt true (if_found o (λ r'. only (is_nil r'.1) (went (record (late vs r'.1 r.after) { answer = Some r'.0 })))) (rule n [] flowing)) (all_items_off (map word_item r.results) k long) in
        let whole : rule n (callee_events m f) flowing (early [] memory) ≡ went done = ap (λ es. rule n es flowing (early [] memory)) (sym (append_assoc (lift_params 0 f.params) (emit (Step.CallInterface m f.name f.params f.results) ∷ lower_results f) (emit (Step.Return k) ∷ []))) ∙ body.by (emit (Step.Return k) ∷ []) ∙ last in
        ap (λ t. goes_on t (λ s. ended tt s.called s.answer s)) whole
