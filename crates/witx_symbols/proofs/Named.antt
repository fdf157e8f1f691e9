-- A run that doesn't end well names the event at which it got stuck.
use Rattle.std.proofs.Common.{ℕ, zero, suc, ◌||◌, Bool, true, false, cond, subst, is_none, Option, Some, None, List, [], ◌∷◌, ◌++◌, length}
use Rattle.witx_machine.specs.Events.{Event, emit, space, push, finish}
use Rattle.witx_machine.specs.Rows.{row}
use Rattle.witx_machine.specs.Machine.{Domain, Tried, went, no_rule, stuck_at, goes_on, Item, State, Inside, outside, Side, is_nil, slot_word, act, give_slot, Flow, flowing, gathering, after, set_aside, flows, gathers, play, runs_within, ended, run_trace}
use Rattle.witx_machine.specs.Run.{itself, caller_side, start}
use Rattle.witx_machine.specs.Positions.{in_caller, in_callee, numbered}
use Rattle.witx_symbols.specs.Symbolic.{symbols}
use Rattle.witx_symbols.specs.Verdicts.{RunsNamePlaces}

abbrev Named : {P A : Type 0} → Tried P A → Type 0
Named (went x) = Unit {0}
Named no_rule = ⊥
Named (stuck_at p) = Unit {0}

next_named : {P A B : Type 0} (t : Tried P A) (f : A → Tried P B) → Named t → ((x : A) → Named (f x)) → Named (goes_on t f)
next_named (went x) f h k = k x
next_named no_rule f h k = h
next_named (stuck_at p) f h k = tt

module _ {P E V W M C : Type 0} (event : E → Event) (place : E → P) (D : Domain V W M) (side : Side P E V W M C) where
  after_named : (p : P) (last : Bool) (t : Tried P (State E V W M C)) (go : State E V W M C → Tried P (State E V W M C)) → ((s : State E V W M C) → Named (go s)) → Named (after p last t go)
  after_named p last (went s) go h = by (is_none s.answer || last)
    where
      by : (b : Bool) → Named (cond b (go s) (stuck_at p))
      by true = h s
      by false = tt
  after_named p last no_rule go h = tt
  after_named p last (stuck_at q) go h = tt

  module _ (runs : Inside V W → List E → State E V W M C → Tried P (State E V W M C)) (inside : Inside V W) where
    play_named : (es : List E) (fl : Flow E) (s : State E V W M C) → Named (play event place D side runs inside es fl s)
    play_named [] flowing s = tt
    play_named [] (gathering b d es) s = tt
    play_named (e ∷ more) flowing s = by (event e) (λ fl s. play_named more fl s)
      where
        by : (x : Event) → ((fl : Flow E) (s : State E V W M C) → Named (play event place D side runs inside more fl s)) → Named (flows event place D side runs inside x e (is_nil more) (play event place D side runs inside more) s)
        by (emit x) h = after_named (place e) (is_nil more) (act event place D side runs inside (row x) s) (play event place D side runs inside more flowing) (h flowing)
        by (space k t) h = after_named (place e) (is_nil more) (give_slot event place D side runs inside k t (slot_word k s.slots) s) (play event place D side runs inside more flowing) (h flowing)
        by push h = h (gathering e 0 []) s
        by (finish v) h = tt
    play_named (e ∷ more) (gathering b d es) s = by (event e) d (λ fl s. play_named more fl s)
      where
        by : (x : Event) (d : ℕ) → ((fl : Flow E) (s : State E V W M C) → Named (play event place D side runs inside more fl s)) → Named (gathers event place D side x e b d es (play event place D side runs inside more) s)
        by (emit x) d h = h (gathering b d (es ++ e ∷ [])) s
        by (space k t) d h = h (gathering b d (es ++ e ∷ [])) s
        by push d h = h (gathering b (suc d) (es ++ e ∷ [])) s
        by (finish v) zero h = h flowing (set_aside es v e s)
        by (finish v) (suc d) h = h (gathering b d (es ++ e ∷ [])) s

  ended_named : (p : P) (c : Option C) (xs : Option (List (Item V W))) (s : State E V W M C) → Named (ended p c xs s)
  ended_named p (Some c) (Some xs) s = tt
  ended_named p None xs s = tt
  ended_named p (Some c) None s = tt

  trace_named : (p : P) (es : List E) (s : State E V W M C) → Named (run_trace event place D side p es s)
  trace_named p es s =
      next_named (runs_within event place D side (suc (length es)) outside es s) (λ s. ended p s.called s.answer s) (play_named (runs_within event place D side (length es)) outside es flowing s) (λ s. ended_named p s.called s.answer s)

pub runs_name_places : RunsNamePlaces
runs_name_places w m f caller callee arguments reply memory e =
    subst Named e
    (next_named (run_trace (λ e. e.1) (λ e. e.0) (symbols w) (caller_side (λ e. e.1) (λ e. e.0) (symbols w) m f (itself m f) (in_callee (length callee)) (numbered in_callee 0 callee) arguments reply) (in_caller (length caller)) (numbered in_caller 0 caller) (start memory))
    (λ r. went (record { call = r.0; back = r.1; memory = r.2.memory }))
    (trace_named (λ e. e.1) (λ e. e.0) (symbols w) (caller_side (λ e. e.1) (λ e. e.0) (symbols w) m f (itself m f) (in_callee (length callee)) (numbered in_callee 0 callee) arguments reply) (in_caller (length caller)) (numbered in_caller 0 caller) (start memory)) (λ r. tt))
