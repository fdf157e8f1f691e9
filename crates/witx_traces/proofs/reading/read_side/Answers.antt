use Rattle.std.proofs.Common.{◌∷◌, rules}
use Rattle.witx_traces.specs.declared.reading.Stopped.{Stopped}
use Rattle.witx_traces.specs.Refusals.{TellsOfStop}
use Rattle.witx_traces.specs.Passages.{IsCutAt, StopsAt, events_of, side_of}
use Rattle.witx_traces.specs.ReadTypes.{known_in}
use Rattle.witx_traces.proofs.ReadSteps.{answer-moved, cut-fixed, refusal-moved, side-stop, tells-moved}
use Rattle.witx_traces.proofs.reading.read_side.Goals as goal

pub returns-in_err-behind-clause-stopped : goal.returns-in_err-behind-clause-stopped
returns-in_err-behind-clause-stopped c = λ ss last plain.
    let told : (e : Stopped) → TellsOfStop (IsCutAt c.args.fixed.now c.args.text.now) e → TellsOfStop (StopsAt (side_of c.args.fixed.now (known_in c.args.types.now) ∷ ss) last c.args.text.now) e =
    λ e h. tells-moved (IsCutAt c.args.fixed.now c.args.text.now) (StopsAt (side_of c.args.fixed.now (known_in c.args.types.now) ∷ ss) last c.args.text.now) e h
    (λ rest cut. cut-fixed (side_of c.args.fixed.now (known_in c.args.types.now)) ss last c.args.text.now rest cut) in
    search (rules, told)

pub returns-clause-behind : goal.returns-clause-behind
returns-clause-behind c = answer-moved c.read_events.result c.read_events.ensures.behind
    (λ p h ss last rest plain s. side-stop c.args.fixed.now (known_in c.args.types.now) ss last c.args.text.now c.in_ok-behind.behind.now rest c.requires c.in_ok-behind.ensures.behind (h ss last rest plain s))

pub returns-clause-stopped : goal.returns-clause-stopped
returns-clause-stopped c = λ ss last plain.
    refusal-moved (StopsAt (events_of (known_in c.args.types.now) ∷ ss) last c.in_ok-behind.behind.now) (StopsAt (side_of c.args.fixed.now (known_in c.args.types.now) ∷ ss) last c.args.text.now) c.read_events.result
    (c.read_events.ensures.stopped ss last plain)
    (λ rest s. side-stop c.args.fixed.now (known_in c.args.types.now) ss last c.args.text.now c.in_ok-behind.behind.now rest c.requires c.in_ok-behind.ensures.behind s)
