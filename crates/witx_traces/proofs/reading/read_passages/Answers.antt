use Rattle.std.proofs.Common.{map, rules}
use Rattle.witx_ast.specs.Definitions.{definition_tree}
use Rattle.witx_traces.specs.declared.reading.Stopped.{Stopped}
use Rattle.witx_traces.specs.Refusals.{TellsOfStop}
use Rattle.witx_traces.specs.Passages.{IsCutAt, StopsAt, passage_of, stretches}
use Rattle.witx_traces.proofs.ReadSteps.{cut-last, tells-moved}
use Rattle.witx_traces.proofs.reading.read_passages.Goals as goal

pub returns-in_err-end-clause-stopped : goal.returns-in_err-end-clause-stopped
returns-in_err-end-clause-stopped c =
    let told : (e : Stopped) → TellsOfStop (IsCutAt c.args.last.now c.in_ok-pairs.rest.now) e → TellsOfStop (StopsAt (stretches (map definition_tree c.args.document.now.definitions) (map passage_of c.args.passages.now)) c.args.last.now c.args.text.now) e =
    λ e h. tells-moved (IsCutAt c.args.last.now c.in_ok-pairs.rest.now) (StopsAt (stretches (map definition_tree c.args.document.now.definitions) (map passage_of c.args.passages.now)) c.args.last.now c.args.text.now) e h
    (λ at cut. c.in_ok-pairs.ensures.behind c.args.last.now at c.requires.last (cut-last c.args.last.now c.in_ok-pairs.rest.now at cut)) in
    search (rules, told)
