use Rattle.std.proofs.Common.{◌≡◌, ◌++◌, ◌∙◌, rules, sym, true}
use Rattle.witx_traces.specs.Traces.{ended}
use Rattle.witx_traces.proofs.ReadSteps.{line-same}
use Rattle.witx_traces.proofs.reading.behind_line.Goals as goal

pub returns-clause-behind : goal.returns-clause-behind
returns-clause-behind c =
    let whole : c.args.text.now ≡ ended c.in-Some.line.now ++ c.in-Some.more.now = search rules in
    let same : c.is_same.result ≡ true = search rules in
    line-same c.args.text.now c.in-Some.line.now c.in-Some.more.now c.args.wanted.now whole (sym c.is_same.ensures ∙ same)
