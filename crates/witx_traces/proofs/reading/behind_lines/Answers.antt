use Rattle.std.proofs.Common.{◌≡◌, ◌++◌, rules, true}
use Rattle.witx_traces.specs.Traces.{ended, one_line}
use Rattle.witx_traces.proofs.ReadSteps.{wanted-last, wanted-more}
use Rattle.witx_traces.proofs.reading.behind_lines.Goals as goal

pub loop-line-preserved : goal.loop-line-preserved
loop-line-preserved c =
    let whole : c.loop-line.wanted.now ≡ ended c.in-Some.line.now ++ c.in-Some.more.now = search rules in
    record {
      rest = search rules;
      wanted = search rules;
      on = wanted-more c.args.lines.now c.args.text.now c.loop-line.wanted.now c.loop-line.rest.now c.in-Some.line.now c.in-Some.more.now c.in_ok-rest.rest.now c.loop-line.invariant.on whole c.in_ok-rest.ensures.behind;
    }

pub returns-clause-behind : goal.returns-clause-behind
returns-clause-behind c =
    let one : one_line c.loop-line.wanted.now ≡ true = search rules in
    wanted-last c.args.lines.now c.args.text.now c.loop-line.wanted.now c.loop-line.rest.now c.loop-line.invariant.on c.requires one
