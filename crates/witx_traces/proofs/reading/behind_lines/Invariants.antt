use Rattle.std.proofs.Common.{length}
use denote.Text.{Utf8}
use denote.Shadow.{shadow}
use Rattle.witx_traces.proofs.ReadSteps.{WantedOn}
use Rattle.witx_traces.proofs.reading.behind_lines.Given as goal

abbrev pub invariant-loop-line : goal.invariant-loop-line
invariant-loop-line l = record {
  rest : shadow (Utf8 l.rest);
  wanted : shadow (Utf8 l.wanted);
  on : WantedOn l.lines l.text l.wanted l.rest;
}

abbrev pub decreases-loop-line : goal.decreases-loop-line
decreases-loop-line l = length l.wanted
