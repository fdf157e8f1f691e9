use Rattle.std.proofs.Common.{◌≡◌, ◌+◌, ◌*◌, ◌≤◌, drop}
use Rattle.std.specs.List.{sum_by}
use Rattle.witx_sample.specs.Summaries.{event_count}
use Rattle.witx_sample.proofs.summaries.events_of.Given as goal

abbrev pub invariant-loop-function : goal.invariant-loop-function
invariant-loop-function l = record {
  sum : l.total + sum_by event_count (drop l.function-index l.functions) ≡ sum_by event_count l.functions;
  bounded : l.total ≤ 36893488147419103232 * l.function-index;
}
