use Rattle.std.proofs.Common.{◌≡◌, ◌≤◌, length}
use Rattle.witx_run.specs.MachineViews.{Setting}
use Rattle.witx_run.specs.Nearing.{left_to_run}
use Rattle.witx_run.specs.Turns.{Known, script_events, whole}
use Rattle.witx_run.proofs.progress.run.Given as goal

abbrev pub invariant-turns : goal.invariant-turns
invariant-turns g l = record {
  same : (x : Setting g.D.Domain.V g.D.Domain.W g.D.Domain.M) → Known g.D.Domain.value_of g.D.Domain.word_of x l.script l.has_called → whole (g.D.Domain.domain l.domain) g.D.Domain.value_of g.D.Domain.word_of g.D.Domain.memory_of x (script_events l.script) l.initial.progress ≡ whole (g.D.Domain.domain l.domain) g.D.Domain.value_of g.D.Domain.word_of g.D.Domain.memory_of x (script_events l.script) l.progress;
  deep : length l.progress.frames.items ≤ length l.script.events.now;
}

abbrev pub decreases-turns : goal.decreases-turns
decreases-turns g l = left_to_run l.progress
