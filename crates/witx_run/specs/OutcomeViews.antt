-- How what comes of the program's runs is read.
use Rattle.std.specs.Prelude.{map}
use Rattle.witx_machine.specs.Machine.{Tried, went, stuck_at}
use Rattle.witx_machine.specs.Positions.{Spot, in_caller, in_callee}
use Rattle.witx_machine.specs.Run as machine
use Rattle.witx_run.specs.Views.{items_of}
use Rattle.witx_run.specs.declared.outcome.CallMade as declared_call
use Rattle.witx_run.specs.declared.outcome.Outcome as declared_outcome
use Rattle.witx_run.specs.declared.outcome.Run as declared_run
use Rattle.witx_run.specs.declared.outcome.Run.TheVariants as run

module _ {v w m V W M : Type 0} (value : v → V) (word : w → W) (memory : m → M) where
  abbrev pub call_of : declared_call.CallMade v w m → machine.Call V W M
  call_of c = record {
    words = map word c.words.items;
    at_call = memory c.at_call;
    noted = map value c.noted.items;
    callee_words = map word c.callee_words.items;
    at_return = memory c.at_return;
  }

  abbrev pub outcome_of : declared_outcome.Outcome v w m → machine.Outcome V W M
  outcome_of o = record { call = call_of o.call; back = items_of value word o.back.items; memory = memory o.memory }

  abbrev pub run_of : declared_run.Run v w m → Tried Spot (machine.Outcome V W M)
  run_of (run.Ended o) = went (outcome_of o)
  run_of (run.StuckInCaller i) = stuck_at (in_caller i)
  run_of (run.StuckInCallee i) = stuck_at (in_callee i)
