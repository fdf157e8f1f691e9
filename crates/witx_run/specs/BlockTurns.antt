-- What a turn of the program's loop that sets a block aside, or goes into one, makes of the trace.
use Rattle.std.specs.Prelude.{◌≡◌, Bool}
use Rattle.witx_machine.specs.Machine as machine
use Rattle.witx_run.specs.MachineViews.{Setting, block_view, inside_of, spot_in, state_in}
use Rattle.witx_run.specs.Turns.{entering, script_events, turned, whole, whole_behind}
use Rattle.witx_run.specs.Views.{stack_of}
use Rattle.witx_run.specs.declared.domain.Domain as Domain
use Rattle.witx_run.specs.declared.machine.Block.{Block}
use Rattle.witx_run.specs.declared.machine.Inside.{Inside}
use Rattle.witx_run.specs.declared.progress.Progress.{Progress}
use Rattle.witx_run.specs.declared.progress.Turn.{Turn}
use Rattle.witx_run.specs.declared.script.Script.{Script}

module _ {D v w m : Type 0} (d : Domain.Ghosts D v w m) (script : Script v w) (old new : Progress v w m) where
  -- whatever the domain and the setting are, the trace comes to what it came to
  abbrev pub SetsAside : Turn → Type 0
  SetsAside turn =
      (domain : machine.Domain d.V d.W d.M) (x : Setting d.V d.W d.M) →
      whole domain d.value_of d.word_of d.memory_of x (script_events script) old
      ≡ turned domain d.value_of d.word_of d.memory_of x (script_events script) new turn

  -- and to what it came to where the event at hand runs this block inside
  abbrev pub GoesInside : Inside v w → (lowers error : Bool) → Block → Turn → Type 0
  GoesInside inside lowers error block turn =
      (domain : machine.Domain d.V d.W d.M) (x : Setting d.V d.W d.M) →
      whole_behind domain d.value_of d.word_of d.memory_of x (script_events script) old
      (entering domain d.value_of d.word_of d.memory_of x (script_events script) old
      (inside_of d.value_of d.word_of inside) lowers error (block_view (spot_in x.trace) (script_events script) block)
      (stack_of d.value_of d.word_of old.machine.stack.items)
      (state_in d.value_of d.word_of d.memory_of x (script_events script) old.machine))
      ≡ turned domain d.value_of d.word_of d.memory_of x (script_events script) new turn
