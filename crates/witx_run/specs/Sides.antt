-- What is known of the two traces' sides, and what was noted at their calls.
use Rattle.std.specs.Prelude.{ℕ, List, length, Option}
use Rattle.witx_machine.specs.Events.{Event}
use Rattle.witx_machine.specs.Functions.{Function}
use Rattle.witx_machine.specs.Machine.{Domain}
use Rattle.witx_machine.specs.Positions.{in_callee, numbered}
use Rattle.witx_machine.specs.Run.{Call, callee_side, caller_side, itself}
use Rattle.witx_run.specs.MachineViews.{Setting, of_caller, of_callee}

module _ {V W M : Type 0} (D : Domain V W M) (home : List ℕ) (f : Function) where
  -- the callee's, which got these words
  abbrev pub callee_setting : Option V → List W → Option (List V) → Setting V W M
  callee_setting reply words called = record {
    trace = of_callee;
    side = callee_side (λ e. e.1) (λ e. e.0) D home f reply words;
    called = called;
  }

  -- the caller's, whose call runs the callee's events
  abbrev pub caller_setting : (callee : List Event) → List V → Option V → Option (Call V W M) → Setting V W M
  caller_setting callee arguments reply called = record {
    trace = of_caller;
    side =
        caller_side (λ e. e.1) (λ e. e.0) D home f (itself home f)
        (in_callee (length callee)) (numbered in_callee 0 callee) arguments reply;
    called = called;
  }
