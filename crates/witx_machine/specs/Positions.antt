-- Events with their places in the two traces, so that a run that gets stuck names one.
-- The place after a trace's last event stands for a return that isn't there.
-- For a checker of traces, which says which event has no rule; runs that are only faithful or not need no places.
use Rattle.std.specs.Prelude.{ℕ, ◌+◌, List, [], ◌∷◌, length, Option}
use Rattle.witx_machine.specs.Events.{Event}
use Rattle.witx_machine.specs.Functions.{Function}
use Rattle.witx_machine.specs.Machine.{Domain, Tried}
use Rattle.witx_machine.specs.Run.{Outcome, run}

pub data Spot : Type 0 where
  in_caller : ℕ → Spot
  in_callee : ℕ → Spot

abbrev pub numbered : (ℕ → Spot) → ℕ → List Event → List (Spot × Event)
numbered spot i [] = []
numbered spot i (e ∷ es) = (spot i, e) ∷ numbered spot (i + 1) es

abbrev pub spotted_run : {V W M : Type 0} → Domain V W M → List ℕ → Function → (caller callee : List Event) → List V → Option V → M → Tried Spot (Outcome V W M)
spotted_run D m f caller callee =
    run (λ e. e.1) (λ e. e.0) D m f (in_caller (length caller)) (in_callee (length callee)) (numbered in_caller 0 caller) (numbered in_callee 0 callee)
