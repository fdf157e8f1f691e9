-- What is answered of a run with the stated addresses: the parts of its outcome, or that there is no room.
use Rattle.std.specs.Prelude.{ℕ, List, [], Option}
use Rattle.witx_ast.specs.Values.{Value}
use Rattle.witx_machine.specs.Words.{Word}
use Rattle.witx_machine.specs.Events.{Event}
use Rattle.witx_machine.specs.Functions.{Function}
use Rattle.witx_machine.specs.Machine.{Tried, went, no_rule, stuck_at}
use Rattle.witx_machine.specs.Positions.{Spot, spotted_run}
use Rattle.witx_machine.specs.Run.{Outcome}
use Rattle.witx_call.specs.CallSeen.{IsSeen, seen_of}
use Rattle.witx_call.specs.Room.{Room, no_bytes}
use Rattle.witx_call.specs.declared.call_seen.Invoked.{Invoked}
use Rattle.witx_invoke.specs.Placing.{placing}
use Rattle.witx_invoke.specs.declared.error.InvokeError.{InvokeError}

-- the run over bytes with the stated addresses, from an empty memory
abbrev pub stated_run : List ℕ → Function → (caller callee : List Event) → List Value → Option Value → Tried Spot (Outcome Value Word Room)
stated_run m f caller callee arguments reply = spotted_run placing m f caller callee arguments reply (record { bytes = no_bytes; taken = [] })

-- the run has ended, and these are its parts
abbrev pub EndsSeen : Tried Spot (Outcome Value Word Room) → Invoked → Type 0
EndsSeen (went q) i = IsSeen q (seen_of i)
EndsSeen no_rule i = ⊥
EndsSeen (stuck_at p) i = ⊥

abbrev pub HasNotEnded : Tried Spot (Outcome Value Word Room) → Type 0
HasNotEnded (went q) = ⊥
HasNotEnded no_rule = Unit {0}
HasNotEnded (stuck_at p) = Unit {0}

-- there is no room where the run hasn't ended; want of memory alone is free
abbrev pub HasNoRoom : Tried Spot (Outcome Value Word Room) → InvokeError → Type 0
HasNoRoom t InvokeError.ZeroError = ⊥
HasNoRoom t InvokeError.NoRoom = HasNotEnded t
HasNoRoom t InvokeError.OutOfMemory = Unit {0}
