-- What comes of a run of two traces over cells, as a relation, and that it is at most one thing: by definition, since the
-- run is a function of its traces, arguments, reply, memory and addresses.
use Rattle.std.specs.Prelude.{◌≡◌, ℕ, List, Option, Some}
use Rattle.witx_ast.specs.Values.{Value}
use Rattle.witx_machine.specs.Words.{Word}
use Rattle.witx_machine.specs.Events.{Event}
use Rattle.witx_machine.specs.Functions.{Function}
use Rattle.witx_machine.specs.Run.{Outcome, Receiver}
use Rattle.witx_machine.specs.Cells.{Cells, Memory, run_cells_to}

abbrev pub IsOutcome : List ℕ → Function → Receiver → (caller callee : List Event) → List Value → Option Value → Cells → List ℕ
    → Outcome Value Word Memory → Type 0
IsOutcome m f to caller callee arguments reply memory addresses o = run_cells_to m f to caller callee arguments reply memory addresses ≡ Some o

abbrev pub AtMostOneOutcome : Type 0
AtMostOneOutcome =
    (m : List ℕ) (f : Function) (to : Receiver) (caller callee : List Event) (arguments : List Value) (reply : Option Value)
    (memory : Cells) (addresses : List ℕ) (o o' : Outcome Value Word Memory) →
    IsOutcome m f to caller callee arguments reply memory addresses o →
    IsOutcome m f to caller callee arguments reply memory addresses o' → o ≡ o'
