-- What any run of two traces takes is writable; and the events that name only types that fit their tags where they make room,
-- load, or lower a result.
use Rattle.std.specs.Prelude.{◌≡◌, ℕ, List, [], ◌∷◌, Bool, true, ◌&&◌, Option, Some, None}
use Rattle.witx_ast.specs.Plain.{plain}
use Rattle.witx_ast.specs.Tags.{fits}
use Rattle.witx_ast.specs.Tree.{Tree}
use Rattle.witx_ast.specs.Values.{Value}
use Rattle.witx_machine.specs.Cells.{Cells, Memory, run_cells}
use Rattle.witx_machine.specs.Functions.{Function}
use Rattle.witx_machine.specs.Run.{Outcome}
use Rattle.witx_machine.specs.Words.{Word}
use Rattle.witx_machine.specs.Events.{Event, emit, space, push, finish}
use Rattle.witx_machine.specs.Rows.{Row, row, load, result_lower}
use Rattle.witx_bytes.specs.Follow.{AreWritable}

-- in any run of these traces
pub record TakeWritable (f : Function) (caller callee : List Event) : Type 0 where
  pub taken : (m : List ℕ) (arguments : List Value) (reply : Option Value) (memory : Cells) (addresses : List ℕ) (o : Outcome Value Word Memory)
      → run_cells m f caller callee arguments reply memory addresses ≡ Some o → AreWritable o.memory.taken

abbrev pub payload_tree_fits : Option Tree → Bool
payload_tree_fits None = true
payload_tree_fits (Some t) = fits (plain t)

abbrev pub row_fits : Row → Bool
row_fits (load t) = fits (plain t)
row_fits (result_lower ok err) = payload_tree_fits ok && payload_tree_fits err
row_fits _ = true

abbrev pub event_fits : Event → Bool
event_fits (emit x) = row_fits (row x)
event_fits (space k t) = fits (plain t)
event_fits push = true
event_fits (finish v) = true

abbrev pub events_fit : List Event → Bool
events_fit [] = true
events_fit (e ∷ es) = event_fits e && events_fit es
