-- Where a run has halted: at which event it is stuck, and in front of which call it stands.
use Rattle.std.specs.Prelude.{ℕ, map, Option, Some, None}
use Rattle.witx_ast.specs.Views.{tree_of}
use Rattle.witx_ast.specs.declared.types.TypeRef.{TypeRef}
use Rattle.witx_machine.specs.declared.surface.WasmType.{WasmType}
use Rattle.witx_machine.specs.Rows.{Row, call_wasm, call_interface}
use Rattle.witx_run.specs.declared.naming.CallRow.{CallRow}
use Rattle.witx_run.specs.declared.progress.Stop.{Stop}
use Rattle.witx_run.specs.declared.progress.Stop.TheVariants as stop

-- the event that has no rule where a trace of so many events goes no further, this event at hand
abbrev pub stuck_event : (events at : ℕ) → Stop → ℕ
stuck_event events at (stop.Stuck i) = i
stuck_event events at stop.Over = events
stuck_event events at (stop.Wasm m n ps rs) = at
stuck_event events at (stop.Interface m n ps rs) = at

-- the call of the interface, or of WebAssembly, that comes next
abbrev pub interface_at : Stop → Option (CallRow TypeRef)
interface_at (stop.Interface m n ps rs) = Some (record { owner = m; name = n; params = ps; results = rs })
interface_at _ = None

abbrev pub wasm_at : Stop → Option (CallRow WasmType)
wasm_at (stop.Wasm m n ps rs) = Some (record { owner = m; name = n; params = ps; results = rs })
wasm_at _ = None

-- its row
abbrev pub interface_row : CallRow TypeRef → Row
interface_row c = call_interface c.owner.now c.name.now (map tree_of c.params.now) (map tree_of c.results.now)

abbrev pub wasm_row : CallRow WasmType → Row
wasm_row c = call_wasm c.owner.now c.name.now c.params.now c.results.now
