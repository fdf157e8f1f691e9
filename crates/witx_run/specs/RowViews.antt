-- How the rows of the program are read.
use Rattle.std.specs.Prelude.{map, Bool, true, false}
use Rattle.witx_ast.specs.Views.{tree_of, named_tree}
use Rattle.witx_machine.specs.Rows as machine
use Rattle.witx_machine.specs.Rows.{Row, result_lower, result_lift, call_wasm, call_interface}
use Rattle.witx_run.specs.Views.{scalar_of, type_tree}
use Rattle.witx_run.specs.declared.row.Row as declared_row
use Rattle.witx_run.specs.declared.row.Row.TheVariants as row

abbrev pub row_view : declared_row.Row → Row
row_view (row.GetArg n) = machine.get_arg n
row_view row.AddrOf = machine.addr_of
row_view (row.Lowering c) = machine.lowering (scalar_of c)
row_view (row.Lifting c) = machine.lifting (scalar_of c)
row_view row.ListPointerLength = machine.list_pointer_length
row_view row.ListFromPointerLength = machine.list_from_pointer_length
row_view (row.ReturnPointerGet k) = machine.return_pointer_get k
row_view (row.Load t) = machine.load (named_tree t.now.value)
row_view (row.Store t) = machine.store (named_tree t.now.value)
row_view (row.TupleLift n) = machine.tuple_lift n
row_view (row.TupleLower n) = machine.tuple_lower n
row_view row.VariantPayload = machine.variant_payload
row_view row.ReuseReturn = machine.reuse_return
row_view (row.ResultLower ok err) = machine.result_lower (type_tree ok) (type_tree err)
row_view row.ResultLift = machine.result_lift
row_view (row.CallWasm m n ps rs) = machine.call_wasm m.now n.now ps.now rs.now
row_view (row.CallInterface m n ps rs) = machine.call_interface m.now n.now (map tree_of ps.now) (map tree_of rs.now)
row_view (row.Return n) = machine.returns n

-- a row that runs no block and makes no call
abbrev pub runs_nothing : Row → Bool
runs_nothing (result_lower ok err) = false
runs_nothing result_lift = false
runs_nothing (call_wasm m n ps rs) = false
runs_nothing (call_interface m n ps rs) = false
runs_nothing _ = true
