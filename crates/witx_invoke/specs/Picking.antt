-- The case of a number, of a result whose cases carry these types.
use Rattle.std.specs.Prelude.{ℕ, zero, suc, Bool, true, false, Option, None}
use Rattle.witx_ast.specs.Tree.{Tree}
use Rattle.witx_ast.specs.Values.{Value}
use Rattle.witx_machine.specs.Cells.{picked}

abbrev pub value_case_picked : Option Tree → Option Tree → ℕ → Option Value → Option (Bool × Option (Value × Option Tree))
value_case_picked ok err zero payload = picked false ok payload
value_case_picked ok err (suc zero) payload = picked true err payload
value_case_picked ok err (suc (suc i)) payload = None
