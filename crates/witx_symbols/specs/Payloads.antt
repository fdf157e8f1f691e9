-- Whether two cases carry alike types, or both carry none.
use Rattle.std.specs.Prelude.{Bool, true, false, Option, Some, None}
use Rattle.witx_ast.specs.Tree.{Tree}
use Rattle.witx_ast.specs.Plain.{plain}
use Rattle.witx_ast.specs.Alike.{same_plain}

abbrev pub payloads_alike : Option Tree → Option Tree → Bool
payloads_alike None None = true
payloads_alike (Some t) (Some u) = same_plain (plain t) (plain u)
payloads_alike _ _ = false
