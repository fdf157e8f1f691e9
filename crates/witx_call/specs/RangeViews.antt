-- How the ranges that were given are read.
use Rattle.std.specs.Prelude.{ℕ, List, map}
use Rattle.witx_ast.specs.Tree.{Tree}
use Rattle.witx_ast.specs.Views.{named_tree}
use Rattle.witx_machine.specs.Cells.{Taken}
use Rattle.witx_call.specs.declared.range.Range.{Range}

abbrev pub range_of : Range → ℕ × Tree
range_of r = (r.at, named_tree r.ty.value)

abbrev pub taken_of : List Range → Taken
taken_of xs = map range_of xs
