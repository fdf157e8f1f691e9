use Rattle.std.proofs.Common.{◌≡◌, ◌≤◌}
use Rattle.witx_ast.specs.Same.{same_tree}
use Rattle.witx_ast.specs.Views.{tree_of}
use Rattle.witx_ast.specs.declared.types.TypeRef.{size-TypeRef}
use Rattle.witx_ast.proofs.types.+ast.Given as goal

abbrev pub decreases-TypeRefPartialEq::eq : goal.decreases-TypeRefPartialEq::eq
decreases-TypeRefPartialEq::eq l = goal.size-TypeRefPartialEq::eq l

abbrev pub invariant-TypeRefPartialEq::eq-loop-left : goal.invariant-TypeRefPartialEq::eq-loop-left
invariant-TypeRefPartialEq::eq-loop-left l = record {
  same : same_tree (tree_of l.left) (tree_of l.right) ≡ same_tree (tree_of l.self) (tree_of l.other);
  left : size-TypeRef l.left ≤ size-TypeRef l.self;
  right : size-TypeRef l.right ≤ size-TypeRef l.other;
}
