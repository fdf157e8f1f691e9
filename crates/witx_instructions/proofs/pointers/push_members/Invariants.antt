use Rattle.std.proofs.Common.{◌≡◌, ◌++◌, drop, map}
use Rattle.witx_ast.specs.Views.{tree_of}
use Rattle.witx_instructions.specs.Views.{pointer_types}
use Rattle.witx_instructions.proofs.pointers.push_members.Given as goal

abbrev pub invariant-loop-member : goal.invariant-loop-member
invariant-loop-member l = pointer_types l.pointers ++ map (λ m. tree_of m.tref) (drop l.member-index l.members) ≡ pointer_types l.initial.pointers ++ map (λ m. tree_of m.tref) l.members
