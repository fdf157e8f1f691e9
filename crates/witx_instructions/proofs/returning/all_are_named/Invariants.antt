use Rattle.std.proofs.Common.{◌≡◌, drop, map}
use Rattle.witx_ast.specs.Views.{tree_of}
use Rattle.witx_machine.specs.Lowerable.{all_names}
use Rattle.witx_instructions.proofs.returning.all_are_named.Given as goal

abbrev pub invariant-loop-member : goal.invariant-loop-member
invariant-loop-member l = all_names (map (λ m. tree_of m.tref) l.members) ≡ all_names (map (λ m. tree_of m.tref) (drop l.member-index l.members))
