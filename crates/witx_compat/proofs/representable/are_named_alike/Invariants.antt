use Rattle.std.proofs.Common.{◌≡◌, drop}
use Rattle.witx_ast.specs.Views.{members_plain}
use Rattle.witx_compat.specs.Heads.{same_names}
use Rattle.witx_compat.proofs.representable.are_named_alike.Given as goal

abbrev pub invariant-loop-i : goal.invariant-loop-i
invariant-loop-i l = record {
  same : same_names (members_plain (drop l.i l.members)) (members_plain (drop l.i l.by)) ≡ same_names (members_plain l.members) (members_plain l.by);
}
