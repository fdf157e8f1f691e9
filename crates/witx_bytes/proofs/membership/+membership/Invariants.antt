use Rattle.witx_bytes.proofs.Belonging.{ValuesFrom}
use Rattle.witx_bytes.proofs.membership.+membership.Given as goal

abbrev pub invariant-are_member_values-loop-i : goal.invariant-are_member_values-loop-i
invariant-are_member_values-loop-i l = ValuesFrom l.members l.values l.i
