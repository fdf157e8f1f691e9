use Rattle.std.proofs.Common.{◌+◌, ◌*◌}
use Rattle.witx_bytes.proofs.Laying.{LaidTo, CasesLaidTo}
use Rattle.witx_bytes.proofs.laid.+laying.Given as goal

abbrev pub invariant-lay_members-loop-i : goal.invariant-lay_members-loop-i
invariant-lay_members-loop-i l = LaidTo l.members l.whole l.i

abbrev pub invariant-lay_cases-loop-i : goal.invariant-lay_cases-loop-i
invariant-lay_cases-loop-i l = CasesLaidTo l.cases l.whole l.i

abbrev pub decreases-lay : goal.decreases-lay
decreases-lay l = 8 * l.left

abbrev pub decreases-lay_datatype : goal.decreases-lay_datatype
decreases-lay_datatype l = 8 * l.left + 6

abbrev pub decreases-lay_record : goal.decreases-lay_record
decreases-lay_record l = 8 * l.left + 4

abbrev pub decreases-lay_variant : goal.decreases-lay_variant
decreases-lay_variant l = 8 * l.left + 4

abbrev pub decreases-lay_members : goal.decreases-lay_members
decreases-lay_members l = 8 * l.left + 2

abbrev pub decreases-lay_cases : goal.decreases-lay_cases
decreases-lay_cases l = 8 * l.left + 2

abbrev pub decreases-lay_case : goal.decreases-lay_case
decreases-lay_case l = 8 * l.left + 1
