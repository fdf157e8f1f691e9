use Rattle.std.proofs.Common.{◌+◌, ◌*◌}
use Rattle.witx_invoke.proofs.ReadParts.{MembersRead}
use Rattle.witx_invoke.proofs.read.+reading.Given as goal

abbrev pub invariant-read_members-loop-i : goal.invariant-read_members-loop-i
invariant-read_members-loop-i l = MembersRead l.members l.values l.i l.fn.text l.rest

abbrev pub decreases-read_type : goal.decreases-read_type
decreases-read_type l = 8 * l.deep + 0

abbrev pub decreases-read_datatype : goal.decreases-read_datatype
decreases-read_datatype l = 8 * l.deep + 7

abbrev pub decreases-read_record : goal.decreases-read_record
decreases-read_record l = 8 * l.deep + 6

abbrev pub decreases-read_enclosed : goal.decreases-read_enclosed
decreases-read_enclosed l = 8 * l.deep + 4

abbrev pub decreases-read_members : goal.decreases-read_members
decreases-read_members l = 8 * l.deep + 3

abbrev pub decreases-read_member : goal.decreases-read_member
decreases-read_member l = 8 * l.deep + 1

abbrev pub decreases-read_variant : goal.decreases-read_variant
decreases-read_variant l = 8 * l.deep + 6

abbrev pub decreases-read_cases : goal.decreases-read_cases
decreases-read_cases l = 8 * l.deep + 5

abbrev pub decreases-read_carrying : goal.decreases-read_carrying
decreases-read_carrying l = 8 * l.deep + 4

abbrev pub decreases-read_payload : goal.decreases-read_payload
decreases-read_payload l = 8 * l.deep + 1
