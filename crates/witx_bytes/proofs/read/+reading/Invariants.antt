use Rattle.std.proofs.Common.{◌+◌, ◌*◌}
use Rattle.witx_ast.specs.Plain.{plain}
use Rattle.witx_ast.specs.Views.{tree_of, datatype_tree, record_tree, variant_tree, members_plain}
use Rattle.witx_bytes.proofs.Nodes.{nodes, field_nodes, payload_nodes}
use Rattle.witx_bytes.specs.Bytes.{held}
use Rattle.witx_bytes.proofs.ReadParts.{ReadTo}
use Rattle.witx_bytes.proofs.read.+reading.Given as goal

abbrev pub invariant-read_members-loop-i : goal.invariant-read_members-loop-i
invariant-read_members-loop-i l = ReadTo l.members l.values l.at l.end l.i (held l.memory)

abbrev pub decreases-read_type : goal.decreases-read_type
decreases-read_type l = 8 * nodes (plain (tree_of l.ty.now)) + 2

abbrev pub decreases-read_datatype : goal.decreases-read_datatype
decreases-read_datatype l = 8 * nodes (plain (datatype_tree l.datatype.now)) + 1

abbrev pub decreases-read_record : goal.decreases-read_record
decreases-read_record l = 8 * nodes (plain (record_tree l.record_type.now))

abbrev pub decreases-read_members : goal.decreases-read_members
decreases-read_members l = 8 * field_nodes (members_plain l.members.now) + 3

abbrev pub decreases-read_variant : goal.decreases-read_variant
decreases-read_variant l = 8 * nodes (plain (variant_tree l.variant.now))

abbrev pub decreases-read_payload : goal.decreases-read_payload
decreases-read_payload l = 8 * payload_nodes l.case.now.tref + 4

abbrev pub decreases-read_boxed : goal.decreases-read_boxed
decreases-read_boxed l = 8 * nodes (plain (tree_of l.ty.now)) + 3
