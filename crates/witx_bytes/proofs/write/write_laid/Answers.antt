use Rattle.std.proofs.Common.{arith}
use Rattle.witx_ast.specs.Plain.{plain}
use Rattle.witx_ast.specs.Views.{tree_of}
use Rattle.witx_bytes.specs.Bytes.{held}
use Rattle.witx_bytes.proofs.Members.{room_first}
use Rattle.witx_bytes.proofs.write.write_laid.Goals as goal

pub write_type-requires-clause-room : goal.write_type-requires-clause-room
write_type-requires-clause-room c = room_first (plain (tree_of c.args.ty.now)) c.args.at (held c.args.memory.now) (omega arith) c.requires.room

pub write_type-requires-clause-known : goal.write_type-requires-clause-known
write_type-requires-clause-known c = c.requires.laid
