use Rattle.std.proofs.Common.{arith}
use Rattle.witx_ast.specs.Views.{members_plain}
use Rattle.witx_layout.proofs.Alignments.{members-some}
use Rattle.witx_bytes.proofs.laid.lay_whole.Goals as goal

pub padded-requires : goal.padded-requires
padded-requires c = omega (arith, c.requires.0.1, members-some (members_plain c.args.members.now))
