use Rattle.std.proofs.Common.{arith}
use Rattle.witx_ast.specs.Views.{cases_plain}
use Rattle.witx_layout.proofs.Alignments.{payloads-some}
use Rattle.witx_bytes.proofs.laid.with_tag.Goals as goal

pub tagged-requires : goal.tagged-requires
tagged-requires c = omega (arith, c.requires.0.1, payloads-some (cases_plain c.args.cases.now))
