use Rattle.std.proofs.Common.{sym}
use Rattle.witx_ast.specs.Views.{members_plain}
use Rattle.witx_bytes.proofs.Parts.{not_flags}
use Rattle.witx_bytes.proofs.membership.are_flags.Goals as goal

pub returns-in_default : goal.returns-in_default
returns-in_default c = λ r. sym (not_flags r (members_plain c.args.members.now) c.args.value.now c.in_default.not-Flags)
