use Rattle.std.proofs.Common.{rules, ◌≤◌, length, subst, sym}
use Rattle.witx_ast.specs.Views.{members_plain}
use Rattle.witx_bytes.proofs.Members.{flags_few}
use Rattle.witx_bytes.proofs.Parts.{scalar_rules}
use Rattle.witx_bytes.proofs.write.write_flags.Goals as goal

pub flag_bits-requires : goal.flag_bits-requires
flag_bits-requires c = subst (λ bits. length bits ≤ 64) (sym c.as_slice.ensures) (flags_few c.args.repr (members_plain c.args.members.now) c.args.value.now c.in-Flags.flags c.requires.value c.in-Flags.is)

pub returns : goal.returns
returns c = search (rules, scalar_rules)
