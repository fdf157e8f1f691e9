use Rattle.witx_ast.proofs.HeldCopies.{entries-equal}
use Rattle.witx_ast.proofs.copy_laws.copied_entries_are_equal.Goals as goal

pub returns : goal.returns
returns c = entries-equal c.args.entries.now c.args.copy.now c.requires
