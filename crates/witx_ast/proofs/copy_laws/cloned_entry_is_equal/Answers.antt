use Rattle.witx_ast.proofs.HeldCopies.{entry-equal, entry-reads}
use Rattle.witx_ast.proofs.copy_laws.cloned_entry_is_equal.Goals as goal

pub returns-clause-equal : goal.returns-clause-equal
returns-clause-equal c = entry-equal c.args.entry.now c.args.copy.now c.requires

pub returns-clause-tree : goal.returns-clause-tree
returns-clause-tree c = entry-reads c.args.entry.now c.args.copy.now c.requires
