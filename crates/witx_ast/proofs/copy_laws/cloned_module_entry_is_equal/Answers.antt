use Rattle.witx_ast.proofs.HeldCopies.{item-entry-equal, item-entry-reads}
use Rattle.witx_ast.proofs.copy_laws.cloned_module_entry_is_equal.Goals as goal

pub returns-clause-equal : goal.returns-clause-equal
returns-clause-equal c = item-entry-equal c.args.entry.now c.args.copy.now c.requires

pub returns-clause-item : goal.returns-clause-item
returns-clause-item c = item-entry-reads c.args.entry.now c.args.copy.now c.requires
