use Rattle.witx_ast.proofs.HeldCopies.{item-equal, item-reads}
use Rattle.witx_ast.proofs.copy_laws.copied_item_is_equal.Goals as goal

pub returns-clause-equal : goal.returns-clause-equal
returns-clause-equal c = item-equal c.args.original.now c.args.copy.now c.requires

pub returns-clause-item : goal.returns-clause-item
returns-clause-item c = item-reads c.args.original.now c.args.copy.now c.requires
