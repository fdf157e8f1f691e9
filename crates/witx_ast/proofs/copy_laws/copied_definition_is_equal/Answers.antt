use Rattle.witx_ast.proofs.HeldCopies.{definition-equal, definition-reads}
use Rattle.witx_ast.proofs.copy_laws.copied_definition_is_equal.Goals as goal

pub returns-clause-equal : goal.returns-clause-equal
returns-clause-equal c = definition-equal c.args.definition.now c.args.copy.now c.requires

pub returns-clause-tree : goal.returns-clause-tree
returns-clause-tree c = definition-reads c.args.definition.now c.args.copy.now c.requires
