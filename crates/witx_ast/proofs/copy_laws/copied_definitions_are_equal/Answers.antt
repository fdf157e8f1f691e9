use Rattle.witx_ast.proofs.HeldCopies.{definitions-equal, definitions-read}
use Rattle.witx_ast.proofs.copy_laws.copied_definitions_are_equal.Goals as goal

pub returns-clause-equal : goal.returns-clause-equal
returns-clause-equal c = definitions-equal c.args.definitions.now c.args.copy.now c.requires

pub returns-clause-trees : goal.returns-clause-trees
returns-clause-trees c = definitions-read c.args.definitions.now c.args.copy.now c.requires
