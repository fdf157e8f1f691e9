use Rattle.witx_ast.proofs.HeldCopies.{entries-equal, definitions-read}
use Rattle.witx_ast.proofs.copy_laws.copied_documents_are_equal.Goals as goal

pub returns-clause-equal : goal.returns-clause-equal
returns-clause-equal c = entries-equal c.args.document.now.entries c.args.copy.now.entries c.requires.entries

pub returns-clause-trees : goal.returns-clause-trees
returns-clause-trees c = definitions-read c.args.document.now.definitions c.args.copy.now.definitions c.requires.definitions
