use Rattle.witx_ast.specs.contracts.document.DocumentHash.TheImpl.Laws.{respects_eq-law}
use Rattle.witx_ast.proofs.laws.equal_documents_hash_alike.Goals as goal

pub returns : goal.returns
returns c = respects_eq-law c.args.a.now c.args.b.now c.requires
