use Rattle.witx_ast.specs.contracts.module.ModuleHash.TheImpl.Laws.{respects_eq-law}
use Rattle.witx_ast.proofs.laws.equal_modules_hash_alike.Goals as goal

pub returns : goal.returns
returns c = respects_eq-law c.args.a.now c.args.b.now c.requires
