use Rattle.witx_ast.specs.contracts.definition.ConstantEq.TheImpl.Laws as constant_laws
use Rattle.witx_ast.proofs.copy_laws.copied_constant_is_equal.Goals as goal

pub returns : goal.returns
returns c = rw c.requires (constant_laws.laws-law.refl c.args.original.now)
