use Rattle.witx_ast.specs.contracts.module.ModuleImportEq.TheImpl.Laws as import_laws
use Rattle.witx_ast.proofs.copy_laws.copied_import_is_equal.Goals as goal

pub returns : goal.returns
returns c = rw c.requires (import_laws.laws-law.refl c.args.original.now)
