use Rattle.std.proofs.Common.{refl}
use Rattle.witx_values.proofs.Laws.{one_text_fault}
use Rattle.witx_imports.specs.declared.symbols.Nonterminal.TheVariants.{Text}
use Rattle.witx_imports.specs.Actions.{import_language}
use Rattle.witx_imports.specs.Reads.{telling_places}
use Rattle.witx_imports.proofs.laws.at_most_one_import_list_fault.Goals as goal

pub returns : goal.returns
returns c = one_text_fault import_language Text telling_places (λ text ks js k n to from. refl)
