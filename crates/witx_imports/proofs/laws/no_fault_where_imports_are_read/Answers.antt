use Rattle.witx_values.proofs.Laws.{no_fault_there}
use Rattle.witx_imports.specs.declared.symbols.Nonterminal.TheVariants.{Text}
use Rattle.witx_imports.specs.Actions.{import_language}
use Rattle.witx_imports.specs.Reads.{telling_places}
use Rattle.witx_imports.specs.Values.{some_imports}
use Rattle.witx_imports.proofs.laws.no_fault_where_imports_are_read.Goals as goal

pub returns : goal.returns
returns c text d place = no_fault_there import_language Text telling_places text (some_imports d) place
