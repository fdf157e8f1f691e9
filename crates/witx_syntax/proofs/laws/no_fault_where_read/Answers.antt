use Rattle.witx_values.proofs.Laws.{no_fault_there}
use Rattle.witx_language.specs.declared.nonterminal.Nonterminal.TheVariants.{Text}
use Rattle.witx_language.specs.Actions.{the_language}
use Rattle.witx_language.specs.Values.{some_items}
use Rattle.witx_syntax.specs.Reads.{telling}
use Rattle.witx_syntax.proofs.laws.no_fault_where_read.Goals as goal

pub returns : goal.returns
returns c text d f = no_fault_there the_language Text telling text (some_items d) f
