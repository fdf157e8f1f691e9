use Rattle.witx_grammar.specs.Grammar.{grammar}
use Rattle.witx_values.proofs.Laws.{value_or_fault}
use Rattle.witx_values.proofs.Parts.{held}
use Rattle.witx_imports.specs.declared.symbols.Nonterminal.TheVariants.{Text}
use Rattle.witx_imports.specs.declared.value.Sort.TheVariants.{Imports}
use Rattle.witx_imports.specs.Actions.{import_language}
use Rattle.witx_imports.specs.Lawful.{is_sorting, lawful}
use Rattle.witx_imports.specs.Reads.{telling_places}
use Rattle.witx_imports.specs.Sorts.{import_sorting}
use Rattle.witx_imports.specs.Values.{some_imports}
use Rattle.witx_imports.proofs.laws.an_import_list_or_a_fault.Goals as goal

pub returns : goal.returns
returns c =
    let table = c.the_table-table.result in
    value_or_fault import_language Text telling_places lawful (grammar table) c.the_table-table.ensures.grammar
    (λ ts. c.derivation_or_fault.ensures table Text ts c.the_table-table.ensures.predictive) some_imports (held import_sorting is_sorting Imports)
