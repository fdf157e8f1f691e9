use Rattle.std.proofs.Common.{◌≡◌}
use Rattle.witx_grammar.specs.Grammar.{grammar}
use Rattle.witx_values.proofs.Laws.{one_value}
use Rattle.witx_imports.specs.declared.symbols.Nonterminal.TheVariants.{Text}
use Rattle.witx_imports.specs.Actions.{import_language}
use Rattle.witx_imports.specs.Values.{some_imports}
use Rattle.witx_imports.proofs.laws.at_most_one_import_list.Goals as goal

pub returns : goal.returns
returns c text d e a b =
    let table = c.the_table-table.result in
    let same : some_imports d ≡ some_imports e
    = one_value import_language Text (grammar table) c.the_table-table.ensures.grammar
    (λ ms ns ts. c.at_most_one_derivation.ensures table Text ms ns ts c.the_table-table.ensures.predictive)
    text (some_imports d) (some_imports e) a b in
    cc
