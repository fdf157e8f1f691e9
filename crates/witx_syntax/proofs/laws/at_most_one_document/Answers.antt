use Rattle.std.proofs.Common.{◌≡◌}
use Rattle.witx_grammar.specs.Grammar.{grammar}
use Rattle.witx_values.proofs.Laws.{one_value}
use Rattle.witx_language.specs.declared.nonterminal.Nonterminal.TheVariants.{Text}
use Rattle.witx_language.specs.Actions.{the_language}
use Rattle.witx_language.specs.Values.{some_items}
use Rattle.witx_syntax.proofs.laws.at_most_one_document.Goals as goal

pub returns : goal.returns
returns c text d e a b =
    let table = c.the_table-table.result in
    let same : some_items d ≡ some_items e
    = one_value the_language Text (grammar table) c.the_table-table.ensures.grammar
    (λ ms ns ts. c.at_most_one_derivation.ensures table Text ms ns ts c.the_table-table.ensures.predictive)
    text (some_items d) (some_items e) a b in
    cc
