use Rattle.std.proofs.Common.{List, ap, ◌∙◌}
use Rattle.std.specs.Prelude.{slice_index_or}
use Rattle.witx_values.specs.Language.{kinds_of}
use Rattle.witx_values.specs.Texts.{start_of}
use Rattle.witx_values.proofs.Readings.{value_sorted, text_value, text_fault}
use Rattle.witx_language.specs.declared.nonterminal.Nonterminal.TheVariants.{Text}
use Rattle.witx_language.specs.declared.token_kind.TokenKind.{TokenKind}
use Rattle.witx_language.specs.declared.token_kind.TokenKind.TheVariants.{End}
use Rattle.witx_language.specs.Actions.{the_language}
use Rattle.witx_language.specs.FaultPlaces.{fault_view, fault_told_at}
use Rattle.witx_language.specs.Messages.{message_of}
use Rattle.witx_language.specs.Values.{some_items}
use Rattle.witx_language.proofs.Lawful.{lawful}
use Rattle.witx_syntax_tree.specs.Views.{document_view}
use Rattle.witx_syntax.specs.Reads.{telling}
use Rattle.witx_syntax.specs.Stack.{value_view}
use Rattle.witx_syntax.proofs.parser.parse_tokens.Goals as goal

pub items_in-requires : goal.items_in-requires
items_in-requires c =
    let ls = c.requires.0 in
    let held = c.requires.1 in
    value_sorted the_language lawful value_view Text c.args.tokens.now.text.now ls held.marked.lexed c.in_ok-value.field-0 (c.in_ok-value.ensures ls held)
    c.in-Value.value c.in-Value.is

pub returns-in-Value-clause-document : goal.returns-in-Value-clause-document
returns-in-Value-clause-document c =
    let ls = c.requires.0 in
    let held = c.requires.1 in
    text_value the_language lawful value_view Text c.args.tokens.now.text.now ls held.marked.lexed c.in_ok-value.field-0 (c.in_ok-value.ensures ls held)
    c.in-Value.value (some_items (document_view (record { items = c.items_in.result }))) c.in-Value.is c.items_in.ensures

pub returns-in-Fault-clause-fault : goal.returns-in-Fault-clause-fault
returns-in-Fault-clause-fault c =
    let ls = c.requires.0 in
    let held = c.requires.1 in
    let text = c.args.tokens.now.text.now in
    let fault = c.in-Fault.fault in
    let here = slice_index_or (kinds_of the_language ls) fault.at End in
    text_fault the_language lawful value_view Text text ls held.marked.lexed c.in_ok-value.field-0 (c.in_ok-value.ensures ls held)
    telling fault (fault_view c.token_fault-fault.result) c.in-Fault.is
    (c.token_fault-fault.ensures ls held
    ∙ ap (λ (expected : List TokenKind). fault_told_at text (message_of expected here) (start_of text ls fault.at)) c.as_slice.ensures.value)
