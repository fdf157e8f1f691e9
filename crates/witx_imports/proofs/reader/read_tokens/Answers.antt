use Rattle.std.proofs.Common.{◌≡◌, ℕ, List, ap, ◌∙◌, subst}
use Rattle.witx_lex.specs.Meaning.{HasTokens}
use Rattle.witx_values.specs.Texts.{start_of}
use Rattle.witx_values.proofs.Readings.{value_sorted, text_value, text_fault}
use Rattle.witx_imports.specs.declared.symbols.Nonterminal.TheVariants.{Text}
use Rattle.witx_imports.specs.Actions.{import_language}
use Rattle.witx_imports.specs.Lawful.{lawful}
use Rattle.witx_imports.specs.Reads.{IsBadAt, telling_places, line_column_at}
use Rattle.witx_imports.specs.Stack.{import_value_view}
use Rattle.witx_imports.specs.Values.{some_imports}
use Rattle.witx_imports.proofs.Placed.{at_place}
use Rattle.witx_imports.proofs.reader.read_tokens.Goals as goal

pub imports_in-requires : goal.imports_in-requires
imports_in-requires c =
    let ls = c.requires.tokens.0 in
    let held = c.requires.tokens.1 in
    value_sorted import_language lawful import_value_view Text c.args.tokens.now.text.now ls held.marked.lexed c.in_ok-value.field-0 (c.in_ok-value.ensures ls held)
    c.in-Value.value c.in-Value.is

pub returns-in-Value-clause-imports : goal.returns-in-Value-clause-imports
returns-in-Value-clause-imports c =
    let ls = c.requires.tokens.0 in
    let held = c.requires.tokens.1 in
    let lexed = subst (λ (t : List ℕ). HasTokens t ls) c.requires.text held.marked.lexed in
    text_value import_language lawful import_value_view Text c.args.text.now ls lexed c.in_ok-value.field-0 (c.in_ok-value.ensures ls held)
    c.in-Value.value (some_imports c.imports_in.result) c.in-Value.is c.imports_in.ensures

pub returns-in-Fault-clause-fault : goal.returns-in-Fault-clause-fault
returns-in-Fault-clause-fault c =
    let ls = c.requires.tokens.0 in
    let held = c.requires.tokens.1 in
    let text = c.args.text.now in
    let lexed = subst (λ (t : List ℕ). HasTokens t ls) c.requires.text held.marked.lexed in
    at_place (λ place. place ≡ line_column_at text c.start.result) (λ place. IsBadAt text place) c.fault_at.result
    (λ place told. text_fault import_language lawful import_value_view Text text ls lexed c.in_ok-value.field-0 (c.in_ok-value.ensures ls held)
    telling_places c.in-Fault.fault place c.in-Fault.is
    (told ∙ ap (line_column_at text) (c.start.ensures ls held.marked ∙ ap (λ (t : List ℕ). start_of t ls c.in-Fault.fault.at) c.requires.text))) c.fault_at.ensures
