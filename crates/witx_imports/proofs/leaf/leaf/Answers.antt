use Rattle.std.proofs.Common.{◌≡◌, List, ◌++◌, IfOk, sym, ◌∙◌, subst, arith}
use Rattle.witx_lex.specs.Tokens.{Lexed}
use Rattle.witx_values.proofs.Held.{kind_at, kinds_count, marks_count}
use Rattle.witx_values.specs.Language.{stack_of}
use Rattle.witx_values.specs.TextTokens.{AreHeld}
use Rattle.witx_values.specs.Texts.{token_at}
use Rattle.witx_imports.specs.declared.symbols.TokenKind.TheVariants.{Quoted}
use Rattle.witx_imports.specs.Actions.{import_language}
use Rattle.witx_imports.specs.Stack.{import_value_view}
use Rattle.witx_imports.specs.TokenKinds.{import_token_kind}
use Rattle.witx_imports.specs.Values.{ImportVal}
use Rattle.witx_imports.proofs.Spelled.{text_spelled, text_stands}
use Rattle.witx_imports.proofs.leaf.leaf.Goals.{In-Quoted}
use Rattle.witx_imports.proofs.leaf.leaf.Goals as goal

pub kind-requires : goal.kind-requires
kind-requires c =
    let ls = c.requires.tokens.0 in
    let h = c.requires.tokens.1 in
    omega (arith, c.requires.inside, kinds_count import_language c.args.tokens.now ls h, marks_count c.args.tokens.now ls h.marked)

is_quoted : (c : In-Quoted) (ls : List Lexed) → AreHeld import_language c.args.tokens.now ls → import_token_kind (token_at ls c.args.at).token ≡ Quoted
is_quoted c ls h = sym (kind_at import_language c.args.tokens.now ls h c.args.at c.kind.result c.requires.inside c.kind.ensures) ∙ c.in-Quoted.is

pub string_spelled-requires : goal.string_spelled-requires
string_spelled-requires c =
    let ls = c.requires.tokens.0 in
    let h = c.requires.tokens.1 in
    text_spelled (token_at ls c.args.at) c.spelling.result.now (is_quoted (goal.at.string_spelled-requires c).In-Quoted ls h) (c.spelling.ensures ls h.marked)

pub returns-in_ok-name-in-Quoted : goal.returns-in_ok-name-in-Quoted
returns-in_ok-name-in-Quoted c ls h =
    let l = token_at ls c.args.at in
    subst (λ (vs : List ImportVal). IfOk c.push_name.result (λ _. stack_of import_value_view c.push_name.new.stack.items ≡ vs ++ stack_of import_value_view c.args.stack.now.items))
    (text_stands l c.spelling.result.now c.in_ok-name-in-Quoted.name (is_quoted (goal.at.returns-in_ok-name-in-Quoted c).In-Quoted ls h) (c.spelling.ensures ls h.marked) c.in_ok-name-in-Quoted.ensures)
    c.push_name.ensures
