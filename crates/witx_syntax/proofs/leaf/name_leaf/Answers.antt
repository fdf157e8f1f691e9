use Rattle.std.proofs.Common.{◌≡◌, ◌∷◌, IfOk, subst}
use Rattle.witx_values.specs.Language.{stack_of}
use Rattle.witx_values.specs.Texts.{token_at}
use Rattle.witx_language.specs.Values.{a_name}
use Rattle.witx_language.proofs.Spelled.{name_spelled, name_stands}
use Rattle.witx_syntax_tree.specs.Trees.{Name}
use Rattle.witx_syntax.specs.Stack.{value_view}
use Rattle.witx_syntax.proofs.Leaves.{laid}
use Rattle.witx_syntax.proofs.leaf.name_leaf.Goals as goal

pub name_behind-name-requires : goal.name_behind-name-requires
name_behind-name-requires c =
    let ls = c.requires.tokens.0 in
    let h = c.requires.tokens.1 in
    name_spelled (token_at ls c.args.at) c.spelling.result.now (c.requires.kind ls h) (c.spelling.ensures ls h.marked)

pub returns : goal.returns
returns c ls h =
    laid c.push_name.result c.args.stack.now.items c.push_name.new.stack.items
    (a_name (record { name = c.name_behind-name.result.now; start = c.span.result.start; end = c.span.result.end })) _
    (name_stands (token_at ls c.args.at) c.spelling.result.now c.name_behind-name.result.now c.span.result
    (c.requires.kind ls h) (c.spelling.ensures ls h.marked) c.name_behind-name.ensures (c.span.ensures ls h.marked))
    (subst (λ (n : Name). IfOk c.push_name.result (λ _. stack_of value_view c.push_name.new.stack.items ≡ a_name n ∷ stack_of value_view c.args.stack.now.items)) c.identifier-id.ensures c.push_name.ensures)
