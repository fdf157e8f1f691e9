use Rattle.std.proofs.Common.{◌≡◌, List, ◌++◌, sym, ap, ◌∙◌, arith}
use Rattle.witx_values.proofs.Held.{kind_at, kinds_count, marks_count}
use Rattle.witx_values.specs.Language.{stack_of}
use Rattle.witx_values.specs.Texts.{token_at}
use Rattle.witx_language.specs.declared.token_kind.TokenKind.{TokenKind}
use Rattle.witx_language.specs.Actions.{the_language}
use Rattle.witx_language.specs.Values.{Val}
use Rattle.witx_language.proofs.Spelled.{nothing_stands}
use Rattle.witx_syntax.specs.Stack.{IsOfKind, value_view}
use Rattle.witx_syntax.proofs.leaf.leaf.Goals.{After-kind}
use Rattle.witx_syntax.proofs.leaf.leaf.Goals as goal

pub kind-requires : goal.kind-requires
kind-requires c =
    let ls = c.requires.tokens.0 in
    let h = c.requires.tokens.1 in
    omega (arith, c.requires.inside, kinds_count the_language c.args.tokens.now ls h, marks_count c.args.tokens.now ls h.marked)

-- the kind that was read is that of the token
kind_is : (c : After-kind) (k : TokenKind) → c.kind.result ≡ k → IsOfKind k c.args.tokens.now c.args.at
kind_is c k is ls h = sym (kind_at the_language c.args.tokens.now ls h c.args.at c.kind.result c.requires.inside c.kind.ensures) ∙ is

pub name_leaf-requires-clause-kind : goal.name_leaf-requires-clause-kind
name_leaf-requires-clause-kind c = kind_is (goal.at.name_leaf-requires-clause-kind c).After-kind _ c.in-Id.is

pub text_leaf-requires-clause-kind : goal.text_leaf-requires-clause-kind
text_leaf-requires-clause-kind c = kind_is (goal.at.text_leaf-requires-clause-kind c).After-kind _ c.in-Quoted.is

pub integer_leaf-requires-clause-kind : goal.integer_leaf-requires-clause-kind
integer_leaf-requires-clause-kind c = kind_is (goal.at.integer_leaf-requires-clause-kind c).After-kind _ c.in-Integer.is

pub returns-in_default : goal.returns-in_default
returns-in_default c ls h =
    let kind = kind_at the_language c.args.tokens.now ls h c.args.at c.kind.result c.requires.inside c.kind.ensures in
    ap (λ (vs : List Val). vs ++ stack_of value_view c.args.stack.now.items)
    (sym (nothing_stands (token_at ls c.args.at) c.kind.result kind c.in_default.not-Id c.in_default.not-Quoted c.in_default.not-Integer))
