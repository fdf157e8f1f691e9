use Rattle.std.proofs.Common.{◌≡◌, ◌+◌, List, [], ◌∷◌, drop, IfOk, refl, sym, ap, ◌∙◌, subst}
use Rattle.witx_lex.specs.Tokens.{Lexed}
use Rattle.witx_values.specs.Language.{stack_of}
use Rattle.witx_comments.specs.Comments.{Comments}
use Rattle.witx_language.specs.declared.production.ProductionName.{ProductionName}
use Rattle.witx_language.specs.declared.production.ProductionName.TheVariants as p
use Rattle.witx_language.specs.Actions.{act}
use Rattle.witx_language.specs.CommentsHeld.{comments_held}
use Rattle.witx_language.specs.Values.{Val, comments_of, second_comments}
use Rattle.witx_language.proofs.Before.{at_drop, second_drop}
use Rattle.witx_language.proofs.Held.{comments_are}
use Rattle.witx_syntax.specs.Stack.{performed, commented, value_view}
use Rattle.witx_syntax.proofs.builder.BuildingActions.perform.Goals as goal

-- the first two tokens, of which nothing but the comments is seen
abbrev seen : Comments → Comments → List Lexed
seen cs ds = commented cs ∷ commented ds ∷ []

-- no production sees more
performed_is : (x : ProductionName) (ts : List Lexed) (vs : List Val) → performed x (seen (comments_of ts) (second_comments ts)) vs ≡ act x ts vs
performed_is p.NoItems ts vs = refl
performed_is x ts vs = refl

pub perform-requires-clause-tokens : goal.perform-requires-clause-tokens
perform-requires-clause-tokens c = (c.requires.tokens.0, c.requires.tokens.1.marked)

pub returns : goal.returns
returns c ls h =
    let tokens = c.args.tokens.now in
    let at = c.args.at in
    let vs = stack_of value_view c.args.stack.now.items in
    let x = c.args.production in
    let first : comments_held tokens at ≡ comments_of (drop at ls) = comments_are tokens ls at h.marked ∙ sym (at_drop ls at) in
    let second : comments_held tokens (at + 1) ≡ second_comments (drop at ls) = comments_are tokens ls (at + 1) h.marked ∙ sym (second_drop ls at) in
    subst (λ (ws : List Val). IfOk c.perform.result (λ _. stack_of value_view c.perform.new.stack.items ≡ ws))
    (ap (λ (cs : Comments). performed x (seen cs (comments_held tokens (at + 1))) vs) first
    ∙ ap (λ (cs : Comments). performed x (seen (comments_of (drop at ls)) cs) vs) second
    ∙ performed_is x (drop at ls) vs) c.perform.ensures
