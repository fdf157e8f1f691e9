use Rattle.std.proofs.Common.{◌≡◌, ℕ, Bor, Option, List, [], ◌∷◌, ◌+◌, length, sym, ap, ◌∙◌, subst, arith}
use Rattle.witx_grammar.specs.Choices.{all_wanted, still_wanted}
use Rattle.witx_grammar.specs.Prediction.{choose}
use Rattle.witx_grammar.specs.declared.table.TheConstants.{DEPTH}
use Rattle.witx_grammar.specs.Grammar.{grammar, Wants, Rewrite}
use Rattle.witx_grammar.specs.declared.table.Symbol.{Symbol}
use Rattle.witx_grammar.specs.declared.table.Symbol.TheVariants.{Nonterminal, Terminal}
use Rattle.witx_grammar.specs.declared.table.Step.{Step}
use Rattle.witx_grammar.proofs.Lookahead.{not_true, not_false, lookahead_within}
use Rattle.witx_grammar.proofs.Parts.{takes, token_step}
use Rattle.witx_grammar.proofs.Grounded.{least, least_low}
use Rattle.witx_grammar.proofs.Steps.{not_both}
use Rattle.witx_grammar.proofs.Progress.{Sofar, sofar_start, sofar_next, sofar_token, no_token, no_more_tokens, no_choice, sofar_done, too_many, rest_is}
use Rattle.witx_grammar.proofs.Chosen.{chosen_from, chosen_opens, chosen_smaller, carried, put_before}
use Rattle.witx_grammar.proofs.engine.derive.Goals as goal
use Rattle.witx_grammar.proofs.engine.derive.Goals.{then-at-tokens-via-then-at-tokens, then-at-tokens-via-else-at-tokens+then-ne}

start_from : {T N P : Type 0} (g : List (Rewrite T N P)) (f : N) (ts : List T) (next : Option (Symbol T N × Bor (List (Symbol T N)))) (none : List (Bor (List (Symbol T N)))) (steps : List (Step P))
    → none ≡ [] → all_wanted next [] ≡ Nonterminal f ∷ [] → steps ≡ [] → Sofar g (Nonterminal f ∷ []) ts (all_wanted next none) steps 0
start_from {T} {N} {P} g f ts next none steps a first e =
    subst (λ (ms : List (Step P)). Sofar g (Nonterminal f ∷ []) ts (all_wanted next none) ms 0) (sym e)
    (subst (λ (w : Wants T N). Sofar g (Nonterminal f ∷ []) ts w [] 0) (sym (ap (λ (ss : List (Bor (List (Symbol T N)))). all_wanted next ss) a ∙ first)) (sofar_start g (Nonterminal f ∷ []) ts))

carried_on : {T N P : Type 0} (g : List (Rewrite T N P)) (start : Wants T N) (ts : List T) (v w : Wants T N) (ms ns : List (Step P)) (at : ℕ) → w ≡ v → ns ≡ ms → Sofar g start ts w ms at → Sofar g start ts v ns at
carried_on {T} {N} {P} g start ts v w ms ns at e is s =
    subst (λ (ls : List (Step P)). Sofar g start ts v ls at) (sym is) (subst (λ (u : Wants T N). Sofar g start ts u ms at) e s)

pub each-init : goal.each-init
each-init g c = (
  start_from (grammar c.args.table.now) c.args.start c.args.tokens.now c.first_wanted-next.result c.new-stack.result.items c.in_ok-steps.steps.items c.new-stack.ensures.items c.first_wanted-next.ensures c.in_ok-steps.ensures.items,
  c.in_ok-known.ensures,
)

pub returns-then-at-tokens : goal.returns-then-at-tokens
returns-then-at-tokens g c =
    let s = sofar_next (grammar c.args.table.now) (Nonterminal c.args.start ∷ []) c.args.tokens.now (all_wanted c.each.next c.each.stack.items) (still_wanted c.in-Some.rest.now c.each.stack.items) c.in-Some.symbol (Terminal c.in-Terminal.kind) c.each.steps.items c.each.at
    c.each.invariant.0 (ap (λ o. all_wanted o c.each.stack.items) c.in-Some.is) c.in-Terminal.is in
    elim c.then-at-tokens.branch [
      | then-at-tokens-via-then-at-tokens w ↦ no_more_tokens (grammar c.args.table.now) (Nonterminal c.args.start ∷ []) c.args.tokens.now c.in-Terminal.kind (still_wanted c.in-Some.rest.now c.each.stack.items) c.each.steps.items c.each.at s w.if-at-tokens.true
      | then-at-tokens-via-else-at-tokens+then-ne w ↦ no_token (grammar c.args.table.now) (Nonterminal c.args.start ∷ []) c.args.tokens.now c.in-Terminal.kind w.index-tokens-at.result (still_wanted c.in-Some.rest.now c.each.stack.items) c.each.steps.items c.each.at s
          w.if-at-tokens.false (λ same. not_both (sym ((g.met.T.Kind.exact w.index-tokens-at.result c.in-Terminal.kind).1 (w.index-tokens-at.is ∙ same)) ∙ not_true _ w.if-ne.ensures))
    ]

pub each-smaller-in-Terminal : goal.each-smaller-in-Terminal
each-smaller-in-Terminal g c = token_step g.N.PartialEq.eq g.met.N.Kind.exact (grammar c.args.table.now) (length c.args.tokens.now) c.each.at _ (all_wanted c.next_wanted-next.result c.next_wanted-next.new.stack.items) c.if-at-tokens.false

pub each-preserved-in-Terminal : goal.each-preserved-in-Terminal
each-preserved-in-Terminal g c =
    let s = sofar_next (grammar c.args.table.now) (Nonterminal c.args.start ∷ []) c.args.tokens.now (all_wanted c.each.next c.each.stack.items) (still_wanted c.in-Some.rest.now c.each.stack.items) c.in-Some.symbol (Terminal c.in-Terminal.kind) c.each.steps.items c.each.at
    c.each.invariant.0 (ap (λ o. all_wanted o c.each.stack.items) c.in-Some.is) c.in-Terminal.is in (
      carried_on (grammar c.args.table.now) (Nonterminal c.args.start ∷ []) c.args.tokens.now _ (still_wanted c.in-Some.rest.now c.each.stack.items) _ _ (c.each.at + 1) c.next_wanted-next.ensures c.in_ok-push-in-Terminal.ensures.items
          (sofar_token (grammar c.args.table.now) (Nonterminal c.args.start ∷ []) c.args.tokens.now c.in-Terminal.kind c.index-tokens-at.result (still_wanted c.in-Some.rest.now c.each.stack.items) c.each.steps.items c.each.at s c.if-at-tokens.false
          (sym c.index-tokens-at.is ∙ (g.met.T.Kind.exact c.index-tokens-at.result c.in-Terminal.kind).0 (not_false _ c.if-ne.ensures))),
      c.each.invariant.1,
    )

pub returns-in_default-choose : goal.returns-in_default-choose
returns-in_default-choose g c =
    let s = sofar_next (grammar c.args.table.now) (Nonterminal c.args.start ∷ []) c.args.tokens.now (all_wanted c.each.next c.each.stack.items) (still_wanted c.in-Some.rest.now c.each.stack.items) c.in-Some.symbol (Nonterminal c.in-Nonterminal.wanted) c.each.steps.items c.each.at
    c.each.invariant.0 (ap (λ o. all_wanted o c.each.stack.items) c.in-Some.is) c.in-Nonterminal.is in
    no_choice (grammar c.args.table.now) (Nonterminal c.args.start ∷ []) c.args.tokens.now g.T.PartialEq.eq g.N.PartialEq.eq
    (takes g.T.PartialEq.eq g.N.PartialEq.eq g.P.PartialEq.eq g.met.N.Kind.exact g.met.P.Kind.exact c.args.table.now c.requires)
    c.in-Nonterminal.wanted (still_wanted c.in-Some.rest.now c.each.stack.items) c.each.steps.items c.each.at s
    (ap (λ (x : List g.row.T.Denot). choose g.T.PartialEq.eq g.N.PartialEq.eq (grammar c.args.table.now) c.in-Nonterminal.wanted x) (sym (rest_is c.args.tokens.now c.each.at)) ∙ sym c.in_default-choose.ensures.choice)

pub behind-left-requires : goal.behind-left-requires
behind-left-requires g c = let low = lookahead_within c.in-Some-choose.production.now.symbols.now in omega (arith, low, c.in-Some-choose.ensures.front)

pub read_tokens-requires : goal.read_tokens-requires
read_tokens-requires g c =
    let s = chosen_from g.T.PartialEq.eq g.N.PartialEq.eq g.P.PartialEq.eq g.met.T.Kind.exact g.met.N.Kind.exact g.met.P.Kind.exact c.args.table.now c.requires (Nonterminal c.args.start ∷ []) c.args.tokens.now
    (all_wanted c.each.next c.each.stack.items) (still_wanted c.in-Some.rest.now c.each.stack.items) c.in-Some.symbol c.in-Nonterminal.wanted c.each.steps.items c.each.at c.in-Some-choose.front c.in-Some-choose.production.now
    c.each.invariant.0 (ap (λ o. all_wanted o c.each.stack.items) c.in-Some.is) c.in-Nonterminal.is c.in-Some-choose.ensures.choice c.in-Some-choose.ensures.comes_next c.in-Some-choose.ensures.front in s.within

pub each-preserved : goal.each-preserved
each-preserved g c = (
  carried (grammar c.args.table.now) (Nonterminal c.args.start ∷ []) c.args.tokens.now _ (all_wanted c.next_wanted-next-in-Nonterminal.result c.next_wanted-next-in-Nonterminal.new.stack.items) c.each.steps.items _ _ _ c.each.at c.in-Some-choose.front _
      (sym c.next_wanted-next-in-Nonterminal.ensures ∙ put_before _ _ _ _ c.behind-left.ensures c.in_ok-push_list-in-Nonterminal.ensures) c.in_ok-push-in-Nonterminal.ensures.items c.in_ok-at-in-Nonterminal.ensures.steps c.in_ok-at-in-Nonterminal.ensures.place
      (chosen_from g.T.PartialEq.eq g.N.PartialEq.eq g.P.PartialEq.eq g.met.T.Kind.exact g.met.N.Kind.exact g.met.P.Kind.exact c.args.table.now c.requires (Nonterminal c.args.start ∷ []) c.args.tokens.now
      (all_wanted c.each.next c.each.stack.items) (still_wanted c.in-Some.rest.now c.each.stack.items) c.in-Some.symbol c.in-Nonterminal.wanted c.each.steps.items c.each.at c.in-Some-choose.front c.in-Some-choose.production.now
      c.each.invariant.0 (ap (λ o. all_wanted o c.each.stack.items) c.in-Some.is) c.in-Nonterminal.is c.in-Some-choose.ensures.choice c.in-Some-choose.ensures.comes_next c.in-Some-choose.ensures.front),
  c.in-Some-choose.ensures.known,
)

pub each-smaller : goal.each-smaller
each-smaller g c =
    let s = chosen_from g.T.PartialEq.eq g.N.PartialEq.eq g.P.PartialEq.eq g.met.T.Kind.exact g.met.N.Kind.exact g.met.P.Kind.exact c.args.table.now c.requires (Nonterminal c.args.start ∷ []) c.args.tokens.now
    (all_wanted c.each.next c.each.stack.items) (still_wanted c.in-Some.rest.now c.each.stack.items) c.in-Some.symbol c.in-Nonterminal.wanted c.each.steps.items c.each.at c.in-Some-choose.front c.in-Some-choose.production.now
    c.each.invariant.0 (ap (λ o. all_wanted o c.each.stack.items) c.in-Some.is) c.in-Nonterminal.is c.in-Some-choose.ensures.choice c.in-Some-choose.ensures.comes_next c.in-Some-choose.ensures.front in
    chosen_smaller (length c.args.tokens.now) c.each.at c.in-Some-choose.front _
    (least g.N.PartialEq.eq g.met.N.Kind.exact (grammar c.args.table.now) DEPTH (all_wanted c.next_wanted-next-in-Nonterminal.result c.next_wanted-next-in-Nonterminal.new.stack.items))
    (least g.N.PartialEq.eq g.met.N.Kind.exact (grammar c.args.table.now) DEPTH (all_wanted c.each.next c.each.stack.items))
    c.in_ok-at-in-Nonterminal.ensures.place
    (chosen_opens g.T.PartialEq.eq g.N.PartialEq.eq g.P.PartialEq.eq g.met.T.Kind.exact g.met.N.Kind.exact g.met.P.Kind.exact c.args.table.now c.requires (Nonterminal c.args.start ∷ []) c.args.tokens.now
    (all_wanted c.each.next c.each.stack.items) (still_wanted c.in-Some.rest.now c.each.stack.items) (all_wanted c.next_wanted-next-in-Nonterminal.result c.next_wanted-next-in-Nonterminal.new.stack.items) c.in-Some.symbol c.in-Nonterminal.wanted c.in-Some-choose.front c.each.at c.in-Some-choose.production.now
    (ap (λ o. all_wanted o c.each.stack.items) c.in-Some.is) c.in-Nonterminal.is c.in-Some-choose.ensures.choice (sym c.next_wanted-next-in-Nonterminal.ensures ∙ put_before _ _ _ _ c.behind-left.ensures c.in_ok-push_list-in-Nonterminal.ensures))
    (least_low g.N.PartialEq.eq g.met.N.Kind.exact (grammar c.args.table.now) DEPTH (all_wanted c.next_wanted-next-in-Nonterminal.result c.next_wanted-next-in-Nonterminal.new.stack.items))
    s.within

pub returns-then-at-tokens-2 : goal.returns-then-at-tokens-2
returns-then-at-tokens-2 g c =
    sofar_done (grammar c.args.table.now) (Nonterminal c.args.start ∷ []) c.args.tokens.now c.each.steps.items c.each.at
    (subst (λ (w : Wants g.row.T.Denot g.row.N.Denot). Sofar (grammar c.args.table.now) (Nonterminal c.args.start ∷ []) c.args.tokens.now w c.each.steps.items c.each.at) (ap (λ o. all_wanted o c.each.stack.items) c.in_default.is) c.each.invariant.0)
    c.if-at-tokens-2.true

pub returns : goal.returns
returns g c =
    too_many (grammar c.args.table.now) (Nonterminal c.args.start ∷ []) c.args.tokens.now c.each.steps.items c.each.at
    (subst (λ (w : Wants g.row.T.Denot g.row.N.Denot). Sofar (grammar c.args.table.now) (Nonterminal c.args.start ∷ []) c.args.tokens.now w c.each.steps.items c.each.at) (ap (λ o. all_wanted o c.each.stack.items) c.in_default.is) c.each.invariant.0)
    c.if-at-tokens-2.false
