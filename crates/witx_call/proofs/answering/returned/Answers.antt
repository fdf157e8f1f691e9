use Rattle.std.proofs.Common.{◌≡◌, ◌<◌, ap, sym, subst, ◌∙◌, Some, rules}
use Rattle.std.specs.Prelude.{IsSome, ◌↔◌}
use Rattle.witx_run.specs.declared.item.Item.TheVariants as item
use Rattle.witx_call.proofs.AnswerLemmas.{returned-value, value_off}
use Rattle.witx_call.proofs.answering.returned.Goals as goal

pub returns-in-Some-Value : goal.returns-in-Some-Value
returns-in-Some-Value c = λ reply h.
    let same : c.pop.result ≡ Some (item.Value c.in-Some-Value.value c.in-Some-Value.field-0-1) = search rules in
    let some = subst (λ n. IsSome c.pop.result ↔ (0 < n)) c.args.back.ok.0 c.pop.ensures.variant in
    ap value_off (sym same) ∙ returned-value c.args.back.items c.pop.new.self.items c.pop.result c.pop.ensures.items some reply h

pub returns-in-Some-Word : goal.returns-in-Some-Word
returns-in-Some-Word c = λ reply h.
    let same : c.pop.result ≡ Some (item.Word c.in-Some-Word.field-0-0) = search rules in
    let some = subst (λ n. IsSome c.pop.result ↔ (0 < n)) c.args.back.ok.0 c.pop.ensures.variant in
    ap value_off (sym same) ∙ returned-value c.args.back.items c.pop.new.self.items c.pop.result c.pop.ensures.items some reply h
