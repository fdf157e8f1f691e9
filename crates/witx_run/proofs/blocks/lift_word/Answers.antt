use Rattle.std.proofs.Common.{suc, ◌-◌, sym, ◌∙◌, arith}
use Rattle.std.proofs.lemmas.Grind.{common_steps}
use Rattle.witx_run.specs.Turns.{script_events}
use Rattle.witx_run.proofs.BlockLemmas.{no-two, no-choice, lifts-case}
use Rattle.witx_run.proofs.MachineLemmas.{moved}
use Rattle.witx_run.proofs.NearLemmas.{falls-by, two-taken}
use Rattle.witx_run.proofs.blocks.lift_word.Goals as goal

pub returns-in_default-clause-comes : goal.returns-in_default-clause-comes
returns-in_default-clause-comes g c = λ x. no-two (g.D.Domain.domain c.args.domain.now) g.D.Domain.value_of g.D.Domain.word_of g.D.Domain.memory_of x (script_events c.args.script.now) c.args.progress.now _ c.in_default.ensures

pub returns-in-Some-choice-clause-falls : goal.returns-in-Some-choice-clause-falls
returns-in-Some-choice-clause-falls g c =
    moved c.enter.result _ _ (λ turn h. falls-by (suc (c.chosen-block.result.end - c.chosen-block.result.first)) c.args.progress.now (record c.args.progress.now { machine = record c.args.progress.now.machine { blocks = c.last_two.new.blocks } }) c.enter.new.progress turn
    (two-taken c.args.progress.now c.last_two.new.blocks c.in-Some.first c.in-Some.second c.chosen-block.result c.in-Some-choice.error c.in-Some.ensures c.chosen-block.ensures) h) c.enter.ensures.falls

pub returns-in-None-clause-comes : goal.returns-in-None-clause-comes
returns-in-None-clause-comes g c = λ x.
    no-choice (g.D.Domain.domain c.args.domain.now) g.D.Domain.value_of g.D.Domain.word_of g.D.Domain.memory_of x (script_events c.args.script.now) c.args.progress.now c.last_two.new.blocks c.in-Some.first c.in-Some.second c.in-Some.ensures (g.D.Domain.word_of c.args.word) (sym c.chooses-choice.ensures ∙ c.in-None.is)

pub returns-in-Some-choice-clause-comes : goal.returns-in-Some-choice-clause-comes
returns-in-Some-choice-clause-comes g c =
    moved c.enter.result _ _ (λ turn h x. lifts-case (g.D.Domain.domain c.args.domain.now) g.D.Domain.value_of g.D.Domain.word_of g.D.Domain.memory_of x (script_events c.args.script.now) c.args.progress.now c.last_two.new.blocks c.in-Some.first c.in-Some.second c.in-Some.ensures (g.D.Domain.word_of c.args.word)
    c.in-Some-choice.error c.chosen-block.result (sym c.chooses-choice.ensures ∙ c.in-Some-choice.is) c.chosen-block.ensures ∙ h (g.D.Domain.domain c.args.domain.now) x) c.enter.ensures.comes

pub returns-in_default-clause-falls : goal.returns-in_default-clause-falls
returns-in_default-clause-falls g c = grind (arith, common_steps)

pub returns-in-None-clause-falls : goal.returns-in-None-clause-falls
returns-in-None-clause-falls g c = grind (arith, common_steps)
