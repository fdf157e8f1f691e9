use Rattle.std.proofs.Common.{◌∙◌}
use Rattle.witx_run.specs.Turns.{script_events}
use Rattle.witx_run.proofs.BlockLemmas.{no-word, lifts-word}
use Rattle.witx_run.proofs.MachineLemmas.{moved}
use Rattle.witx_run.proofs.blocks.lift_result.Goals as goal

pub returns-in-Some-clause-comes : goal.returns-in-Some-clause-comes
returns-in-Some-clause-comes g c =
    moved c.lift_word.result _ _ (λ turn h x. lifts-word (g.D.Domain.domain c.args.domain.now) g.D.Domain.value_of g.D.Domain.word_of g.D.Domain.memory_of x (script_events c.args.script.now) c.args.progress.now (g.D.Domain.word_of c.in-Some.word) c.pop_word.new.stack c.in-Some.ensures ∙ h x) c.lift_word.ensures.comes

pub returns-in-None-clause-comes : goal.returns-in-None-clause-comes
returns-in-None-clause-comes g c = λ x. no-word (g.D.Domain.domain c.args.domain.now) g.D.Domain.value_of g.D.Domain.word_of g.D.Domain.memory_of x (script_events c.args.script.now) c.args.progress.now c.in-None.ensures
