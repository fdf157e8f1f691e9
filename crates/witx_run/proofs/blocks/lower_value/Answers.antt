use Rattle.std.specs.Prelude.{option_map}
use Rattle.witx_machine.specs.Machine.{in_lower}
use Rattle.witx_run.specs.Views.{picked_of, type_tree}
use Rattle.std.proofs.Common.{suc, ◌-◌, sym, ap, ◌∙◌, arith}
use Rattle.std.proofs.lemmas.Grind.{common_steps}
use Rattle.witx_run.specs.Turns.{script_events}
use Rattle.witx_run.proofs.BlockLemmas.{no-two, no-case, lowers-case}
use Rattle.witx_run.proofs.MachineLemmas.{moved}
use Rattle.witx_run.proofs.NearLemmas.{falls-by, two-taken}
use Rattle.witx_run.proofs.blocks.lower_value.Goals as goal

pub returns-in_default-clause-comes : goal.returns-in_default-clause-comes
returns-in_default-clause-comes g c = λ x. no-two (g.D.Domain.domain c.args.domain.now) g.D.Domain.value_of g.D.Domain.word_of g.D.Domain.memory_of x (script_events c.args.script.now) c.args.progress.now _ c.in_default.ensures

pub returns-in-Some-2-clause-falls : goal.returns-in-Some-2-clause-falls
returns-in-Some-2-clause-falls g c =
    moved c.enter.result _ _ (λ turn h. falls-by (suc (c.chosen-block.result.end - c.chosen-block.result.first)) c.args.progress.now (record c.args.progress.now { machine = record c.args.progress.now.machine { blocks = c.last_two.new.blocks } }) c.enter.new.progress turn
    (two-taken c.args.progress.now c.last_two.new.blocks c.in-Some.first c.in-Some.second c.chosen-block.result c.in-Some-2.picked.error c.in-Some.ensures c.chosen-block.ensures) h) c.enter.ensures.falls

pub returns-in-None-clause-comes : goal.returns-in-None-clause-comes
returns-in-None-clause-comes g c = λ x.
    no-case (g.D.Domain.domain c.args.domain.now) g.D.Domain.value_of g.D.Domain.word_of g.D.Domain.memory_of x (script_events c.args.script.now) c.args.progress.now c.last_two.new.blocks c.in-Some.first c.in-Some.second c.in-Some.ensures (type_tree c.args.cases.ok) (type_tree c.args.cases.err) (g.D.Domain.value_of c.args.value)
    (sym c.in_ok-picked.ensures ∙ ap (option_map (picked_of g.D.Domain.value_of)) c.in-None.is)

pub returns-in-Some-2-clause-comes : goal.returns-in-Some-2-clause-comes
returns-in-Some-2-clause-comes g c =
    moved c.enter.result _ _ (λ turn h x. lowers-case (g.D.Domain.domain c.args.domain.now) g.D.Domain.value_of g.D.Domain.word_of g.D.Domain.memory_of x (script_events c.args.script.now) c.args.progress.now c.last_two.new.blocks c.in-Some.first c.in-Some.second c.in-Some.ensures (type_tree c.args.cases.ok) (type_tree c.args.cases.err) (g.D.Domain.value_of c.args.value)
    (picked_of g.D.Domain.value_of c.in-Some-2.picked) c.chosen-block.result _ (sym c.in_ok-picked.ensures ∙ ap (option_map (picked_of g.D.Domain.value_of)) c.in-Some-2.is) c.chosen-block.ensures (ap in_lower c.payload_item.ensures) ∙ h (g.D.Domain.domain c.args.domain.now) x) c.enter.ensures.comes

pub returns-in_default-clause-falls : goal.returns-in_default-clause-falls
returns-in_default-clause-falls g c = grind (arith, common_steps)

pub returns-in-None-clause-falls : goal.returns-in-None-clause-falls
returns-in-None-clause-falls g c = grind (arith, common_steps)
