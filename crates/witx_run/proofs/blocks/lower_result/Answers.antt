use Rattle.std.proofs.Common.{sym, ap, ◌∙◌, arith}
use Rattle.std.proofs.lemmas.Grind.{common_steps}
use Rattle.witx_machine.specs.Run.{result_has_cases}
use Rattle.witx_instructions.specs.Views.{param_types}
use Rattle.witx_run.specs.Views.{type_tree}
use Rattle.witx_run.specs.Turns.{script_events}
use Rattle.witx_run.proofs.BlockLemmas.{no-cases, no-symbol, lowers-symbol}
use Rattle.witx_run.proofs.MachineLemmas.{moved}
use Rattle.witx_run.proofs.blocks.lower_result.Goals as goal

pub returns-then-not-has_cases-clause-comes : goal.returns-then-not-has_cases-clause-comes
returns-then-not-has_cases-clause-comes g c = λ called x known.
    no-cases (g.D.Domain.domain c.args.domain.now) g.D.Domain.value_of g.D.Domain.word_of g.D.Domain.memory_of x (script_events c.args.script.now) c.args.progress.now (type_tree c.args.cases.ok) (type_tree c.args.cases.err)
    (known.cases (type_tree c.args.cases.ok) (type_tree c.args.cases.err) ∙ ap (λ ps. result_has_cases (param_types ps) (type_tree c.args.cases.ok) (type_tree c.args.cases.err)) (sym c.as_slice.ensures) ∙ sym c.has_cases.ensures ∙ c.if-not-has_cases.true)

pub returns-in-Some-clause-comes : goal.returns-in-Some-clause-comes
returns-in-Some-clause-comes g c =
    moved c.lower_value.result _ _ (λ turn h called x known.
    lowers-symbol (g.D.Domain.domain c.args.domain.now) g.D.Domain.value_of g.D.Domain.word_of g.D.Domain.memory_of x (script_events c.args.script.now) c.args.progress.now (type_tree c.args.cases.ok) (type_tree c.args.cases.err) (g.D.Domain.value_of c.in-Some.value) c.pop_value.new.stack
    (known.cases (type_tree c.args.cases.ok) (type_tree c.args.cases.err) ∙ ap (λ ps. result_has_cases (param_types ps) (type_tree c.args.cases.ok) (type_tree c.args.cases.err)) (sym c.as_slice.ensures) ∙ sym c.has_cases.ensures ∙ c.if-not-has_cases.false)
    c.in-Some.ensures ∙ h x) c.lower_value.ensures.comes

pub returns-in-None-clause-comes : goal.returns-in-None-clause-comes
returns-in-None-clause-comes g c = λ called x known.
    no-symbol (g.D.Domain.domain c.args.domain.now) g.D.Domain.value_of g.D.Domain.word_of g.D.Domain.memory_of x (script_events c.args.script.now) c.args.progress.now (type_tree c.args.cases.ok) (type_tree c.args.cases.err)
    (known.cases (type_tree c.args.cases.ok) (type_tree c.args.cases.err) ∙ ap (λ ps. result_has_cases (param_types ps) (type_tree c.args.cases.ok) (type_tree c.args.cases.err)) (sym c.as_slice.ensures) ∙ sym c.has_cases.ensures ∙ c.if-not-has_cases.false)
    c.in-None.ensures

pub returns-then-not-has_cases-clause-falls : goal.returns-then-not-has_cases-clause-falls
returns-then-not-has_cases-clause-falls g c = grind (arith, common_steps)

pub returns-in-None-clause-falls : goal.returns-in-None-clause-falls
returns-in-None-clause-falls g c = grind (arith, common_steps)
