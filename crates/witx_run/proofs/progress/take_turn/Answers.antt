use Rattle.std.proofs.Common.{sym, ap, ◌∙◌, Some}
use Rattle.witx_ast.specs.Views.{named_tree}
use Rattle.witx_instructions.specs.Views.{event_of, kept_step}
use Rattle.witx_run.specs.Turns.{script_events, whole_at}
use Rattle.witx_run.proofs.MachineLemmas.{moved}
use Rattle.witx_run.proofs.TurnLemmas.{at-end, at-emit, at-space, at-finish}
use Rattle.witx_run.proofs.progress.take_turn.Goals as goal

pub returns-in-None-clause-comes : goal.returns-in-None-clause-comes
returns-in-None-clause-comes g c =
    moved c.leave.result _ _ (λ turn h x known. at-end (g.D.Domain.domain c.args.domain.now) g.D.Domain.value_of g.D.Domain.word_of g.D.Domain.memory_of x (script_events c.args.script.now) c.args.progress.now (sym c.in-None.ensures) ∙ h x) c.leave.ensures.comes

pub returns-in-Some-Emit-clause-comes : goal.returns-in-Some-Emit-clause-comes
returns-in-Some-Emit-clause-comes g c =
    moved c.run_step.result _ _ (λ turn h x known.
    at-emit (g.D.Domain.domain c.args.domain.now) g.D.Domain.value_of g.D.Domain.word_of g.D.Domain.memory_of x (script_events c.args.script.now) c.args.progress.now (kept_step c.in-Some-Emit.step) (sym c.in-Some-Emit.ensures ∙ ap (λ e. Some (event_of e)) c.in-Some-Emit.field-0-is)
    ∙ ap (whole_at (g.D.Domain.domain c.args.domain.now) g.D.Domain.value_of g.D.Domain.word_of g.D.Domain.memory_of x (script_events c.args.script.now) c.args.progress.now) (sym c.row_of.ensures) ∙ h x known) c.run_step.ensures.comes

pub returns-in-Some-Space-clause-comes : goal.returns-in-Some-Space-clause-comes
returns-in-Some-Space-clause-comes g c =
    moved c.give_space.result _ _ (λ turn h x known.
    at-space (g.D.Domain.domain c.args.domain.now) g.D.Domain.value_of g.D.Domain.word_of g.D.Domain.memory_of x (script_events c.args.script.now) c.args.progress.now c.in-Some-Space.slot (named_tree c.in-Some-Space.ty.value) (sym c.in-Some-Space.ensures ∙ ap (λ e. Some (event_of e)) c.in-Some-Space.field-0-is)
    ∙ h x) c.give_space.ensures.comes

pub returns-in-Some-Finish-clause-comes : goal.returns-in-Some-Finish-clause-comes
returns-in-Some-Finish-clause-comes g c = λ x known.
    at-finish (g.D.Domain.domain c.args.domain.now) g.D.Domain.value_of g.D.Domain.word_of g.D.Domain.memory_of x (script_events c.args.script.now) c.args.progress.now _ (sym c.in-Some-Finish.ensures ∙ ap (λ e. Some (event_of e)) c.in-Some-Finish.field-0-is)
