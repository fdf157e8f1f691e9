use Rattle.std.proofs.Common.{None, ap, map, subst, sym, ◌∙◌}
use Rattle.std.specs.Prelude.{IfOk}
use Rattle.witx_machine.specs.Run.{argument_items}
use Rattle.witx_instructions.specs.Views.{called, event_of}
use Rattle.witx_run.specs.RunEnds.{CallerComes}
use Rattle.witx_run.specs.Turns.{whole}
use Rattle.witx_run.specs.Views.{items_of, reply_of}
use Rattle.witx_run.proofs.RunLemmas.{caller-ran}
use Rattle.witx_run.proofs.traces.run_traces.Goals as goal

pub returns : goal.returns
returns g c =
    caller-ran (g.D.Domain.domain c.args.domain.now) g.D.Domain.value_of g.D.Domain.word_of g.D.Domain.memory_of c.args.module.now (map event_of c.args.callee.now) (reply_of g.D.Domain.value_of c.args.reply) c.in_ok-script.script (map event_of c.args.caller.now) (called c.args.func.now)
    (map g.D.Domain.value_of c.args.arguments.now) (g.D.Domain.memory_of c.args.memory) c.start.result c.run_as_caller.result
    (ap (λ e. map event_of e.now) c.in_ok-script.ensures.events ∙ ap (map event_of) c.as_slice.ensures) (ap (λ f. called f.now) c.in_ok-script.ensures.func)
    (ap (λ xs. items_of g.D.Domain.value_of g.D.Domain.word_of xs.items) c.in_ok-script.ensures.arguments ∙ c.in_ok-items.ensures
    ∙ ap (λ f. argument_items (called f.now).params (map g.D.Domain.value_of c.args.arguments.now)) (sym c.in_ok-script.ensures.func)) c.start.ensures.comes
    (subst (λ es. IfOk c.run_as_caller.result (CallerComes (g.D.Domain.domain c.args.domain.now) g.D.Domain.value_of g.D.Domain.word_of g.D.Domain.memory_of c.args.module.now (map event_of es) (reply_of g.D.Domain.value_of c.args.reply) None c.in_ok-script.script (λ x own. whole (g.D.Domain.domain c.args.domain.now) g.D.Domain.value_of g.D.Domain.word_of g.D.Domain.memory_of x own c.start.result)))
    c.as_slice-2.ensures c.run_as_caller.ensures)
