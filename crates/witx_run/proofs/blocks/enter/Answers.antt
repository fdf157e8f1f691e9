use Rattle.std.proofs.Common.{refl, ◌∙◌, ap, arith}
use Rattle.witx_instructions.specs.Views.{event_of}
use Rattle.witx_instructions.proofs.Results.{length-map}
use Rattle.witx_run.specs.MachineViews.{inside_of, block_view, spot_in}
use Rattle.witx_run.specs.Views.{stack_of}
use Rattle.witx_run.specs.Turns.{script_events}
use Rattle.witx_run.proofs.BlockLemmas.{enters, too-deep}
use Rattle.witx_run.proofs.NearLemmas.{block-entered}
use Rattle.witx_run.proofs.blocks.enter.Goals as goal

pub returns-then-len-script-clause-comes : goal.returns-then-len-script-clause-comes
returns-then-len-script-clause-comes g c = λ d x.
    too-deep d g.D.Domain.value_of g.D.Domain.word_of g.D.Domain.memory_of x (script_events c.args.script.now) c.args.progress.now (inside_of g.D.Domain.value_of g.D.Domain.word_of c.args.inside) c.args.step.lowers c.args.step.error (block_view (spot_in x.trace) (script_events c.args.script.now) c.args.step.block)
    (stack_of g.D.Domain.value_of g.D.Domain.word_of c.args.progress.now.machine.stack.items) (omega (arith, c.if-len-script.true, c.len.ensures, length-map event_of c.args.script.now.events.now))

pub returns-clause-comes : goal.returns-clause-comes
returns-clause-comes g c = λ d x.
    enters d g.D.Domain.value_of g.D.Domain.word_of g.D.Domain.memory_of x (script_events c.args.script.now) c.args.progress.now c.replace.new.dest c.args.inside c.args.step.lowers c.args.step.error c.args.step.block _ c.push.new.self c.replace-2.new.dest
    (omega (arith, c.if-len-script.false, c.len.ensures, length-map event_of c.args.script.now.events.now)) c.replace.ensures.after
    c.replace.ensures.value refl refl c.replace-2.ensures.value refl refl refl refl c.in_ok-push.ensures.items (ap (λ v. v.items) c.replace-2.ensures.after ∙ c.new.ensures.items)

pub returns-clause-falls : goal.returns-clause-falls
returns-clause-falls g c = block-entered c.args.progress.now c.args.step.block c.push.new.self.items _ c.in_ok-push.ensures.items refl refl
