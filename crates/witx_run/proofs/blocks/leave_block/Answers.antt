use Rattle.std.proofs.Common.{sym, ◌∙◌, arith}
use Rattle.std.proofs.lemmas.Grind.{common_steps}
use Rattle.witx_instructions.specs.Views.{event_of}
use Rattle.witx_instructions.proofs.Results.{length-map}
use Rattle.std.specs.Prelude.{option_map}
use Rattle.witx_run.specs.Views.{item_of}
use Rattle.witx_run.specs.Turns.{script_events}
use Rattle.witx_run.proofs.BlockLemmas.{leaves-wrong, leaves-block}
use Rattle.witx_run.proofs.blocks.leave_block.Goals as goal

pub returns-in_default-clause-comes : goal.returns-in_default-clause-comes
returns-in_default-clause-comes g c = λ x. leaves-wrong (g.D.Domain.domain c.args.domain.now) g.D.Domain.value_of g.D.Domain.word_of g.D.Domain.memory_of x (script_events c.args.script.now) c.args.progress.now c.args.frame (sym c.in_default.ensures)

pub returns-clause-comes : goal.returns-clause-comes
returns-clause-comes g c = λ x.
    leaves-block (g.D.Domain.domain c.args.domain.now) g.D.Domain.value_of g.D.Domain.word_of g.D.Domain.memory_of x (script_events c.args.script.now) c.args.progress.now c.args.frame c.replace.new.dest (option_map (item_of g.D.Domain.value_of g.D.Domain.word_of) c.in-Some.left) c.replace-2.new.dest c.push_left.new.stack c.in_ok-went.went
    c.replace.ensures.after c.replace-2.ensures.after (omega (arith, c.requires.deep, length-map event_of c.args.script.now.events.now)) (sym c.in-Some.ensures) c.in_ok-went.ensures
    ∙ c.settle.ensures.comes (g.D.Domain.domain c.args.domain.now) x

pub returns-clause-falls : goal.returns-clause-falls
returns-clause-falls g c = grind (arith, common_steps)

pub returns-clause-here : goal.returns-clause-here
returns-clause-here g c = grind (arith, common_steps)
