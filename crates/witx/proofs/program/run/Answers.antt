use Rattle.witx_commands.specs.Runs.{command_task, run_input, task_of}
use Rattle.witx_commands.specs.Words.{command_of}
use Rattle.witx_commands.specs.declared.forms.Forms.TheVariants as forms
use Rattle.witx_commands.proofs.Ending.{ends}
use Rattle.witx_commands.proofs.Running.{commands-lawful, form-lawful}
use Rattle.witx.proofs.program.run.Goals as goal

pub returns : goal.returns
returns g c =
    ends (run_input (task_of c.args.words.now) g.S.Source.left g.S.Source.faults g.S.Source.reads c.args.source.now c.prepare.new.source)
    (form-lawful forms.Commands command_task (commands-lawful c.output_or_refusal.ensures c.valid_is_not_refused.ensures) (command_of forms.Commands c.args.words.now))
    _ _ _ _ _ _ _ c.prepare.result c.prepare.ensures c.finish.ensures
