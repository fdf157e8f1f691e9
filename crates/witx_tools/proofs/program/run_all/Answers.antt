use Rattle.witx_commands.specs.Runs.{run_input}
use Rattle.witx_commands.specs.Words.{command_of}
use Rattle.witx_commands.specs.declared.forms.Forms.TheVariants as forms
use Rattle.witx_commands.proofs.Ending.{ends}
use Rattle.witx_commands.proofs.Running.{form-lawful}
use Rattle.witx_tools.specs.ToolRuns.{any_task, task_of_all}
use Rattle.witx_tools.proofs.Runs.{any-lawful}
use Rattle.witx_tools.proofs.program.run_all.Goals as goal

pub returns : goal.returns
returns g c =
    ends (run_input (task_of_all c.args.words.now) g.S.Source.left g.S.Source.faults g.S.Source.reads c.args.source.now c.prepare.new.source)
    (form-lawful forms.All any_task (any-lawful c.output_or_refusal.ensures c.valid_is_not_refused.ensures c.valid_is_not_refused_by_tools.ensures)
    (command_of forms.All c.args.words.now))
    _ _ _ _ _ _ _ c.prepare.result c.prepare.ensures c.finish.ensures
