use Rattle.std.proofs.Common.{refl}
use Rattle.witx_commands.specs.Runs.{command_task, run_input}
use Rattle.witx_commands.specs.Words.{asked_by}
use Rattle.witx_commands.proofs.Preparing.{answer-prepared, command-unread}
use Rattle.witx.proofs.program.prepare_command.Goals as goal

pub returns-in-Ok : goal.returns-in-Ok
returns-in-Ok g c =
    answer-prepared (run_input (command_task (asked_by c.args.command.now)) g.S.Source.left g.S.Source.faults g.S.Source.reads c.args.source.now c.files_for.new.source)
    _ refl c.files_for.ensures.nothing_read c.files_for.ensures.later c.files_for.ensures.reads c.files_for.ensures.taken
    _ _ c.in-Ok.ensures.finished c.in-Ok.ensures.no_fault c.in-Ok.ensures.files c.perform.ensures.output c.perform.ensures.stopped

pub returns-in-Err : goal.returns-in-Err
returns-in-Err g c =
    command-unread (run_input (command_task (asked_by c.args.command.now)) g.S.Source.left g.S.Source.faults g.S.Source.reads c.args.source.now c.files_for.new.source)
    (asked_by c.args.command.now) _ refl refl refl _ _ c.stop_of.ensures c.in-Err.ensures.refused
    c.files_for.ensures.nothing_read c.files_for.ensures.later c.files_for.ensures.reads c.files_for.ensures.taken
