use Rattle.witx_commands.proofs.Refusing.{summary-refused, summary-told}
use Rattle.witx_commands.proofs.commands.summary_of_files.Goals as goal

pub returns-in-Ok-clause-output : goal.returns-in-Ok-clause-output
returns-in-Ok-clause-output c =
    summary-told c.args.functions c.args.files.now c.in_ok-path.path c.in-Ok.adapted c.summarized.result c.in_ok-path.ensures
    c.in-Ok.ensures.document c.in-Ok.ensures.parts c.summarized.ensures.text c.summarized.ensures.value

pub returns-clause-stopped : goal.returns-clause-stopped
returns-clause-stopped c =
    summary-refused c.args.functions c.args.files.now c.in_ok-path.path c.in-Err.stop c.in_ok-path.ensures c.in-Err.ensures.stopped
