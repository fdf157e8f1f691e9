use Rattle.std.proofs.Common.{refl, sym, ap, ◌∙◌, arith}
use Rattle.std.specs.Prelude.{option_map}
use Rattle.witx_commands.specs.Runs.{command_task}
use Rattle.witx_commands.specs.Streams.{source_seen}
use Rattle.witx_commands.specs.Words.{asked_by}
use Rattle.witx_commands.specs.declared.forms.Forms.TheVariants as forms
use Rattle.witx_commands.proofs.Preparing.{formless-prepared, of-none}
use Rattle.witx_commands.proofs.ReadThrough.{took-nothing}
use Rattle.witx.proofs.program.prepare.Goals as goal

pub returns-in-None : goal.returns-in-None
returns-in-None g c =
    of-none forms.Commands command_task _ _ _ _ (sym (ap (option_map asked_by) c.in-None.is) ∙ c.command_of.ensures.command)
    (formless-prepared forms.Commands (source_seen g.S.Source.left g.S.Source.faults g.S.Source.reads c.args.source.now c.args.source.now) _ refl refl (omega arith) (omega arith) (took-nothing _ _ _ _ _))
