use Rattle.witx_commands.proofs.WrittenWhole.{both-whole, first-front, second-front}
use Rattle.witx.proofs.refused.put_forms.Goals as goal

pub returns-in_err-put_text-clause-prefix : goal.returns-in_err-put_text-clause-prefix
returns-in_err-put_text-clause-prefix g c = first-front _ _ _ _ _ c.command_lines.ensures c.put_text.ensures.prefix

pub returns-clause-whole : goal.returns-clause-whole
returns-clause-whole g c =
    both-whole c.put_text-2.result _ _ _ _ _ _ _ c.command_lines.ensures c.further_lines.ensures c.in_ok-put_text.ensures.whole c.put_text-2.ensures.whole

pub returns-clause-prefix : goal.returns-clause-prefix
returns-clause-prefix g c =
    second-front _ _ _ _ _ _ _ c.command_lines.ensures c.further_lines.ensures c.in_ok-put_text.ensures.whole c.put_text-2.ensures.prefix
