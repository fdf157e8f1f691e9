use Rattle.std.proofs.Common.{◌∙◌, sym}
use Rattle.witx_bytes.proofs.Belonging.{handle_value}
use Rattle.witx_bytes.proofs.membership.is_handle.Goals as goal

pub returns-in-Handle : goal.returns-in-Handle
returns-in-Handle c = c.is_word.ensures ∙ sym (handle_value c.args.value.now c.in-Handle.number c.in-Handle.is)
