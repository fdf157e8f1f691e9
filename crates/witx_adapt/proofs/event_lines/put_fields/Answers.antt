use Rattle.std.proofs.Common.{arith}
use Rattle.std.proofs.lemmas.Grind.{common_steps}
use Rattle.witx_adapt.proofs.event_lines.put_fields.Goals as goal

pub returns-in_ok-put_signature-in-CallWasm : goal.returns-in_ok-put_signature-in-CallWasm
returns-in_ok-put_signature-in-CallWasm c = grind (arith, common_steps)

pub returns-in_ok-put_payload-in-ResultLower : goal.returns-in_ok-put_payload-in-ResultLower
returns-in_ok-put_payload-in-ResultLower c = grind (arith, common_steps)
