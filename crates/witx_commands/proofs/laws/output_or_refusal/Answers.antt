use Rattle.witx_commands.proofs.Exclusion.{output-excluded, same-files}
use Rattle.witx_commands.proofs.laws.output_or_refusal.Goals as goal

pub returns : goal.returns
returns c = λ bytes files others r s k text notes report adapted o h.
    output-excluded c.one_reading.ensures.0 c.one_reading.ensures.1.0 files others (same-files bytes files others r s) k text notes adapted report o h
