use Rattle.witx_commands.proofs.Exclusion.{same-files, valid-excluded}
use Rattle.witx_commands.proofs.laws.valid_is_not_refused.Goals as goal

pub returns : goal.returns
returns c = λ bytes files others r s k report p h.
    valid-excluded c.one_reading.ensures.0 c.one_reading.ensures.1.0 files others (same-files bytes files others r s) k report p h
