use Rattle.witx_commands.proofs.Exclusion.{valid-files}
use Rattle.witx_commands.proofs.laws.valid_files_are_not_refused.Goals as goal

pub returns : goal.returns
returns c = λ files aliases handed ds p a before now e none h.
    valid-files c.one_reading.ensures.0 c.one_reading.ensures.1.0 files aliases handed ds p a before now e none h
