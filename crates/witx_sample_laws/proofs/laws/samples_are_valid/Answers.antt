use Rattle.witx_sample_laws.proofs.Summed.{samples-are-valid}
use Rattle.witx_sample_laws.proofs.laws.samples_are_valid.Goals as goal

pub returns : goal.returns
returns c = samples-are-valid
