use Rattle.witx_sample_laws.proofs.Summed.{samples-are-not-refused}
use Rattle.witx_sample_laws.proofs.laws.samples_are_not_refused.Goals as goal

pub returns : goal.returns
returns c = samples-are-not-refused c.valid_is_not_refused.ensures
