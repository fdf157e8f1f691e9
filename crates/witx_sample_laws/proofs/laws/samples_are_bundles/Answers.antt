use Rattle.witx_sample_laws.proofs.Summed.{samples-are-bundles}
use Rattle.witx_sample_laws.proofs.laws.samples_are_bundles.Goals as goal

pub returns : goal.returns
returns c = samples-are-bundles
