use Rattle.witx_sample_laws.proofs.Summed.{samples-are-summed-up}
use Rattle.witx_sample_laws.proofs.laws.samples_are_summed_up.Goals as goal

pub returns : goal.returns
returns c = samples-are-summed-up c.one_answer.ensures
