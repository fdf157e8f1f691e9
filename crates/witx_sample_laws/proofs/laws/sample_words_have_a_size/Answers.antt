use Rattle.witx_sample_laws.proofs.Summed.{words-have-a-size}
use Rattle.witx_sample_laws.proofs.laws.sample_words_have_a_size.Goals as goal

pub returns : goal.returns
returns c = words-have-a-size
