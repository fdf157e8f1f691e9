use Rattle.witx_walk.proofs.Whole.{one-answer}
use Rattle.witx_walk.proofs.laws.one_answer.Goals as goal

pub returns : goal.returns
returns c = one-answer c.one_reading.ensures.0 c.one_reading.ensures.1.0
