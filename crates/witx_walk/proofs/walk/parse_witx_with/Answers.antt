use Rattle.witx_walk.specs.Meaning.{world}
use Rattle.witx_walk.proofs.Whole.{agrees}
use Rattle.witx_walk.proofs.walk.parse_witx_with.Goals as goal

pub returns-clause-verdict : goal.returns-clause-verdict
returns-clause-verdict g c = λ fs links reading ef el er v h.
    agrees (world fs links reading) _ _ _ _ v (c.read_all.ensures.answer fs links reading ef el er) h
