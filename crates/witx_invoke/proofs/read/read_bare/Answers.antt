use Rattle.witx_invoke.proofs.ReadParts.{bare_taken}
use Rattle.witx_invoke.proofs.read.read_bare.Goals as goal

pub returns : goal.returns
returns c = λ p. bare_taken p c.args.text.now c.in-Some.rest.now c.in-Some.case c.in-Some.ensures
