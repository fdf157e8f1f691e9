use Rattle.witx_invoke.proofs.ReadParts.{enum_taken}
use Rattle.witx_invoke.proofs.read.read_enum.Goals as goal

pub returns : goal.returns
returns c = λ p. enum_taken p c.args.text.now c.in-Some.rest.now c.in-Some.case c.in-Some.ensures
