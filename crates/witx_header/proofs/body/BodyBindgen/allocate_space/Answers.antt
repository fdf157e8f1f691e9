use Rattle.std.proofs.Common.{refl}
use Rattle.witx_header.proofs.Calls.{kept-call, kept-room, kept-same, kept-unmoved}
use Rattle.witx_header.proofs.body.BodyBindgen.allocate_space.Goals as goal

pub returns-clause-call : goal.returns-clause-call
returns-clause-call c = kept-call _ _ _ _ _ c.self.view_is c.in_ok-push.ensures (kept-room _ _ _ c.in_ok-told_space.ensures)

pub invariant_of-self : goal.invariant_of-self
invariant_of-self c = kept-same _ _ _ c.in_err-push.ensures c.self.invariant

pub invariant_of-self-2 : goal.invariant_of-self-2
invariant_of-self-2 c = kept-unmoved _ _ _ _ _ c.in_ok-push.ensures (kept-room _ _ _ c.in_ok-told_space.ensures) tt refl c.self.invariant
