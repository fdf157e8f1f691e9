use Rattle.witx_walk.proofs.Declarations.{accepted-is}
use Rattle.witx_walk.proofs.steps.declare.Goals as goal

pub returns-in-Ok-clause-declared : goal.returns-in-Ok-clause-declared
returns-in-Ok-clause-declared c = λ ds h.
    accepted-is _ _ _ _ c.args.walk.now _ c.in-Ok.field-0
    c.in-Ok.ensures.validates.ok c.in-Ok.ensures.validates.appended c.in-Ok.ensures.validates.accepted c.in-Ok.ensures.validates.fits c.in-Ok.ensures.validates.ordered c.in-Ok.ensures.validates.closed ds h

pub returns-in-Ok-clause-well : goal.returns-in-Ok-clause-well
returns-in-Ok-clause-well c = λ well. (
  _,
  (accepted-is _ _ _ _ c.args.walk.now _ c.in-Ok.field-0
      c.in-Ok.ensures.validates.ok c.in-Ok.ensures.validates.appended c.in-Ok.ensures.validates.accepted c.in-Ok.ensures.validates.fits c.in-Ok.ensures.validates.ordered c.in-Ok.ensures.validates.closed well.0 well.1).1,
)
