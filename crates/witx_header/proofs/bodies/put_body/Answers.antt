use Rattle.witx_header.proofs.Sides.{with-side}
use Rattle.witx_header.proofs.bodies.put_body.Goals as goal

pub returns-in-Ok : goal.returns-in-Ok
returns-in-Ok c =
    with-side _ c.args.func.now _ _ _ _ (c.functions_are_read_as_their_trees.ensures c.args.func.now) c.in-Ok.ensures.unlowerable c.in-Ok.ensures.calls
    (rw c.as_slice.ensures at c.put_side.ensures)
