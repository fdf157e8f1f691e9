use Rattle.witx_scope.proofs.ConstantSteps.{places-of}
use Rattle.witx_scope.proofs.keep.keep_constant.Goals as goal

pub returns-in-Ok-clause-places : goal.returns-in-Ok-clause-places
returns-in-Ok-clause-places c ty n = places-of c.args.places.now.entries c.keep_place.new.places.entries c.in_ok-key.key c.args.place c.args.constant c.in_ok-key.ensures c.in-Ok.ensures.places ty n
