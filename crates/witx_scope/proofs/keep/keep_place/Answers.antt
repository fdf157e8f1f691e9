use Rattle.witx_scope.proofs.ConstantSteps.{places-more}
use Rattle.witx_scope.proofs.keep.keep_place.Goals as goal

pub returns-clause-places : goal.returns-clause-places
returns-clause-places c ty n = places-more c.args.places.now.entries c.insert.new.self.entries c.args.key c.args.place (λ q. c.in_ok-insert.ensures.updates.0 q) ty n
