use Rattle.witx_ast.proofs.KindLaws.{kind-at-most}
use Rattle.witx_ast.proofs.kinds.OfKindIterator.size_hint.Goals as goal

pub returns-clause-upper : goal.returns-clause-upper
returns-clause-upper g c = (tt, kind-at-most g.K.Kind.of_kind c.args.self.now.rest.now)
