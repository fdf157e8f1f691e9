use Rattle.std.proofs.Common.{◌≡◌, length}
use Rattle.std.specs.List.{filter_map}
use Rattle.witx_ast.proofs.kinds.OfKindIterator.next.Given as goal

abbrev pub invariant-loop-first : goal.invariant-loop-first
invariant-loop-first g l = filter_map g.K.Kind.of_kind l.self.rest.now ≡ filter_map g.K.Kind.of_kind l.initial.self.rest.now

abbrev pub decreases-loop-first : goal.decreases-loop-first
decreases-loop-first g l = length l.self.rest.now
