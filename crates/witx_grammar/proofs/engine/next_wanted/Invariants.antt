use Rattle.std.proofs.Common.{◌≡◌, [], length}
use Rattle.witx_grammar.specs.Choices.{still_wanted}
use Rattle.witx_grammar.proofs.engine.next_wanted.Given as goal

abbrev pub invariant-each : goal.invariant-each
invariant-each g l = still_wanted [] l.stack.items ≡ still_wanted l.fn.next l.initial.stack.items

abbrev pub decreases-each : goal.decreases-each
decreases-each g l = length l.stack.items
