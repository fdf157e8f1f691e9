use Rattle.witx_grammar.specs.Grammar.{grammar}
use Rattle.witx_grammar.specs.Choices.{AreKnown}
use Rattle.witx_grammar.proofs.choice.nothing_known.Given as goal

abbrev pub invariant-loop-place : goal.invariant-loop-place
invariant-loop-place g l = AreKnown g.T.PartialEq.eq g.N.PartialEq.eq (grammar l.table) l.known.items
