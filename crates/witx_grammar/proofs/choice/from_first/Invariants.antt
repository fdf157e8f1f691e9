use Rattle.std.proofs.Common.{drop}
use Rattle.witx_grammar.specs.Choices.{AlikeBehind}
use Rattle.witx_grammar.proofs.choice.from_first.Given as goal

abbrev pub invariant-loop-i : goal.invariant-loop-i
invariant-loop-i g l = AlikeBehind g.T.PartialEq.eq l.next (drop l.i l.productions) l.productions
