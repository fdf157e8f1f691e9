use Rattle.std.proofs.Common.{◌≡◌}
use Rattle.witx_symbols.proofs.NamesBehind.{StandsBehind}
use Rattle.witx_symbols.proofs.WholeLemmas.{left_bare}
use Rattle.witx_symbols.proofs.wholes.+bare.Given as goal

abbrev pub invariant-has_no_atom-loop-tref : goal.invariant-has_no_atom-loop-tref
invariant-has_no_atom-loop-tref l = StandsBehind l.initial.tref l.tref

abbrev pub invariant-have_no_atom-loop-i : goal.invariant-have_no_atom-loop-i
invariant-have_no_atom-loop-i l = left_bare l.members l.i ≡ left_bare l.members 0
