use Rattle.std.proofs.Common.{◌≡◌}
use Rattle.witx_symbols.proofs.NamesBehind.{StandsBehind}
use Rattle.witx_run.proofs.PairLemmas.{left_pairs}
use Rattle.witx_symbols.proofs.WholeLemmas.{whole_same}
use Rattle.witx_symbols.proofs.wholes.+whole.Given as goal

abbrev pub invariant-same_whole-loop-tref : goal.invariant-same_whole-loop-tref
invariant-same_whole-loop-tref l = StandsBehind l.initial.tref l.tref

abbrev pub invariant-members_same-loop-i : goal.invariant-members_same-loop-i
invariant-members_same-loop-i l = left_pairs whole_same l.members l.others l.i ≡ left_pairs whole_same l.members l.others 0
