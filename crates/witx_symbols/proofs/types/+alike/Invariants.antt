use Rattle.std.proofs.Common.{◌≡◌}
use Rattle.witx_symbols.proofs.NamesBehind.{StandsBehind}
use Rattle.witx_run.proofs.PairLemmas.{left_pairs}
use Rattle.witx_symbols.proofs.AlikeTypes.{member_same, case_same}
use Rattle.witx_symbols.proofs.types.+alike.Given as goal

abbrev pub invariant-alike-loop-tref : goal.invariant-alike-loop-tref
invariant-alike-loop-tref l = StandsBehind l.initial.tref l.tref

abbrev pub invariant-members_alike-loop-i : goal.invariant-members_alike-loop-i
invariant-members_alike-loop-i l = left_pairs member_same l.a l.b l.i ≡ left_pairs member_same l.a l.b 0

abbrev pub invariant-cases_alike-loop-i : goal.invariant-cases_alike-loop-i
invariant-cases_alike-loop-i l = left_pairs case_same l.a l.b l.i ≡ left_pairs case_same l.a l.b 0
