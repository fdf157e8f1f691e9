use Rattle.std.proofs.Common.{◌≡◌}
use Rattle.witx_run.proofs.PairLemmas.{left_pairs}
use Rattle.witx_run.proofs.CallLemmas.{is_typed}
use Rattle.witx_run.proofs.calls.are_typed.Given as goal

abbrev pub invariant-loop-i : goal.invariant-loop-i
invariant-loop-i g l =
    left_pairs (is_typed (g.D.Domain.domain l.domain) g.D.Domain.word_of) l.types l.words l.i ≡ left_pairs (is_typed (g.D.Domain.domain l.domain) g.D.Domain.word_of) l.types l.words 0
