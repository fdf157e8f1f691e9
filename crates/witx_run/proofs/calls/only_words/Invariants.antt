use Rattle.std.proofs.Common.{◌≡◌, []}
use Rattle.witx_run.proofs.CallLemmas.{left_only}
use Rattle.witx_run.proofs.calls.only_words.Given as goal

abbrev pub invariant-loop-item : goal.invariant-loop-item
invariant-loop-item g l = left_only g.D.Domain.value_of g.D.Domain.word_of l.words.items l.items l.item-index ≡ left_only g.D.Domain.value_of g.D.Domain.word_of [] l.items 0
