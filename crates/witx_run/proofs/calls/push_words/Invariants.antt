use Rattle.std.proofs.Common.{◌≡◌}
use Rattle.witx_run.proofs.CallLemmas.{left_words}
use Rattle.witx_run.proofs.calls.push_words.Given as goal

abbrev pub invariant-loop-word : goal.invariant-loop-word
invariant-loop-word g l =
    left_words g.D.Domain.value_of g.D.Domain.word_of l.words l.stack.items l.word-index ≡ left_words g.D.Domain.value_of g.D.Domain.word_of l.words l.initial.stack.items 0
