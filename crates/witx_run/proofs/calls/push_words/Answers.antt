use Rattle.std.proofs.Common.{rules}
use Rattle.witx_run.proofs.CallLemmas.{left_words, word-pushed, words-pushed}
use Rattle.witx_run.proofs.calls.push_words.Goals as goal

pub loop-word-preserved : goal.loop-word-preserved
loop-word-preserved g c =
    word-pushed g.D.Domain.value_of g.D.Domain.word_of c.args.words.now c.loop-word.stack.items c.push.new.self.items c.loop-word.word-index c.word-item.result c.in_ok-word_item.field-0
    (left_words g.D.Domain.value_of g.D.Domain.word_of c.args.words.now c.args.stack.now.items 0) c.loop-word-test.true c.word-item.is (search rules) c.in_ok-push.ensures.items c.loop-word.invariant

pub returns : goal.returns
returns g c = words-pushed g.D.Domain.value_of g.D.Domain.word_of c.args.words.now c.args.stack.now.items c.loop-word.stack.items c.loop-word.word-index c.loop-word-test.false c.loop-word.invariant
