use Rattle.std.proofs.Common.{[]}
use Rattle.witx_machine.specs.Machine.{words_off}
use Rattle.witx_run.specs.Views.{stack_of}
use Rattle.witx_run.proofs.OffLemmas.{words-on, words-short, words-done}
use Rattle.witx_run.proofs.stack.words_off.Goals as goal

pub loop-taken-preserved : goal.loop-taken-preserved
loop-taken-preserved g c =
    words-on g.D.Domain.word_of c.args.count c.loop-taken._taken c.loop-taken.words.items c.push.new.self.items c.in-Some.word (stack_of g.D.Domain.value_of g.D.Domain.word_of c.loop-taken.stack.items) (stack_of g.D.Domain.value_of g.D.Domain.word_of c.pop_word.new.stack.items)
    (words_off c.args.count [] (stack_of g.D.Domain.value_of g.D.Domain.word_of c.args.stack.now.items)) c.loop-taken-test.true c.in-Some.ensures c.in_ok-push.ensures.items c.loop-taken.invariant

pub returns-in_default : goal.returns-in_default
returns-in_default g c =
    words-short g.D.Domain.word_of c.args.count c.loop-taken._taken c.loop-taken.words.items (stack_of g.D.Domain.value_of g.D.Domain.word_of c.loop-taken.stack.items)
    (words_off c.args.count [] (stack_of g.D.Domain.value_of g.D.Domain.word_of c.args.stack.now.items)) c.loop-taken-test.true c.in_default.ensures c.loop-taken.invariant

pub returns : goal.returns
returns g c =
    words-done g.D.Domain.word_of c.args.count c.loop-taken._taken c.loop-taken.words.items c.reverse.new.self.items (stack_of g.D.Domain.value_of g.D.Domain.word_of c.loop-taken.stack.items)
    (words_off c.args.count [] (stack_of g.D.Domain.value_of g.D.Domain.word_of c.args.stack.now.items)) c.loop-taken-test.false c.reverse.ensures.items c.loop-taken.invariant
