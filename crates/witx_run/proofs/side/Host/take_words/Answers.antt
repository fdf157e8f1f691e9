use Rattle.std.proofs.Common.{sym, ◌∙◌, arith}
use Rattle.std.proofs.lemmas.Grind.{common_steps}
use Rattle.witx_instructions.specs.Views.{called}
use Rattle.witx_run.proofs.CallLemmas.{hands-on}
use Rattle.witx_run.proofs.side.Host.take_words.Goals as goal

pub returns-then-branch-clause-words : goal.returns-then-branch-clause-words
returns-then-branch-clause-words g c =
    hands-on (g.D.Domain.domain c.args.self.now.domain.now) g.D.Domain.value_of g.D.Domain.word_of g.D.Domain.memory_of c.args.self.now.owner.now (called c.args.func.now) c.args.call.owner.now c.args.call.name.now
    c.args.call.params.now c.args.call.results.now c.args.machine.now c.typed_words_off.new.stack c.typed_words_off.result (sym c.in_ok-names_words.ensures ∙ c.if-branch.true) c.typed_words_off.ensures

pub returns-else-branch-clause-words : goal.returns-else-branch-clause-words
returns-else-branch-clause-words g c = grind (arith, common_steps)
