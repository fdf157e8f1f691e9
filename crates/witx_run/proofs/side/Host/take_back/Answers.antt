use Rattle.std.proofs.Common.{rules, ◌≡◌, Some, map, option_and_then, arith}
use Rattle.std.proofs.lemmas.Grind.{common_steps}
use Rattle.witx_machine.specs.Run.{words_in}
use Rattle.witx_machine.specs.Signature.{signature_results}
use Rattle.witx_instructions.specs.Views.{called}
use Rattle.witx_run.specs.CallViews.{typed_only}
use Rattle.witx_run.specs.Views.{items_of}
use Rattle.witx_run.proofs.CallLemmas.{comes-back}
use Rattle.witx_run.proofs.side.Host.take_back.Goals as goal

pub returns-in_ok-call-in-Some-clause-made : goal.returns-in_ok-call-in-Some-clause-made
returns-in_ok-call-in-Some-clause-made g c =
    let d = g.D.Domain.domain c.args.self.now.domain.now in
    let value = g.D.Domain.value_of in
    let word = g.D.Domain.word_of in
    let typed : Some (map word c.in-Some.callee_words.items) ≡ option_and_then (typed_only d (signature_results (called c.args.func.now))) (words_in (items_of value word c.args.returned.back.items)) = search rules in
    comes-back d value word g.D.Domain.memory_of (called c.args.func.now) (map word c.args.words.items) (map value c.args.returned.noted.items) (g.D.Domain.memory_of c.args.returned.memory) c.args.machine.now
    c.made_call.new.machine (items_of value word c.args.returned.back.items) (map word c.in-Some.callee_words.items) c.in_ok-call-in-Some.call typed c.in_ok-call-in-Some.ensures.made

pub returns-in-None-clause-made : goal.returns-in-None-clause-made
returns-in-None-clause-made g c = grind (arith, common_steps)
