use Rattle.std.proofs.Common.{◌≡◌, ◌++◌, drop}
use Rattle.witx_machine.specs.Signature.{words_of_results}
use Rattle.witx_instructions.specs.Views.{param_types}
use Rattle.witx_instructions.proofs.words.result_words.Given as goal

abbrev pub invariant-loop-each : goal.invariant-loop-each
invariant-loop-each l = l.words ++ words_of_results (param_types (drop l.each-index l.results)) ≡ words_of_results (param_types l.results)
