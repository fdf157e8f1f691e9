use Rattle.std.proofs.Common.{ap, ◌∙◌}
use Rattle.witx_instructions.specs.Views.{called, param_types}
use Rattle.witx_symbols.specs.Verdicts.{arguments_from}
use Rattle.witx_symbols.specs.OutcomeViews.{run_of}
use Rattle.witx_symbols.specs.WordViews.{shared_symbols, world_of}
use Rattle.witx_verify.proofs.VerifyLemmas.{doubt-judged}
use Rattle.witx_verify.proofs.verifying.doubt_in.Goals as goal

pub returns : goal.returns
returns c =
    doubt-judged (world_of c.args.world.now) c.args.module_name.now (called c.args.func.now) c.args.caller.now c.args.callee.now
    (shared_symbols c.as_slice-arguments.result.now) c.judged-doubt.result (run_of c.in_ok-run.run') (ap shared_symbols c.as_slice-arguments.ensures.value ∙ c.in_ok-symbols.ensures ∙ ap (λ ps. arguments_from 0 (param_types ps)) c.as_slice.ensures) c.requires.reply c.in_ok-run.ensures c.judged-doubt.ensures
