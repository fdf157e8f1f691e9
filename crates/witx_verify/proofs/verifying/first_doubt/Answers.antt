use Rattle.witx_instructions.specs.Views.{param_types}
use Rattle.witx_symbols.specs.Symbolic.{reply_from}
use Rattle.witx_verify.proofs.VerifyLemmas.{one-is-of}
use Rattle.witx_verify.proofs.verifying.first_doubt.Goals as goal

pub doubt_in-requires-clause-reply : goal.doubt_in-requires-clause-reply
doubt_in-requires-clause-reply c =
    one-is-of (reply_from (param_types c.args.func.now.results)) c.args.worlds.now c.loop-world.world-index c.world-item.result c.loop-world-test.true c.world-item.is c.requires.reply
