use Rattle.witx_invoke.proofs.PlacedRuns.{one-answer}
use Rattle.witx_invoke.proofs.laws.a_call_comes_to_one_thing.Goals as goal

pub returns : goal.returns
returns c = λ m f caller callee arguments reply can. one-answer m f caller callee arguments reply can.writable can.arguments_fit can.reply_fits
