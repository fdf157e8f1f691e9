use Rattle.std.proofs.Common.{arith, rules}
use Rattle.std.specs.Prelude.{slice_index}
use Rattle.std.specs.Int.{IsInRange}
use Rattle.witx_commands.proofs.SampleWords.{read-sample, unread-word}
use Rattle.witx_commands.proofs.words.sample_size.Goals as goal

pub returns-in_default : goal.returns-in_default
returns-in_default c = unread-word c.args.word.now c.in_default.field-0 c.in_default.ensures.value.0

pub returns : goal.returns
returns c =
    let first : IsInRange 49 57 (slice_index c.args.word.now 0) = search rules in
    read-sample c.args.word.now c.in-Ok.functions first c.in-Ok.ensures.value.0 (omega (arith, c.if-functions-gt-LARGEST_SAMPLE.false))
