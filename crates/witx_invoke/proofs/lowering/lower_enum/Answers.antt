use Rattle.std.specs.Prelude.{option_map}
use Rattle.witx_call.specs.WordViews.{word_view}
use Rattle.witx_invoke.proofs.LowerLemmas.{enum-word}
use Rattle.witx_invoke.proofs.lowering.lower_enum.Goals as goal

pub returns-in-Enum : goal.returns-in-Enum
returns-in-Enum c = enum-word c.args.named.now c.args.value.now c.in-Enum.case c.is_value.result (option_map word_view c.word_if.result) c.is_value.ensures c.word_if.ensures c.in-Enum.is
