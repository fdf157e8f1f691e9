use Rattle.std.specs.Prelude.{option_map}
use Rattle.witx_ast.specs.Views.{named_tree}
use Rattle.witx_call.specs.WordViews.{word_view}
use Rattle.witx_invoke.proofs.LowerLemmas.{handle-other, handle-word}
use Rattle.witx_invoke.proofs.lowering.lower_handle.Goals as goal

pub returns-in-Handle : goal.returns-in-Handle
returns-in-Handle c = handle-word c.args.named.now c.args.value.now c.in-Handle.number c.is_value.result (option_map word_view c.word_if.result) c.is_value.ensures c.word_if.ensures c.in-Handle.is

pub returns-in_default : goal.returns-in_default
returns-in_default c = handle-other (named_tree c.args.named.now) c.args.value.now c.in_default.not-Handle
