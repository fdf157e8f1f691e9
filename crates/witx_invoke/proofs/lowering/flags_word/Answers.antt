use Rattle.std.proofs.Common.{◌∙◌, ap, sym}
use Rattle.std.specs.Prelude.{option_map}
use Rattle.witx_ast.specs.Values as plain_value
use Rattle.witx_bytes.specs.Seen.{seen}
use Rattle.witx_bytes.proofs.Seen.{seen-Flags}
use Rattle.witx_invoke.specs.Representing.{flags_in_word}
use Rattle.witx_call.specs.WordViews.{word_view}
use Rattle.witx_invoke.proofs.FlagLemmas.{moved}
use Rattle.witx_invoke.proofs.lowering.flags_word.Goals as goal

pub returns-in-Flags : goal.returns-in-Flags
returns-in-Flags c =
    moved c.flags_number.result (option_map word_view) _ _
    (ap (λ bs. flags_in_word c.args.repr (plain_value.flag_bits bs)) c.as_slice.ensures ∙ sym (ap (flags_in_word c.args.repr) (ap seen c.in-Flags.is ∙ seen-Flags c.in-Flags.flags))) c.flags_number.ensures
