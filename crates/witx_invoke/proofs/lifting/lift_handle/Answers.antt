use Rattle.std.proofs.Common.{◌≡◌, ◌∙◌, ap, Some, rules}
use Rattle.std.specs.Prelude.{option_map}
use Rattle.witx_ast.specs.Plain.{plain}
use Rattle.witx_ast.specs.Views.{tree_of}
use Rattle.witx_machine.specs.Words.{checked_value}
use Rattle.witx_bytes.specs.Seen.{seen}
use Rattle.witx_bytes.proofs.Seen.{seen-Handle}
use Rattle.witx_call.specs.WordViews.{u32_in, word_view}
use Rattle.witx_invoke.proofs.LiftLemmas.{handle-lifted}
use Rattle.witx_invoke.proofs.lifting.lift_handle.Goals as goal

pub returns-in-Some : goal.returns-in-Some
returns-in-Some c =
    let number : Some c.in-Some.number ≡ u32_in (word_view c.args.word) = search rules in
    handle-lifted c.args.named.now (word_view c.args.word) c.in-Some.number (option_map seen c.value_if.result) number
    (c.value_if.ensures ∙ ap (checked_value (plain (tree_of c.args.named.now.tref))) (seen-Handle c.in-Some.number))
