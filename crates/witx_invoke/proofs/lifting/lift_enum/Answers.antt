use Rattle.std.proofs.Common.{◌≡◌, ◌∙◌, ap, true, None, Some, rules}
use Rattle.witx_ast.specs.Plain.{plain}
use Rattle.witx_ast.specs.Views.{tree_of}
use Rattle.witx_machine.specs.declared.surface.WasmType.{WasmType}
use Rattle.witx_machine.specs.Words.{checked_value, same_type}
use Rattle.witx_bytes.proofs.Seen.{seen-Enum}
use Rattle.witx_invoke.specs.Representing.{tag_kept}
use Rattle.witx_call.specs.WordViews.{word_view}
use Rattle.witx_invoke.proofs.FlagLemmas.{lifts-case, lifts-no-case}
use Rattle.witx_invoke.proofs.lifting.lift_enum.Goals as goal

pub returns-in_default : goal.returns-in_default
returns-in_default c =
    let none : None ≡ tag_kept (plain (tree_of c.args.named.now.tref)) = search rules in
    lifts-no-case c.args.named.now (word_view c.args.word) none

pub returns : goal.returns
returns c =
    let kept : Some c.in-Some.repr ≡ tag_kept (plain (tree_of c.args.named.now.tref)) = search rules in
    let same : same_type c.args.word.ty WasmType.I32 ≡ true = search rules in
    c.value_if.ensures ∙ ap (checked_value (plain (tree_of c.args.named.now.tref))) (seen-Enum c.cut_to-case.result)
    ∙ lifts-case c.args.named.now (word_view c.args.word) c.in-Some.repr c.cut_to-case.result same kept c.cut_to-case.ensures
