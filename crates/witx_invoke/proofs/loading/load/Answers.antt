use Rattle.std.proofs.Common.{◌≡◌, true, false, Some, rules}
use Rattle.std.specs.Prelude.{option_map}
use Rattle.witx_ast.specs.Plain.{plain}
use Rattle.witx_ast.specs.Views.{tree_of}
use Rattle.witx_bytes.specs.Seen.{seen}
use Rattle.witx_invoke.specs.Placing.{is_readable}
use Rattle.witx_call.specs.PlacementViews.{room_of}
use Rattle.witx_call.specs.WordViews.{u32_in, word_view}
use Rattle.witx_invoke.proofs.FlagLemmas.{moved}
use Rattle.witx_invoke.proofs.LoadLemmas.{loads, loads-unfit}
use Rattle.witx_invoke.proofs.loading.load.Goals as goal

pub returns-then-not-is_readable : goal.returns-then-not-is_readable
returns-then-not-is_readable c =
    let number : Some c.in-Some.at ≡ u32_in (word_view c.args.word) = search rules in
    let refused : is_readable (plain (tree_of c.args.ty.now.tref)) ≡ false = search rules in
    loads-unfit c.args.ty.now (word_view c.args.word) (room_of c.args.placement.now) c.in-Some.at number refused

pub returns : goal.returns
returns c =
    let number : Some c.in-Some.at ≡ u32_in (word_view c.args.word) = search rules in
    let fine : is_readable (plain (tree_of c.args.ty.now.tref)) ≡ true = search rules in
    moved c.value_there.result (option_map seen) _ _ (loads c.args.ty.now (word_view c.args.word) (room_of c.args.placement.now) c.in-Some.at number fine) c.value_there.ensures
