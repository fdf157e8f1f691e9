use Rattle.std.proofs.Common.{◌≡◌, true, false, Some, rules}
use Rattle.witx_ast.specs.Plain.{plain}
use Rattle.witx_ast.specs.Views.{tree_of}
use Rattle.witx_bytes.specs.ByteMachine.{has_room}
use Rattle.witx_bytes.specs.Bytes.{held}
use Rattle.witx_bytes.specs.Seen.{seen}
use Rattle.witx_invoke.specs.Placing.{is_writable}
use Rattle.witx_call.specs.PlacementViews.{room_of}
use Rattle.witx_call.specs.WordViews.{u32_in, word_view}
use Rattle.witx_invoke.proofs.StoreLemmas.{is-fit, not-stored, stored, unfit}
use Rattle.witx_invoke.proofs.storing.store.Goals as goal

pub returns-then-not-has_room : goal.returns-then-not-has_room
returns-then-not-has_room c =
    let number : Some c.in-Some.at ≡ u32_in (word_view c.args.word) = search rules in
    let refused : has_room (plain (tree_of c.args.ty.now.tref)) c.in-Some.at (held c.args.placement.now.bytes) ≡ false = search rules in
    not-stored c.args.ty.now (word_view c.args.word) (seen c.args.value.now) (room_of c.args.placement.now) c.in-Some.at number refused

pub returns-then-not-is_writable : goal.returns-then-not-is_writable
returns-then-not-is_writable c =
    let number : Some c.in-Some.at ≡ u32_in (word_view c.args.word) = search rules in
    let room : has_room (plain (tree_of c.args.ty.now.tref)) c.in-Some.at (held c.args.placement.now.bytes) ≡ true = search rules in
    let refused : is_writable (plain (tree_of c.args.ty.now.tref)) (seen c.args.value.now) ≡ false = search rules in
    unfit c.args.ty.now (word_view c.args.word) (seen c.args.value.now) (room_of c.args.placement.now) c.in-Some.at number room refused

pub write_laid-requires-clause-writable : goal.write_laid-requires-clause-writable
write_laid-requires-clause-writable c =
    let fine : is_writable (plain (tree_of c.args.ty.now.tref)) (seen c.args.value.now) ≡ true = search rules in
    is-fit (plain (tree_of c.args.ty.now.tref)) (seen c.args.value.now) fine

pub returns : goal.returns
returns c =
    let number : Some c.in-Some.at ≡ u32_in (word_view c.args.word) = search rules in
    let room : has_room (plain (tree_of c.args.ty.now.tref)) c.in-Some.at (held c.args.placement.now.bytes) ≡ true = search rules in
    let fine : is_writable (plain (tree_of c.args.ty.now.tref)) (seen c.args.value.now) ≡ true = search rules in
    stored c.args.ty.now (word_view c.args.word) (seen c.args.value.now) (room_of c.args.placement.now) c.in-Some.at number (held c.write_laid.new.memory) room fine c.write_laid.ensures
