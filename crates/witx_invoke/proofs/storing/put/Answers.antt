use Rattle.std.proofs.Common.{◌≡◌, ◌∙◌, ap, true, false, Some, None, rules}
use Rattle.witx_ast.specs.Plain.{plain}
use Rattle.witx_ast.specs.Views.{tree_of, named_tree}
use Rattle.witx_machine.specs.Functions.{by_address}
use Rattle.witx_machine.specs.Words.{i32}
use Rattle.witx_bytes.specs.Bytes.{held, image_written}
use Rattle.witx_bytes.specs.Images.{image}
use Rattle.witx_bytes.specs.Seen.{seen}
use Rattle.witx_call.specs.Room.{room_given}
use Rattle.witx_invoke.specs.Placing.{is_writable}
use Rattle.witx_call.specs.PlacementViews.{room_of}
use Rattle.witx_invoke.proofs.PutLemmas.{no-place, not-fit, not-passed, put-there, room-named}
use Rattle.witx_invoke.proofs.StoreLemmas.{is-one}
use Rattle.witx_invoke.proofs.storing.put.Goals as goal

pub returns-then-not-is_by_address : goal.returns-then-not-is_by_address
returns-then-not-is_by_address c =
    let refused : by_address (plain (tree_of c.args.ty.now.value.tref)) ≡ false = search rules in
    not-passed c.args.ty.now.value (seen c.args.value.now) (room_of c.args.placement.now) refused

pub returns-then-not-is_writable : goal.returns-then-not-is_writable
returns-then-not-is_writable c =
    let passed : by_address (plain (tree_of c.args.ty.now.value.tref)) ≡ true = search rules in
    let refused : is_writable (plain (tree_of c.args.ty.now.value.tref)) (seen c.args.value.now) ≡ false = search rules in
    not-fit c.args.ty.now.value (seen c.args.value.now) (room_of c.args.placement.now) passed refused

pub write_laid-requires-clause-value : goal.write_laid-requires-clause-value
write_laid-requires-clause-value c =
    let fine : is_writable (plain (tree_of c.deref-in-Some.result.now.tref)) (seen c.args.value.now) ≡ true = search rules in
    is-one (plain (tree_of c.deref-in-Some.result.now.tref)) (seen c.args.value.now) fine

pub write_laid-requires-clause-room : goal.write_laid-requires-clause-room
write_laid-requires-clause-room c =
    let got : Some (i32 c.in-Some.at, room_of c.give.new.self) ≡ room_given (named_tree c.args.ty.now.value) (room_of c.args.placement.now) = search rules in
    let room = room-named c.args.ty.now.value (room_of c.args.placement.now) c.in-Some.at (room_of c.give.new.self) got in
    search (rules, room)

pub returns-in_ok-laid-in-Some : goal.returns-in_ok-laid-in-Some
returns-in_ok-laid-in-Some c =
    let passed : by_address (plain (tree_of c.args.ty.now.value.tref)) ≡ true = search rules in
    let fine : is_writable (plain (tree_of c.args.ty.now.value.tref)) (seen c.args.value.now) ≡ true = search rules in
    let got : Some (i32 c.in-Some.at, room_of c.give.new.self) ≡ room_given (named_tree c.args.ty.now.value) (room_of c.args.placement.now) = search rules in
    let same : c.deref-in-Some.result.now ≡ c.args.ty.now.value = search rules in
    put-there c.args.ty.now.value (seen c.args.value.now) (room_of c.args.placement.now) passed fine c.in-Some.at (room_of c.give.new.self) (held c.write_laid.new.memory) got
    (λ x. c.write_laid.ensures x ∙ ap (λ n. image_written c.in-Some.at (image (plain (tree_of n.tref)) (seen c.args.value.now)) (held c.give.new.self.bytes) x) same)

pub returns-in-None : goal.returns-in-None
returns-in-None c =
    let passed : by_address (plain (tree_of c.args.ty.now.value.tref)) ≡ true = search rules in
    let fine : is_writable (plain (tree_of c.args.ty.now.value.tref)) (seen c.args.value.now) ≡ true = search rules in
    let none : None ≡ room_given (named_tree c.args.ty.now.value) (room_of c.args.placement.now) = search rules in
    no-place c.args.ty.now.value (seen c.args.value.now) (room_of c.args.placement.now) passed fine none
