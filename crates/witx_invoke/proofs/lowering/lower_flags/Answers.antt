use Rattle.std.proofs.Common.{◌≡◌, ℕ, true, false, Some, Option, rules}
use Rattle.std.specs.Prelude.{option_map}
use Rattle.witx_ast.specs.Plain.{plain}
use Rattle.witx_ast.specs.ValueTests.{is_value}
use Rattle.witx_ast.specs.Views.{tree_of}
use Rattle.witx_ast.specs.declared.types.IntRepr.{IntRepr}
use Rattle.witx_machine.specs.Words.{repr_word_type, same_type}
use Rattle.witx_bytes.specs.Seen.{seen}
use Rattle.witx_invoke.specs.Representing.{flags_kept}
use Rattle.witx_call.specs.WordViews.{word_view}
use Rattle.witx_invoke.proofs.FlagLemmas.{flags-word, moved, no-flags-of-it, other-word}
use Rattle.witx_invoke.proofs.lowering.lower_flags.Goals as goal

pub returns-then-not-same_type : goal.returns-then-not-same_type
returns-then-not-same_type c =
    let kept : ◌≡◌ {A = Option (IntRepr × ℕ)} (Some (c.in-Some.repr, c.in-Some._count)) (flags_kept (plain (tree_of c.args.named.now.tref))) = search rules in
    let other : same_type c.args.ty (repr_word_type c.in-Some.repr) ≡ false = search rules in
    other-word c.args.named.now c.args.ty (seen c.args.value.now) c.in-Some.repr c.in-Some._count kept other

pub returns-then-not-is_value : goal.returns-then-not-is_value
returns-then-not-is_value c =
    let kept : ◌≡◌ {A = Option (IntRepr × ℕ)} (Some (c.in-Some.repr, c.in-Some._count)) (flags_kept (plain (tree_of c.args.named.now.tref))) = search rules in
    let same : same_type c.args.ty (repr_word_type c.in-Some.repr) ≡ true = search rules in
    let other : is_value (plain (tree_of c.args.named.now.tref)) (seen c.args.value.now) ≡ false = search rules in
    no-flags-of-it c.args.named.now c.args.ty (seen c.args.value.now) c.in-Some.repr c.in-Some._count kept same other

pub returns : goal.returns
returns c =
    let kept : ◌≡◌ {A = Option (IntRepr × ℕ)} (Some (c.in-Some.repr, c.in-Some._count)) (flags_kept (plain (tree_of c.args.named.now.tref))) = search rules in
    let same : same_type c.args.ty (repr_word_type c.in-Some.repr) ≡ true = search rules in
    let one : is_value (plain (tree_of c.args.named.now.tref)) (seen c.args.value.now) ≡ true = search rules in
    moved c.flags_word.result (option_map word_view) _ _ (flags-word c.args.named.now c.args.ty (seen c.args.value.now) c.in-Some.repr c.in-Some._count kept same one) c.flags_word.ensures
