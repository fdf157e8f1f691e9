use Rattle.std.proofs.Common.{◌≡◌, ℕ, ◌∙◌, ap, true, false, None, Some, Option, rules}
use Rattle.std.specs.Prelude.{option_map}
use Rattle.witx_ast.specs.Plain.{plain}
use Rattle.witx_ast.specs.Views.{tree_of}
use Rattle.witx_ast.specs.declared.types.IntRepr.{IntRepr}
use Rattle.witx_machine.specs.Words.{flags_in, repr_word_type, same_type}
use Rattle.witx_bytes.specs.Seen.{seen}
use Rattle.witx_invoke.specs.Representing.{flags_kept}
use Rattle.witx_call.specs.WordViews.{word_view}
use Rattle.witx_invoke.proofs.FlagLemmas.{lifts-flags, lifts-no-flags, lifts-no-width, lifts-no-word, moved}
use Rattle.witx_invoke.proofs.lifting.lift_flags.Goals as goal

pub returns-in_default : goal.returns-in_default
returns-in_default c =
    let none : None ≡ flags_kept (plain (tree_of c.args.named.now.tref)) = search rules in
    lifts-no-flags c.args.named.now c.args.ty (word_view c.args.word) none

pub returns-then-not-same_type : goal.returns-then-not-same_type
returns-then-not-same_type c =
    let kept : ◌≡◌ {A = Option (IntRepr × ℕ)} (Some (c.in-Some.repr, c.in-Some.count)) (flags_kept (plain (tree_of c.args.named.now.tref))) = search rules in
    let other : same_type c.args.ty (repr_word_type c.in-Some.repr) ≡ false = search rules in
    lifts-no-width c.args.named.now c.args.ty (word_view c.args.word) c.in-Some.repr c.in-Some.count kept other

pub returns-then-not-same_type-2 : goal.returns-then-not-same_type-2
returns-then-not-same_type-2 c =
    let kept : ◌≡◌ {A = Option (IntRepr × ℕ)} (Some (c.in-Some.repr, c.in-Some.count)) (flags_kept (plain (tree_of c.args.named.now.tref))) = search rules in
    let same : same_type c.args.ty (repr_word_type c.in-Some.repr) ≡ true = search rules in
    let other : same_type c.args.word.ty c.args.ty ≡ false = search rules in
    lifts-no-word c.args.named.now c.args.ty (word_view c.args.word) c.in-Some.repr c.in-Some.count kept same other

pub returns : goal.returns
returns c =
    let kept : ◌≡◌ {A = Option (IntRepr × ℕ)} (Some (c.in-Some.repr, c.in-Some.count)) (flags_kept (plain (tree_of c.args.named.now.tref))) = search rules in
    let same : same_type c.args.ty (repr_word_type c.in-Some.repr) ≡ true = search rules in
    let word : same_type c.args.word.ty c.args.ty ≡ true = search rules in
    moved c.flags_value.result (option_map seen) _ _
    (ap (flags_in c.in-Some.count) c.cut_to.ensures ∙ lifts-flags c.args.named.now c.args.ty (word_view c.args.word) c.in-Some.repr c.in-Some.count kept same word) c.flags_value.ensures
