-- The value of a builtin whose word it is.
use Rattle.std.proofs.Common.{◌≡◌, ℕ, Bool, true, false, ◌&&◌, refl, sym, ap, ◌∙◌, Option, Some, None}
use Rattle.witx_ast.specs.declared.types.BuiltinType.{BuiltinType}
use Rattle.witx_ast.specs.Alike.{same_builtin}
use Rattle.std.specs.Prelude.{option_and_then}
use Rattle.witx_ast.specs.declared.types.NamedType.{NamedType}
use Rattle.witx_ast.specs.declared.types.RecordKind.{RecordKind}
use Rattle.witx_ast.specs.Plain.{Plain, plain}
use Rattle.witx_ast.specs.Tree.{Tree}
use Rattle.witx_ast.specs.Views.{tree_of, named_tree}
use Rattle.witx_ast.proofs.Trees.{tree-NamedType}
use Rattle.witx_machine.specs.Cells.{is_i32}
use Rattle.witx_call.specs.WordViews.{u32_in}
use Rattle.witx_ast.specs.SameLaws.{builtin-self}
use Rattle.witx_ast.specs.Values as plain_value
use Rattle.witx_ast.specs.ValueTests.{in_range}
use Rattle.witx_machine.specs.Words.{Word, when, checked_value, is_for, is_u32, same_type, value_in, value_of, builtin_word_type, cut, number_of, handle_of}
use Rattle.witx_bytes.proofs.Seen.{seen_rules}

pub number-lifted : (b : BuiltinType) (w : Word) (t : Bool) → same_type w.type (builtin_word_type b) ≡ true → in_range b (cut b w.bits) ≡ t → when t (Some (plain_value.number b (cut b w.bits))) ≡ value_of (number_of b) w
number-lifted b w t e r =
    sym (ap (λ s. when s (when (same_builtin b b && in_range b (cut b w.bits)) (Some (plain_value.number b (cut b w.bits))))) e
    ∙ ap (λ s. when (s && in_range b (cut b w.bits)) (Some (plain_value.number b (cut b w.bits)))) (builtin-self b)
    ∙ ap (λ t. when t (Some (plain_value.number b (cut b w.bits)))) r)

pub not-lifted : (b : BuiltinType) (w : Word) → same_type w.type (builtin_word_type b) ≡ false → None ≡ value_of (number_of b) w
not-lifted b w e = sym (ap (λ s. when s (when (same_builtin b b && in_range b (cut b w.bits)) (Some (plain_value.number b (cut b w.bits))))) e)

pub ruleset lift_rules = (seen_rules, not-lifted)

none_some : {A : Type 0} {x : A} → None ≡ Some x → ⊥
none_some e = cc

some-same : {A : Type 0} {x y : A} → Some x ≡ Some y → x ≡ y
some-same e = cc

-- under a name, a handle's value is the number that the word is
handle-in : (n : Tree) (w : Word) (b : Bool) → is_i32 w && is_u32 w.bits ≡ b → value_of (handle_of n) w ≡ when b (checked_value (plain n) (plain_value.handle_number w.bits))
handle-in n w b e = go (plain n)
  where
    nothing : (b : Bool) → None ≡ when {A = plain_value.Value} b None
    nothing true = refl
    nothing false = refl

    split : (i u b : Bool) → i && u ≡ b → when i (when u (Some (plain_value.handle_number w.bits))) ≡ when b (when u (Some (plain_value.handle_number w.bits)))
    split true true b e = ap (λ b. when b (Some (plain_value.handle_number w.bits))) e
    split true false b e = nothing b
    split false u b e = ap (λ b. when b (when u (Some (plain_value.handle_number w.bits)))) e

    go : (t : Plain) → when (is_for (handle_of n) t && is_i32 w) (option_and_then (checked_value t) (value_in t w.bits)) ≡ when b (checked_value t (plain_value.handle_number w.bits))
    go Plain.handle = split (is_i32 w) (is_u32 w.bits) b e
    go (Plain.record_of (RecordKind.Bitflags r) ms) = nothing b
    go t = nothing b

pub handle-lifted : (n : NamedType) (w : Word) (k : ℕ) (o : Option plain_value.Value) → Some k ≡ u32_in w → o ≡ checked_value (plain (tree_of n.tref)) (plain_value.handle_number k) → o ≡ value_of (handle_of (named_tree n)) w
handle-lifted n w k o e h = by (is_i32 w && is_u32 w.bits) refl e
  where
    by : (b : Bool) → is_i32 w && is_u32 w.bits ≡ b → Some k ≡ when b (Some w.bits) → o ≡ value_of (handle_of (named_tree n)) w
    by false f e = absurd (none_some (sym e))
    by true f e =
        h ∙ ap (λ k. checked_value (plain (tree_of n.tref)) (plain_value.handle_number k)) (some-same e)
        ∙ ap (λ t. checked_value (plain t) (plain_value.handle_number w.bits)) (sym (tree-NamedType n)) ∙ sym (handle-in (named_tree n) w true f)

pub no-handle : (n : Tree) (w : Word) → None ≡ u32_in w → None ≡ value_of (handle_of n) w
no-handle n w e = by (is_i32 w && is_u32 w.bits) refl e
  where
    by : (b : Bool) → is_i32 w && is_u32 w.bits ≡ b → None ≡ when b (Some w.bits) → None ≡ value_of (handle_of n) w
    by true f e = absurd (none_some e)
    by false f e = sym (handle-in n w false f)

pub ruleset handle_rules = (seen_rules, no-handle)
