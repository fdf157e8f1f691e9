-- The word of flags, and the flags and the case of a word, under the named type.
use Rattle.std.proofs.Common.{◌≡◌, ℕ, ◌%◌, ◌^◌, Bool, true, false, ◌&&◌, refl, sym, ap, ◌∙◌, Option, Some, None, Result, IfOk, subst, nat_eq, nat_lt}
use Rattle.std.specs.Prelude.{option_and_then}
use Rattle.witx_ast.specs.declared.types.IntRepr.{IntRepr}
use Rattle.witx_ast.specs.declared.types.NamedType.{NamedType}
use Rattle.witx_ast.specs.declared.types.RecordKind.{RecordKind}
use Rattle.witx_ast.specs.Plain.{Plain, plain, all_bare, field_count, arm_count}
use Rattle.witx_ast.specs.Tree.{Tree}
use Rattle.witx_ast.specs.Values as plain_value
use Rattle.witx_ast.specs.ValueTests.{is_value}
use Rattle.witx_ast.specs.Views.{tree_of, named_tree}
use Rattle.witx_ast.proofs.Decided.{decides-eq}
use Rattle.witx_ast.proofs.Trees.{tree-NamedType}
use Rattle.witx_machine.specs.declared.surface.WasmType.{WasmType}
use Rattle.witx_machine.specs.Words.{Word, when, checked_value, flags_from, flags_in, is_for, same_type, repr_modulus, repr_word_type, value_in, value_of, word_in, word_of, enum_of, flags_of}
use Rattle.witx_bytes.proofs.NumberLaws.{flags-long}
use Rattle.witx_invoke.specs.Representing.{flags_in_word, flags_kept, tag_kept}

none_some : {A : Type 0} {x : A} → None ≡ Some x → ⊥
none_some e = cc

some-same : {A : Type 0} {x y : A} → Some x ≡ Some y → x ≡ y
some-same e = cc

first-same : {A B : Type 0} {a c : A} {b d : B} → ◌≡◌ {A = Option (A × B)} (Some (a, b)) (Some (c, d)) → a ≡ c
first-same e = ap (λ p. p.0) (some-same e)

second-same : {A B : Type 0} {a c : A} {b d : B} → ◌≡◌ {A = Option (A × B)} (Some (a, b)) (Some (c, d)) → b ≡ d
second-same e = ap (λ p. p.1) (some-same e)

neither : {A : Type 0} (b : Bool) (o : Option A) → when (b && false) o ≡ None
neither true o = refl
neither false o = refl

-- what is said of an answer, said of what is equal to it
pub moved : {A E V : Type 0} (r : Result A E) (f : A → V) (x y : V) → x ≡ y → IfOk r (λ a. f a ≡ x) → IfOk r (λ a. f a ≡ y)
moved r f x y e h = subst (λ y. IfOk r (λ a. f a ≡ y)) e h

-- the word of flags under a name that is one of no flags
pub word-of-none : (w : WasmType) (x : Tree) (v : plain_value.Value) → None ≡ flags_kept (plain x) → None ≡ word_of (flags_of w x) v
word-of-none w x v e = go (plain x) e
  where
    go : (t : Plain) → None ≡ flags_kept t → None ≡ when (is_for (flags_of w x) t && is_value t v) (word_in t v)
    go (Plain.record_of (RecordKind.Bitflags r) ms) e = absurd (none_some e)
    go t e = refl

pub word-of-flags : (w : WasmType) (x : Tree) (v : plain_value.Value) (r : IntRepr) (k : ℕ) → Some (r, k) ≡ flags_kept (plain x)
    → when (same_type w (repr_word_type r) && is_value (plain x) v) (flags_in_word r v) ≡ word_of (flags_of w x) v
word-of-flags w x v r k e = go (plain x) e
  where
    same_word : (r : IntRepr) (ms : _) (v : plain_value.Value) → flags_in_word r v ≡ word_in (Plain.record_of (RecordKind.Bitflags r) ms) v
    same_word r ms (plain_value.flag_bits bs) = refl
    same_word r ms v = refl

    go : (t : Plain) → Some (r, k) ≡ flags_kept t
        → when (same_type w (repr_word_type r) && is_value t v) (flags_in_word r v) ≡ when (is_for (flags_of w x) t && is_value t v) (word_in t v)
    go (Plain.record_of (RecordKind.Bitflags q) ms) e =
        ap (λ r. when (same_type w (repr_word_type r) && is_value (Plain.record_of (RecordKind.Bitflags q) ms) v) (flags_in_word r v)) (first-same e)
        ∙ ap (when (same_type w (repr_word_type q) && is_value (Plain.record_of (RecordKind.Bitflags q) ms) v)) (same_word q ms v)
    go t e = absurd (none_some (sym e))

-- the flags of a word under a name that is one of no flags
pub flags-of-none : (w : WasmType) (x : Tree) (u : Word) → None ≡ flags_kept (plain x) → None ≡ value_of (flags_of w x) u
flags-of-none w x u e = go (plain x) e
  where
    go : (t : Plain) → None ≡ flags_kept t → None ≡ when (is_for (flags_of w x) t && same_type u.type w) (option_and_then (checked_value t) (value_in t u.bits))
    go (Plain.record_of (RecordKind.Bitflags r) ms) e = absurd (none_some e)
    go t e = refl

eq-self : (n : ℕ) → nat_eq n n ≡ true
eq-self n = (decides-eq n n).1 refl

-- so many flags are a value of the type
all-checked : (r : IntRepr) (ms : _) (x : ℕ) → flags_in (field_count ms) x ≡ option_and_then (checked_value (Plain.record_of (RecordKind.Bitflags r) ms)) (flags_in (field_count ms) x)
all-checked r ms x = by (nat_lt x (2 ^ field_count ms))
  where
    by : (b : Bool) → when b (Some (plain_value.flag_bits (flags_from (field_count ms) x)))
        ≡ option_and_then (checked_value (Plain.record_of (RecordKind.Bitflags r) ms)) (when b (Some (plain_value.flag_bits (flags_from (field_count ms) x))))
    by true =
        sym (ap (λ n. when (nat_eq n (field_count ms)) (Some (plain_value.flag_bits (flags_from (field_count ms) x)))) (flags-long (field_count ms) x)
        ∙ ap (λ b. when b (Some (plain_value.flag_bits (flags_from (field_count ms) x)))) (eq-self (field_count ms)))
    by false = refl

pub flags-of-word : (w : WasmType) (x : Tree) (u : Word) (r : IntRepr) (k : ℕ) → Some (r, k) ≡ flags_kept (plain x)
    → when (same_type w (repr_word_type r) && same_type u.type w) (flags_in k (u.bits % repr_modulus r)) ≡ value_of (flags_of w x) u
flags-of-word w x u r k e = go (plain x) e
  where
    go : (t : Plain) → Some (r, k) ≡ flags_kept t
        → when (same_type w (repr_word_type r) && same_type u.type w) (flags_in k (u.bits % repr_modulus r)) ≡ when (is_for (flags_of w x) t && same_type u.type w) (option_and_then (checked_value t) (value_in t u.bits))
    go (Plain.record_of (RecordKind.Bitflags q) ms) e =
        ap (λ r. when (same_type w (repr_word_type r) && same_type u.type w) (flags_in k (u.bits % repr_modulus r))) (first-same e)
        ∙ ap (λ k. when (same_type w (repr_word_type q) && same_type u.type w) (flags_in k (u.bits % repr_modulus q))) (second-same e)
        ∙ ap (when (same_type w (repr_word_type q) && same_type u.type w)) (all-checked q ms (u.bits % repr_modulus q))
    go t e = absurd (none_some (sym e))

-- the case of a word under a name that is one of no variant, and of a word of another type
pub case-of-none : (x : Tree) (u : Word) → None ≡ tag_kept (plain x) → None ≡ value_of (enum_of x) u
case-of-none x u e = go (plain x) e
  where
    go : (t : Plain) → None ≡ tag_kept t → None ≡ when (is_for (enum_of x) t && same_type u.type WasmType.I32) (option_and_then (checked_value t) (value_in t u.bits))
    go (Plain.variant_of r cs) e = absurd (none_some e)
    go t e = refl

pub case-of-other : (x : Tree) (u : Word) → same_type u.type WasmType.I32 ≡ false → None ≡ value_of (enum_of x) u
case-of-other x u e =
    sym (ap (λ b. when (is_for (enum_of x) (plain x) && b) (option_and_then (checked_value (plain x)) (value_in (plain x) u.bits))) e ∙ neither (is_for (enum_of x) (plain x)) _)

pub case-of-word : (x : Tree) (u : Word) (r : IntRepr) → same_type u.type WasmType.I32 ≡ true → Some r ≡ tag_kept (plain x)
    → checked_value (plain x) (plain_value.enum_index (u.bits % repr_modulus r)) ≡ value_of (enum_of x) u
case-of-word x u r h e = go (plain x) e
  where
    twice : {A : Type 0} (a l b : Bool) (o : Option A) → b ≡ true → when (a && l) o ≡ when (a && b) (when (a && l) o)
    twice true l b o h = sym (ap (λ b. when b (when l o)) h)
    twice false l b o h = refl

    go : (t : Plain) → Some r ≡ tag_kept t
        → checked_value t (plain_value.enum_index (u.bits % repr_modulus r)) ≡ when (is_for (enum_of x) t && same_type u.type WasmType.I32) (option_and_then (checked_value t) (value_in t u.bits))
    go (Plain.variant_of q cs) e =
        ap (λ r. checked_value (Plain.variant_of q cs) (plain_value.enum_index (u.bits % repr_modulus r))) (some-same e)
        ∙ twice (all_bare cs) (nat_lt (u.bits % repr_modulus q) (arm_count cs)) (same_type u.type WasmType.I32) (Some (plain_value.enum_index (u.bits % repr_modulus q))) h
    go t e = absurd (none_some (sym e))

-- the same, where the program asks the type behind the name
module _ (n : NamedType) where
  named : plain (tree_of n.tref) ≡ plain (named_tree n)
  named = ap plain (sym (tree-NamedType n))

  module _ (w : WasmType) (v : plain_value.Value) where
    pub not-flags : None ≡ flags_kept (plain (tree_of n.tref)) → None ≡ word_of (flags_of w (named_tree n)) v
    not-flags e = word-of-none w (named_tree n) v (e ∙ ap flags_kept named)

    module _ (r : IntRepr) (k : ℕ) (e : Some (r, k) ≡ flags_kept (plain (tree_of n.tref))) where
      tests : (a b : Bool) → same_type w (repr_word_type r) ≡ a → is_value (plain (tree_of n.tref)) v ≡ b → when (a && b) (flags_in_word r v) ≡ word_of (flags_of w (named_tree n)) v
      tests a b f g =
          sym (ap (λ a. when (a && b) (flags_in_word r v)) f) ∙ sym (ap (λ b. when (same_type w (repr_word_type r) && b) (flags_in_word r v)) g)
          ∙ ap (λ t. when (same_type w (repr_word_type r) && is_value t v) (flags_in_word r v)) named
          ∙ word-of-flags w (named_tree n) v r k (e ∙ ap flags_kept named)

      pub other-word : same_type w (repr_word_type r) ≡ false → None ≡ word_of (flags_of w (named_tree n)) v
      other-word f = tests false (is_value (plain (tree_of n.tref)) v) f refl

      pub no-flags-of-it : same_type w (repr_word_type r) ≡ true → is_value (plain (tree_of n.tref)) v ≡ false → None ≡ word_of (flags_of w (named_tree n)) v
      no-flags-of-it f g = tests true false f g

      pub flags-word : same_type w (repr_word_type r) ≡ true → is_value (plain (tree_of n.tref)) v ≡ true → flags_in_word r v ≡ word_of (flags_of w (named_tree n)) v
      flags-word f g = tests true true f g

  module _ (w : WasmType) (u : Word) where
    pub lifts-no-flags : None ≡ flags_kept (plain (tree_of n.tref)) → None ≡ value_of (flags_of w (named_tree n)) u
    lifts-no-flags e = flags-of-none w (named_tree n) u (e ∙ ap flags_kept named)

    module _ (r : IntRepr) (k : ℕ) (e : Some (r, k) ≡ flags_kept (plain (tree_of n.tref))) where
      parts : (a b : Bool) → same_type w (repr_word_type r) ≡ a → same_type u.type w ≡ b → when (a && b) (flags_in k (u.bits % repr_modulus r)) ≡ value_of (flags_of w (named_tree n)) u
      parts a b f g =
          sym (ap (λ a. when (a && b) (flags_in k (u.bits % repr_modulus r))) f)
          ∙ sym (ap (λ b. when (same_type w (repr_word_type r) && b) (flags_in k (u.bits % repr_modulus r))) g)
          ∙ flags-of-word w (named_tree n) u r k (e ∙ ap flags_kept named)

      pub lifts-no-width : same_type w (repr_word_type r) ≡ false → None ≡ value_of (flags_of w (named_tree n)) u
      lifts-no-width f = parts false (same_type u.type w) f refl

      pub lifts-no-word : same_type w (repr_word_type r) ≡ true → same_type u.type w ≡ false → None ≡ value_of (flags_of w (named_tree n)) u
      lifts-no-word f g = parts true false f g

      pub lifts-flags : same_type w (repr_word_type r) ≡ true → same_type u.type w ≡ true → flags_in k (u.bits % repr_modulus r) ≡ value_of (flags_of w (named_tree n)) u
      lifts-flags f g = parts true true f g

  pub lifts-no-case : (u : Word) → None ≡ tag_kept (plain (tree_of n.tref)) → None ≡ value_of (enum_of (named_tree n)) u
  lifts-no-case u e = case-of-none (named_tree n) u (e ∙ ap tag_kept named)

  pub lifts-case : (u : Word) (r : IntRepr) (i : ℕ) → same_type u.type WasmType.I32 ≡ true → Some r ≡ tag_kept (plain (tree_of n.tref)) → i ≡ u.bits % repr_modulus r
      → checked_value (plain (tree_of n.tref)) (plain_value.enum_index i) ≡ value_of (enum_of (named_tree n)) u
  lifts-case u r i h e f =
      ap (λ i. checked_value (plain (tree_of n.tref)) (plain_value.enum_index i)) f
      ∙ ap (λ t. checked_value t (plain_value.enum_index (u.bits % repr_modulus r))) named ∙ case-of-word (named_tree n) u r h (e ∙ ap tag_kept named)

pub ruleset flag_rules = (not-flags, lifts-no-flags, lifts-no-case, case-of-other)
