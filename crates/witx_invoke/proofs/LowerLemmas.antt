-- The one word of a value, and the value of a word, under the named type that tells the kind.
use Rattle.std.proofs.Common.{◌≡◌, ℕ, ℤ, Bool, true, false, ◌&&◌, refl, sym, ap, ◌∙◌, Option, Some, None}
use Rattle.witx_ast.specs.declared.types.BuiltinType.{BuiltinType}
use Rattle.witx_ast.specs.declared.types.IntRepr.{IntRepr}
use Rattle.witx_ast.specs.declared.types.RecordKind.{RecordKind}
use Rattle.witx_ast.specs.Alike.{same_builtin}
use Rattle.witx_ast.specs.Plain.{Plain, plain, Arms, all_bare}
use Rattle.witx_ast.specs.Tree.{Tree}
use Rattle.witx_ast.specs.Values as plain_value
use Rattle.witx_ast.specs.ValueTests.{in_range, is_value}
use Rattle.witx_machine.specs.Words.{Word, i32, when, is_for, type_for, word_in, word_of, const_pointer, number_of, handle_of, enum_of, number_word, pointer}
use Rattle.witx_bytes.specs.Seen.{seen}
use Rattle.witx_bytes.specs.declared.value.Value.{Value}
use Rattle.witx_bytes.specs.declared.value.Value.TheVariants as value
use Rattle.witx_ast.specs.declared.types.NamedType.{NamedType}
use Rattle.witx_ast.specs.Views.{tree_of, named_tree}
use Rattle.witx_ast.proofs.Trees.{tree-NamedType}
use Rattle.witx_bytes.proofs.Parts.{not_builtin, not_const, not_handle, not_pointer}
use Rattle.witx_bytes.proofs.Seen.{seen_rules, seen-Num, seen-Handle, seen-Enum}

pub number-lowered : (b k : BuiltinType) (n : ℤ) (v : Value) → v ≡ value.Num k n → same_builtin k b ≡ true → when (in_range b n) (Some (number_word b n)) ≡ word_of (number_of b) (seen v)
number-lowered b k n v e same =
    sym (ap (word_of (number_of b)) (ap seen e ∙ seen-Num k n) ∙ ap (λ s. when (s && in_range b n) (Some (number_word b n))) same)

-- a value that is no number of a builtin, no address, or no address of what isn't changed
pub number-other : (b : BuiltinType) (v : Value) → ((k : BuiltinType) (n : ℤ) → v ≡ value.Num k n → ⊥) → None ≡ word_of (number_of b) (seen v)
number-other b v n = sym (ap (λ t. when t (word_in (Plain.builtin b) (seen v))) (not_builtin b v n))

pub pointer-other : (v : Value) → ((a : ℕ) → v ≡ value.Pointer a → ⊥) → None ≡ word_of pointer (seen v)
pointer-other v n = sym (ap (λ t. when t (word_in (type_for pointer) (seen v))) (not_pointer Plain.handle v n))

pub const-other : (v : Value) → ((a : ℕ) → v ≡ value.ConstPointer a → ⊥) → None ≡ word_of const_pointer (seen v)
const-other v n = sym (ap (λ t. when t (word_in (type_for const_pointer) (seen v))) (not_const Plain.handle v n))

clash : {A : Type 0} → true ≡ false → A
clash e = absurd (no e)
  where
    no : true ≡ false → ⊥
    no e = cc

nothing : {A : Type 0} (b : Bool) → None ≡ when {A = A} b None
nothing true = refl
nothing false = refl

-- a handle under a name
pub handle-lowered : (n : Tree) (k : ℕ) (b : Bool) → b ≡ is_value (plain n) (plain_value.handle_number k) → when b (Some (i32 k)) ≡ word_of (handle_of n) (plain_value.handle_number k)
handle-lowered n k b e = go (plain n) e
  where
    go : (t : Plain) → b ≡ is_value t (plain_value.handle_number k) → when b (Some (i32 k)) ≡ when (is_for (handle_of n) t && is_value t (plain_value.handle_number k)) (word_in t (plain_value.handle_number k))
    go Plain.handle e = ap (λ b. when b (Some (i32 k))) e
    go (Plain.record_of (RecordKind.Bitflags r) ms) e = ap (λ b. when b (Some (i32 k))) e
    go t e = ap (λ b. when b (Some (i32 k))) e

pub handle-other : (n : Tree) (v : Value) → ((k : ℕ) → v ≡ value.Handle k → ⊥) → None ≡ word_of (handle_of n) (seen v)
handle-other n v k = go (plain n)
  where
    go : (t : Plain) → None ≡ when (is_for (handle_of n) t && is_value t (seen v)) (word_in t (seen v))
    go Plain.handle = sym (ap (λ b. when b (word_in Plain.handle (seen v))) (not_handle v k))
    go t = refl

-- a case of a variant without payloads, under a name
pub enum-lowered : (n : Tree) (i : ℕ) (b : Bool) → b ≡ is_value (plain n) (plain_value.enum_index i) → when b (Some (i32 i)) ≡ word_of (enum_of n) (plain_value.enum_index i)
enum-lowered n i b e = go (plain n) e
  where
    twice : (c l : Bool) → c && l ≡ c && (c && l)
    twice true l = refl
    twice false l = refl

    go : (t : Plain) → b ≡ is_value t (plain_value.enum_index i) → when b (Some (i32 i)) ≡ when (is_for (enum_of n) t && is_value t (plain_value.enum_index i)) (word_in t (plain_value.enum_index i))
    go (Plain.variant_of r cs) e = ap (λ b. when b (Some (i32 i))) (e ∙ twice (all_bare cs) _)
    go (Plain.record_of (RecordKind.Bitflags r) ms) e = ap (λ b. when b (Some (i32 i))) e
    go t e = ap (λ b. when b (Some (i32 i))) e

abbrev pub is_enum_value : plain_value.Value → Bool
is_enum_value (plain_value.enum_index i) = true
is_enum_value _ = false

pub enum-other : (n : Tree) (v : plain_value.Value) → is_enum_value v ≡ false → None ≡ word_of (enum_of n) v
enum-other n v e = go (plain n)
  where
    at_variant : (r : IntRepr) (cs : Arms) (v : plain_value.Value) → is_enum_value v ≡ false → None ≡ when (all_bare cs && is_value (Plain.variant_of r cs) v) (word_in (Plain.variant_of r cs) v)
    at_variant r cs (plain_value.enum_index i) e = clash e
    at_variant r cs (plain_value.bare_case i) e = nothing _
    at_variant r cs (plain_value.case_with i p) e = nothing _
    at_variant r cs v e = nothing (all_bare cs && false)

    go : (t : Plain) → None ≡ when (is_for (enum_of n) t && is_value t v) (word_in t v)
    go (Plain.variant_of r cs) = at_variant r cs v e
    go t = refl

module _ (n : NamedType) (v : Value) (k : ℕ) (b : Bool) (o : Option Word) (h : b ≡ is_value (plain (tree_of n.tref)) (seen v)) (f : o ≡ when b (Some (i32 k))) where
  under-name : (u : plain_value.Value) → seen v ≡ u → b ≡ is_value (plain (named_tree n)) u
  under-name u e = h ∙ ap (is_value (plain (tree_of n.tref))) e ∙ ap (λ t. is_value (plain t) u) (sym (tree-NamedType n))

  pub handle-word : v ≡ value.Handle k → o ≡ word_of (handle_of (named_tree n)) (seen v)
  handle-word e =
      let as_seen : seen v ≡ plain_value.handle_number k = ap seen e ∙ seen-Handle k in
      f ∙ handle-lowered (named_tree n) k b (under-name (plain_value.handle_number k) as_seen) ∙ sym (ap (word_of (handle_of (named_tree n))) as_seen)

  pub enum-word : v ≡ value.Enum k → o ≡ word_of (enum_of (named_tree n)) (seen v)
  enum-word e =
      let as_seen : seen v ≡ plain_value.enum_index k = ap seen e ∙ seen-Enum k in
      f ∙ enum-lowered (named_tree n) k b (under-name (plain_value.enum_index k) as_seen) ∙ sym (ap (word_of (enum_of (named_tree n))) as_seen)

pub ruleset kind_rules = (seen_rules, enum-other)
