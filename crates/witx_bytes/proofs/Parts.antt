-- Which values the program has at a type.
use Rattle.std.proofs.Common.{◌≡◌, ℕ, ℤ, false, refl, sym, ap, ◌∙◌, subst, Option, Some, None, List, Bool, map, rules}
use Rattle.std.specs.declared.alloc.Global.{Global}
use Rattle.std.specs.declared.boxed.Box.{Box}
use Rattle.witx_base.specs.SameBytes.{false-true}
use Rattle.witx_ast.specs.declared.types.BuiltinType.{BuiltinType}
use Rattle.witx_ast.specs.declared.types.IntRepr.{IntRepr}
use Rattle.witx_ast.specs.declared.types.RecordKind.{RecordKind}
use Rattle.witx_ast.specs.Plain.{Plain, Fields, Arms}
use Rattle.witx_ast.specs.Values as plain
use Rattle.witx_ast.specs.ValueTests.{is_value}
use Rattle.witx_machine.specs.Cells.{values_of}
use Rattle.witx_bytes.specs.Seen.{seen}
use Rattle.witx_bytes.specs.Writes.{CanWrite, HasNoParts}
use Rattle.witx_bytes.specs.declared.value.Value.{Value, out-Value, roll-Value, the_lemmas}
use Rattle.witx_bytes.specs.declared.value.Value.TheOpen.{Value-F}
use Rattle.witx_bytes.specs.declared.value.Value.TheVariants as value
use Rattle.witx_bytes.specs.declared.value.Value.TheVariants.{rolls-Num, rolls-Handle, rolls-Pointer, rolls-ConstPointer, rolls-List, rolls-Flags, rolls-Tuple, rolls-Rec, rolls-Enum, rolls-Case}
use Rattle.witx_bytes.proofs.Seen.{seen_rules, seen-Num, seen-Handle, seen-Pointer, seen-ConstPointer, seen-List, seen-Flags, seen-Tuple, seen-Rec, seen-Enum, seen-Bare, seen-With}

-- which variant a value is
data Shape (v : Value) : Type 0 where
  is_num : (b : BuiltinType) (n : ℤ) → v ≡ value.Num b n → Shape v
  is_handle : (n : ℕ) → v ≡ value.Handle n → Shape v
  is_pointer : (n : ℕ) → v ≡ value.Pointer n → Shape v
  is_const : (n : ℕ) → v ≡ value.ConstPointer n → Shape v
  is_list : (a l : ℕ) → v ≡ value.List a l → Shape v
  is_flags : (bits : List Bool) → v ≡ value.Flags bits → Shape v
  is_tuple : (vs : List Value) → v ≡ value.Tuple vs → Shape v
  is_rec : (vs : List Value) → v ≡ value.Rec vs → Shape v
  is_enum : (i : ℕ) → v ≡ value.Enum i → Shape v
  is_bare : (i : ℕ) → v ≡ value.Case i None → Shape v
  is_with : (i : ℕ) (u : Box Value Global) → v ≡ value.Case i (Some u) → Shape v

roll-out : (v : Value) → roll-Value (out-Value v) ≡ v
roll-out v = search (rules, the_lemmas)

layer_shape : (l : Value-F Value) → Shape (roll-Value l)
layer_shape (Value-F.Num b n) = is_num b n (rolls-Num b n)
layer_shape (Value-F.Handle n) = is_handle n (rolls-Handle n)
layer_shape (Value-F.Pointer n) = is_pointer n (rolls-Pointer n)
layer_shape (Value-F.ConstPointer n) = is_const n (rolls-ConstPointer n)
layer_shape (Value-F.List a l) = is_list a l (rolls-List a l)
layer_shape (Value-F.Flags bits) = is_flags bits (rolls-Flags bits)
layer_shape (Value-F.Tuple vs) = is_tuple vs (rolls-Tuple vs)
layer_shape (Value-F.Rec vs) = is_rec vs (rolls-Rec vs)
layer_shape (Value-F.Enum i) = is_enum i (rolls-Enum i)
layer_shape (Value-F.Case i None) = is_bare i (rolls-Case i None)
layer_shape (Value-F.Case i (Some u)) = is_with i u (rolls-Case i (Some u))

shape : (v : Value) → Shape v
shape v = subst Shape (roll-out v) (layer_shape (out-Value v))

-- what it then is
abbrev shown : (v : Value) → Shape v → (u : plain.Value) × (seen v ≡ u)
shown v (is_num b n e) = (plain.number b n, ap seen e ∙ seen-Num b n)
shown v (is_handle n e) = (plain.handle_number n, ap seen e ∙ seen-Handle n)
shown v (is_pointer n e) = (plain.address n, ap seen e ∙ seen-Pointer n)
shown v (is_const n e) = (plain.const_address n, ap seen e ∙ seen-ConstPointer n)
shown v (is_list a l e) = (plain.list_at a l, ap seen e ∙ seen-List a l)
shown v (is_flags bits e) = (plain.flag_bits bits, ap seen e ∙ seen-Flags bits)
shown v (is_tuple vs e) = (plain.tuple_values (values_of (map seen vs)), ap seen e ∙ seen-Tuple vs)
shown v (is_rec vs e) = (plain.record_values (values_of (map seen vs)), ap seen e ∙ seen-Rec vs)
shown v (is_enum i e) = (plain.enum_index i, ap seen e ∙ seen-Enum i)
shown v (is_bare i e) = (plain.bare_case i, ap seen e ∙ seen-Bare i)
shown v (is_with i u e) = (plain.case_with i (seen u.value), ap seen e ∙ seen-With i u)

-- where it isn't of the kind that the type has, it is no value of it
unlike : (t : Plain) (v : Value) (s : Shape v) → is_value t (shown v s).0 ≡ false → is_value t (seen v) ≡ false
unlike t v s no' = ap (is_value t) (shown v s).1 ∙ no'

pub not_builtin : (b : BuiltinType) (v : Value) → ((k : BuiltinType) (n : ℤ) → v ≡ value.Num k n → ⊥) → is_value (Plain.builtin b) (seen v) ≡ false
not_builtin b v n = go (shape v)
  where
    go : Shape v → is_value (Plain.builtin b) (seen v) ≡ false
    go (is_num k z e) = absurd (n k z e)
    go s = unlike (Plain.builtin b) v s refl

pub not_handle : (v : Value) → ((x : ℕ) → v ≡ value.Handle x → ⊥) → is_value Plain.handle (seen v) ≡ false
not_handle v n = go (shape v)
  where
    go : Shape v → is_value Plain.handle (seen v) ≡ false
    go (is_handle x e) = absurd (n x e)
    go s = unlike Plain.handle v s refl

pub not_pointer : (t : Plain) (v : Value) → ((x : ℕ) → v ≡ value.Pointer x → ⊥) → is_value (Plain.pointer_to t) (seen v) ≡ false
not_pointer t v n = go (shape v)
  where
    go : Shape v → is_value (Plain.pointer_to t) (seen v) ≡ false
    go (is_pointer x e) = absurd (n x e)
    go s = unlike (Plain.pointer_to t) v s refl

pub not_const : (t : Plain) (v : Value) → ((x : ℕ) → v ≡ value.ConstPointer x → ⊥) → is_value (Plain.const_pointer_to t) (seen v) ≡ false
not_const t v n = go (shape v)
  where
    go : Shape v → is_value (Plain.const_pointer_to t) (seen v) ≡ false
    go (is_const x e) = absurd (n x e)
    go s = unlike (Plain.const_pointer_to t) v s refl

pub not_list : (t : Plain) (v : Value) → ((a l : ℕ) → v ≡ value.List a l → ⊥) → is_value (Plain.list_of t) (seen v) ≡ false
not_list t v n = go (shape v)
  where
    go : Shape v → is_value (Plain.list_of t) (seen v) ≡ false
    go (is_list a l e) = absurd (n a l e)
    go s = unlike (Plain.list_of t) v s refl

pub not_flags : (r : IntRepr) (ms : Fields) (v : Value) → ((bits : List Bool) → v ≡ value.Flags bits → ⊥) → is_value (Plain.record_of (RecordKind.Bitflags r) ms) (seen v) ≡ false
not_flags r ms v n = go (shape v)
  where
    go : Shape v → is_value (Plain.record_of (RecordKind.Bitflags r) ms) (seen v) ≡ false
    go (is_flags bits e) = absurd (n bits e)
    go s = unlike (Plain.record_of (RecordKind.Bitflags r) ms) v s refl

pub not_tuple : (ms : Fields) (v : Value) → ((vs : List Value) → v ≡ value.Tuple vs → ⊥) → is_value (Plain.record_of RecordKind.Tuple ms) (seen v) ≡ false
not_tuple ms v n = go (shape v)
  where
    go : Shape v → is_value (Plain.record_of RecordKind.Tuple ms) (seen v) ≡ false
    go (is_tuple vs e) = absurd (n vs e)
    go s = unlike (Plain.record_of RecordKind.Tuple ms) v s refl

pub not_record : (ms : Fields) (v : Value) → ((vs : List Value) → v ≡ value.Rec vs → ⊥) → is_value (Plain.record_of RecordKind.Other ms) (seen v) ≡ false
not_record ms v n = go (shape v)
  where
    go : Shape v → is_value (Plain.record_of RecordKind.Other ms) (seen v) ≡ false
    go (is_rec vs e) = absurd (n vs e)
    go s = unlike (Plain.record_of RecordKind.Other ms) v s refl

pub not_variant : (r : IntRepr) (cs : Arms) (v : Value) → ((i : ℕ) → v ≡ value.Enum i → ⊥) → ((i : ℕ) (o : Option (Box Value Global)) → v ≡ value.Case i o → ⊥) → is_value (Plain.variant_of r cs) (seen v) ≡ false
not_variant r cs v n k = go (shape v)
  where
    go : Shape v → is_value (Plain.variant_of r cs) (seen v) ≡ false
    go (is_enum i e) = absurd (n i e)
    go (is_bare i e) = absurd (k i None e)
    go (is_with i u e) = absurd (k i (Some u) e)
    go s = unlike (Plain.variant_of r cs) v s refl

-- what can be written is a value
other : (t : Plain) (v : plain.Value) → CanWrite t v → is_value t v ≡ false → ⊥
other t v h e = false-true (sym e ∙ h.value)

pub other_flags : (r : IntRepr) (ms : Fields) (v : Value) → CanWrite (Plain.record_of (RecordKind.Bitflags r) ms) (seen v) → ((bits : List Bool) → v ≡ value.Flags bits → ⊥) → ⊥
other_flags r ms v h n = other (Plain.record_of (RecordKind.Bitflags r) ms) (seen v) h (not_flags r ms v n)

-- a record but for flags, whose value is neither of a tuple nor of another record
pub other_members : (k : RecordKind) (ms : Fields) (v : Value) → CanWrite (Plain.record_of k ms) (seen v) → ((r : IntRepr) → k ≡ RecordKind.Bitflags r → ⊥)
    → ((vs : List Value) → v ≡ value.Tuple vs → ⊥) → ((vs : List Value) → v ≡ value.Rec vs → ⊥) → ⊥
other_members (RecordKind.Bitflags r) ms v h f n o = f r refl
other_members RecordKind.Tuple ms v h f n o = other (Plain.record_of RecordKind.Tuple ms) (seen v) h (not_tuple ms v n)
other_members RecordKind.Other ms v h f n o = other (Plain.record_of RecordKind.Other ms) (seen v) h (not_record ms v o)

pub other_variant : (r : IntRepr) (cs : Arms) (v : Value) → CanWrite (Plain.variant_of r cs) (seen v) → ((i : ℕ) → v ≡ value.Enum i → ⊥) → ((i : ℕ) (o : Option (Box Value Global)) → v ≡ value.Case i o → ⊥) → ⊥
other_variant r cs v h n k = other (Plain.variant_of r cs) (seen v) h (not_variant r cs v n k)

-- a type that has no parts, whose value is of none of its kinds
pub other_scalar : (t : Plain) (v : Value) → HasNoParts t → CanWrite t (seen v) → ((k : BuiltinType) (n : ℤ) → v ≡ value.Num k n → ⊥) → ((n : ℕ) → v ≡ value.Handle n → ⊥)
    → ((n : ℕ) → v ≡ value.Pointer n → ⊥) → ((n : ℕ) → v ≡ value.ConstPointer n → ⊥) → ((a l : ℕ) → v ≡ value.List a l → ⊥) → ⊥
other_scalar (Plain.builtin b) v s h number handle pointer const list = other (Plain.builtin b) (seen v) h (not_builtin b v number)
other_scalar Plain.handle v s h number handle pointer const list = other Plain.handle (seen v) h (not_handle v handle)
other_scalar (Plain.list_of t) v s h number handle pointer const list = other (Plain.list_of t) (seen v) h (not_list t v list)
other_scalar (Plain.pointer_to t) v s h number handle pointer const list = other (Plain.pointer_to t) (seen v) h (not_pointer t v pointer)
other_scalar (Plain.const_pointer_to t) v s h number handle pointer const list = other (Plain.const_pointer_to t) (seen v) h (not_const t v const)
other_scalar (Plain.record_of kind ms) v s h number handle pointer const list = absurd s
other_scalar (Plain.variant_of repr cs) v s h number handle pointer const list = absurd s

pub ruleset scalar_rules = (seen_rules, other_flags, other_variant)
