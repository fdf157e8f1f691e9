-- A type is a tuple of members, or is of another kind.
use Rattle.std.proofs.Common.{◌≡◌, true, false, Some, None, refl, ap}
use Rattle.witx_ast.specs.declared.types.BuiltinType.{BuiltinType}
use Rattle.witx_ast.specs.declared.types.IntRepr.{IntRepr}
use Rattle.witx_ast.specs.declared.types.RecordKind.{RecordKind}
use Rattle.witx_ast.specs.declared.types.Variant.{Variant}
use Rattle.witx_ast.specs.Plain.{Plain, Fields, Arms, plain}
use Rattle.witx_ast.specs.Views.{variant_tree}
use Rattle.witx_ast.specs.Words.{is_tuple_kind}
use Rattle.witx_ast.proofs.TreeKinds.{kind_rules}
use Rattle.witx_ast.proofs.Trees.{tree-VariantDatatype}
use Rattle.witx_symbols.specs.Typing.{is_tuple_type, tuple_fields}
use Rattle.witx_symbols.proofs.EachType.{each-type}

-- kinds of records
pub tuple-kind : (k : RecordKind) → is_tuple_kind k ≡ true → k ≡ RecordKind.Tuple
tuple-kind RecordKind.Tuple e = refl
tuple-kind (RecordKind.Bitflags r) e = cc
tuple-kind RecordKind.Other e = cc

pub other-kind : (P : RecordKind → Type 0) → ((r : IntRepr) → P (RecordKind.Bitflags r)) → P RecordKind.Other → (k : RecordKind) → is_tuple_kind k ≡ false → P k
other-kind P flags other RecordKind.Tuple e = cc
other-kind P flags other (RecordKind.Bitflags r) e = flags r
other-kind P flags other RecordKind.Other e = other

-- the members that were found
pub fields-tuple : (k : RecordKind) (ms : Fields) → is_tuple_kind k ≡ true → tuple_fields (Plain.record_of k ms) ≡ Some ms
fields-tuple k ms e = ap (λ k. tuple_fields (Plain.record_of k ms)) (tuple-kind k e)

pub fields-record : (k : RecordKind) (ms : Fields) → is_tuple_kind k ≡ false → tuple_fields (Plain.record_of k ms) ≡ None
fields-record k ms e = other-kind (λ k. tuple_fields (Plain.record_of k ms) ≡ None) (λ r. refl) refl k e

pub fields-variant : (v : Variant) → tuple_fields (plain (variant_tree v)) ≡ None
fields-variant v = rw (tree-VariantDatatype v) refl

-- what they tell of the type
pub tuple-type : (t : Plain) (ms : Fields) → Some ms ≡ tuple_fields t → t ≡ Plain.record_of RecordKind.Tuple ms
tuple-type = each-type (λ t. (ms : Fields) → Some ms ≡ tuple_fields t → t ≡ Plain.record_of RecordKind.Tuple ms)
    (λ ns ms e. cc) (λ r ns ms e. cc) (λ ns ms e. cc) (λ b ms e. cc) (λ ms e. cc) (λ t ms e. cc) (λ t ms e. cc) (λ t ms e. cc) (λ r cs ms e. cc)

module _ (P : Plain → Type 0) (flags : (r : IntRepr) (ms : Fields) → P (Plain.record_of (RecordKind.Bitflags r) ms)) (other : (ms : Fields) → P (Plain.record_of RecordKind.Other ms))
    (builtin : (b : BuiltinType) → P (Plain.builtin b)) (handle : P Plain.handle) (pointer : (t : Plain) → P (Plain.pointer_to t)) (const_pointer : (t : Plain) → P (Plain.const_pointer_to t))
    (list : (t : Plain) → P (Plain.list_of t)) (variant : (r : IntRepr) (cs : Arms) → P (Plain.variant_of r cs)) where
  -- what holds of each other kind of type holds of a type that is no tuple
  pub other-type : (t : Plain) → None ≡ tuple_fields t → P t
  other-type = each-type (λ t. None ≡ tuple_fields t → P t)
      (λ ms e. cc) (λ r ms e. flags r ms) (λ ms e. other ms) (λ b e. builtin b) (λ e. handle) (λ t e. pointer t) (λ t e. const_pointer t) (λ t e. list t) (λ r cs e. variant r cs)

pub is-tuple : (t : Plain) (ms : Fields) → Some ms ≡ tuple_fields t → is_tuple_type t ≡ true
is-tuple t ms e = ap is_tuple_type (tuple-type t ms e)

pub no-tuple : (t : Plain) → None ≡ tuple_fields t → is_tuple_type t ≡ false
no-tuple = other-type (λ t. is_tuple_type t ≡ false) (λ r ms. refl) (λ ms. refl) (λ b. refl) refl (λ t. refl) (λ t. refl) (λ t. refl) (λ r cs. refl)

pub ruleset tuple_rules = (kind_rules, fields-tuple, fields-record, fields-variant, is-tuple, no-tuple)
