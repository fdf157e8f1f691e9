-- What holds of each kind of type holds of every type; records by their kinds.
use Rattle.witx_ast.specs.declared.types.BuiltinType.{BuiltinType}
use Rattle.witx_ast.specs.declared.types.IntRepr.{IntRepr}
use Rattle.witx_ast.specs.declared.types.RecordKind.{RecordKind}
use Rattle.witx_ast.specs.Plain.{Plain, Fields, Arms}

module _ (P : Plain → Type 0) (tuple : (ms : Fields) → P (Plain.record_of RecordKind.Tuple ms))
    (flags : (r : IntRepr) (ms : Fields) → P (Plain.record_of (RecordKind.Bitflags r) ms)) (other : (ms : Fields) → P (Plain.record_of RecordKind.Other ms))
    (builtin : (b : BuiltinType) → P (Plain.builtin b)) (handle : P Plain.handle) (pointer : (t : Plain) → P (Plain.pointer_to t)) (const_pointer : (t : Plain) → P (Plain.const_pointer_to t))
    (list : (t : Plain) → P (Plain.list_of t)) (variant : (r : IntRepr) (cs : Arms) → P (Plain.variant_of r cs)) where
  pub each-type : (t : Plain) → P t
  each-type (Plain.record_of RecordKind.Tuple ms) = tuple ms
  each-type (Plain.record_of (RecordKind.Bitflags r) ms) = flags r ms
  each-type (Plain.record_of RecordKind.Other ms) = other ms
  each-type (Plain.builtin b) = builtin b
  each-type Plain.handle = handle
  each-type (Plain.pointer_to t) = pointer t
  each-type (Plain.const_pointer_to t) = const_pointer t
  each-type (Plain.list_of t) = list t
  each-type (Plain.variant_of r cs) = variant r cs
