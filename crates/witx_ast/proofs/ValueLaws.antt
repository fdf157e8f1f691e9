-- The test of a value holds exactly of the values of the type.
use Rattle.std.specs.Prelude.{ℕ, zero, suc, ℤ, pos, negsuc, ◌^◌, length}
use Rattle.std.specs.Bool.{Decides}
use Rattle.witx_ast.specs.declared.types.BuiltinType.{BuiltinType}
use Rattle.witx_ast.specs.declared.types.RecordKind.{RecordKind}
use Rattle.witx_ast.specs.Plain.{Plain, Fields, Arms, field_count, arm_count, all_bare}
use Rattle.witx_ast.specs.Values.{Value, Values, IsBelow, IsWithin, IsScalar, InRange, IsValue, AreValues, IsBareCase, IsCaseWith}
use Rattle.witx_ast.specs.ValueTests.{is_below, is_within, is_scalar, in_range, is_value, are_values, is_bare_case, is_case_with}
use Rattle.witx_ast.proofs.Decided.{always, never, decides-and, decides-or, decides-lt, decides-le, decides-eq, decides-true, decides-false}
use Rattle.witx_ast.proofs.AlikeLaws.{builtins-decide}

pub below-decides : (m : ℕ) (n : ℤ) → Decides (is_below m n) (IsBelow m n)
below-decides m (pos n) = decides-lt n m
below-decides m (negsuc n) = never

pub within-decides : (m : ℕ) (n : ℤ) → Decides (is_within m n) (IsWithin m n)
within-decides m (pos n) = decides-lt n m
within-decides m (negsuc n) = decides-lt n m

pub scalar-decides : (n : ℤ) → Decides (is_scalar n) (IsScalar n)
scalar-decides (pos n) = decides-or _ _ (decides-lt n 0xD800) (decides-and _ _ (decides-le 0xE000 n) (decides-lt n 0x110000))
scalar-decides (negsuc n) = never

pub range-decides : (b : BuiltinType) (n : ℤ) → Decides (in_range b n) (InRange b n)
range-decides BuiltinType.Char n = scalar-decides n
range-decides (BuiltinType.U8 c) n = below-decides (2 ^ 8) n
range-decides BuiltinType.U16 n = below-decides (2 ^ 16) n
range-decides (BuiltinType.U32 p) n = below-decides (2 ^ 32) n
range-decides BuiltinType.U64 n = below-decides (2 ^ 64) n
range-decides BuiltinType.S8 n = within-decides (2 ^ 7) n
range-decides BuiltinType.S16 n = within-decides (2 ^ 15) n
range-decides BuiltinType.S32 n = within-decides (2 ^ 31) n
range-decides BuiltinType.S64 n = within-decides (2 ^ 63) n
range-decides BuiltinType.F32 n = below-decides (2 ^ 32) n
range-decides BuiltinType.F64 n = below-decides (2 ^ 64) n

mutual
  pub value-decides : (t : Plain) (v : Value) → Decides (is_value t v) (IsValue t v)
  value-decides (Plain.builtin b) (Value.number k n) = decides-and _ _ (builtins-decide k b) (range-decides b n)
  value-decides Plain.handle (Value.handle_number n) = decides-lt n (2 ^ 32)
  value-decides (Plain.list_of t) (Value.list_at a l) = decides-and _ _ (decides-lt a (2 ^ 32)) (decides-lt l (2 ^ 32))
  value-decides (Plain.pointer_to t) (Value.address n) = decides-lt n (2 ^ 32)
  value-decides (Plain.const_pointer_to t) (Value.const_address n) = decides-lt n (2 ^ 32)
  value-decides (Plain.record_of (RecordKind.Bitflags repr) ms) (Value.flag_bits bits) = decides-eq (length bits) (field_count ms)
  value-decides (Plain.record_of RecordKind.Tuple ms) (Value.tuple_values vs) = values-decide ms vs
  value-decides (Plain.record_of RecordKind.Other ms) (Value.record_values vs) = values-decide ms vs
  value-decides (Plain.variant_of repr cs) (Value.enum_index i) = decides-and _ _ (decides-true (all_bare cs)) (decides-lt i (arm_count cs))
  value-decides (Plain.variant_of repr cs) (Value.bare_case i) = decides-and _ _ (decides-false (all_bare cs)) (bare-case-decides cs i)
  value-decides (Plain.variant_of repr cs) (Value.case_with i v) = case-with-decides cs i v
  value-decides _ _ = never

  pub values-decide : (ms : Fields) (vs : Values) → Decides (are_values ms vs) (AreValues ms vs)
  values-decide Fields.no_fields Values.no_values = always
  values-decide (Fields.field name t ms) (Values.value_then v vs) = decides-and _ _ (value-decides t v) (values-decide ms vs)
  values-decide _ _ = never

  pub bare-case-decides : (cs : Arms) (i : ℕ) → Decides (is_bare_case cs i) (IsBareCase cs i)
  bare-case-decides Arms.no_arms i = never
  bare-case-decides (Arms.bare name cs) zero = always
  bare-case-decides (Arms.bare name cs) (suc i) = bare-case-decides cs i
  bare-case-decides (Arms.carries name t cs) zero = never
  bare-case-decides (Arms.carries name t cs) (suc i) = bare-case-decides cs i

  pub case-with-decides : (cs : Arms) (i : ℕ) (v : Value) → Decides (is_case_with cs i v) (IsCaseWith cs i v)
  case-with-decides Arms.no_arms i v = never
  case-with-decides (Arms.bare name cs) zero v = never
  case-with-decides (Arms.bare name cs) (suc i) v = case-with-decides cs i v
  case-with-decides (Arms.carries name t cs) zero v = value-decides t v
  case-with-decides (Arms.carries name t cs) (suc i) v = case-with-decides cs i v
