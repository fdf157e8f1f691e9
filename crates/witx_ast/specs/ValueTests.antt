-- The values of a type as a test that computes; it holds exactly of the values.
use Rattle.std.specs.Prelude.{ℕ, zero, suc, ℤ, pos, negsuc, ◌^◌, length, Bool, true, false, nat_lt, nat_le, nat_eq, ◌&&◌, ◌||◌, not}
use Rattle.witx_ast.specs.declared.types.BuiltinType.{BuiltinType}
use Rattle.witx_ast.specs.declared.types.RecordKind.{RecordKind}
use Rattle.witx_ast.specs.Plain.{Plain, Fields, Arms, field_count, arm_count, all_bare}
use Rattle.witx_ast.specs.Alike.{same_builtin}
use Rattle.witx_ast.specs.Values.{Value, Values}

abbrev pub is_below : ℕ → ℤ → Bool
is_below m (pos n) = nat_lt n m
is_below m (negsuc n) = false

abbrev pub is_within : ℕ → ℤ → Bool
is_within m (pos n) = nat_lt n m
is_within m (negsuc n) = nat_lt n m

abbrev pub is_scalar : ℤ → Bool
is_scalar (pos n) = nat_lt n 0xD800 || (nat_le 0xE000 n && nat_lt n 0x110000)
is_scalar (negsuc n) = false

abbrev pub in_range : BuiltinType → ℤ → Bool
in_range BuiltinType.Char = is_scalar
in_range (BuiltinType.U8 c) = is_below (2 ^ 8)
in_range BuiltinType.U16 = is_below (2 ^ 16)
in_range (BuiltinType.U32 p) = is_below (2 ^ 32)
in_range BuiltinType.U64 = is_below (2 ^ 64)
in_range BuiltinType.S8 = is_within (2 ^ 7)
in_range BuiltinType.S16 = is_within (2 ^ 15)
in_range BuiltinType.S32 = is_within (2 ^ 31)
in_range BuiltinType.S64 = is_within (2 ^ 63)
in_range BuiltinType.F32 = is_below (2 ^ 32)
in_range BuiltinType.F64 = is_below (2 ^ 64)

abbrev mutual
  pub is_value : Plain → Value → Bool
  is_value (Plain.builtin b) (Value.number k n) = same_builtin k b && in_range b n
  is_value Plain.handle (Value.handle_number n) = nat_lt n (2 ^ 32)
  is_value (Plain.list_of t) (Value.list_at a l) = nat_lt a (2 ^ 32) && nat_lt l (2 ^ 32)
  is_value (Plain.pointer_to t) (Value.address n) = nat_lt n (2 ^ 32)
  is_value (Plain.const_pointer_to t) (Value.const_address n) = nat_lt n (2 ^ 32)
  is_value (Plain.record_of (RecordKind.Bitflags repr) ms) (Value.flag_bits bits) = nat_eq (length bits) (field_count ms)
  is_value (Plain.record_of RecordKind.Tuple ms) (Value.tuple_values vs) = are_values ms vs
  is_value (Plain.record_of RecordKind.Other ms) (Value.record_values vs) = are_values ms vs
  is_value (Plain.variant_of repr cs) (Value.enum_index i) = all_bare cs && nat_lt i (arm_count cs)
  is_value (Plain.variant_of repr cs) (Value.bare_case i) = not (all_bare cs) && is_bare_case cs i
  is_value (Plain.variant_of repr cs) (Value.case_with i v) = is_case_with cs i v
  is_value _ _ = false

  pub are_values : Fields → Values → Bool
  are_values Fields.no_fields Values.no_values = true
  are_values (Fields.field name t ms) (Values.value_then v vs) = is_value t v && are_values ms vs
  are_values _ _ = false

  pub is_bare_case : Arms → ℕ → Bool
  is_bare_case Arms.no_arms i = false
  is_bare_case (Arms.bare name cs) zero = true
  is_bare_case (Arms.bare name cs) (suc i) = is_bare_case cs i
  is_bare_case (Arms.carries name t cs) zero = false
  is_bare_case (Arms.carries name t cs) (suc i) = is_bare_case cs i

  pub is_case_with : Arms → ℕ → Value → Bool
  is_case_with Arms.no_arms i v = false
  is_case_with (Arms.bare name cs) zero v = false
  is_case_with (Arms.bare name cs) (suc i) v = is_case_with cs i v
  is_case_with (Arms.carries name t cs) zero v = is_value t v
  is_case_with (Arms.carries name t cs) (suc i) v = is_case_with cs i v
