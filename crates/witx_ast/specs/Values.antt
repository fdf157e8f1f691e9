-- The values of a type: which value belongs to which plain tree.
-- Numbers are those of the WebAssembly interface types: integers of a width, Unicode scalar values, and floats as their bits (IEEE 754).
use Rattle.std.specs.Prelude.{ℕ, zero, suc, ℤ, pos, negsuc, ◌<◌, ◌≤◌, ◌^◌, ◌≡◌, ◌⊎◌, List, length, Bool, true, false}
use Rattle.witx_ast.specs.declared.types.BuiltinType.{BuiltinType}
use Rattle.witx_ast.specs.declared.types.RecordKind.{RecordKind}
use Rattle.witx_ast.specs.Plain.{Plain, Fields, Arms, field_count, arm_count, all_bare}

mutual
  pub data Value : Type 0 where
    number : BuiltinType → ℤ → Value
    handle_number : ℕ → Value
    address : ℕ → Value
    const_address : ℕ → Value
    -- where the items begin, and how many there are
    list_at : ℕ → ℕ → Value
    flag_bits : List Bool → Value
    tuple_values : Values → Value
    record_values : Values → Value
    -- a case of a variant without any payload
    enum_index : ℕ → Value
    bare_case : ℕ → Value
    case_with : ℕ → Value → Value

  pub data Values : Type 0 where
    no_values : Values
    value_then : Value → Values → Values

-- from 0 up to, but without, m
abbrev pub IsBelow : ℕ → ℤ → Type 0
IsBelow m (pos n) = n < m
IsBelow m (negsuc n) = ⊥

-- from -m up to, but without, m
abbrev pub IsWithin : ℕ → ℤ → Type 0
IsWithin m (pos n) = n < m
IsWithin m (negsuc n) = n < m

-- a code point that is no surrogate
abbrev pub IsScalar : ℤ → Type 0
IsScalar (pos n) = (n < 0xD800) ⊎ ((0xE000 ≤ n) × (n < 0x110000))
IsScalar (negsuc n) = ⊥

abbrev pub InRange : BuiltinType → ℤ → Type 0
InRange BuiltinType.Char n = IsScalar n
InRange (BuiltinType.U8 c) n = IsBelow (2 ^ 8) n
InRange BuiltinType.U16 n = IsBelow (2 ^ 16) n
InRange (BuiltinType.U32 p) n = IsBelow (2 ^ 32) n
InRange BuiltinType.U64 n = IsBelow (2 ^ 64) n
InRange BuiltinType.S8 n = IsWithin (2 ^ 7) n
InRange BuiltinType.S16 n = IsWithin (2 ^ 15) n
InRange BuiltinType.S32 n = IsWithin (2 ^ 31) n
InRange BuiltinType.S64 n = IsWithin (2 ^ 63) n
InRange BuiltinType.F32 n = IsBelow (2 ^ 32) n
InRange BuiltinType.F64 n = IsBelow (2 ^ 64) n

abbrev mutual
  pub IsValue : Plain → Value → Type 0
  IsValue (Plain.builtin b) (Value.number k n) = (k ≡ b) × InRange b n
  IsValue Plain.handle (Value.handle_number n) = n < 2 ^ 32
  IsValue (Plain.list_of t) (Value.list_at a l) = (a < 2 ^ 32) × (l < 2 ^ 32)
  IsValue (Plain.pointer_to t) (Value.address n) = n < 2 ^ 32
  IsValue (Plain.const_pointer_to t) (Value.const_address n) = n < 2 ^ 32
  IsValue (Plain.record_of (RecordKind.Bitflags repr) ms) (Value.flag_bits bits) = length bits ≡ field_count ms
  IsValue (Plain.record_of RecordKind.Tuple ms) (Value.tuple_values vs) = AreValues ms vs
  IsValue (Plain.record_of RecordKind.Other ms) (Value.record_values vs) = AreValues ms vs
  IsValue (Plain.variant_of repr cs) (Value.enum_index i) = (all_bare cs ≡ true) × (i < arm_count cs)
  IsValue (Plain.variant_of repr cs) (Value.bare_case i) = (all_bare cs ≡ false) × IsBareCase cs i
  IsValue (Plain.variant_of repr cs) (Value.case_with i v) = IsCaseWith cs i v
  IsValue _ _ = ⊥

  -- member by member
  pub AreValues : Fields → Values → Type 0
  AreValues Fields.no_fields Values.no_values = Unit {0}
  AreValues (Fields.field name t ms) (Values.value_then v vs) = IsValue t v × AreValues ms vs
  AreValues _ _ = ⊥

  -- case i has no payload
  pub IsBareCase : Arms → ℕ → Type 0
  IsBareCase Arms.no_arms i = ⊥
  IsBareCase (Arms.bare name cs) zero = Unit {0}
  IsBareCase (Arms.bare name cs) (suc i) = IsBareCase cs i
  IsBareCase (Arms.carries name t cs) zero = ⊥
  IsBareCase (Arms.carries name t cs) (suc i) = IsBareCase cs i

  -- case i has a payload, and v is a value of its type
  pub IsCaseWith : Arms → ℕ → Value → Type 0
  IsCaseWith Arms.no_arms i v = ⊥
  IsCaseWith (Arms.bare name cs) zero v = ⊥
  IsCaseWith (Arms.bare name cs) (suc i) v = IsCaseWith cs i v
  IsCaseWith (Arms.carries name t cs) zero v = IsValue t v
  IsCaseWith (Arms.carries name t cs) (suc i) v = IsCaseWith cs i v
