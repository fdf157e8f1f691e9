-- The value that bytes spell, computed.
use Rattle.std.specs.Prelude.{ℕ, zero, suc, ◌+◌, ◌*◌, ◌^◌, Bool, true, false, Option, Some, None, option_map, option_and_then, nat_lt}
use Rattle.witx_ast.specs.declared.types.RecordKind.{RecordKind}
use Rattle.witx_ast.specs.Plain.{Plain, Fields, Arms, field_count, arm_count, all_bare}
use Rattle.witx_ast.specs.Values.{Value, Values}
use Rattle.witx_layout.specs.Numbers.{align_to, align_of, builtin_size, repr_size, payload_offset, size_of}
use Rattle.witx_machine.specs.Words.{cut, checked_value, flags_from, when}
use Rattle.witx_bytes.specs.Bytes.{Bytes}

-- the number in so many bytes, the lowest first
abbrev pub number_at : ℕ → Bytes → ℕ → Option ℕ
number_at zero m at = Some 0
number_at (suc width) m at = option_and_then (λ low. option_map (λ high. low + 256 * high) (number_at width m (suc at))) (m at)

abbrev pub list_read_at : Option ℕ → Option ℕ → Option Value
list_read_at a l = option_and_then (λ a. option_map (λ l. Value.list_at a l) l) a

-- bits beyond the flags spell nothing
abbrev pub flags_at : ℕ → ℕ → Option Value
flags_at count x = when (nat_lt x (2 ^ count)) (Some (Value.flag_bits (flags_from count x)))

-- the case of a tag, with its payload if it has one
abbrev pub case_of : ℕ → Option Value → Value
case_of i None = Value.bare_case i
case_of i (Some v) = Value.case_with i v

-- a variant without any payload is spelled by its tag alone
abbrev pub variant_at : Bool → ℕ → ℕ → Option (Option Value) → Option Value
variant_at true count i payload = when (nat_lt i count) (Some (Value.enum_index i))
variant_at false count i payload = option_map (case_of i) payload

abbrev mutual
  pub value_at : Plain → Bytes → ℕ → Option Value
  value_at (Plain.builtin b) m at = option_and_then (λ x. checked_value (Plain.builtin b) (Value.number b (cut b x))) (number_at (builtin_size b) m at)
  value_at Plain.handle m at = option_map Value.handle_number (number_at 4 m at)
  value_at (Plain.list_of t) m at = list_read_at (number_at 4 m at) (number_at 4 m (at + 4))
  value_at (Plain.pointer_to t) m at = option_map Value.address (number_at 4 m at)
  value_at (Plain.const_pointer_to t) m at = option_map Value.const_address (number_at 4 m at)
  value_at (Plain.record_of (RecordKind.Bitflags repr) ms) m at = option_and_then (flags_at (field_count ms)) (number_at (repr_size repr) m at)
  value_at (Plain.record_of RecordKind.Tuple ms) m at = option_map Value.tuple_values (members_at 0 ms m at)
  value_at (Plain.record_of RecordKind.Other ms) m at = option_map Value.record_values (members_at 0 ms m at)
  value_at (Plain.variant_of repr cs) m at =
      option_and_then (λ i. variant_at (all_bare cs) (arm_count cs) i (arm_at cs i m (at + payload_offset repr cs))) (number_at (repr_size repr) m at)

  -- the members, behind those before them, which end at the offset
  pub members_at : ℕ → Fields → Bytes → ℕ → Option Values
  members_at end Fields.no_fields m at = Some Values.no_values
  members_at end (Fields.field name t ms) m at =
      option_and_then (λ v. option_map (Values.value_then v) (members_at (align_to end (align_of t) + size_of t) ms m at))
      (value_at t m (at + align_to end (align_of t)))

  -- the payload of case i, where there is such a case: none, or the value that stands there
  pub arm_at : Arms → ℕ → Bytes → ℕ → Option (Option Value)
  arm_at Arms.no_arms i m at = None
  arm_at (Arms.bare name cs) zero m at = Some None
  arm_at (Arms.bare name cs) (suc i) m at = arm_at cs i m at
  arm_at (Arms.carries name t cs) zero m at = option_map Some (value_at t m at)
  arm_at (Arms.carries name t cs) (suc i) m at = arm_at cs i m at
