-- Images of small values, computed.
use Rattle.std.specs.Prelude.{◌≡◌, refl, ℕ, zero, suc, List, [], ◌∷◌, Option, Some, None, pos, negsuc, true, false, codes}
use native.Mathlib.Decide.{ℕ_discrete}
use Rattle.witx_ast.specs.declared.types.BuiltinType.{BuiltinType}
use Rattle.witx_ast.specs.declared.types.IntRepr.{IntRepr}
use Rattle.witx_ast.specs.declared.types.RecordKind.{RecordKind}
use Rattle.witx_ast.specs.Plain.{Plain, Fields, Arms}
use Rattle.witx_ast.specs.Values.{Value, Values}
use Rattle.witx_bytes.specs.Bytes.{Bytes, image_written, with_zeros, holds, is_free}
use Rattle.witx_bytes.specs.Images.{image}
use Rattle.witx_bytes.specs.Reading.{value_at}

abbrev u8 : Plain
u8 = Plain.builtin (BuiltinType.U8 false)

abbrev u32 : Plain
u32 = Plain.builtin (BuiltinType.U32 false)

abbrev five : Fields
five = Fields.field (codes "a") u8 (Fields.field (codes "b") u8 (Fields.field (codes "c") u8 (Fields.field (codes "d") u8 (Fields.field (codes "e") u8 Fields.no_fields))))

-- a variant of five bytes or a number, under a tag of one byte
abbrev either : Plain
either = Plain.variant_of IntRepr.U8 (Arms.carries (codes "x") (Plain.record_of RecordKind.Other five) (Arms.carries (codes "y") u32 Arms.no_arms))

abbrev byte : ℕ → Value
byte n = Value.number (BuiltinType.U8 false) (pos n)

abbrev number : ℕ → Value
number n = Value.number (BuiltinType.U32 false) (pos n)

abbrev bytes_value : Value
bytes_value = Value.record_values (Values.value_then (byte 1) (Values.value_then (byte 2) (Values.value_then (byte 3) (Values.value_then (byte 4) (Values.value_then (byte 5) Values.no_values)))))

number_image : image either (Value.case_with 1 (number 258)) ≡ Some 1 ∷ None ∷ None ∷ None ∷ Some 2 ∷ Some 1 ∷ Some 0 ∷ Some 0 ∷ None ∷ None ∷ None ∷ None ∷ []
number_image = refl

record_image : image either (Value.case_with 0 bytes_value) ≡ Some 0 ∷ None ∷ None ∷ None ∷ Some 1 ∷ Some 2 ∷ Some 3 ∷ Some 4 ∷ Some 5 ∷ None ∷ None ∷ None ∷ []
record_image = refl

abbrev empty : Bytes
empty at = None

-- what stands from an address on
abbrev shown : ℕ → ℕ → Bytes → List (Option ℕ)
shown at zero m = []
shown at (suc n) m = m at ∷ shown (suc at) n m

abbrev range : Bytes
range = with_zeros 16 12 empty

abbrev number_memory : Bytes
number_memory = image_written 16 (image either (Value.case_with 1 (number 258))) range

number_bytes : shown 15 14 number_memory ≡ None ∷ Some 1 ∷ Some 0 ∷ Some 0 ∷ Some 0 ∷ Some 2 ∷ Some 1 ∷ Some 0 ∷ Some 0 ∷ Some 0 ∷ Some 0 ∷ Some 0 ∷ Some 0 ∷ None ∷ []
number_bytes = refl

number_read : value_at either number_memory 16 ≡ Some (Value.case_with 1 (number 258))
unfolding ℕ_discrete
number_read = refl

record_read : value_at either (image_written 16 (image either (Value.case_with 0 bytes_value)) number_memory) 16 ≡ Some (Value.case_with 0 bytes_value)
unfolding ℕ_discrete
record_read = refl

-- a tag that no case has
no_case : value_at either (image_written 16 (Some 2 ∷ []) number_memory) 16 ≡ None
no_case = refl

-- the range is free once, and held from then on
free_once : is_free 16 12 empty ≡ true
free_once = refl

taken_then : is_free 16 12 range ≡ false
taken_then = refl

held_then : holds 16 12 range ≡ true
held_then = refl

-- flags of two bytes
abbrev three_flags : Plain
three_flags = Plain.record_of (RecordKind.Bitflags IntRepr.U16) (Fields.field (codes "a") u8 (Fields.field (codes "b") u8 (Fields.field (codes "c") u8 Fields.no_fields)))

flags_image : image three_flags (Value.flag_bits (true ∷ false ∷ true ∷ [])) ≡ Some 5 ∷ Some 0 ∷ []
flags_image = refl

no_flags : value_at three_flags (image_written 16 (Some 8 ∷ Some 0 ∷ []) range) 16 ≡ None
no_flags = refl

-- a code point that is a surrogate
no_char : value_at (Plain.builtin BuiltinType.Char) (image_written 16 (Some 0 ∷ Some 0xD8 ∷ Some 0 ∷ Some 0 ∷ []) range) 16 ≡ None
unfolding ℕ_discrete
no_char = refl

-- a truth value of a third kind
no_bool : value_at (Plain.variant_of IntRepr.U8 (Arms.bare (codes "false") (Arms.bare (codes "true") Arms.no_arms))) (image_written 16 (Some 2 ∷ []) range) 16 ≡ None
no_bool = refl

-- a negative number
minus_two : image (Plain.builtin BuiltinType.S16) (Value.number BuiltinType.S16 (negsuc 1)) ≡ Some 254 ∷ Some 255 ∷ []
minus_two = refl
