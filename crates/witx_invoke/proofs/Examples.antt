-- Texts of values, computed.
use Rattle.std.proofs.Common.{◌≡◌, [], ◌∷◌, true, false, pos, negsuc, refl, codes, map}
use Rattle.std.specs.Fmt.{digits}
use Rattle.witx_ast.specs.declared.types.BuiltinType.{BuiltinType}
use Rattle.witx_ast.specs.Values.{Value, Values}
use Rattle.witx_call.specs.ValueTexts.{value_text}

-- of integers the least and the most, and below zero; a null
integers :
    map value_text
    (Value.number BuiltinType.U64 (pos 18446744073709551615)
    ∷ Value.number BuiltinType.S64 (negsuc 9223372036854775807)
    ∷ Value.number BuiltinType.S8 (negsuc 0)
    ∷ Value.number (BuiltinType.U32 true) (pos 0) ∷ [])
    ≡ codes "18446744073709551615" ∷ codes "-9223372036854775808" ∷ codes "-1" ∷ codes "0" ∷ []
unfolding digits
integers = refl

-- a character is its scalar value, a float its bits: one half
no-integers :
    map value_text (Value.number BuiltinType.Char (pos 0x10FFFF) ∷ Value.number BuiltinType.F32 (pos 0x3F000000) ∷ [])
    ≡ codes "1114111" ∷ codes "1056964608" ∷ []
unfolding digits
no-integers = refl

-- a handle and addresses are their number, a list has two
words :
    map value_text (Value.handle_number 4294967295 ∷ Value.address 16 ∷ Value.const_address 0 ∷ Value.list_at 1000 5 ∷ [])
    ≡ codes "4294967295" ∷ codes "16" ∷ codes "0" ∷ codes "@1000+5" ∷ []
unfolding digits
words = refl

flags : map value_text (Value.flag_bits (true ∷ false ∷ false ∷ []) ∷ Value.flag_bits [] ∷ []) ≡ codes "[1 0 0]" ∷ codes "[]" ∷ []
flags = refl

-- a tuple and a record are in parentheses
members :
    map value_text
    (Value.tuple_values (Values.value_then (Value.enum_index 3) (Values.value_then (Value.tuple_values Values.no_values) Values.no_values))
    ∷ Value.record_values (Values.value_then (Value.handle_number 7) Values.no_values) ∷ [])
    ≡ codes "(#3 ())" ∷ codes "(7)" ∷ []
unfolding digits
members = refl

-- a case without a payload is its number, and one with a payload in parentheses
cases :
    map value_text (Value.enum_index 258 ∷ Value.bare_case 1 ∷ Value.case_with 0 (Value.case_with 1 (Value.enum_index 1)) ∷ [])
    ≡ codes "#258" ∷ codes "#1" ∷ codes "(#0 (#1 #1))" ∷ []
unfolding digits
cases = refl
