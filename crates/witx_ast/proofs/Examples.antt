-- The definitions at small types, computed.
use Rattle.std.specs.Prelude.{◌≡◌, ℕ, zero, suc, pos, negsuc, [], ◌∷◌, true, false, codes}
use Rattle.std.proofs.Common.{refl}
use Rattle.witx_ast.specs.declared.types.BuiltinType.{BuiltinType}
use Rattle.witx_ast.specs.declared.types.IntRepr.{IntRepr}
use Rattle.witx_ast.specs.declared.types.RecordKind.{RecordKind}
use Rattle.witx_ast.specs.Tree.{Tree}
use Rattle.witx_ast.specs.Plain.{Plain, plain, Fields, Arms}
use Rattle.witx_ast.specs.Alike.{same_plain}
use Rattle.witx_ast.specs.Values.{Value, Values}
use Rattle.witx_ast.specs.ValueTests.{is_value}
use Rattle.witx_ast.specs.Tags.{fits}

abbrev u8 : Plain
u8 = Plain.builtin (BuiltinType.U8 false)

abbrev byte_char : Plain
byte_char = Plain.builtin (BuiltinType.U8 true)

abbrev pair : RecordKind → Plain
pair kind = Plain.record_of kind (Fields.field (codes "a") u8 (Fields.field (codes "b") Plain.handle Fields.no_fields))

-- `ok` with a payload, then `err` without
abbrev result_u8 : Plain
result_u8 = Plain.variant_of IntRepr.U8 (Arms.carries (codes "ok") u8 (Arms.bare (codes "err") Arms.no_arms))

abbrev switch : Plain
switch = Plain.variant_of IntRepr.U8 (Arms.bare (codes "off") (Arms.bare (codes "on") Arms.no_arms))

abbrev parts : ℕ → ℕ → Values
parts a b = Values.value_then (Value.number (BuiltinType.U8 false) (pos a)) (Values.value_then (Value.handle_number b) Values.no_values)

-- a name is looked through, and its documentation dropped
named-plain : plain (Tree.named (codes "size") (Tree.builtin (BuiltinType.U8 false)) (codes "docs")) ≡ u8
named-plain = refl

byte-kinds : same_plain u8 byte_char ≡ false
byte-kinds = refl

record-kinds : same_plain (pair RecordKind.Tuple) (pair RecordKind.Other) ≡ false
record-kinds = refl

same-records : same_plain (pair RecordKind.Other) (pair RecordKind.Other) ≡ true
same-records = refl

greatest-byte : is_value u8 (Value.number (BuiltinType.U8 false) (pos 255)) ≡ true
greatest-byte = refl

no-byte : is_value u8 (Value.number (BuiltinType.U8 false) (pos 256)) ≡ false
no-byte = refl

byte-is-no-char : is_value u8 (Value.number (BuiltinType.U8 true) (pos 1)) ≡ false
byte-is-no-char = refl

least-signed : is_value (Plain.builtin BuiltinType.S8) (Value.number BuiltinType.S8 (negsuc 127)) ≡ true
least-signed = refl

below-signed : is_value (Plain.builtin BuiltinType.S8) (Value.number BuiltinType.S8 (negsuc 128)) ≡ false
below-signed = refl

surrogate : is_value (Plain.builtin BuiltinType.Char) (Value.number BuiltinType.Char (pos 0xD800)) ≡ false
surrogate = refl

greatest-char : is_value (Plain.builtin BuiltinType.Char) (Value.number BuiltinType.Char (pos 0x10FFFF)) ≡ true
greatest-char = refl

tuple-values : is_value (pair RecordKind.Tuple) (Value.tuple_values (parts 1 2)) ≡ true
tuple-values = refl

record-is-no-tuple : is_value (pair RecordKind.Other) (Value.tuple_values (parts 1 2)) ≡ false
record-is-no-tuple = refl

flag-values : is_value (pair (RecordKind.Bitflags IntRepr.U8)) (Value.flag_bits (true ∷ false ∷ [])) ≡ true
flag-values = refl

short-flags : is_value (pair (RecordKind.Bitflags IntRepr.U8)) (Value.flag_bits (true ∷ [])) ≡ false
short-flags = refl

second-name : is_value switch (Value.enum_index 1) ≡ true
second-name = refl

third-name : is_value switch (Value.enum_index 2) ≡ false
third-name = refl

-- without payloads a case is told by its number alone
enum-is-no-case : is_value switch (Value.bare_case 1) ≡ false
enum-is-no-case = refl

ok-case : is_value result_u8 (Value.case_with 0 (Value.number (BuiltinType.U8 false) (pos 7))) ≡ true
ok-case = refl

err-case : is_value result_u8 (Value.bare_case 1) ≡ true
err-case = refl

bare-ok-case : is_value result_u8 (Value.bare_case 0) ≡ false
bare-ok-case = refl

pairs-fit : fits (pair (RecordKind.Bitflags IntRepr.U8)) ≡ true
pairs-fit = refl

abbrev flags_of : ℕ → Fields
flags_of zero = Fields.no_fields
flags_of (suc n) = Fields.field (codes "f") switch (flags_of n)

eight-flags : fits (Plain.record_of (RecordKind.Bitflags IntRepr.U8) (flags_of 8)) ≡ true
eight-flags = refl

nine-flags : fits (Plain.record_of (RecordKind.Bitflags IntRepr.U8) (flags_of 9)) ≡ false
nine-flags = refl

-- the target of a pointer isn't entered
pointer-to-nine : fits (Plain.pointer_to (Plain.record_of (RecordKind.Bitflags IntRepr.U8) (flags_of 9))) ≡ true
pointer-to-nine = refl

nine-inside : fits (Plain.record_of RecordKind.Other (Fields.field (codes "a") (Plain.record_of (RecordKind.Bitflags IntRepr.U8) (flags_of 9)) Fields.no_fields)) ≡ false
nine-inside = refl
