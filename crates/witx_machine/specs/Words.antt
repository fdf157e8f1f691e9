-- The words of WebAssembly, and the one word of a scalar value, both ways.
-- An unsigned number, a char, a pointer and a handle are zero-extended; a signed number is in two's
-- complement of the word's width; an enum case is its position; flag k is bit k; a float is its bit pattern.
use Rattle.std.specs.Prelude.{ℕ, zero, suc, ◌+◌, ◌-◌, ◌*◌, ◌%◌, ◌/◌, ◌^◌, List, [], ◌∷◌, Bool, true, false, ◌&&◌, cond, nat_lt, nat_eq, ℤ, pos, negsuc, Option, Some, None, option_and_then}
use Rattle.witx_ast.specs.declared.types.BuiltinType.{BuiltinType}
use Rattle.witx_ast.specs.declared.types.IntRepr.{IntRepr}
use Rattle.witx_ast.specs.declared.types.RecordKind.{RecordKind}
use Rattle.witx_ast.specs.Tree.{Tree}
use Rattle.witx_ast.specs.Plain.{Plain, plain, field_count, all_bare}
use Rattle.witx_ast.specs.Values.{Value}
use Rattle.witx_ast.specs.ValueTests.{is_value}
use Rattle.witx_machine.specs.declared.surface.WasmType.{WasmType}

pub record Word : Type 0 where
  pub type : WasmType
  pub bits : ℕ

abbrev pub same_type : WasmType → WasmType → Bool
same_type WasmType.I32 WasmType.I32 = true
same_type WasmType.I64 WasmType.I64 = true
same_type WasmType.F32 WasmType.F32 = true
same_type WasmType.F64 WasmType.F64 = true
same_type _ _ = false

abbrev pub same_types : List WasmType → List WasmType → Bool
same_types [] [] = true
same_types (t ∷ ts) (u ∷ us) = same_type t u && same_types ts us
same_types [] (u ∷ us) = false
same_types (t ∷ ts) [] = false

abbrev pub i32 : ℕ → Word
i32 n = record { type = WasmType.I32; bits = n }

-- the type of the word of a builtin
abbrev pub builtin_word_type : BuiltinType → WasmType
builtin_word_type BuiltinType.Char = WasmType.I32
builtin_word_type (BuiltinType.U8 c) = WasmType.I32
builtin_word_type BuiltinType.U16 = WasmType.I32
builtin_word_type (BuiltinType.U32 p) = WasmType.I32
builtin_word_type BuiltinType.U64 = WasmType.I64
builtin_word_type BuiltinType.S8 = WasmType.I32
builtin_word_type BuiltinType.S16 = WasmType.I32
builtin_word_type BuiltinType.S32 = WasmType.I32
builtin_word_type BuiltinType.S64 = WasmType.I64
builtin_word_type BuiltinType.F32 = WasmType.F32
builtin_word_type BuiltinType.F64 = WasmType.F64

-- the type of the word in which flags or a tag of this width are kept
abbrev pub repr_word_type : IntRepr → WasmType
repr_word_type IntRepr.U8 = WasmType.I32
repr_word_type IntRepr.U16 = WasmType.I32
repr_word_type IntRepr.U32 = WasmType.I32
repr_word_type IntRepr.U64 = WasmType.I64

-- how many bit patterns a word of the type has
abbrev pub modulus : WasmType → ℕ
modulus WasmType.I32 = 2 ^ 32
modulus WasmType.I64 = 2 ^ 64
modulus WasmType.F32 = 2 ^ 32
modulus WasmType.F64 = 2 ^ 64

-- a number in two's complement, below m
abbrev pub wrapped : ℕ → ℤ → ℕ
wrapped m (pos x) = x % m
wrapped m (negsuc x) = m - 1 - x % m

abbrev pub number_word : BuiltinType → ℤ → Word
number_word b n = record { type = builtin_word_type b; bits = wrapped (modulus (builtin_word_type b)) n }

-- a number below 2 * half, read with a sign
abbrev pub with_sign : ℕ → ℕ → ℤ
with_sign half x = cond (nat_lt x half) (pos x) (negsuc (half + half - 1 - x))

-- the number that a word's bits are for a builtin, cut to its width
abbrev pub cut : BuiltinType → ℕ → ℤ
cut BuiltinType.Char x = pos (x % 2 ^ 32)
cut (BuiltinType.U8 c) x = pos (x % 2 ^ 8)
cut BuiltinType.U16 x = pos (x % 2 ^ 16)
cut (BuiltinType.U32 p) x = pos (x % 2 ^ 32)
cut BuiltinType.U64 x = pos (x % 2 ^ 64)
cut BuiltinType.S8 x = with_sign (2 ^ 7) (x % 2 ^ 8)
cut BuiltinType.S16 x = with_sign (2 ^ 15) (x % 2 ^ 16)
cut BuiltinType.S32 x = with_sign (2 ^ 31) (x % 2 ^ 32)
cut BuiltinType.S64 x = with_sign (2 ^ 63) (x % 2 ^ 64)
cut BuiltinType.F32 x = pos (x % 2 ^ 32)
cut BuiltinType.F64 x = pos (x % 2 ^ 64)

-- flag k is bit k
abbrev pub bits_of_flags : List Bool → ℕ
bits_of_flags [] = 0
bits_of_flags (b ∷ bs) = cond b 1 0 + 2 * bits_of_flags bs

abbrev pub flags_from : ℕ → ℕ → List Bool
flags_from zero x = []
flags_from (suc n) x = nat_eq (x % 2) 1 ∷ flags_from n (x / 2)

abbrev pub repr_modulus : IntRepr → ℕ
repr_modulus IntRepr.U8 = 2 ^ 8
repr_modulus IntRepr.U16 = 2 ^ 16
repr_modulus IntRepr.U32 = 2 ^ 32
repr_modulus IntRepr.U64 = 2 ^ 64

-- What is lowered to one word and lifted from it: a builtin, a pointer, or a handle, flags or a variant
-- without payloads, each of these three by the named type under which it is passed.
pub data Scalar : Type 0 where
  number_of : BuiltinType → Scalar
  pointer : Scalar
  const_pointer : Scalar
  handle_of : Tree → Scalar
  flags_of : WasmType → Tree → Scalar
  enum_of : Tree → Scalar

-- the type of its word
abbrev pub word_type : Scalar → WasmType
word_type (number_of b) = builtin_word_type b
word_type pointer = WasmType.I32
word_type const_pointer = WasmType.I32
word_type (handle_of t) = WasmType.I32
word_type (flags_of w t) = w
word_type (enum_of t) = WasmType.I32

-- the type of its values; what a pointer points to plays no part
abbrev pub type_for : Scalar → Plain
type_for (number_of b) = Plain.builtin b
type_for pointer = Plain.pointer_to Plain.handle
type_for const_pointer = Plain.const_pointer_to Plain.handle
type_for (handle_of t) = plain t
type_for (flags_of w t) = plain t
type_for (enum_of t) = plain t

-- whether that type is of the kind; flags have a word of one width alone
abbrev pub is_for : Scalar → Plain → Bool
is_for (number_of b) t = true
is_for pointer t = true
is_for const_pointer t = true
is_for (handle_of n) Plain.handle = true
is_for (handle_of n) _ = false
is_for (flags_of w n) (Plain.record_of (RecordKind.Bitflags r) ms) = same_type w (repr_word_type r)
is_for (flags_of w n) _ = false
is_for (enum_of n) (Plain.variant_of r cs) = all_bare cs
is_for (enum_of n) _ = false

abbrev pub when : {A : Type 0} → Bool → Option A → Option A
when true o = o
when false o = None

-- an address, a length: a number below 2^32
abbrev pub is_u32 : ℕ → Bool
is_u32 n = nat_lt n (2 ^ 32)

-- THE WORD of a value of a type, where that is one word
abbrev pub word_in : Plain → Value → Option Word
word_in (Plain.builtin b) (Value.number c n) = Some (number_word b n)
word_in Plain.handle (Value.handle_number n) = Some (i32 n)
word_in (Plain.pointer_to t) (Value.address n) = Some (i32 n)
word_in (Plain.const_pointer_to t) (Value.const_address n) = Some (i32 n)
word_in (Plain.record_of (RecordKind.Bitflags r) ms) (Value.flag_bits bs) = Some (record { type = repr_word_type r; bits = bits_of_flags bs })
word_in (Plain.variant_of r cs) (Value.enum_index i) = Some (i32 i)
word_in _ _ = None

-- so many flags; bits beyond them are refused
abbrev pub flags_in : ℕ → ℕ → Option Value
flags_in n x = when (nat_lt x (2 ^ n)) (Some (Value.flag_bits (flags_from n x)))

-- THE VALUE of a type whose word has these bits, cut to the width of the kind
abbrev pub value_in : Plain → ℕ → Option Value
value_in (Plain.builtin b) x = Some (Value.number b (cut b x))
value_in Plain.handle x = Some (Value.handle_number x)
value_in (Plain.pointer_to t) x = Some (Value.address x)
value_in (Plain.const_pointer_to t) x = Some (Value.const_address x)
value_in (Plain.record_of (RecordKind.Bitflags r) ms) x = flags_in (field_count ms) (x % repr_modulus r)
value_in (Plain.variant_of r cs) x = Some (Value.enum_index (x % repr_modulus r))
value_in _ x = None

-- the value itself, where it is one of the type
abbrev pub checked_value : Plain → Value → Option Value
checked_value t v = when (is_value t v) (Some v)

-- lowering: only a value of that kind, and under a name only a value of its type
abbrev pub word_of : Scalar → Value → Option Word
word_of x v = when (is_for x (type_for x) && is_value (type_for x) v) (word_in (type_for x) v)

-- lifting: from a word of that type alone, and only to a value of the kind, under a name of its type
abbrev pub value_of : Scalar → Word → Option Value
value_of x w = when (is_for x (type_for x) && same_type w.type (word_type x)) (option_and_then (checked_value (type_for x)) (value_in (type_for x) w.bits))
