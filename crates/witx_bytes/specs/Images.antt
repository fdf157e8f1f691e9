-- The image of a value: the bytes that it has in linear memory, by its plain type.
-- Scalars, tags, flags, addresses and lengths are little-endian in their sizes, at the offsets of the layout; nothing stands at padding.
-- A negative number is in two's complement of its size; flag k is bit k; a float is its bit pattern.
use Rattle.std.specs.Prelude.{ℕ, zero, suc, ◌+◌, ◌-◌, ◌%◌, ◌/◌, ◌^◌, [], ◌∷◌, ◌++◌, length, Some, None}
use Rattle.witx_ast.specs.declared.types.IntRepr.{IntRepr}
use Rattle.witx_ast.specs.declared.types.RecordKind.{RecordKind}
use Rattle.witx_ast.specs.Plain.{Plain, Fields, Arms}
use Rattle.witx_ast.specs.Values.{Value, Values, IsValue}
use Rattle.witx_layout.specs.Numbers.{align_to, align_of, builtin_size, repr_size, payload_offset, size_of}
use Rattle.witx_machine.specs.Words.{wrapped, bits_of_flags}
use Rattle.witx_bytes.specs.Bytes.{Bytes, Image, Agrees}

-- a number in so many bytes, the lowest first
abbrev pub little : ℕ → ℕ → Image
little zero n = []
little (suc width) n = Some (n % 256) ∷ little width (n / 256)

-- so many bytes of padding
abbrev pub gap : ℕ → Image
gap zero = []
gap (suc n) = None ∷ gap n

-- the image, padded up to so many bytes
abbrev pub padded_to : ℕ → Image → Image
padded_to size bytes = bytes ++ gap (size - length bytes)

abbrev pub tag_image : IntRepr → ℕ → Image
tag_image repr i = little (repr_size repr) i

abbrev mutual
  pub image : Plain → Value → Image
  image (Plain.builtin b) (Value.number k n) = little (builtin_size b) (wrapped (256 ^ builtin_size b) n)
  image Plain.handle (Value.handle_number n) = little 4 n
  image (Plain.list_of t) (Value.list_at a l) = little 4 a ++ little 4 l
  image (Plain.pointer_to t) (Value.address n) = little 4 n
  image (Plain.const_pointer_to t) (Value.const_address n) = little 4 n
  image (Plain.record_of (RecordKind.Bitflags repr) ms) (Value.flag_bits bits) = little (repr_size repr) (bits_of_flags bits)
  image (Plain.record_of RecordKind.Tuple ms) (Value.tuple_values vs) = padded_to (size_of (Plain.record_of RecordKind.Tuple ms)) (members_image 0 ms vs)
  image (Plain.record_of RecordKind.Other ms) (Value.record_values vs) = padded_to (size_of (Plain.record_of RecordKind.Other ms)) (members_image 0 ms vs)
  image (Plain.variant_of repr cs) (Value.enum_index i) = padded_to (size_of (Plain.variant_of repr cs)) (tag_image repr i)
  image (Plain.variant_of repr cs) (Value.bare_case i) = padded_to (size_of (Plain.variant_of repr cs)) (tag_image repr i)
  image (Plain.variant_of repr cs) (Value.case_with i v) =
      padded_to (size_of (Plain.variant_of repr cs)) (padded_to (payload_offset repr cs) (tag_image repr i) ++ payload_image cs i v)
  image _ _ = []

  -- the members of a record, behind those before them, which end at the offset
  pub members_image : ℕ → Fields → Values → Image
  members_image end (Fields.field name t ms) (Values.value_then v vs) =
      gap (align_to end (align_of t) - end) ++ image t v ++ members_image (align_to end (align_of t) + size_of t) ms vs
  members_image end _ _ = []

  -- the payload of case i
  pub payload_image : Arms → ℕ → Value → Image
  payload_image Arms.no_arms i v = []
  payload_image (Arms.bare name cs) zero v = []
  payload_image (Arms.bare name cs) (suc i) v = payload_image cs i v
  payload_image (Arms.carries name t cs) zero v = image t v
  payload_image (Arms.carries name t cs) (suc i) v = payload_image cs i v

-- THE BYTES SPELL A VALUE: a value of the type, and its image agrees with what stands there
abbrev pub Spells : Bytes → ℕ → Plain → Value → Type 0
Spells m at t v = IsValue t v × Agrees m at (image t v)
