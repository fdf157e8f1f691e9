-- The layout numbers of a type: its size, its alignment and the offsets of its parts, in bytes and without bound.
-- A part begins at the next multiple of its alignment, and a whole ends at a multiple of its own.
use Rattle.std.specs.Prelude.{ℕ, ◌+◌, ◌-◌, ◌%◌, max, List, [], ◌∷◌}
use Rattle.witx_ast.specs.declared.types.BuiltinType.{BuiltinType}
use Rattle.witx_ast.specs.declared.types.IntRepr.{IntRepr}
use Rattle.witx_ast.specs.declared.types.RecordKind.{RecordKind}
use Rattle.witx_ast.specs.Words.{repr_builtin}
use Rattle.witx_ast.specs.Plain.{Plain, Fields, Arms}

-- the offset, rounded up to a multiple of the alignment: it and what it lacks to the next one
abbrev pub align_to : ℕ → ℕ → ℕ
align_to offset alignment = offset + (alignment - offset % alignment) % alignment

-- a scalar is as wide as it says, and aligned to its width
abbrev pub builtin_size : BuiltinType → ℕ
builtin_size BuiltinType.Char = 4
builtin_size (BuiltinType.U8 lang_c_char) = 1
builtin_size BuiltinType.U16 = 2
builtin_size (BuiltinType.U32 lang_ptr_size) = 4
builtin_size BuiltinType.U64 = 8
builtin_size BuiltinType.S8 = 1
builtin_size BuiltinType.S16 = 2
builtin_size BuiltinType.S32 = 4
builtin_size BuiltinType.S64 = 8
builtin_size BuiltinType.F32 = 4
builtin_size BuiltinType.F64 = 8

-- flags and tags are as the unsigned builtin of their representation
abbrev pub repr_size : IntRepr → ℕ
repr_size repr = builtin_size (repr_builtin repr)

-- flags have their representation's number, any other record has its own
abbrev pub unless_flags : RecordKind → ℕ → ℕ
unless_flags (RecordKind.Bitflags repr) own = repr_size repr
unless_flags RecordKind.Tuple own = own
unless_flags RecordKind.Other own = own

abbrev mutual
  pub align_of : Plain → ℕ
  align_of (Plain.builtin b) = builtin_size b
  align_of Plain.handle = 4
  align_of (Plain.list_of t) = 4
  align_of (Plain.pointer_to t) = 4
  align_of (Plain.const_pointer_to t) = 4
  align_of (Plain.record_of kind members) = unless_flags kind (members_align members)
  align_of (Plain.variant_of repr cases) = max (repr_size repr) (payloads_align cases)

  -- the greatest alignment of a member, at least 1
  pub members_align : Fields → ℕ
  members_align Fields.no_fields = 1
  members_align (Fields.field name t rest) = max (align_of t) (members_align rest)

  -- the greatest alignment of a payload, at least 1
  pub payloads_align : Arms → ℕ
  payloads_align Arms.no_arms = 1
  payloads_align (Arms.bare name rest) = payloads_align rest
  payloads_align (Arms.carries name t rest) = max (align_of t) (payloads_align rest)

-- where the payload of a variant begins: behind the tag, at a multiple of each payload's alignment
abbrev pub payload_offset : IntRepr → Arms → ℕ
payload_offset repr cases = align_to (repr_size repr) (payloads_align cases)

abbrev mutual
  pub size_of : Plain → ℕ
  size_of (Plain.builtin b) = builtin_size b
  size_of Plain.handle = 4
  size_of (Plain.list_of t) = 8
  size_of (Plain.pointer_to t) = 4
  size_of (Plain.const_pointer_to t) = 4
  size_of (Plain.record_of kind members) = unless_flags kind (align_to (members_end 0 members) (members_align members))
  size_of (Plain.variant_of repr cases) = align_to (payload_offset repr cases + payloads_size cases) (max (repr_size repr) (payloads_align cases))

  -- where members end that are placed from an offset on
  pub members_end : ℕ → Fields → ℕ
  members_end offset Fields.no_fields = offset
  members_end offset (Fields.field name t rest) = members_end (align_to offset (align_of t) + size_of t) rest

  -- the greatest size of a payload, 0 without any
  pub payloads_size : Arms → ℕ
  payloads_size Arms.no_arms = 0
  payloads_size (Arms.bare name rest) = payloads_size rest
  payloads_size (Arms.carries name t rest) = max (size_of t) (payloads_size rest)

-- where members begin that are placed from an offset on
abbrev pub offsets : ℕ → Fields → List ℕ
offsets offset Fields.no_fields = []
offsets offset (Fields.field name t rest) = align_to offset (align_of t) ∷ offsets (align_to offset (align_of t) + size_of t) rest

-- where the parts of a type begin: a record's members, a variant's payload
abbrev pub part_offsets : Plain → List ℕ
part_offsets (Plain.record_of kind members) = offsets 0 members
part_offsets (Plain.variant_of repr cases) = payload_offset repr cases ∷ []
part_offsets _ = []
