-- How flags and tags are kept, as the program asks it of a type.
use Rattle.std.specs.Prelude.{ℕ, Option, Some, None}
use Rattle.witx_ast.specs.declared.types.IntRepr.{IntRepr}
use Rattle.witx_ast.specs.declared.types.RecordKind.{RecordKind}
use Rattle.witx_ast.specs.Plain.{Plain, field_count}
use Rattle.witx_ast.specs.Values.{Value}
use Rattle.witx_machine.specs.Words.{Word, bits_of_flags, repr_word_type}

-- the representation of flags, and how many they are
abbrev pub flags_kept : Plain → Option (IntRepr × ℕ)
flags_kept (Plain.record_of (RecordKind.Bitflags r) ms) = Some (r, field_count ms)
flags_kept _ = None

-- the representation of a variant's tag
abbrev pub tag_kept : Plain → Option IntRepr
tag_kept (Plain.variant_of r cs) = Some r
tag_kept _ = None

-- the word of a representation that keeps flags
abbrev pub flags_in_word : IntRepr → Value → Option Word
flags_in_word r (Value.flag_bits bs) = Some (record { type = repr_word_type r; bits = bits_of_flags bs })
flags_in_word r _ = None
