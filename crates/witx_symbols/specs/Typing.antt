-- What kind a type is of, and a symbol.
use Rattle.std.specs.Prelude.{Bool, true, false, Option, Some, None, [], ◌∷◌}
use Rattle.witx_ast.specs.declared.types.RecordKind.{RecordKind}
use Rattle.witx_ast.specs.Plain.{Plain, Fields, all_bare}
use Rattle.witx_ast.specs.Words.{is_tuple_kind}
use Rattle.witx_machine.specs.declared.surface.WasmType.{WasmType}
use Rattle.witx_machine.specs.Signature.{param_words}
use Rattle.witx_machine.specs.Words.{same_type, same_types, repr_word_type}
use Rattle.witx_symbols.specs.Symbols.{Symbol, atom}

abbrev pub is_tuple_type : Plain → Bool
is_tuple_type (Plain.record_of k ms) = is_tuple_kind k
is_tuple_type _ = false

-- the members of a tuple type
abbrev pub tuple_fields : Plain → Option Fields
tuple_fields (Plain.record_of RecordKind.Tuple ms) = Some ms
tuple_fields _ = None

abbrev pub is_listed_type : Plain → Bool
is_listed_type (Plain.list_of t) = true
is_listed_type _ = false

abbrev pub is_pointer_type : Plain → Bool
is_pointer_type (Plain.pointer_to t) = true
is_pointer_type _ = false

abbrev pub is_const_pointer_type : Plain → Bool
is_const_pointer_type (Plain.const_pointer_to t) = true
is_const_pointer_type _ = false

abbrev pub is_handle_type : Plain → Bool
is_handle_type Plain.handle = true
is_handle_type _ = false

-- flags that a word of this type holds
abbrev pub is_flags_type : WasmType → Plain → Bool
is_flags_type w (Plain.record_of (RecordKind.Bitflags r) ms) = same_type w (repr_word_type r)
is_flags_type w _ = false

-- a variant without payloads
abbrev pub is_enum_type : Plain → Bool
is_enum_type (Plain.variant_of r cs) = all_bare cs
is_enum_type _ = false

-- a value of the type has one word, of this type
abbrev pub has_one_word : WasmType → Plain → Bool
has_one_word w t = same_types (w ∷ []) (param_words t)

-- a symbol of a list type
abbrev pub is_list_symbol : Symbol → Bool
is_list_symbol (atom s t) = is_listed_type t
is_list_symbol _ = false
