-- What the small readers answer.
use Rattle.std.specs.Prelude.{ℕ, List, [], ◌∷◌, Bool, true, false, ◌&&◌, Option, Some, None, is_some, codes, if◌then◌else◌}
use Rattle.witx_base.specs.Texts.{same_text}
use Rattle.witx_ast.specs.Tree.{Tree, named, builtin, handle, list_of, pointer_to, const_pointer_to, record_of, variant_of, Arm}
use Rattle.witx_ast.specs.declared.types.BuiltinType.{BuiltinType}
use Rattle.witx_ast.specs.declared.types.IntRepr.{IntRepr}
use Rattle.witx_ast.specs.declared.types.RecordKind.{RecordKind}

abbrev pub is_named : Tree → Bool
is_named (named name t docs) = true
is_named _ = false

-- the word for the kind of a type, its names looked through
abbrev pub kind_word : Tree → List ℕ
kind_word (named name t docs) = kind_word t
kind_word (builtin b) = codes "builtin"
kind_word handle = codes "handle"
kind_word (list_of t) = codes "list"
kind_word (pointer_to t) = codes "pointer"
kind_word (const_pointer_to t) = codes "constpointer"
kind_word (record_of kind ms) = codes "record"
kind_word (variant_of repr cs) = codes "variant"

abbrev pub is_tuple_kind : RecordKind → Bool
is_tuple_kind RecordKind.Tuple = true
is_tuple_kind _ = false

abbrev pub flags_repr : RecordKind → Option IntRepr
flags_repr (RecordKind.Bitflags repr) = Some repr
flags_repr _ = None

abbrev pub is_bare : Option Tree → Bool
is_bare None = true
is_bare (Some t) = false

-- no case has a payload
abbrev pub all_arms_bare : List Arm → Bool
all_arms_bare [] = true
all_arms_bare (c ∷ cs) = is_bare c.payload && all_arms_bare cs

-- the payloads of the cases `ok` and `err`, where these are all cases
abbrev pub expected_payloads : List Arm → Option (Option Tree × Option Tree)
expected_payloads [] = None
expected_payloads (a ∷ []) = None
expected_payloads (a ∷ b ∷ []) = if same_text a.called (codes "ok") && same_text b.called (codes "err") then Some (a.payload, b.payload) else None
expected_payloads (a ∷ b ∷ c ∷ cs) = None

-- whether these are the cases `ok` and `err`
abbrev pub is_expected : List Arm → Bool
is_expected cs = is_some (expected_payloads cs)

-- the cases `false` and `true` without payload
abbrev pub is_bool_arms : List Arm → Bool
is_bool_arms [] = false
is_bool_arms (a ∷ []) = false
is_bool_arms (a ∷ b ∷ []) = same_text a.called (codes "false") && same_text b.called (codes "true") && (is_bare a.payload && is_bare b.payload)
is_bool_arms (a ∷ b ∷ c ∷ cs) = false

-- the plain unsigned builtin of a representation
abbrev pub repr_builtin : IntRepr → BuiltinType
repr_builtin IntRepr.U8 = BuiltinType.U8 false
repr_builtin IntRepr.U16 = BuiltinType.U16
repr_builtin IntRepr.U32 = BuiltinType.U32 false
repr_builtin IntRepr.U64 = BuiltinType.U64
