-- The name under which a type is shown.
use Rattle.std.specs.Prelude.{ℕ, List, [], ◌∷◌, ◌++◌, Bool, true, false, Option, Some, None, codes, if◌then◌else◌}
use Rattle.witx_ast.specs.declared.types.BuiltinType.{BuiltinType}
use Rattle.witx_ast.specs.declared.types.RecordKind.{RecordKind}
use Rattle.witx_ast.specs.Tree.{Tree, Fields, Arms, Arm, arm_list, behind}
use Rattle.witx_ast.specs.Words.{is_expected, is_bool_arms}

abbrev pub builtin_text : BuiltinType → List ℕ
builtin_text BuiltinType.Char = codes "char"
builtin_text (BuiltinType.U8 c) = codes "u8"
builtin_text BuiltinType.U16 = codes "u16"
builtin_text (BuiltinType.U32 p) = if p then codes "usize" else codes "u32"
builtin_text BuiltinType.U64 = codes "u64"
builtin_text BuiltinType.S8 = codes "s8"
builtin_text BuiltinType.S16 = codes "s16"
builtin_text BuiltinType.S32 = codes "s32"
builtin_text BuiltinType.S64 = codes "s64"
builtin_text BuiltinType.F32 = codes "f32"
builtin_text BuiltinType.F64 = codes "f64"

abbrev pub is_char : Tree → Bool
is_char (Tree.builtin BuiltinType.Char) = true
is_char _ = false

-- texts with a comma and a blank between them
abbrev pub comma_joined : List (List ℕ) → List ℕ
comma_joined [] = []
comma_joined (x ∷ []) = x
comma_joined (x ∷ y ∷ ys) = x ++ (codes ", " ++ comma_joined (y ∷ ys))

-- a tuple shows the types of its members
abbrev pub tuple_text : List (List ℕ) → List ℕ
tuple_text members = codes "(" ++ comma_joined members ++ codes ")"

-- an `ok`/`err` variant shows its payloads
abbrev pub result_text : List (List ℕ) → List ℕ
result_text payloads = codes "Result<" ++ comma_joined payloads ++ codes ">"

abbrev pub variant_text : List Arm → List (List ℕ) → List ℕ
variant_text cs payloads = if is_expected cs then result_text payloads else if is_bool_arms cs then codes "bool" else codes "Variant"

abbrev mutual
  pub type_text : Tree → List ℕ
  type_text (Tree.named name t docs) = name
  type_text (Tree.builtin b) = builtin_text b
  type_text Tree.handle = codes "Handle"
  type_text (Tree.list_of t) = if is_char (behind t) then codes "string" else codes "List<" ++ type_text t ++ codes ">"
  type_text (Tree.pointer_to t) = codes "Pointer<" ++ type_text t ++ codes ">"
  type_text (Tree.const_pointer_to t) = codes "ConstPointer<" ++ type_text t ++ codes ">"
  type_text (Tree.record_of RecordKind.Tuple ms) = tuple_text (member_texts ms)
  type_text (Tree.record_of (RecordKind.Bitflags r) ms) = codes "Record"
  type_text (Tree.record_of RecordKind.Other ms) = codes "Record"
  type_text (Tree.variant_of r cs) = variant_text (arm_list cs) (payload_texts cs)

  -- the types of members
  pub member_texts : Fields → List (List ℕ)
  member_texts Fields.no_fields = []
  member_texts (Fields.field name t docs ms) = type_text t ∷ member_texts ms

  -- the types of payloads, `()` where a case has none
  pub payload_texts : Arms → List (List ℕ)
  payload_texts Arms.no_arms = []
  payload_texts (Arms.bare name docs cs) = codes "()" ∷ payload_texts cs
  payload_texts (Arms.carries name t docs cs) = type_text t ∷ payload_texts cs

-- one payload's type
abbrev pub payload_text : Option Tree → List ℕ
payload_text None = codes "()"
payload_text (Some t) = type_text t

-- what stands between two types
abbrev pub separator : Bool → List ℕ
separator first = if first then [] else codes ", "
