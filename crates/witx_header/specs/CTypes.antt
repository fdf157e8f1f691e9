-- The types of C for types: a name is a typedef's, flags and variants without payloads are their unsigned integers, a
-- list is a pointer and a length, and a variant with a payload is its tag and a union of the payloads.
use Rattle.std.specs.Prelude.{ℕ, List, [], ◌++◌, codes, Option, Some, None, if◌then◌else◌}
use Rattle.witx_ast.specs.declared.types.BuiltinType.{BuiltinType}
use Rattle.witx_ast.specs.declared.types.IntRepr.{IntRepr}
use Rattle.witx_ast.specs.declared.types.RecordKind.{RecordKind}
use Rattle.witx_ast.specs.Tree.{Tree, Fields, Arms, arm_list, behind}
use Rattle.witx_ast.specs.TypeNames.{is_char}
use Rattle.witx_ast.specs.Words.{repr_builtin, all_arms_bare}
use Rattle.witx_machine.specs.declared.surface.WasmType.{WasmType}
use Rattle.witx_header.specs.CNames.{c_name, member_name}

abbrev pub typedef_name : List ℕ → List ℕ
typedef_name name = codes "__wasi_" ++ c_name name ++ codes "_t"

abbrev pub builtin_word : BuiltinType → List ℕ
builtin_word BuiltinType.Char = codes "uint32_t"
builtin_word (BuiltinType.U8 c) = if c then codes "char" else codes "uint8_t"
builtin_word BuiltinType.U16 = codes "uint16_t"
builtin_word (BuiltinType.U32 p) = if p then codes "size_t" else codes "uint32_t"
builtin_word BuiltinType.U64 = codes "uint64_t"
builtin_word BuiltinType.S8 = codes "int8_t"
builtin_word BuiltinType.S16 = codes "int16_t"
builtin_word BuiltinType.S32 = codes "int32_t"
builtin_word BuiltinType.S64 = codes "int64_t"
builtin_word BuiltinType.F32 = codes "float"
builtin_word BuiltinType.F64 = codes "double"

abbrev pub c_repr_word : IntRepr → List ℕ
c_repr_word repr = builtin_word (repr_builtin repr)

-- the type of a word
abbrev pub c_word : WasmType → List ℕ
c_word WasmType.I32 = codes "int32_t"
c_word WasmType.I64 = codes "int64_t"
c_word WasmType.F32 = codes "float"
c_word WasmType.F64 = codes "double"

-- a part of a struct or a union that is written on one line
abbrev pub member_text : (type name : List ℕ) → List ℕ
member_text type name = type ++ codes " " ++ member_name name ++ codes "; "

-- a string is a list of characters, whose elements are those of C
abbrev pub c_list_text : Tree → List ℕ → List ℕ
c_list_text t element = codes "struct { " ++ (if is_char (behind t) then codes "char" else element) ++ codes " const *ptr; size_t len; }"

abbrev pub struct_text : List ℕ → List ℕ
struct_text parts = codes "struct { " ++ parts ++ codes "}"

abbrev pub tagged_text : (tag parts : List ℕ) → List ℕ
tagged_text tag parts = codes "struct { " ++ tag ++ codes " tag; union { " ++ parts ++ codes "} u; }"

abbrev mutual
  pub type_text : Tree → List ℕ
  type_text (Tree.named name t docs) = typedef_name name
  type_text (Tree.builtin b) = builtin_word b
  type_text Tree.handle = codes "int"
  type_text (Tree.list_of t) = c_list_text t (type_text t)
  type_text (Tree.pointer_to t) = type_text t ++ codes " *"
  type_text (Tree.const_pointer_to t) = type_text t ++ codes " const *"
  type_text (Tree.record_of (RecordKind.Bitflags repr) ms) = c_repr_word repr
  type_text (Tree.record_of RecordKind.Tuple ms) = struct_text (members_text ms)
  type_text (Tree.record_of RecordKind.Other ms) = struct_text (members_text ms)
  type_text (Tree.variant_of repr cs) = if all_arms_bare (arm_list cs) then c_repr_word repr else tagged_text (c_repr_word repr) (payloads_text cs)

  pub members_text : Fields → List ℕ
  members_text Fields.no_fields = []
  members_text (Fields.field name t docs ms) = member_text (type_text t) name ++ members_text ms

  -- a case without a payload has no part
  pub payloads_text : Arms → List ℕ
  payloads_text Arms.no_arms = []
  payloads_text (Arms.bare name docs cs) = payloads_text cs
  payloads_text (Arms.carries name t docs cs) = member_text (type_text t) name ++ payloads_text cs

-- one case
abbrev pub c_payload_text : List ℕ → Option Tree → List ℕ
c_payload_text name None = []
c_payload_text name (Some t) = member_text (type_text t) name
