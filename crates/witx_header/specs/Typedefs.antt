-- What a header has of a typename: its typedef, the values of its flags or cases, and assertions on its layout.
use Rattle.std.specs.Prelude.{ℕ, ◌+◌, List, [], ◌∷◌, ◌++◌, codes, map, Option, Some, None, if◌then◌else◌}
use Rattle.std.specs.Fmt.{decimal}
use Rattle.witx_ast.specs.declared.types.IntRepr.{IntRepr}
use Rattle.witx_ast.specs.declared.types.RecordKind.{RecordKind}
use Rattle.witx_ast.specs.declared.types.RecordDatatype.{RecordDatatype, out-RecordDatatype}
use Rattle.witx_ast.specs.Tree.{Tree, Fields, Arms, Arm, arm_list, fields_of}
use Rattle.witx_ast.specs.Views.{member_field}
use Rattle.witx_ast.specs.Plain.{plain, plain_fields, plain_arms}
use Rattle.witx_ast.specs.Words.{all_arms_bare}
use Rattle.witx_layout.specs.declared.members.RecordMemberLayout.{RecordMemberLayout}
use Rattle.witx_layout.specs.Numbers.{size_of, align_of, offsets, payload_offset}
use Rattle.witx_header.specs.CNames.{c_upper, comment, member_name}
use Rattle.witx_header.specs.CTypes.{typedef_name, type_text, c_repr_word}

abbrev pub margin : List ℕ
margin = codes "    "

abbrev pub wide_margin : List ℕ
wide_margin = codes "        "

-- ---- the typedef

-- a part of a struct or a union on a line of its own, below its documentation
abbrev pub c_part_lines : (margin type name docs : List ℕ) → List ℕ
c_part_lines margin type name docs = comment margin docs ++ (margin ++ type ++ codes " " ++ member_name name ++ codes ";\n")

abbrev pub member_lines : Fields → List ℕ
member_lines Fields.no_fields = []
member_lines (Fields.field name t docs ms) = c_part_lines margin (type_text t) name docs ++ member_lines ms

abbrev pub payload_lines : Arms → List ℕ
payload_lines Arms.no_arms = []
payload_lines (Arms.bare name docs cs) = payload_lines cs
payload_lines (Arms.carries name t docs cs) = c_part_lines wide_margin (type_text t) name docs ++ payload_lines cs

-- one case
abbrev pub case_payload : (name : List ℕ) → Option Tree → (docs : List ℕ) → List ℕ
case_payload name None docs = []
case_payload name (Some t) docs = c_part_lines wide_margin (type_text t) name docs

abbrev pub struct_begin : List ℕ → List ℕ
struct_begin name = codes "struct " ++ typedef_name name ++ codes " {\n"

abbrev pub struct_body : List ℕ → Fields → List ℕ
struct_body name ms = struct_begin name ++ member_lines ms ++ codes "}"

abbrev pub tagged_body : (name tag : List ℕ) → Arms → List ℕ
tagged_body name tag cs = struct_begin name ++ (codes "    " ++ tag ++ codes " tag;\n    union {\n") ++ payload_lines cs ++ codes "    } u;\n}"

-- the type that a typedef names: a record and a variant with a payload part by part
abbrev pub body_text : List ℕ → Tree → List ℕ
body_text name (Tree.record_of RecordKind.Tuple ms) = struct_body name ms
body_text name (Tree.record_of RecordKind.Other ms) = struct_body name ms
body_text name (Tree.variant_of repr cs) = if all_arms_bare (arm_list cs) then c_repr_word repr else tagged_body name (c_repr_word repr) cs
body_text name t = type_text t

abbrev pub typedef_lines : List ℕ → Tree → List ℕ
typedef_lines name t = codes "typedef " ++ body_text name t ++ (codes " " ++ typedef_name name ++ codes ";\n")

-- ---- the values

-- the macro that makes a constant as wide as a representation
abbrev pub constant_macro : IntRepr → List ℕ
constant_macro IntRepr.U8 = codes "UINT8_C("
constant_macro IntRepr.U16 = codes "UINT16_C("
constant_macro IntRepr.U32 = codes "UINT32_C("
constant_macro IntRepr.U64 = codes "UINT64_C("

-- a name of the preprocessor, of a type and a part of it
abbrev pub define : (type name : List ℕ) → List ℕ
define type name = codes "#define __WASI_" ++ c_upper type ++ codes "_" ++ c_upper name ++ codes " "

-- the bit at a place
abbrev pub bit : IntRepr → ℕ → List ℕ
bit repr place = codes "(" ++ constant_macro repr ++ codes "1) << " ++ decimal place ++ codes ")\n"

-- a flag is the bit at its place
abbrev pub flag_line : (type : List ℕ) → IntRepr → ℕ → (name docs : List ℕ) → List ℕ
flag_line type repr place name docs =
    comment [] docs ++ define type name ++ bit repr place

abbrev pub flag_lines : (type : List ℕ) → IntRepr → ℕ → Fields → List ℕ
flag_lines type repr place Fields.no_fields = []
flag_lines type repr place (Fields.field name t docs ms) = flag_line type repr place name docs ++ flag_lines type repr (place + 1) ms

-- a case is its place
abbrev pub case_line : (type : List ℕ) → IntRepr → ℕ → (name docs : List ℕ) → List ℕ
case_line type repr place name docs = comment [] docs ++ (define type name ++ constant_macro repr ++ decimal place ++ codes ")\n")

abbrev pub case_lines : (type : List ℕ) → IntRepr → ℕ → List Arm → List ℕ
case_lines type repr place [] = []
case_lines type repr place (c ∷ cs) = case_line type repr place c.called c.comment ++ case_lines type repr (place + 1) cs

abbrev pub value_lines : List ℕ → Tree → List ℕ
value_lines name (Tree.record_of (RecordKind.Bitflags repr) ms) = flag_lines name repr 0 ms
value_lines name (Tree.variant_of repr cs) = case_lines name repr 0 (arm_list cs)
value_lines name t = []

-- ---- the layout

-- that a number of C is this one; what it is of is told where it isn't
abbrev pub size_line : List ℕ → ℕ → List ℕ
size_line name n = codes "_Static_assert(sizeof(" ++ typedef_name name ++ (codes ") == " ++ decimal n ++ codes ", \"size\");\n")

abbrev pub align_line : List ℕ → ℕ → List ℕ
align_line name n = codes "_Static_assert(_Alignof(" ++ typedef_name name ++ (codes ") == " ++ decimal n ++ codes ", \"alignment\");\n")

abbrev pub offset_line : (name part : List ℕ) → ℕ → List ℕ
offset_line name part n =
    (codes "_Static_assert(offsetof(" ++ typedef_name name ++ codes ", ") ++ part ++ (codes ") == " ++ decimal n ++ codes ", \"offset\");\n")

-- each member with its offset
abbrev pub offset_lines : List ℕ → Fields → List ℕ → List ℕ
offset_lines name (Fields.field member t docs ms) (o ∷ os) = offset_line name (member_name member) o ++ offset_lines name ms os
offset_lines name _ _ = []

-- members that are placed already
abbrev pub placed_lines : List ℕ → List RecordMemberLayout → List ℕ
placed_lines name ls = offset_lines name (fields_of (map member_field (map (λ l. l.member.now) ls))) (map (λ l. l.offset) ls)

-- the members of a record of the program
abbrev pub record_fields : RecordDatatype → Fields
record_fields r = fields_of (map member_field (out-RecordDatatype r).members)

abbrev pub record_offsets : List ℕ → Fields → List ℕ
record_offsets name ms = offset_lines name ms (offsets 0 (plain_fields ms))

abbrev pub c_part_offsets : List ℕ → Tree → List ℕ
c_part_offsets name (Tree.record_of RecordKind.Tuple ms) = record_offsets name ms
c_part_offsets name (Tree.record_of RecordKind.Other ms) = record_offsets name ms
c_part_offsets name (Tree.variant_of repr cs) = if all_arms_bare (arm_list cs) then [] else offset_line name (codes "u") (payload_offset repr (plain_arms cs))
c_part_offsets name t = []

abbrev pub c_layout_lines : List ℕ → Tree → List ℕ
c_layout_lines name t = size_line name (size_of (plain t)) ++ align_line name (align_of (plain t)) ++ c_part_offsets name t

abbrev pub declared_lines : (name : List ℕ) → Tree → (docs : List ℕ) → List ℕ
declared_lines name t docs = comment [] docs ++ typedef_lines name t ++ value_lines name t

abbrev pub header_typename_lines : (name : List ℕ) → Tree → (docs : List ℕ) → List ℕ
header_typename_lines name t docs = declared_lines name t docs ++ c_layout_lines name t ++ codes "\n"

-- ---- the numbers that are asserted, and may be too large

abbrev pub offset_numbers : Tree → List ℕ
offset_numbers (Tree.record_of RecordKind.Tuple ms) = offsets 0 (plain_fields ms)
offset_numbers (Tree.record_of RecordKind.Other ms) = offsets 0 (plain_fields ms)
offset_numbers _ = []

abbrev pub typename_numbers : Tree → List ℕ
typename_numbers t = size_of (plain t) ∷ offset_numbers t
