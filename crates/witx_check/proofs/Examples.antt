-- Small declarations, computed: what they define, and their first faults.
use Rattle.std.specs.Prelude.{◌≡◌, refl, ℕ, ◌-◌, ◌^◌, List, [], ◌∷◌, Option, Some, None, Bool, true, false, codes}
use Rattle.std.specs.Str.{chars, trim_start, trim_end}
use Rattle.std.specs.Fmt.Cut.{floor_char_boundary}
use Rattle.std.specs.Fmt.{digits}
use Rattle.witx_base.specs.Texts.{same_text}
use Rattle.witx_comments.specs.Documentation.{documentation_of, margin_of, text_of_lines}
use Rattle.witx_files.specs.declared.location.Location.{Location}
use Rattle.witx_syntax_tree.specs.Trees.{Name, Member, TypeTree, builtin, ident, string, boolean, expected, enum_of, flags_of, record_of, union_of, variant_of, absent, present, no_fields, one_field, no_union_fields, one_union_field, no_cases, one_case, function}
use Rattle.witx_syntax_tree.specs.declared.tree.BuiltinSyntax.TheVariants as word
use Rattle.witx_ast.specs.declared.types.BuiltinType.TheVariants as kind
use Rattle.witx_ast.specs.declared.types.IntRepr.{IntRepr}
use Rattle.witx_ast.specs.declared.types.RecordKind.{RecordKind}
use Rattle.witx_ast.specs.Tree.{Tree, Fields, Arms}
use Rattle.witx_ast.specs.Definitions.{typename_of, constant_of}
use Rattle.witx_scope.specs.Faults.{Fault, first_fault, abi, name_already_exists, recursive, unknown_name, wrong_kind_name, invalid_union_field, constant_too_large}
use Rattle.witx_scope.specs.Names.{Here}
use Rattle.witx_scope.specs.Trees.{tree_meant}
use Rattle.witx_scope.specs.DeclarationForms.{DeclForm, typename_form, module_form, constant_form}
use Rattle.witx_scope.specs.Declarations.{Past, nothing_before, decl_checks, decl_tree, accepted, rejected}

abbrev name_at : List ℕ → ℕ → Name
name_at name start = record { name = name; start = start; end = start }

abbrev member_at : List ℕ → ℕ → Member
member_at name start = record { comments = []; name = name_at name start }

-- what a field or a case says in a comment
a_documented_field : (place : ℕ → Location) → decl_tree nothing_before place [] (typename_form (name_at (codes "r") 10)
    (record_of (one_field (codes "; hello" ∷ []) (name_at (codes "x") 20) (builtin word.U16) no_fields)))
    ≡ typename_of (codes "r") (Tree.record_of RecordKind.Other (Fields.field (codes "x") (Tree.builtin kind.U16) (codes "hello\n") Fields.no_fields)) []
unfolding documentation_of margin_of text_of_lines chars trim_start trim_end floor_char_boundary lib.Utf8.encode
a_documented_field place = refl

-- ---- under the tag (typename $t (enum (@witx tag u8) $a $b))

abbrev tag_form : DeclForm
tag_form = typename_form (name_at (codes "t") 10) (enum_of (Some (word.U8 false)) (member_at (codes "a") 12 ∷ member_at (codes "b") 14 ∷ []))

abbrev behind_tag : (ℕ → Location) → Past
behind_tag place = accepted nothing_before place [] tag_form

-- a union takes the names by place
a_union_under_an_enum : (place : ℕ → Location) → decl_tree (behind_tag place) place [] (typename_form (name_at (codes "u") 30)
    (union_of (present (ident (name_at (codes "t") 32))) (one_union_field [] (builtin (word.U32 false)) (one_union_field [] string no_union_fields))))
    ≡ typename_of (codes "u") (Tree.variant_of IntRepr.U8
    (Arms.carries (codes "a") (Tree.builtin (kind.U32 false)) [] (Arms.carries (codes "b") (Tree.list_of (Tree.builtin kind.Char)) [] Arms.no_arms))) []
unfolding documentation_of margin_of text_of_lines chars trim_start trim_end floor_char_boundary lib.Utf8.encode
a_union_under_an_enum place = refl

-- a variant has the order of the names: (variant (@witx tag $t) (case $b u8) (case $a))
reordered_cases : (place : ℕ → Location) → decl_tree (behind_tag place) place [] (typename_form (name_at (codes "v") 30)
    (variant_of (present (ident (name_at (codes "t") 32))) (one_case [] (name_at (codes "b") 34) (present (builtin (word.U8 false))) (one_case [] (name_at (codes "a") 36) absent no_cases))))
    ≡ typename_of (codes "v") (Tree.variant_of IntRepr.U8 (Arms.bare (codes "a") [] (Arms.carries (codes "b") (Tree.builtin (kind.U8 false)) [] Arms.no_arms))) []
unfolding documentation_of margin_of text_of_lines chars trim_start trim_end floor_char_boundary lib.Utf8.encode same_text
reordered_cases place = refl

-- a case that an earlier one has taken
a_case_twice : (place : ℕ → Location) → first_fault (decl_checks (behind_tag place) place (typename_form (name_at (codes "v") 30)
    (variant_of (present (ident (name_at (codes "t") 32))) (one_case [] (name_at (codes "b") 34) absent (one_case [] (name_at (codes "b") 36) absent no_cases)))))
    ≡ Some (invalid_union_field (codes "b") (codes "does not correspond to variant in tag `tag`") (place 36))
unfolding same_text
a_case_twice place = refl

-- ---- types of more than one part

abbrev truth : Tree
truth = Tree.variant_of IntRepr.U32 (Arms.bare (codes "false") [] (Arms.bare (codes "true") [] Arms.no_arms))

a_bool : (h : Here) → tree_meant h boolean ≡ truth
a_bool h = refl

an_expected : (h : Here) → tree_meant h (expected (present (builtin (word.U8 false))) absent)
    ≡ Tree.variant_of IntRepr.U32 (Arms.carries (codes "ok") (Tree.builtin (kind.U8 false)) [] (Arms.bare (codes "err") [] Arms.no_arms))
an_expected h = refl

some_flags : (h : Here) → tree_meant h (flags_of (Some word.U16) (member_at (codes "a") 12 ∷ member_at (codes "b") 14 ∷ []))
    ≡ Tree.record_of (RecordKind.Bitflags IntRepr.U16) (Fields.field (codes "a") truth [] (Fields.field (codes "b") truth [] Fields.no_fields))
unfolding documentation_of margin_of text_of_lines chars trim_start trim_end floor_char_boundary lib.Utf8.encode
some_flags h = refl

-- without names in the tag a union counts its cases from 0
a_union_without_a_tag : (h : Here) → tree_meant h (union_of absent (one_union_field [] boolean (one_union_field [] boolean no_union_fields)))
    ≡ Tree.variant_of IntRepr.U32 (Arms.carries (codes "0") truth [] (Arms.carries (codes "1") truth [] Arms.no_arms))
unfolding documentation_of margin_of text_of_lines chars trim_start trim_end floor_char_boundary lib.Utf8.encode digits
a_union_without_a_tag h = refl

-- ---- after a refused declaration: (typename $t $x), where nothing introduces x

abbrev refused_form : DeclForm
refused_form = typename_form (name_at (codes "t") 10) (ident (name_at (codes "x") 13))

abbrev behind_refused : (ℕ → Location) → Past
behind_refused place = rejected nothing_before place refused_form

refused_by : (place : ℕ → Location) → first_fault (decl_checks nothing_before place refused_form) ≡ Some (unknown_name (codes "x") (place 13))
refused_by place = refl

-- its name stands all the same
repeated_after : (place : ℕ → Location) → first_fault (decl_checks (behind_refused place) place (typename_form (name_at (codes "t") 30) string))
    ≡ Some (name_already_exists (codes "t") (place 30) (place 10))
repeated_after place = refl

-- and is never finished
used_after : (place : ℕ → Location) → first_fault (decl_checks (behind_refused place) place (typename_form (name_at (codes "u") 30) (ident (name_at (codes "t") 33))))
    ≡ Some (recursive (codes "t") (place 33))
used_after place = refl

-- ---- a function that stores its result whole returns a name, and any

abbrev returns_string : Bool → DeclForm
returns_string stored = module_form (name_at (codes "m") 50) (record { comments = []; decl = function (record { text = codes "f"; start = 60; end = 63 }) no_fields (one_field [] (name_at (codes "r") 70) string no_fields) false stored } ∷ [])

abbrev returns_name : Bool → DeclForm
returns_name stored = module_form (name_at (codes "m") 50) (record { comments = []; decl = function (record { text = codes "f"; start = 60; end = 63 }) no_fields (one_field [] (name_at (codes "r") 70) (ident (name_at (codes "s") 73)) no_fields) false stored } ∷ [])

-- (typename $s string)
abbrev behind_string : (ℕ → Location) → Past
behind_string place = accepted nothing_before place [] (typename_form (name_at (codes "s") 10) string)

stored_string : (place : ℕ → Location) → first_fault (decl_checks (behind_string place) place (returns_string true)) ≡ Some (abi (codes "only named types are allowed in results") (place 60))
stored_string place = refl

stored_name : (place : ℕ → Location) → first_fault (decl_checks (behind_string place) place (returns_name true)) ≡ None
stored_name place = refl

-- otherwise a list can't come back, named or not
first_name : (place : ℕ → Location) → first_fault (decl_checks (behind_string place) place (returns_name false)) ≡ Some (abi (codes "invalid return type") (place 60))
first_name place = refl

-- ---- a constant has its own comments, and not those before the declaration

a_constant : (place : ℕ → Location) → decl_tree nothing_before place (codes "; before" ∷ []) (constant_form (name_at (codes "n") 17) (name_at (codes "max") 20) 255 (codes "; its own" ∷ []))
    ≡ constant_of (record { ty = codes "n"; name = codes "max"; value = 255; docs = codes "its own\n" })
unfolding documentation_of margin_of text_of_lines chars trim_start trim_end floor_char_boundary lib.Utf8.encode
a_constant place = refl

-- ---- (@witx const $n $max value), behind (typename $n ..)

abbrev constant_of_value : ℕ → DeclForm
constant_of_value value = constant_form (name_at (codes "n") 30) (name_at (codes "max") 33) value []

abbrev behind_type : (ℕ → Location) → TypeTree → Past
behind_type place t = accepted nothing_before place [] (typename_form (name_at (codes "n") 10) t)

abbrev fault_of_value : TypeTree → ℕ → (ℕ → Location) → Option Fault
fault_of_value t value place = first_fault (decl_checks (behind_type place t) place (constant_of_value value))

abbrev too_large : ℕ → ℕ → (ℕ → Location) → Option Fault
too_large value largest place = Some (constant_too_large (codes "max") value largest (place 33))

-- each integer type takes its greatest number, and refuses the next one
a_char8 : (place : ℕ → Location) → (fault_of_value (builtin (word.U8 true)) (2 ^ 8 - 1) place ≡ None) × (fault_of_value (builtin (word.U8 true)) 256 place ≡ too_large 256 255 place)
a_char8 place = (refl, refl)

a_u8 : (place : ℕ → Location) → (fault_of_value (builtin (word.U8 false)) (2 ^ 8 - 1) place ≡ None) × (fault_of_value (builtin (word.U8 false)) 256 place ≡ too_large 256 255 place)
a_u8 place = (refl, refl)

a_u16 : (place : ℕ → Location) → (fault_of_value (builtin word.U16) (2 ^ 16 - 1) place ≡ None) × (fault_of_value (builtin word.U16) (2 ^ 16) place ≡ too_large 65536 65535 place)
a_u16 place = (refl, refl)

a_u32 : (place : ℕ → Location) → (fault_of_value (builtin (word.U32 false)) (2 ^ 32 - 1) place ≡ None) × (fault_of_value (builtin (word.U32 false)) (2 ^ 32) place ≡ too_large 4294967296 4294967295 place)
a_u32 place = (refl, refl)

a_usize : (place : ℕ → Location) → (fault_of_value (builtin (word.U32 true)) (2 ^ 32 - 1) place ≡ None) × (fault_of_value (builtin (word.U32 true)) (2 ^ 32) place ≡ too_large 4294967296 4294967295 place)
a_usize place = (refl, refl)

a_u64 : (place : ℕ → Location) → fault_of_value (builtin word.U64) (2 ^ 64 - 1) place ≡ None
a_u64 place = refl

an_s8 : (place : ℕ → Location) → (fault_of_value (builtin word.S8) (2 ^ 7 - 1) place ≡ None) × (fault_of_value (builtin word.S8) 128 place ≡ too_large 128 127 place)
an_s8 place = (refl, refl)

an_s16 : (place : ℕ → Location) → (fault_of_value (builtin word.S16) (2 ^ 15 - 1) place ≡ None) × (fault_of_value (builtin word.S16) (2 ^ 15) place ≡ too_large 32768 32767 place)
an_s16 place = (refl, refl)

an_s32 : (place : ℕ → Location) → (fault_of_value (builtin word.S32) (2 ^ 31 - 1) place ≡ None) × (fault_of_value (builtin word.S32) (2 ^ 31) place ≡ too_large 2147483648 2147483647 place)
an_s32 place = (refl, refl)

an_s64 : (place : ℕ → Location) → (fault_of_value (builtin word.S64) (2 ^ 63 - 1) place ≡ None) × (fault_of_value (builtin word.S64) (2 ^ 63) place ≡ too_large 9223372036854775808 9223372036854775807 place)
an_s64 place = (refl, refl)

-- other types are no integers
abbrev no_integer : List ℕ → (ℕ → Location) → Option Fault
no_integer kind_said place = Some (wrong_kind_name (codes "n") (codes "integer") kind_said (place 30))

a_float : (place : ℕ → Location) → (fault_of_value (builtin word.F32) 1 place ≡ no_integer (codes "builtin") place) × (fault_of_value (builtin word.F64) 1 place ≡ no_integer (codes "builtin") place)
a_float place = (refl, refl)

a_char : (place : ℕ → Location) → fault_of_value (builtin word.Char) 1 place ≡ no_integer (codes "builtin") place
a_char place = refl

a_record : (place : ℕ → Location) → fault_of_value (record_of no_fields) 1 place ≡ no_integer (codes "record") place
a_record place = refl

-- a name of a name: (typename $k $n), of which the constant is
abbrev through_names : (place : ℕ → Location) (value : ℕ) → Option Fault
through_names place value = first_fault (decl_checks (accepted (behind_type place (builtin word.S8)) place [] (typename_form (name_at (codes "k") 20) (ident (name_at (codes "n") 22)))) place
    (constant_form (name_at (codes "k") 30) (name_at (codes "max") 33) value []))

a_name_of_a_name : (place : ℕ → Location) → (through_names place 127 ≡ None) × (through_names place 128 ≡ too_large 128 127 place)
a_name_of_a_name place = (refl, refl)

-- no declaration before it introduces the name of its type
a_constant_alone : (place : ℕ → Location) → first_fault (decl_checks nothing_before place (constant_of_value (2 ^ 64 - 1))) ≡ Some (unknown_name (codes "n") (place 30))
a_constant_alone place = refl

-- one that was refused does, and is never finished
a_constant_of_a_refused_type : (place : ℕ → Location) → first_fault (decl_checks (behind_refused place) place (constant_form (name_at (codes "t") 30) (name_at (codes "max") 33) 1 [])) ≡ Some (recursive (codes "t") (place 30))
a_constant_of_a_refused_type place = refl

a_constant_of_a_module : (place : ℕ → Location) → first_fault (decl_checks (accepted nothing_before place [] (module_form (name_at (codes "n") 10) [])) place (constant_of_value 1)) ≡ Some (wrong_kind_name (codes "n") (codes "datatype") (codes "module") (place 30))
a_constant_of_a_module place = refl

-- the name counts before the value; after a refused constant the name is still free
abbrev behind_constant : (ℕ → Location) → Past
behind_constant place = accepted (behind_type place (builtin (word.U8 false))) place [] (constant_form (name_at (codes "n") 20) (name_at (codes "max") 23) 1 [])

a_repeated_constant : (place : ℕ → Location) → first_fault (decl_checks (behind_constant place) place (constant_of_value 256)) ≡ Some (name_already_exists (codes "max") (place 33) (place 23))
a_repeated_constant place = refl

behind_a_refused_constant : (place : ℕ → Location) → first_fault (decl_checks (rejected (behind_type place (builtin (word.U8 false))) place (constant_of_value 256)) place (constant_of_value 255)) ≡ None
behind_a_refused_constant place = refl
