-- What the file of a sample says: an enumeration, a record and a variant for each number below n in turn, and a module with a
-- function for each number. No documentation stands in it.
use Rattle.std.specs.Prelude.{ℕ, ◌+◌, List, [], ◌++◌, false, codes}
use Rattle.std.specs.Fmt.{decimal}
use Rattle.witx_ast.specs.declared.types.BuiltinType.{BuiltinType}
use Rattle.witx_ast.specs.declared.types.IntRepr.{IntRepr}
use Rattle.witx_ast.specs.declared.types.RecordKind.{RecordKind}
use Rattle.witx_ast.specs.Tree.{Tree, Fields, Arms}
use Rattle.witx_ast.specs.Definitions.{DefinitionTree, typename_of}

-- ---- names

abbrev pub enum_name : List ℕ
enum_name = codes "e"

abbrev pub module_name : List ℕ
module_name = codes "m"

abbrev pub record_name : ℕ → List ℕ
record_name i = codes "r" ++ decimal i

abbrev pub variant_name : ℕ → List ℕ
variant_name i = codes "v" ++ decimal i

abbrev pub function_name : ℕ → List ℕ
function_name i = codes "f" ++ decimal i

-- ---- types

abbrev pub the_enum : Tree
the_enum = Tree.variant_of IntRepr.U16 (Arms.bare (codes "ok") [] (Arms.bare (codes "bad") [] Arms.no_arms))

abbrev pub named_enum : Tree
named_enum = Tree.named enum_name the_enum []

abbrev pub the_record : Tree
the_record = Tree.record_of RecordKind.Other (
    Fields.field (codes "a") (Tree.builtin (BuiltinType.U32 false)) [] (
    Fields.field (codes "b") named_enum [] (
    Fields.field (codes "c") (Tree.builtin BuiltinType.U64) [] Fields.no_fields)))

abbrev pub named_record : ℕ → Tree
named_record i = Tree.named (record_name i) the_record []

abbrev pub the_variant : ℕ → Tree
the_variant i = Tree.variant_of IntRepr.U8 (
    Arms.carries (codes "x") (named_record i) [] (
    Arms.carries (codes "y") (Tree.list_of (named_record i)) [] (
    Arms.bare (codes "z") [] Arms.no_arms)))

abbrev pub named_variant : ℕ → Tree
named_variant i = Tree.named (variant_name i) (the_variant i) []

abbrev pub the_string : Tree
the_string = Tree.list_of (Tree.builtin BuiltinType.Char)

abbrev pub the_tuple : ℕ → Tree
the_tuple i = Tree.record_of RecordKind.Tuple (Fields.field (decimal 0) (named_record i) [] (Fields.field (decimal 1) named_enum [] Fields.no_fields))

-- ---- definitions

abbrev pub enum_definition : DefinitionTree
enum_definition = typename_of enum_name the_enum []

abbrev pub record_definition : ℕ → DefinitionTree
record_definition i = typename_of (record_name i) the_record []

abbrev pub variant_definition : ℕ → DefinitionTree
variant_definition i = typename_of (variant_name i) (the_variant i) []
