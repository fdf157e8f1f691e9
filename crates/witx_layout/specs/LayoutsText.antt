-- The text of a document's layouts: per typename a line with its size and alignment, and below it its parts.
-- Names are looked through, so a typename that stands for a record has that record's lines.
use Rattle.std.specs.Prelude.{◌≡◌, ◌<◌, ◌^◌, ℕ, List, [], ◌∷◌, ◌++◌, map, All, codes}
use Rattle.std.specs.List.{flat_map}
use Rattle.std.specs.Fmt.{decimal}
use Rattle.witx_ast.specs.declared.types.IntRepr.{IntRepr}
use Rattle.witx_ast.specs.declared.types.RecordKind.{RecordKind}
use Rattle.witx_ast.specs.Plain.{Plain, plain, Fields, Arms}
use Rattle.witx_ast.specs.Words.{repr_builtin}
use Rattle.witx_ast.specs.TypeNames.{builtin_text}
use Rattle.witx_ast.specs.declared.definition.Definition.{Definition}
use Rattle.witx_ast.specs.Definitions.{DefinitionTree, definition_tree, typename_of, module_of, constant_of}
use Rattle.witx_layout.specs.Numbers.{size_of, align_of, offsets, payload_offset, repr_size}

abbrev pub line_end : List ℕ
line_end = 10 ∷ []

abbrev pub typename_line : List ℕ → (size align : ℕ) → List ℕ
typename_line name size align = codes "typename " ++ name ++ codes " size " ++ decimal size ++ codes " align " ++ decimal align ++ line_end

abbrev pub field_line : List ℕ → ℕ → List ℕ
field_line name offset = codes "  field " ++ name ++ codes " offset " ++ decimal offset ++ line_end

-- a line for each member, with its offset
abbrev pub field_lines : Fields → List ℕ → List ℕ
field_lines (Fields.field name t rest) (offset ∷ begins) = field_line name offset ++ field_lines rest begins
field_lines _ _ = []

abbrev pub flags_line : IntRepr → List ℕ
flags_line repr = codes "  flags " ++ builtin_text (repr_builtin repr) ++ line_end

-- the size of the tag, and where the payload begins
abbrev pub tag_numbers_line : (tag payload : ℕ) → List ℕ
tag_numbers_line tag payload = codes "  tag " ++ decimal tag ++ codes " payload " ++ decimal payload ++ line_end

abbrev pub tag_line : IntRepr → Arms → List ℕ
tag_line repr cases = tag_numbers_line (repr_size repr) (payload_offset repr cases)

-- flags show their representation, any other record its members
abbrev pub record_lines : RecordKind → Fields → List ℕ
record_lines (RecordKind.Bitflags repr) members = flags_line repr
record_lines RecordKind.Tuple members = field_lines members (offsets 0 members)
record_lines RecordKind.Other members = field_lines members (offsets 0 members)

abbrev pub part_lines : Plain → List ℕ
part_lines (Plain.record_of kind members) = record_lines kind members
part_lines (Plain.variant_of repr cases) = tag_line repr cases
part_lines _ = []

abbrev pub typename_lines : List ℕ → Plain → List ℕ
typename_lines name t = typename_line name (size_of t) (align_of t) ++ part_lines t

-- typenames alone have lines
abbrev pub definition_lines : DefinitionTree → List ℕ
definition_lines (typename_of name t docs) = typename_lines name (plain t)
definition_lines (module_of m) = []
definition_lines (constant_of c) = []

-- the lines of all definitions, in order
abbrev pub layouts_text : List DefinitionTree → List ℕ
layouts_text definitions = flat_map definition_lines definitions

-- the size that a definition's lines show
abbrev pub definition_sizes : DefinitionTree → List ℕ
definition_sizes (typename_of name t docs) = size_of (plain t) ∷ []
definition_sizes (module_of m) = []
definition_sizes (constant_of c) = []

-- the sizes of all typenames, in order
abbrev pub typename_sizes : List DefinitionTree → List ℕ
typename_sizes definitions = flat_map definition_sizes definitions

-- a text shows the layouts of these definitions, and nothing else
abbrev pub ShowsLayouts : List Definition → List ℕ → Type 0
ShowsLayouts definitions text = text ≡ layouts_text (map definition_tree definitions)

-- the size of each typename fits a `usize`
abbrev pub TypenamesFit : List Definition → Type 0
TypenamesFit definitions = All (λ size. size < 2 ^ 64) (typename_sizes (map definition_tree definitions))

-- the same of one definition
abbrev pub TypenameFits : Definition → Type 0
TypenameFits definition = All (λ size. size < 2 ^ 64) (definition_sizes (definition_tree definition))
