-- The layouts of a document's typenames, in order, and the first typename that is too large.
use Rattle.std.specs.Prelude.{◌≡◌, ◌≤◌, ℕ, ◌+◌, ◌^◌, List, [], ◌∷◌, map, Option, Some, None, Result, MatchResult, nat_le, if◌then◌else◌}
use Rattle.std.specs.List.{flat_map}
use Rattle.std.specs.Option.{option_or}
use Rattle.witx_ast.specs.Tree.{Tree}
use Rattle.witx_ast.specs.Plain.{Plain, plain}
use Rattle.witx_ast.specs.declared.types.RecordMember.{RecordMember}
use Rattle.witx_ast.specs.declared.types.Case.{Case}
use Rattle.witx_ast.specs.Views.{members_plain, cases_plain}
use Rattle.witx_ast.specs.declared.definition.Definition.{Definition}
use Rattle.witx_ast.specs.Definitions.{DefinitionTree, definition_tree, typename_of, module_of, constant_of}
use Rattle.witx_layout.specs.declared.layout.SizeAlign.{SizeAlign}
use Rattle.witx_layout.specs.declared.layout.TooLarge.{TooLarge}
use Rattle.witx_layout.specs.declared.table.LayoutsError.{LayoutsError}
use Rattle.witx_layout.specs.declared.table.LayoutsError.TheVariants as layouts_error
use Rattle.witx_layout.specs.Numbers.{size_of, align_of, members_end, members_align, payloads_size, payloads_align}

-- the numbers of a type
abbrev pub plain_layout : Plain → SizeAlign
plain_layout t = record { size = size_of t; align = align_of t }

abbrev pub layout_of : Tree → SizeAlign
layout_of t = plain_layout (plain t)

-- an answer has this size and this alignment, or is too large, as the size is from 2^64 on
abbrev pub Measures : (size align : ℕ) → Result SizeAlign TooLarge → Type 0
Measures size align result = MatchResult result (λ v. (v.size ≡ size) × (v.align ≡ align)) (λ _. 2 ^ 64 ≤ size)

-- the same of a type
abbrev pub MeasuresType : Tree → Result SizeAlign TooLarge → Type 0
MeasuresType t = Measures (size_of (plain t)) (align_of (plain t))

-- of members: where the last one ends, and their greatest alignment
abbrev pub MeasuresMembers : List RecordMember → Result SizeAlign TooLarge → Type 0
MeasuresMembers members = Measures (members_end 0 (members_plain members)) (members_align (members_plain members))

-- of the payloads of cases: the greatest size and the greatest alignment
abbrev pub MeasuresPayloads : List Case → Result SizeAlign TooLarge → Type 0
MeasuresPayloads cases = Measures (payloads_size (cases_plain cases)) (payloads_align (cases_plain cases))

-- the numbers of a typename
abbrev pub layouts_in : DefinitionTree → List SizeAlign
layouts_in (typename_of name t docs) = layout_of t ∷ []
layouts_in (module_of m) = []
layouts_in (constant_of c) = []

abbrev pub all_layouts : List DefinitionTree → List SizeAlign
all_layouts = flat_map layouts_in

-- a definition is a typename that is too large; its number
abbrev pub large_at : ℕ → DefinitionTree → Option ℕ
large_at n (typename_of name t docs) = if nat_le (2 ^ 64) (size_of (plain t)) then Some n else None
large_at n (module_of m) = None
large_at n (constant_of c) = None

-- the first typename that is too large, of definitions that are counted from n
abbrev pub first_large_from : ℕ → List DefinitionTree → Option ℕ
first_large_from n [] = None
first_large_from n (d ∷ ds) = option_or (large_at n d) (first_large_from (n + 1) ds)

abbrev pub first_large : List DefinitionTree → Option ℕ
first_large = first_large_from 0

-- what a refusal says of it
abbrev pub TooLargeAt : Option ℕ → LayoutsError → Type 0
TooLargeAt large (layouts_error.TooLarge definition) = large ≡ Some definition
TooLargeAt large layouts_error.OutOfMemory = Unit {0}

-- these are the layouts of the typenames among definitions
abbrev pub AreLayouts : List Definition → List SizeAlign → Type 0
AreLayouts definitions layouts = layouts ≡ all_layouts (map definition_tree definitions)

-- no typename among definitions is too large
abbrev pub NoneTooLarge : List Definition → Type 0
NoneTooLarge definitions = first_large (map definition_tree definitions) ≡ None

-- a refusal tells the first typename among definitions that is too large
abbrev pub TellsFirstLarge : List Definition → LayoutsError → Type 0
TellsFirstLarge definitions = TooLargeAt (first_large (map definition_tree definitions))
