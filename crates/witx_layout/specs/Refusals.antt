-- How a misfit is told: the first of all is refused, with the number of its definition, its count and the most that fit.
-- And what a refusal as too large tells.
use Rattle.std.specs.Prelude.{◌≡◌, ◌≤◌, ◌^◌, List, [], ◌∷◌, Option, Some, None, Result, Ok, Err, map, Any}
use Rattle.witx_ast.specs.Tree.{Tree}
use Rattle.witx_ast.specs.Plain.{plain}
use Rattle.witx_ast.specs.declared.definition.Definition.{Definition}
use Rattle.witx_ast.specs.Definitions.{definition_tree}
use Rattle.witx_ast.specs.Misfits.{Excess, Misfit}
use Rattle.witx_layout.specs.declared.tags.TooMany.{TooMany}
use Rattle.witx_layout.specs.declared.tags.TagTooNarrow.{TagTooNarrow}
use Rattle.witx_layout.specs.declared.members.LayoutError.{LayoutError}
use Rattle.witx_layout.specs.Numbers.{size_of}
use Rattle.witx_layout.specs.LayoutsText.{typename_sizes, definition_sizes}

-- of one type
abbrev pub type_refusal : List Excess → Result (Unit {0}) TooMany
type_refusal [] = Ok tt
type_refusal (e ∷ es) = Err (record { count = e.count; most = e.most })

-- of a document
abbrev pub tag_refusal : Option Misfit → Result (Unit {0}) TagTooNarrow
tag_refusal None = Ok tt
tag_refusal (Some m) = Err (record { definition = m.definition; count = m.excess.count; most = m.excess.most })

-- a refusal as too large comes only where the size of this type is from 2^64 on
abbrev pub TooLargeBySize : {A : Type 0} → Tree → Result A LayoutError → Type 0
TooLargeBySize t result = result ≡ Err LayoutError.TooLarge → 2 ^ 64 ≤ size_of (plain t)

-- only where that of one of these typenames is
abbrev pub TooLargeByTypenames : {A : Type 0} → List Definition → Result A LayoutError → Type 0
TooLargeByTypenames definitions result = result ≡ Err LayoutError.TooLarge
    → Any (λ size. 2 ^ 64 ≤ size) (typename_sizes (map definition_tree definitions))

-- only where this is such a typename
abbrev pub TooLargeByTypename : {A : Type 0} → Definition → Result A LayoutError → Type 0
TooLargeByTypename definition result = result ≡ Err LayoutError.TooLarge
    → Any (λ size. 2 ^ 64 ≤ size) (definition_sizes (definition_tree definition))
