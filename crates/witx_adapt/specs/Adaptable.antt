-- When a document can be adapted: each type fits its tag, each typename's size is a number of the machine, and each
-- function can be lowered. Where one of these fails, the first that fails is told, in this order, at the first place.
use Rattle.std.specs.Prelude.{◌≡◌, ℕ, List, [], ◌∷◌, Option, Some, None, Err, option_map}
use Rattle.std.specs.Option.{option_or}
use Rattle.witx_ast.specs.Misfits.{first_misfit}
use Rattle.witx_ast.specs.Definitions.{DefinitionTree}
use Rattle.witx_machine.specs.declared.surface.Place.{Place}
use Rattle.witx_machine.specs.Functions.{function_of}
use Rattle.witx_machine.specs.Lowerable.{unlowerable}
use Rattle.witx_layout.specs.Layouts.{first_large}
use Rattle.witx_layout.specs.Refusals.{tag_refusal}
use Rattle.witx_layout.specs.declared.table.LayoutsError.{LayoutsError}
use Rattle.witx_layout.specs.declared.table.LayoutsError.TheVariants as layouts_error
use Rattle.witx_adapt.specs.Entries.{Owned, all_functions}
use Rattle.witx_adapt.specs.declared.error.DocumentError.{DocumentError}
use Rattle.witx_adapt.specs.declared.error.DocumentError.TheVariants as document_error

-- a function that can't be lowered: its names and the place
pub record Unlowered : Type 0 where
  pub owner : List ℕ
  pub function : List ℕ
  pub place : Place

abbrev pub unlowered : Owned → Option Unlowered
unlowered p = option_map (λ place. record { owner = p.owner.name; function = p.func.name; place = place }) (unlowerable (function_of p.func))

-- the first function that can't be lowered
abbrev pub first_unlowered : List Owned → Option Unlowered
first_unlowered [] = None
first_unlowered (p ∷ ps) = option_or (unlowered p) (first_unlowered ps)

-- the document can be adapted
pub record IsAdaptable (ds : List DefinitionTree) : Type 0 where
  pub fits : first_misfit ds ≡ None
  pub sizes : first_large ds ≡ None
  pub lowerable : first_unlowered (all_functions ds) ≡ None

-- what a refusal says of the document
abbrev pub RefusesDocument : List DefinitionTree → DocumentError → Type 0
RefusesDocument ds (document_error.TagTooNarrow t) = tag_refusal (first_misfit ds) ≡ Err t
RefusesDocument ds (document_error.TooLarge definition) = (first_misfit ds ≡ None) × (first_large ds ≡ Some definition)
RefusesDocument ds (document_error.Unlowerable owner function place) =
    (first_misfit ds ≡ None) × (first_large ds ≡ None)
    × (first_unlowered (all_functions ds) ≡ Some (record { owner = owner; function = function; place = place }))
RefusesDocument ds document_error.OutOfMemory = Unit {0}

-- what a refusal of the layouts becomes
abbrev pub layouts_refusal : LayoutsError → DocumentError
layouts_refusal (layouts_error.TooLarge definition) = document_error.TooLarge definition
layouts_refusal layouts_error.OutOfMemory = document_error.OutOfMemory

-- what a refusal says of some functions of the document
abbrev pub UnlowerableAt : Option Unlowered → DocumentError → Type 0
UnlowerableAt u (document_error.Unlowerable owner function place) = u ≡ Some (record { owner = owner; function = function; place = place })
UnlowerableAt u document_error.OutOfMemory = Unit {0}
UnlowerableAt u _ = ⊥
