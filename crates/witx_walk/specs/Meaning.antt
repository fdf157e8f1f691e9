-- What texts mean: the definitions of the declarations in reading order, each made behind those before it, where there is a
-- walk and no declaration has a fault. A name that two declarations introduce is a fault of the second.
use Rattle.std.specs.Prelude.{◌≡◌, ℕ, List, [], ◌∷◌, ◌++◌, Option, None, Some}
use Rattle.witx_base.specs.Paths.{Path}
use Rattle.witx_files.specs.Files.{Files, Aliases, text_in, canonical}
use Rattle.witx_files.specs.declared.location.Location.{Location}
use Rattle.witx_comments.specs.Comments.{Comments}
use Rattle.witx_syntax_tree.specs.Trees.{FormTree, uses, typename, module_of, constant}
use Rattle.witx_ast.specs.Definitions.{DefinitionTree}
use Rattle.witx_scope.specs.Faults.{Fault, first_fault}
use Rattle.witx_scope.specs.Places.{location_in}
use Rattle.witx_scope.specs.DeclarationForms.{DeclForm, typename_form, module_form, constant_form}
use Rattle.witx_scope.specs.Declarations.{Past, nothing_before, decl_checks, decl_tree, accepted}
use Rattle.witx_order.specs.Items.{Declared}
use Rattle.witx_order.specs.Walks.{World}
use Rattle.witx_order.specs.Fronts.{Means}
use Rattle.witx_walk.specs.Readings.{FileReading}

-- the form of a declaration; a use is none
abbrev pub form_of : FormTree → Option DeclForm
form_of (uses path) = None
form_of (typename name type_) = Some (typename_form name type_)
form_of (module_of name items) = Some (module_form name items)
form_of (constant comments type_name name value) = Some (constant_form type_name name value comments)

-- where the bytes of a declaration's file stand
abbrev pub places_of : Declared → ℕ → Location
places_of δ = location_in δ.text δ.path

-- ---- one declaration, behind what stands before it

abbrev pub form_fault : Past → (ℕ → Location) → Option DeclForm → Option Fault
form_fault past place None = None
form_fault past place (Some form) = first_fault (decl_checks past place form)

abbrev pub form_definitions : Past → (ℕ → Location) → Comments → Option DeclForm → List DefinitionTree
form_definitions past place comments None = []
form_definitions past place comments (Some form) = decl_tree past place comments form ∷ []

abbrev pub form_accepted : Past → (ℕ → Location) → Comments → Option DeclForm → Past
form_accepted past place comments None = past
form_accepted past place comments (Some form) = accepted past place comments form

-- what stands before the next declaration
abbrev pub past_with : Past → Declared → Past
past_with past δ = form_accepted past (places_of δ) δ.item.comments (form_of δ.item.item)

abbrev pub definitions_with : Past → Declared → List DefinitionTree
definitions_with past δ = form_definitions past (places_of δ) δ.item.comments (form_of δ.item.item)

-- ---- declarations in order

abbrev pub past_from : Past → List Declared → Past
past_from past [] = past
past_from past (δ ∷ δs) = past_from (past_with past δ) δs

abbrev pub definitions_from : Past → List Declared → List DefinitionTree
definitions_from past [] = []
definitions_from past (δ ∷ δs) = definitions_with past δ ++ definitions_from (past_with past δ) δs

-- what the declarations leave
abbrev pub past_of : List Declared → Past
past_of declared = past_from nothing_before declared

-- their definitions
abbrev pub definitions_of : List Declared → List DefinitionTree
definitions_of declared = definitions_from nothing_before declared

-- the fault of a declaration behind others
abbrev pub fault_behind : List Declared → Declared → Option Fault
fault_behind before δ = form_fault (past_of before) (places_of δ) (form_of δ.item.item)

-- ---- files

-- files and aliases, with texts that are read so
abbrev pub world : Files → Aliases → FileReading → World Fault
world files aliases reading = record { text_at = text_in files; canonical = canonical aliases; reading = reading; fault_of = fault_behind }

-- the files at these paths mean a document with these definitions
abbrev pub MeansDocument : World Fault → List Path → List DefinitionTree → Type 0
MeansDocument w handed definitions = (declared : List Declared) × (Means w handed declared × (definitions ≡ definitions_of declared))
