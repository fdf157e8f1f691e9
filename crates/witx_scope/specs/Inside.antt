-- The inside of a typename or a module, as the tables of a validator tell it, and what a refused one leaves in them.
use Rattle.std.specs.Prelude.{◌≡◌, ℕ, List, [], ◌∷◌, ◌⊎◌, None, true, map}
use Rattle.witx_base.specs.Found.{found}
use Rattle.witx_comments.specs.Documentation.{documentation_of}
use Rattle.witx_files.specs.declared.location.Location.{Location}
use Rattle.witx_syntax_tree.specs.Trees.{TypeTree, Name}
use Rattle.witx_ast.specs.Definitions.{ModuleTree}
use Rattle.witx_ast.specs.declared.definition.Entry.{Entry}
use Rattle.witx_scope.specs.Faults.{Check}
use Rattle.witx_scope.specs.Names.{Names, Here, new_name}
use Rattle.witx_scope.specs.Checks.{type_checks}
use Rattle.witx_scope.specs.Modules.{items_checks, item_meant}
use Rattle.witx_syntax_tree.specs.Trees.{NotedDecl}
use Rattle.witx_scope.specs.Senses.{kept_sense}

-- inside a declaration that introduces n, after these names and entries
unfoldable pub within : Names → List (List ℕ × Entry) → (ℕ → Location) → Name → Here
within names entries place n = record { sense = kept_sense ((n.name, place n.start) ∷ names) entries; place = place }

abbrev pub typename_checks : Names → Here → Name → TypeTree → List Check
typename_checks names h n form = new_name names n.name (h.place n.start) ∷ type_checks h true (h.place n.start) form

abbrev pub module_checks : Names → Here → Name → List NotedDecl → List Check
module_checks names h n items = new_name names n.name (h.place n.start) ∷ items_checks h [] items

abbrev pub module_meant : Here → List ℕ → List NotedDecl → List (List ℕ) → ModuleTree
module_meant h name items comments = record { name = name; comment = documentation_of comments; items = map (item_meant h) items }

-- a new name is taken in
abbrev pub Takes : Names → Names → List ℕ → Location → Type 0
Takes old new n at = (found old n ≡ None) × ((q : List ℕ) → found new q ≡ found ((n, at) ∷ old) q)

-- the names are as before, but that a new one may have been taken in
abbrev pub TakesAtMost : Names → Names → List ℕ → Location → Type 0
TakesAtMost old new n at = (new ≡ old) ⊎ Takes old new n at

-- a refused declaration: its name was new and is taken in, or it stood and nothing has changed
abbrev pub RefusesDeclaration : Names → Names → List ℕ → Location → Type 0
RefusesDeclaration old new n at = Takes old new n at ⊎ ((found old n ≡ None → ⊥) × (new ≡ old))
