-- Two documents have equal entries once all documentation is emptied: under each name stands the same, in whatever order.
use Rattle.std.specs.Prelude.{◌≡◌, ℕ, List, Option, None, Some, option_map}
use Rattle.witx_base.specs.Found.{found}
use Rattle.witx_ast.specs.Entries.{by_name}
use Rattle.witx_ast.specs.Items.{ItemTree, item_name}
use Rattle.witx_ast.specs.Definitions.{DefinitionTree, typename_of, module_of, constant_of, introduced}
use Rattle.witx_read_back.specs.Emptied.{emptied, emptied_item}

-- under each name the same import or function
abbrev pub SameItems : List ItemTree → List ItemTree → Type 0
SameItems is js = (n : List ℕ) → option_map emptied_item (found (by_name item_name is) n) ≡ option_map emptied_item (found (by_name item_name js) n)

-- a constant stands under no name
abbrev pub SameDefinition : DefinitionTree → DefinitionTree → Type 0
SameDefinition (typename_of n t d) (typename_of m u e) = (n ≡ m) × (emptied t ≡ emptied u)
SameDefinition (typename_of n t d) (module_of o) = ⊥
SameDefinition (typename_of n t d) (constant_of c) = ⊥
SameDefinition (module_of m) (typename_of k u e) = ⊥
SameDefinition (module_of m) (module_of o) = (m.name ≡ o.name) × SameItems m.items o.items
SameDefinition (module_of m) (constant_of c) = ⊥
SameDefinition (constant_of c) e = Unit {0}

abbrev pub SameAt : Option DefinitionTree → Option DefinitionTree → Type 0
SameAt None None = Unit {0}
SameAt None (Some e) = ⊥
SameAt (Some d) None = ⊥
SameAt (Some d) (Some e) = SameDefinition d e

abbrev pub SameEntries : List DefinitionTree → List DefinitionTree → Type 0
SameEntries ds es = (n : List ℕ) → SameAt (found (by_name introduced ds) n) (found (by_name introduced es) n)
