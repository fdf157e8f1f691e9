-- A whole declaration after those before it: its checks as one list, its definition, and what later declarations find.
-- A refused typename or module still introduces its name; a refused constant leaves nothing.
use Rattle.std.specs.Prelude.{ℕ, List, [], ◌∷◌, ◌++◌, map, filter, true}
use Rattle.witx_base.specs.Found.{found}
use Rattle.witx_comments.specs.Documentation.{documentation_of}
use Rattle.witx_files.specs.declared.location.Location.{Location}
use Rattle.witx_syntax_tree.specs.Trees.{Name}
use Rattle.witx_ast.specs.Tree.{named}
use Rattle.witx_ast.specs.Definitions.{DefinitionTree, typename_of, module_of, constant_of}
use Rattle.witx_scope.specs.Faults.{Check}
use Rattle.witx_scope.specs.Integers.{constant_checks}
use Rattle.witx_scope.specs.Names.{Names}
use Rattle.witx_scope.specs.Trees.{tree_meant}
use Rattle.witx_scope.specs.Checks.{type_checks}
use Rattle.witx_scope.specs.Modules.{items_checks, item_meant}
use Rattle.witx_scope.specs.DeclarationForms.{DeclForm, typename_form, module_form, constant_form}
use Rattle.witx_scope.specs.Positions.{TakenName, DeclarationOutcome, refused, made_type, made_module, is_same_name, after, denotes_before, declared_name}

-- a constant that was accepted: its type's name, and its name with its place
pub record TakenConstant : Type 0 where
  pub type_name : List ℕ
  pub name : List ℕ
  pub place : Location

-- what stands before a declaration
pub record Past : Type 0 where
  pub taken : List TakenName
  pub constants : List TakenConstant

abbrev pub nothing_before : Past
nothing_before = record { taken = []; constants = [] }

-- the constants of one type name, each name with its place
abbrev pub constants_of_type : List TakenConstant → List ℕ → Names
constants_of_type cs type_name = map (λ c. (c.name, c.place)) (filter (λ c. is_same_name c.type_name type_name) cs)

abbrev pub decl_checks : Past → (ℕ → Location) → DeclForm → List Check
decl_checks past place (typename_form n t) = declared_name past.taken place n ∷ type_checks (after past.taken place n) true (place n.start) t
decl_checks past place (module_form n items) = declared_name past.taken place n ∷ items_checks (after past.taken place n) [] items
decl_checks past place (constant_form ty n value own) =
    constant_checks (denotes_before past.taken ty.name) (found (constants_of_type past.constants ty.name) n.name) place ty n value

-- the definition of a declaration with these comments; a constant has its own
abbrev pub decl_tree : Past → (ℕ → Location) → List (List ℕ) → DeclForm → DefinitionTree
decl_tree past place comments (typename_form n t) = typename_of n.name (tree_meant (after past.taken place n) t) (documentation_of comments)
decl_tree past place comments (module_form n items) = module_of (record {
  name = n.name;
  comment = documentation_of comments;
  items = map (item_meant (after past.taken place n)) items;
})
decl_tree past place comments (constant_form ty n value own) = constant_of (record { ty = ty.name; name = n.name; value = value; docs = documentation_of own })

abbrev pub with_taken : Past → (ℕ → Location) → Name → DeclarationOutcome → Past
with_taken past place n outcome = record past { taken = past.taken ++ record { name = n.name; place = place n.start; outcome = outcome } ∷ [] }

-- what stands before the next declaration: after one that was accepted,
abbrev pub accepted : Past → (ℕ → Location) → List (List ℕ) → DeclForm → Past
accepted past place comments (typename_form n t) =
    with_taken past place n (made_type (named n.name (tree_meant (after past.taken place n) t) (documentation_of comments)))
accepted past place comments (module_form n items) = with_taken past place n made_module
accepted past place comments (constant_form ty n value own) = record past {
  constants = past.constants ++ record { type_name = ty.name; name = n.name; place = place n.start } ∷ [];
}

-- and after one that was refused
abbrev pub rejected : Past → (ℕ → Location) → DeclForm → Past
rejected past place (typename_form n t) = with_taken past place n refused
rejected past place (module_form n items) = with_taken past place n refused
rejected past place (constant_form ty n value own) = past
