-- The conditions on the names in a document's types, as tests that compute.
use Rattle.std.specs.Prelude.{ℕ, List, [], ◌∷◌, ◌++◌, Bool, true, false, not, ◌&&◌, ◌||◌, Option, Some, None}
use Rattle.witx_base.specs.Texts.{same_text}
use Rattle.witx_ast.specs.Tree.{Tree, Fields, Arms, Field, behind}
use Rattle.witx_ast.specs.Same.{same_tree}
use Rattle.witx_ast.specs.Views.{tree_of}
use Rattle.witx_ast.specs.declared.types.TypeRef.{TypeRef}
use Rattle.witx_ast.specs.Items.{ItemTree, import_of, func_of}
use Rattle.witx_ast.specs.Definitions.{DefinitionTree, typename_of, module_of, constant_of, typename_called}

-- there is a name, and it is this text
abbrev pub is_text_of : Option (List ℕ) → List ℕ → Bool
is_text_of None text = false
is_text_of (Some name) text = same_text text name

-- there is a type, and behind its names it is the one behind the names of the other
abbrev pub is_type_behind : Option Tree → Tree → Bool
is_type_behind None t = false
is_type_behind (Some u) t = same_tree (behind u) (behind t)

-- each name in a type is that of a typename among the definitions before, for an equal type
abbrev mutual
  pub names_stand : List DefinitionTree → Tree → Bool
  names_stand before (Tree.named name t docs) = is_type_behind (typename_called before name) t
  names_stand before (Tree.builtin b) = true
  names_stand before Tree.handle = true
  names_stand before (Tree.list_of t) = names_stand before t
  names_stand before (Tree.pointer_to t) = names_stand before t
  names_stand before (Tree.const_pointer_to t) = names_stand before t
  names_stand before (Tree.record_of kind ms) = fields_stand before ms
  names_stand before (Tree.variant_of repr cs) = arms_stand before cs

  pub fields_stand : List DefinitionTree → Fields → Bool
  fields_stand before Fields.no_fields = true
  fields_stand before (Fields.field name t docs ms) = names_stand before t && fields_stand before ms

  pub arms_stand : List DefinitionTree → Arms → Bool
  arms_stand before Arms.no_arms = true
  arms_stand before (Arms.bare name docs cs) = arms_stand before cs
  arms_stand before (Arms.carries name t docs cs) = names_stand before t && arms_stand before cs

-- so in the payload of a case, if it has one
abbrev pub payload_stands : List DefinitionTree → Option TypeRef → Bool
payload_stands before None = true
payload_stands before (Some t) = names_stand before (tree_of t)

-- so in the types of parameters, or of results, and of a module's functions
abbrev pub params_stand : List DefinitionTree → List Field → Bool
params_stand before [] = true
params_stand before (p ∷ ps) = names_stand before p.tree && params_stand before ps

abbrev pub item_stands : List DefinitionTree → ItemTree → Bool
item_stands before (import_of i) = true
item_stands before (func_of f) = params_stand before f.params && params_stand before f.results

abbrev pub items_stand : List DefinitionTree → List ItemTree → Bool
items_stand before [] = true
items_stand before (item ∷ items) = item_stands before item && items_stand before items

-- so in a typename's type, and where functions count too, in all that a module has
abbrev pub definition_stands : Bool → List DefinitionTree → DefinitionTree → Bool
definition_stands functions before (typename_of name t docs) = names_stand before t
definition_stands functions before (module_of m) = not functions || items_stand before m.items
definition_stands functions before (constant_of c) = true

-- of each definition among those that follow, with all that stand before it
abbrev pub each_after : (List DefinitionTree → DefinitionTree → Bool) → List DefinitionTree → List DefinitionTree → Bool
each_after test before [] = true
each_after test before (d ∷ ds) = test before d && each_after test (before ++ d ∷ []) ds
