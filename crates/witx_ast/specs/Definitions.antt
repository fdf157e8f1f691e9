-- What a document defines: typenames, modules and constants, each type read as its tree; and which of them stands under a name.
use Rattle.std.specs.Prelude.{ℕ, List, map, Option, Some, None}
use Rattle.std.specs.Option.{option_and_then}
use Rattle.witx_base.specs.Found.{found}
use Rattle.witx_ast.specs.Tree.{Tree, named}
use Rattle.witx_ast.specs.Views.{tree_of}
use Rattle.witx_ast.specs.Items.{ItemTree, item_tree}
use Rattle.witx_ast.specs.Entries.{by_name, Fits}
use Rattle.witx_ast.specs.declared.module.Module.{Module}
use Rattle.witx_ast.specs.declared.definition.Constant.{Constant}
use Rattle.witx_ast.specs.declared.definition.Definition as definition
use Rattle.witx_ast.specs.declared.definition.Definition.TheVariants as definition_variant
use Rattle.witx_ast.specs.declared.definition.Entry as entry
use Rattle.witx_ast.specs.declared.definition.Entry.TheVariants as entry_variant

pub record ModuleTree : Type 0 where
  pub name : List ℕ
  pub comment : List ℕ
  pub items : List ItemTree

pub data DefinitionTree : Type 0 where
  -- a name, the type that it stands for, and its documentation
  typename_of : List ℕ → Tree → List ℕ → DefinitionTree
  module_of : ModuleTree → DefinitionTree
  constant_of : Constant → DefinitionTree

abbrev pub module_tree : Module → ModuleTree
module_tree m = record { name = m.name; comment = m.docs; items = map item_tree m.contents.definitions }

abbrev pub definition_tree : definition.Definition → DefinitionTree
definition_tree (definition_variant.Typename n) = typename_of n.value.name (tree_of n.value.tref) n.value.docs
definition_tree (definition_variant.Module m) = module_of (module_tree m.value)
definition_tree (definition_variant.Constant c) = constant_of c

abbrev pub entry_tree : entry.Entry → DefinitionTree
entry_tree (entry_variant.Typename n) = typename_of n.value.name (tree_of n.value.tref) n.value.docs
entry_tree (entry_variant.Module m) = module_of (module_tree m.value)

-- the name that a definition introduces
abbrev pub introduced : DefinitionTree → Option (List ℕ)
introduced (typename_of name t docs) = Some name
introduced (module_of m) = Some m.name
introduced (constant_of c) = None

-- a typename, as the named type
abbrev pub as_typename : DefinitionTree → Option Tree
as_typename (typename_of name t docs) = Some (named name t docs)
as_typename (module_of m) = None
as_typename (constant_of c) = None

abbrev pub as_module : DefinitionTree → Option ModuleTree
as_module (typename_of name t docs) = None
as_module (module_of m) = Some m
as_module (constant_of c) = None

-- the typename, and the module, of a name
abbrev pub typename_called : List DefinitionTree → List ℕ → Option Tree
typename_called ds n = option_and_then as_typename (found (by_name introduced ds) n)

abbrev pub module_called : List DefinitionTree → List ℕ → Option ModuleTree
module_called ds n = option_and_then as_module (found (by_name introduced ds) n)

-- a map of entries fits a list of definitions
abbrev pub DefinitionsFit : List definition.Definition → List (List ℕ × entry.Entry) → Type 0
DefinitionsFit ds es = Fits introduced entry_tree (map definition_tree ds) es
