-- What a module defines: imports and functions, each type read as its tree.
use Rattle.std.specs.Prelude.{ℕ, List, map, Option, Some, None}
use Rattle.std.specs.Option.{option_and_then}
use Rattle.std.specs.List.{filter_map}
use Rattle.witx_base.specs.Found.{found}
use Rattle.witx_ast.specs.Functions.{FunctionTree, func_tree}
use Rattle.witx_ast.specs.Entries.{by_name, Fits}
use Rattle.witx_ast.specs.declared.module.ModuleImport.{ModuleImport}
use Rattle.witx_ast.specs.declared.module.ModuleDefinition as definition
use Rattle.witx_ast.specs.declared.module.ModuleDefinition.TheVariants as definition_variant
use Rattle.witx_ast.specs.declared.module.ModuleEntry as entry
use Rattle.witx_ast.specs.declared.module.ModuleEntry.TheVariants as entry_variant

pub data ItemTree : Type 0 where
  import_of : ModuleImport → ItemTree
  func_of : FunctionTree → ItemTree

abbrev pub item_tree : definition.ModuleDefinition → ItemTree
item_tree (definition_variant.Import i) = import_of i.value
item_tree (definition_variant.Func f) = func_of (func_tree f.value)

abbrev pub entry_item : entry.ModuleEntry → ItemTree
entry_item (entry_variant.Import i) = import_of i.value
entry_item (entry_variant.Func f) = func_of (func_tree f.value)

-- each item has a name
abbrev pub item_name : ItemTree → Option (List ℕ)
item_name (import_of i) = Some i.name
item_name (func_of f) = Some f.name

abbrev pub as_import : ItemTree → Option ModuleImport
as_import (import_of i) = Some i
as_import (func_of f) = None

abbrev pub as_func : ItemTree → Option FunctionTree
as_func (import_of i) = None
as_func (func_of f) = Some f

-- the import, and the function, of a name
abbrev pub import_called : List ItemTree → List ℕ → Option ModuleImport
import_called items n = option_and_then as_import (found (by_name item_name items) n)

abbrev pub func_called : List ItemTree → List ℕ → Option FunctionTree
func_called items n = option_and_then as_func (found (by_name item_name items) n)

-- all functions, in order
abbrev pub funcs_of : List ItemTree → List FunctionTree
funcs_of = filter_map as_func

abbrev pub ItemsFit : List definition.ModuleDefinition → List (List ℕ × entry.ModuleEntry) → Type 0
ItemsFit ds es = Fits item_name entry_item (map item_tree ds) es
