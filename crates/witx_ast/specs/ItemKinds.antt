-- What an item of a module holds, where it is of one kind.
use Rattle.std.specs.Prelude.{Option, Some, None}
use Rattle.std.specs.declared.alloc.Global.{Global}
use Rattle.std.specs.declared.rc.Rc.{Rc}
use Rattle.witx_ast.specs.declared.function.InterfaceFunc.{InterfaceFunc}
use Rattle.witx_ast.specs.declared.module.ModuleImport.{ModuleImport}
use Rattle.witx_ast.specs.declared.module.ModuleDefinition as item
use Rattle.witx_ast.specs.declared.module.ModuleDefinition.TheVariants as item_variant

abbrev pub import_kind : item.ModuleDefinition → Option (Rc ModuleImport Global)
import_kind (item_variant.Import i) = Some i
import_kind (item_variant.Func f) = None

abbrev pub func_kind : item.ModuleDefinition → Option (Rc InterfaceFunc Global)
func_kind (item_variant.Import i) = None
func_kind (item_variant.Func f) = Some f
