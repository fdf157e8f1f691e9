-- What values of the program say.
use Rattle.std.specs.Prelude.{◌≡◌, map, Result, Err}
use Rattle.witx_ast.specs.Views.{tree_of}
use Rattle.witx_ast.specs.Functions.{param_field, func_tree}
use Rattle.witx_ast.specs.Definitions.{module_tree}
use Rattle.witx_ast.specs.declared.function.InterfaceFuncParam.{InterfaceFuncParam}
use Rattle.witx_compat.specs.declared.conversion.TypePolyfill.{TypePolyfill}
use Rattle.witx_compat.specs.declared.conversion.ParamPolyfill.{ParamPolyfill}
use Rattle.witx_compat.specs.declared.conversion.ParamUnknown.{ParamUnknown}
use Rattle.witx_compat.specs.declared.functions.FuncPolyfill.{FuncPolyfill}
use Rattle.witx_compat.specs.declared.modules.ModulePolyfill.{ModulePolyfill}
use Rattle.witx_compat.specs.declared.error.PolyfillError.{PolyfillError}
use Rattle.witx_compat.specs.Conversions.{Conversion, new_to_old, old_to_new, Mapped, Unknown, of_old, of_new}
use Rattle.witx_compat.specs.Polyfills.{MappedFunction, MappedModule, PolyfillRefusal, no_module, no_function}

abbrev pub conversion_view : TypePolyfill → Conversion
conversion_view (TypePolyfill.NewToOld new old) = new_to_old (tree_of new) (tree_of old)
conversion_view (TypePolyfill.OldToNew old new) = old_to_new (tree_of old) (tree_of new)

abbrev pub mapped_view : ParamPolyfill → Mapped
mapped_view p = record { new = param_field p.new; old = param_field p.old; conversion = conversion_view p.type_polyfill }

abbrev pub unknown_view : ParamUnknown → Unknown
unknown_view (ParamUnknown.Old p) = of_old (param_field p)
unknown_view (ParamUnknown.New p) = of_new (param_field p)

abbrev pub unknown_param : ParamUnknown → InterfaceFuncParam
unknown_param (ParamUnknown.Old p) = p
unknown_param (ParamUnknown.New p) = p

abbrev pub function_view : FuncPolyfill → MappedFunction
function_view f = record {
  new = func_tree f.new.value;
  old = func_tree f.old.value;
  params = map mapped_view f.mapped_params;
  unknown_params = map unknown_view f.unknown_params;
  results = map mapped_view f.mapped_results;
  unknown_results = map unknown_view f.unknown_results;
}

abbrev pub module_view : ModulePolyfill → MappedModule
module_view m = record { new = module_tree m.new.value; old = module_tree m.old.value; functions = map function_view m.funcs }

-- a copied module of a mapping shares both modules, and its functions say the same
abbrev pub IsModuleCopy : ModulePolyfill → ModulePolyfill → Type 0
IsModuleCopy p c = (c.new.value ≡ p.new.value) × ((c.old.value ≡ p.old.value) × (map function_view c.funcs ≡ map function_view p.funcs))

-- an error is this refusal; want of memory may come for any answer
abbrev pub IsPolyfillRefusal : {A : Type 0} → Result A PolyfillRefusal → PolyfillError → Type 0
IsPolyfillRefusal answer (PolyfillError.ModuleNotPresent name) = answer ≡ Err (no_module name)
IsPolyfillRefusal answer (PolyfillError.FuncNotPresent owner name) = answer ≡ Err (no_function owner name)
IsPolyfillRefusal answer PolyfillError.OutOfMemory = Unit {0}
