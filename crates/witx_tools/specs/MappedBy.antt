-- What calls hand on of mapped functions: their lists are those that the two functions give.
use Rattle.std.specs.Prelude.{◌≡◌, All}
use Rattle.witx_ast.specs.Functions.{func_tree}
use Rattle.witx_compat.specs.Polyfills.{function_mapped}
use Rattle.witx_compat.specs.Views.{function_view}
use Rattle.witx_compat.specs.declared.functions.FuncPolyfill.{FuncPolyfill}
use Rattle.witx_compat.specs.declared.modules.ModulePolyfill.{ModulePolyfill}

abbrev pub IsMapped : FuncPolyfill → Type 0
IsMapped f = function_view f ≡ function_mapped (func_tree f.new.value) (func_tree f.old.value)

-- of each function of a module
abbrev pub AreMapped : ModulePolyfill → Type 0
AreMapped m = All IsMapped m.funcs
