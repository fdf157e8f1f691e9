-- Lists copied item by item say the same.
use Rattle.std.specs.Prelude.{◌≡◌, List, map}
use Rattle.std.specs.List.{AllZip}
use Rattle.witx_ast.proofs.Copied.{copied}
use Rattle.witx_compat.specs.Views.{mapped_view, unknown_view, function_view}
use Rattle.witx_compat.specs.declared.conversion.ParamPolyfill.{ParamPolyfill}
use Rattle.witx_compat.specs.declared.conversion.ParamUnknown.{ParamUnknown}
use Rattle.witx_compat.specs.declared.functions.FuncPolyfill.{FuncPolyfill}

pub copied-mapped : (xs ys : List ParamPolyfill) → AllZip (λ a c. mapped_view c ≡ mapped_view a) xs ys → map mapped_view ys ≡ map mapped_view xs
copied-mapped xs ys h = copied mapped_view xs ys h

pub copied-unknown : (xs ys : List ParamUnknown) → AllZip (λ a c. unknown_view c ≡ unknown_view a) xs ys → map unknown_view ys ≡ map unknown_view xs
copied-unknown xs ys h = copied unknown_view xs ys h

pub copied-functions : (xs ys : List FuncPolyfill) → AllZip (λ a c. function_view c ≡ function_view a) xs ys → map function_view ys ≡ map function_view xs
copied-functions xs ys h = copied function_view xs ys h

pub ruleset copy_rules = (copied-mapped, copied-unknown, copied-functions)
