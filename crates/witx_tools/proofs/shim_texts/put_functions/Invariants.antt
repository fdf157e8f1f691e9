use Rattle.std.proofs.Common.{◌≡◌, ◌++◌, drop, map, string_bytes}
use Rattle.std.specs.List.{flat_map}
use Rattle.witx_compat.specs.Views.{function_view}
use Rattle.witx_tools.specs.ShimTexts.{function_lines}
use Rattle.witx_tools.proofs.shim_texts.put_functions.Given as goal

abbrev pub invariant-loop-function : goal.invariant-loop-function
invariant-loop-function l =
    string_bytes l.text ++ flat_map function_lines (map function_view (drop l.function-index l.functions)) ≡ string_bytes l.initial.text ++ flat_map function_lines (map function_view l.functions)
