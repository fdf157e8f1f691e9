use Rattle.std.proofs.Common.{◌≡◌, ◌++◌, drop, map, string_bytes}
use Rattle.std.specs.List.{flat_map}
use Rattle.witx_compat.specs.Views.{module_view}
use Rattle.witx_tools.specs.ShimTexts.{module_lines}
use Rattle.witx_tools.proofs.shim_texts.put_modules.Given as goal

abbrev pub invariant-loop-module : goal.invariant-loop-module
invariant-loop-module l =
    string_bytes l.text ++ flat_map module_lines (map module_view (drop l.module-index l.modules)) ≡ string_bytes l.initial.text ++ flat_map module_lines (map module_view l.modules)
