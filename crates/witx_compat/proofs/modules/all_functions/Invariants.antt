use Rattle.std.proofs.Common.{◌≡◌, drop, map}
use Rattle.witx_ast.specs.Items.{item_tree, funcs_of}
use Rattle.witx_ast.specs.Definitions.{module_tree}
use Rattle.witx_compat.specs.Polyfills.{all_or_refusal, function_answer}
use Rattle.witx_compat.specs.Gathered.{before}
use Rattle.witx_compat.specs.Views.{function_view}
use Rattle.witx_compat.proofs.modules.all_functions.Given as goal

abbrev pub invariant-loop-item : goal.invariant-loop-item
invariant-loop-item l = record {
  answer : before (map function_view l.made) (all_or_refusal (function_answer (module_tree l.new)) (funcs_of (map item_tree (drop l.item-index l.items))))
      ≡ all_or_refusal (function_answer (module_tree l.new)) (funcs_of (map item_tree l.items));
}
