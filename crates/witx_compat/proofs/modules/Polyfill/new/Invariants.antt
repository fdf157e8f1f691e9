use Rattle.std.proofs.Common.{◌≡◌, map}
use Rattle.witx_ast.specs.Definitions.{definition_tree}
use Rattle.witx_compat.specs.Polyfills.{all_or_refusal, pair_answer}
use Rattle.witx_compat.specs.Gathered.{before}
use Rattle.witx_compat.specs.Views.{module_view}
use Rattle.witx_compat.proofs.modules.Polyfill.new.Given as goal

abbrev pub invariant-loop-new_name : goal.invariant-loop-new_name
invariant-loop-new_name l = record {
  answer : before (map module_view l.modules) (all_or_refusal (pair_answer (map definition_tree l.new.definitions) (map definition_tree l.old.definitions)) l.new_name-iterator)
      ≡ all_or_refusal (pair_answer (map definition_tree l.new.definitions) (map definition_tree l.old.definitions)) l.initial.new_name-iterator;
}
