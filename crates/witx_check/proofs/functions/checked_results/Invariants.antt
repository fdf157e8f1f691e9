use Rattle.std.proofs.Common.{◌≡◌, ◌++◌, drop, map}
use Rattle.witx_ast.specs.Functions.{param_field}
use Rattle.witx_scope.specs.Faults.{first_fault}
use Rattle.witx_scope.specs.Trees.{fields_meant}
use Rattle.witx_scope.specs.Functions.{result_checks}
use Rattle.witx_syntax_tree.specs.Views.{fields_view}
use Rattle.witx_scope.specs.Senses.{here_of}
use Rattle.witx_check.proofs.functions.checked_results.Given as goal

abbrev pub invariant-loop-field : goal.invariant-loop-field
invariant-loop-field l = record {
  checks : first_fault (result_checks (here_of l.scope) l.names (fields_view (drop l.field-index l.fields))) ≡ first_fault (result_checks (here_of l.scope) l.fn.names (fields_view l.fields));
  parts : map param_field l.results ++ fields_meant (here_of l.scope) (fields_view (drop l.field-index l.fields)) ≡ fields_meant (here_of l.scope) (fields_view l.fields);
}
