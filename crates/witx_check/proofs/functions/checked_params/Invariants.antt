use Rattle.std.proofs.Common.{◌≡◌, ℕ, ◌++◌, drop, map, List}
use Rattle.witx_base.specs.Found.{found}
use Rattle.witx_ast.specs.Functions.{param_field}
use Rattle.witx_scope.specs.Faults.{first_fault}
use Rattle.witx_scope.specs.Checks.{field_checks}
use Rattle.witx_scope.specs.Trees.{fields_meant}
use Rattle.witx_scope.specs.Functions.{fields_scope}
use Rattle.witx_syntax_tree.specs.Views.{fields_view}
use Rattle.witx_scope.specs.Senses.{here_of}
use Rattle.witx_check.proofs.functions.checked_params.Given as goal

abbrev pub invariant-loop-field : goal.invariant-loop-field
invariant-loop-field l = record {
  checks : first_fault (field_checks (here_of l.scope) l.names (fields_view (drop l.field-index l.fields))) ≡ first_fault (field_checks (here_of l.scope) l.fn.names (fields_view l.fields));
  parts : map param_field l.params ++ fields_meant (here_of l.scope) (fields_view (drop l.field-index l.fields)) ≡ fields_meant (here_of l.scope) (fields_view l.fields);
  scope : (q : List ℕ) → found (fields_scope l.names (fields_view (drop l.field-index l.fields))) q ≡ found (fields_scope l.fn.names (fields_view l.fields)) q;
}
