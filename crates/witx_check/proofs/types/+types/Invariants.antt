use Rattle.std.proofs.Common.{◌≡◌, ◌++◌, drop, map, []}
use Rattle.std.specs.Map.{keys_of}
use Rattle.witx_ast.specs.Views.{member_field, case_arm}
use Rattle.witx_scope.specs.Faults.{first_fault}
use Rattle.witx_scope.specs.Checks.{field_checks, each_type_checks, union_field_checks, case_checks}
use Rattle.witx_scope.specs.Trees.{fields_meant, types_meant, union_arms, case_arms}
use Rattle.witx_syntax_tree.specs.Views.{fields_view, types_view, union_fields_view, cases_view}
use Rattle.witx_scope.specs.Senses.{here_of}
use Rattle.witx_check.proofs.types.+types.Given as goal

abbrev pub invariant-checked_rows-loop-field : goal.invariant-checked_rows-loop-field
invariant-checked_rows-loop-field l = record {
  checks : first_fault (field_checks (here_of l.scope) l.names (fields_view (drop l.field-index l.fields))) ≡ first_fault (field_checks (here_of l.scope) [] (fields_view l.fields));
  parts : map member_field l.members ++ fields_meant (here_of l.scope) (fields_view (drop l.field-index l.fields)) ≡ fields_meant (here_of l.scope) (fields_view l.fields);
}

abbrev pub invariant-checked_parts-loop-i : goal.invariant-checked_parts-loop-i
invariant-checked_parts-loop-i l = record {
  checks : first_fault (each_type_checks (here_of l.scope) ((here_of l.scope).place l.near) (types_view (drop l.i l.types))) ≡ first_fault (each_type_checks (here_of l.scope) ((here_of l.scope).place l.near) (types_view l.types));
  parts : map member_field l.members ++ types_meant (here_of l.scope) l.i (types_view (drop l.i l.types)) ≡ types_meant (here_of l.scope) 0 (types_view l.types);
}

abbrev pub invariant-union_cases-loop-i : goal.invariant-union_cases-loop-i
invariant-union_cases-loop-i l = record {
  checks : first_fault (union_field_checks (here_of l.scope) ((here_of l.scope).place l.near) (union_fields_view (drop l.i l.types))) ≡ first_fault (union_field_checks (here_of l.scope) ((here_of l.scope).place l.near) (union_fields_view l.types));
  parts : map case_arm l.cases ++ union_arms (here_of l.scope) l.names l.i (union_fields_view (drop l.i l.types)) ≡ union_arms (here_of l.scope) l.names 0 (union_fields_view l.types);
}

abbrev pub invariant-variant_cases-loop-case : goal.invariant-variant_cases-loop-case
invariant-variant_cases-loop-case l = record {
  checks : first_fault (case_checks (here_of l.scope) l.names (keys_of l.seen) (cases_view (drop l.case-index l.cases))) ≡ first_fault (case_checks (here_of l.scope) l.names [] (cases_view l.cases));
  parts : map case_arm l.made ++ case_arms (here_of l.scope) (cases_view (drop l.case-index l.cases)) ≡ case_arms (here_of l.scope) (cases_view l.cases);
}
