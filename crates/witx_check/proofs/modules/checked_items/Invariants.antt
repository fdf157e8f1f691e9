use Rattle.std.proofs.Common.{◌≡◌, ◌++◌, drop, map, []}
use Rattle.witx_ast.specs.Items.{item_tree, ItemsFit}
use Rattle.witx_scope.specs.Faults.{first_fault}
use Rattle.witx_scope.specs.Senses.{here_of}
use Rattle.witx_scope.specs.DeclarationForms.{items_in}
use Rattle.witx_scope.specs.Modules.{items_checks, item_meant}
use Rattle.witx_check.proofs.ModuleItems.{Named}
use Rattle.witx_check.proofs.modules.checked_items.Given as goal

abbrev pub invariant-loop-decl : goal.invariant-loop-decl
invariant-loop-decl l = record {
  checks : first_fault (items_checks (here_of l.scope) l.marks (items_in (drop l.decl-index l.decls))) ≡ first_fault (items_checks (here_of l.scope) [] (items_in l.decls));
  parts : map item_tree l.contents.definitions ++ map (item_meant (here_of l.scope)) (items_in (drop l.decl-index l.decls)) ≡ map (item_meant (here_of l.scope)) (items_in l.decls);
  fits : ItemsFit l.contents.definitions l.contents.entries;
  names : Named l.marks l.contents.entries;
}
