use Rattle.witx_syntax_tree.specs.Views.{noted_decl}
use Rattle.witx_scope.specs.Senses.{here_of}
use Rattle.witx_check.proofs.ModuleItems.{items-next, meant-next, items-fit-next, named-next}
use Rattle.witx_ast.specs.Items.{item_tree}
use Rattle.witx_check.proofs.modules.checked_items.Goals as goal

pub loop-decl-preserved : goal.loop-decl-preserved
loop-decl-preserved c = record {
  checks = items-next (here_of c.args.scope.now) c.args.decls.now c.loop-decl.decl-index c.decl-item.result c.loop-decl.marks c.checked_item.new.marks _ c.loop-decl-test.true c.decl-item.is c.loop-decl.invariant.checks c.in_ok-item.ensures.ok c.in_ok-item.ensures.kept;
  parts = meant-next (here_of c.args.scope.now) c.args.decls.now c.loop-decl.decl-index c.decl-item.result c.loop-decl.contents.definitions c.add_item.new.contents.definitions c.in_ok-item.item _ c.loop-decl-test.true c.decl-item.is c.loop-decl.invariant.parts c.in_ok-item.ensures.tree c.in_ok-add_item.ensures.definitions;
  fits = items-fit-next (here_of c.args.scope.now) c.loop-decl.contents.definitions (noted_decl c.decl-item.result) c.in_ok-item.item c.add_item.new.contents.definitions c.loop-decl.marks c.loop-decl.contents.entries c.add_item.new.contents.entries c.loop-decl.invariant.fits c.loop-decl.invariant.names c.in_ok-item.ensures.ok c.in_ok-item.ensures.tree c.in_ok-add_item.ensures.definitions c.in_ok-add_item.ensures.entries;
  names = named-next (here_of c.args.scope.now) (noted_decl c.decl-item.result) (item_tree c.in_ok-item.item) c.loop-decl.marks c.checked_item.new.marks c.loop-decl.contents.entries c.add_item.new.contents.entries c.in_ok-item.ensures.tree c.loop-decl.invariant.names c.in_ok-item.ensures.kept c.in_ok-add_item.ensures.entries;
}
