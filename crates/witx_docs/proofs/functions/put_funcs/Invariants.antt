use Rattle.std.proofs.Common.{◌≡◌, drop, map}
use Rattle.witx_ast.specs.Items.{item_tree}
use Rattle.witx_markdown.specs.Forests.{sprouted}
use Rattle.witx_docs.specs.Parts.{func_nodes}
use Rattle.witx_docs.specs.LaidOut.{too_large, items_laid_out}
use Rattle.witx_markdown.specs.NamesKnown.{NamesKnown, InItems}
use Rattle.witx_docs.proofs.functions.put_funcs.Given as goal

abbrev pub invariant-loop-definition : goal.invariant-loop-definition
invariant-loop-definition l = record {
  nodes : sprouted l.branch l.parent (func_nodes l.heading (map item_tree (drop l.definition-index l.definitions)))
      ≡ sprouted l.initial.branch l.parent (func_nodes l.heading (map item_tree l.definitions));
  numbers : too_large (items_laid_out (map item_tree (drop l.definition-index l.definitions))) ≡ too_large (items_laid_out (map item_tree l.definitions));
  known : InItems (NamesKnown l.names) (map item_tree (drop l.definition-index l.definitions));
}
