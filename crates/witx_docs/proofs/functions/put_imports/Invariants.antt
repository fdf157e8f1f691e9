use Rattle.std.proofs.Common.{◌≡◌, drop, map}
use Rattle.witx_ast.specs.Items.{item_tree}
use Rattle.witx_markdown.specs.Forests.{sprouted}
use Rattle.witx_docs.specs.Parts.{import_nodes}
use Rattle.witx_docs.proofs.functions.put_imports.Given as goal

abbrev pub invariant-loop-definition : goal.invariant-loop-definition
invariant-loop-definition l = sprouted l.branch l.parent (import_nodes l.heading (map item_tree (drop l.definition-index l.definitions)))
    ≡ sprouted l.initial.branch l.parent (import_nodes l.heading (map item_tree l.definitions))
