use Rattle.std.proofs.Common.{◌≡◌, drop, map}
use Rattle.witx_ast.specs.Definitions.{definition_tree}
use Rattle.witx_markdown.specs.Forests.{sprouted}
use Rattle.witx_docs.specs.Parts.{module_nodes}
use Rattle.witx_docs.specs.LaidOut.{too_large, modules_laid_out}
use Rattle.witx_docs.proofs.DocumentParts.{LeftKnown}
use Rattle.witx_docs.proofs.documents.put_modules.Given as goal

abbrev pub invariant-loop-definition : goal.invariant-loop-definition
invariant-loop-definition l = record {
  nodes : sprouted l.branch l.parent (module_nodes l.heading (map definition_tree (drop l.definition-index l.definitions)))
      ≡ sprouted l.initial.branch l.parent (module_nodes l.heading (map definition_tree l.definitions));
  numbers : too_large (modules_laid_out (map definition_tree (drop l.definition-index l.definitions))) ≡ too_large (modules_laid_out (map definition_tree l.definitions));
  known : LeftKnown l.names l.definitions l.definition-index;
}
