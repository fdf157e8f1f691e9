use Rattle.std.proofs.Common.{◌≡◌, drop, map}
use Rattle.witx_ast.specs.Definitions.{definition_tree}
use Rattle.witx_markdown.specs.Constants.{unknown_type}
use Rattle.witx_markdown.proofs.ConstantTypes.{unknown_in}
use Rattle.witx_markdown.proofs.constant_types.unknown_constant_type.Given as goal

abbrev pub invariant-loop-definition : goal.invariant-loop-definition
invariant-loop-definition l = unknown_in (map definition_tree l.document.definitions) (map definition_tree (drop l.definition-index l.definition-items)) ≡ unknown_type (map definition_tree l.document.definitions)
