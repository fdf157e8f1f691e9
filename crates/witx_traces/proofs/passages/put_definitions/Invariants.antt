use Rattle.std.proofs.Common.{◌≡◌, drop, map}
use Rattle.witx_ast.specs.Definitions.{definition_tree}
use Rattle.witx_traces.specs.Passages.{draft_of, put_definitions}
use Rattle.witx_traces.specs.Traces.{offered}
use Rattle.witx_traces.proofs.passages.put_definitions.Given as goal

abbrev pub invariant-loop-definition : goal.invariant-loop-definition
invariant-loop-definition l =
    put_definitions (map definition_tree (drop l.definition-index l.definitions)) (map offered l.functions) l.layouts (draft_of l.draft)
    ≡ put_definitions (map definition_tree l.definitions) (map offered l.initial.functions) l.initial.layouts (draft_of l.initial.draft)
