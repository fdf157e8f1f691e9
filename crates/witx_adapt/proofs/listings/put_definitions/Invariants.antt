use Rattle.std.proofs.Common.{◌≡◌, ◌++◌, drop, map, string_bytes}
use Rattle.witx_ast.specs.Definitions.{definition_tree}
use Rattle.witx_adapt.specs.Entries.{lowered}
use Rattle.witx_adapt.specs.Listings.{listed_definition_lines}
use Rattle.witx_adapt.proofs.listings.put_definitions.Given as goal

abbrev pub invariant-loop-definition : goal.invariant-loop-definition
invariant-loop-definition l =
    string_bytes l.text ++ listed_definition_lines (map definition_tree (drop l.definition-index l.definitions)) (map lowered l.functions) l.layouts
    ≡ string_bytes l.initial.text ++ listed_definition_lines (map definition_tree l.definitions) (map lowered l.initial.functions) l.initial.layouts
