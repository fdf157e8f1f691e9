use Rattle.std.proofs.Common.{◌≡◌, ◌++◌, drop, map}
use Rattle.witx_ast.specs.Views.{tree_of}
use Rattle.witx_instructions.specs.Views.{param_types}
use Rattle.witx_traces.proofs.event_texts.types_of.Given as goal

abbrev pub invariant-loop-param : goal.invariant-loop-param
invariant-loop-param l = map tree_of l.types ++ param_types (drop l.param-index l.params) ≡ param_types l.params
