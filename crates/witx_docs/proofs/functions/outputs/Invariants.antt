use Rattle.std.proofs.Common.{◌≡◌, ◌++◌, drop, map}
use Rattle.witx_ast.specs.Functions.{param_field}
use Rattle.witx_docs.specs.Parts.{outputs_of}
use Rattle.witx_docs.proofs.functions.outputs.Given as goal

abbrev pub invariant-loop-result : goal.invariant-loop-result
invariant-loop-result l = l.outputs ++ outputs_of (map param_field (drop l.result-index l.results)) ≡ outputs_of (map param_field l.results)
