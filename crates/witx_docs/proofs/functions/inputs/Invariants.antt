use Rattle.std.proofs.Common.{◌≡◌, ◌++◌, drop, map}
use Rattle.witx_ast.specs.Functions.{param_field}
use Rattle.witx_docs.specs.Parts.{inputs_of}
use Rattle.witx_docs.proofs.functions.inputs.Given as goal

abbrev pub invariant-loop-param : goal.invariant-loop-param
invariant-loop-param l = l.inputs ++ inputs_of (map param_field (drop l.param-index l.params)) ≡ inputs_of (map param_field l.params)
