use Rattle.std.proofs.Common.{◌≡◌, drop, map}
use Rattle.std.specs.Prelude.{option_map}
use Rattle.witx_ast.specs.Functions.{param_field}
use Rattle.witx_markdown.specs.Forests.{sprouted}
use Rattle.witx_docs.specs.Parts.{param_nodes}
use Rattle.witx_docs.specs.LaidOut.{too_large, params_laid_out}
use Rattle.witx_markdown.specs.NamesKnown.{NamesKnown, InParams}
use Rattle.witx_docs.proofs.functions.put_params.Given as goal

abbrev pub invariant-loop-param : goal.invariant-loop-param
invariant-loop-param l = record {
  nodes : sprouted l.branch l.at.node (param_nodes l.at.heading (option_map (λ id. id.now) l.at.id) (map param_field (drop l.param-index l.params)))
      ≡ sprouted l.initial.branch l.at.node (param_nodes l.at.heading (option_map (λ id. id.now) l.at.id) (map param_field l.params));
  numbers : too_large (params_laid_out (map param_field (drop l.param-index l.params))) ≡ too_large (params_laid_out (map param_field l.params));
  known : InParams (NamesKnown l.names) (map param_field (drop l.param-index l.params));
}
