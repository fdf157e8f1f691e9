use Rattle.std.proofs.Common.{map}
use Rattle.witx_ast.specs.Functions.{param_field}
use Rattle.witx_compat.specs.Polyfills.{first_called}
use Rattle.witx_compat.proofs.Tables.{next-param}
use Rattle.witx_compat.proofs.table.table_of.Goals as goal

pub loop-param-preserved : goal.loop-param-preserved
loop-param-preserved c = record {
  first = next-param _ _ c.param-item.result _ _ (λ q. first_called q (map param_field c.args.params.now)) c.loop-param-test.true c.param-item.is c.in_ok-put_first.ensures c.loop-param.invariant.first;
}
