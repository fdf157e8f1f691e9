use Rattle.std.proofs.Common.{map, arith}
use Rattle.std.proofs.lemmas.Grind.{common_steps}
use Rattle.witx_compat.specs.Polyfills.{first_called}
use Rattle.witx_compat.specs.Halves.{target_of}
use Rattle.witx_compat.specs.Views.{mapped_view}
use Rattle.witx_compat.proofs.Tables.{next-target}
use Rattle.witx_compat.proofs.table.table_of_targets.Goals as goal

pub loop-one-preserved : goal.loop-one-preserved
loop-one-preserved c = record {
  first = next-target c.args.part _ _ c.one-item.result _ _ _ (λ q. first_called q (map (target_of c.args.part) (map mapped_view c.args.mapped.now)))
      c.loop-one-test.true c.one-item.is c.target.ensures c.in_ok-put_first.ensures c.loop-one.invariant.first;
}

pub returns : goal.returns
returns c = grind (arith, common_steps)
