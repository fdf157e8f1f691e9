use Rattle.witx_compat.specs.Halves.{pair_of}
use Rattle.witx_compat.proofs.Mapping.{next-mapped, all-mapped}
use Rattle.witx_compat.proofs.halves.all_mapped.Goals as goal

pub loop-source-preserved : goal.loop-source-preserved
loop-source-preserved c = record {
  mapped = λ targets t. next-mapped (pair_of c.args.part) targets c.args.by_name.now _ _ c.source-item.result _ _ _ t c.loop-source-test.true c.source-item.is c.in_ok-put_mapped.ensures (c.loop-source.invariant.mapped targets t);
}

pub returns : goal.returns
returns c = λ targets t. all-mapped (pair_of c.args.part) targets _ _ _ _ c.loop-source-test.false (c.loop-source.invariant.mapped targets t)
