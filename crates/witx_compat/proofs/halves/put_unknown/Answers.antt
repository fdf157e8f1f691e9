use Rattle.witx_compat.specs.Halves.{unknown_source}
use Rattle.witx_compat.proofs.Mapping.{next-unknown, no-more}
use Rattle.witx_compat.proofs.halves.put_unknown.Goals as goal

pub loop-source-preserved : goal.loop-source-preserved
loop-source-preserved c = record {
  unknown = λ targets t. next-unknown (unknown_source c.args.part) targets c.args.by_name.now _ _ c.source-item.result _ _ _ t c.loop-source-test.true c.source-item.is c.in_ok-put_source.ensures (c.loop-source.invariant.unknown targets t);
}

pub returns : goal.returns
returns c = λ targets t. no-more (unknown_source c.args.part) targets _ _ _ _ c.loop-source-test.false (c.loop-source.invariant.unknown targets t)
