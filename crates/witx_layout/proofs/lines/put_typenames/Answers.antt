use Rattle.witx_layout.proofs.Typenames.{next-text, next-fits, next-large}
use Rattle.witx_layout.proofs.lines.put_typenames.Goals as goal

pub loop-definition-preserved : goal.loop-definition-preserved
loop-definition-preserved c =
    let ds = c.args.definitions.now in
    let i = c.loop-definition.definition-index in
    let d = c.definition-item.result in
    let invariant = c.loop-definition.invariant in
    record {
      text = rw (c.in_ok-put_definition.ensures.lines) (next-text ds i d _ _ c.loop-definition-test.true c.definition-item.is invariant.text);
      fits = λ fit. invariant.fits (next-fits ds i d c.loop-definition-test.true c.definition-item.is c.in_ok-put_definition.ensures.fits fit);
      large = λ large. invariant.large (next-large ds i d c.loop-definition-test.true c.definition-item.is large);
    }
