use Rattle.witx_values.proofs.Held.{span_at}
use Rattle.witx_values.proofs.marks.TextTokens.span.Goals as goal

pub returns : goal.returns
returns g c ls h = span_at c.args.self.now ls h c.args.at c.index.result.now c.requires c.index.ensures
