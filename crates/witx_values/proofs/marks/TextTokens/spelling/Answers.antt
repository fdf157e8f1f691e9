use Rattle.witx_values.proofs.Held.{token_span, spelled_at}
use Rattle.witx_values.proofs.marks.TextTokens.spelling.Goals as goal

pub slice_at-requires : goal.slice_at-requires
slice_at-requires g c =
    let r = c.requires.tokens in
    token_span c.args.self.now r.0 r.1 c.args.at c.span.result c.requires.inside (c.span.ensures r.0 r.1)

pub returns : goal.returns
returns g c ls h = spelled_at c.args.self.now ls h c.args.at c.span.result c.slice_at.result.now c.requires.inside (c.span.ensures ls h) c.slice_at.ensures
