use Rattle.std.proofs.Common.{refl}
use Rattle.witx_markdown.proofs.Dotted.{replaced-dotted}
use Rattle.witx_markdown.proofs.links.with_dots.Goals as goal

pub returns : goal.returns
returns c = replaced-dotted c.in_ok-replace.ensures.ok.0 _ c.args.text.now _ refl c.in_ok-replace.ensures.ok.1
