use Rattle.std.proofs.Common.{sym}
use Rattle.witx_bundle.proofs.Feeds.{none-behind, some-behind}
use Rattle.witx_bundle.proofs.lines.line_feed.Goals as goal

pub returns-in_err-at : goal.returns-in_err-at
returns-in_err-at c =
    let inside = c.feedless-start.ensures.inside in
    rw c.from_residual.ensures (none-behind _ _ c.feedless-start.result c.as_bytes-bytes.ensures.value inside c.feedless-start.ensures.none (sym c.in_err-at.ensures))

pub returns : goal.returns
returns c = some-behind _ _ c.feedless-start.result c.in_ok-at.at c.as_bytes-bytes.ensures.value c.feedless-start.ensures.inside c.feedless-start.ensures.none (sym c.in_ok-at.ensures)
