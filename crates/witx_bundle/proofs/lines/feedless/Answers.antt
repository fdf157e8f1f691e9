use Rattle.std.proofs.Common.{rules, sym, ◌∙◌}
use Rattle.witx_bundle.proofs.Feeds.{passed-block}
use Rattle.witx_bundle.proofs.lines.feedless.Goals as goal

pub loop-start-preserved : goal.loop-start-preserved
loop-start-preserved c = (
  search rules,
  passed-block c.args.bytes.now c.loop-start.start 16 c.loop-start.invariant.1 (sym c.has_feed.ensures ∙ c.if-not-has_feed.true),
)
