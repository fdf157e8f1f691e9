use Rattle.witx_extent.proofs.Counting.{one-more}
use Rattle.witx_extent.proofs.parts.put_one.Goals as goal

pub returns : goal.returns
returns c = one-more c.args.waiting.now.items c.push.new.self.items _ c.in_ok-push.ensures.items
