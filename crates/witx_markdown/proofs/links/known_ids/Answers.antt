use Rattle.std.proofs.Common.{sym, arith}
use Rattle.std.proofs.lemmas.Grind.{common_steps}
use Rattle.witx_markdown.proofs.Ids.{next-id}
use Rattle.witx_markdown.proofs.links.known_ids.Goals as goal

pub loop-content-preserved : goal.loop-content-preserved
loop-content-preserved c = λ q.
    next-id c.args.contents.now c.loop-content.content-index c.content-item.result c.loop-content.known c.insert.new.self c.in-Some.id.now q _
    c.loop-content-test.true c.content-item.is (sym c.in-Some.ensures) (rw c.in_ok-new.ensures at (c.in_ok-insert.ensures.found q)) (c.loop-content.invariant q)

pub loop-content-preserved-in_default : goal.loop-content-preserved-in_default
loop-content-preserved-in_default c = grind (arith, common_steps)

pub returns : goal.returns
returns c = grind (arith, common_steps)
