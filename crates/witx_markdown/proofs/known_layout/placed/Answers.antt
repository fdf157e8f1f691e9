use Rattle.std.proofs.Common.{arith, refl}
use Rattle.std.proofs.lemmas.List.{take_more, map-append}
use Rattle.witx_layout.proofs.Onward.{next-end, next-align}
use Rattle.witx_markdown.proofs.NameSteps.{members-left, next-placed}
use Rattle.witx_markdown.proofs.known_layout.placed.Goals as goal

pub loop-member-preserved : goal.loop-member-preserved
loop-member-preserved c = record {
  some = omega (arith, c.loop-member.invariant.some, c.in_ok-next.ensures.2);
  members = rw (c.in_ok-push.ensures, map-append, c.loop-member.invariant.members, take_more c.args.members.now c.loop-member.member-index c.member-item.result c.loop-member-test.true, ← c.member-item.is) refl;
  begins = rw (c.in_ok-push.ensures, map-append, c.in_ok-next.ensures.0, c.in_ok-next.ensures.1, c.in_ok-part.ensures.0, c.in_ok-part.ensures.1)
      (next-placed c.args.members.now c.loop-member.member-index c.member-item.result c.loop-member.reached.size _ _ c.loop-member-test.true c.member-item.is c.loop-member.invariant.begins);
  ends = rw (c.in_ok-next.ensures.1, c.in_ok-part.ensures.0, c.in_ok-part.ensures.1)
      (next-end c.args.members.now c.loop-member.member-index c.member-item.result c.loop-member.reached.size _ c.loop-member-test.true c.member-item.is c.loop-member.invariant.ends);
  aligned = rw (c.in_ok-next.ensures.2, c.in_ok-part.ensures.1)
      (next-align c.args.members.now c.loop-member.member-index c.member-item.result c.loop-member.reached.align _ c.loop-member-test.true c.member-item.is c.loop-member.invariant.aligned);
  known = members-left c.args.names c.args.members.now c.loop-member.member-index c.member-item.result c.loop-member-test.true c.member-item.is c.loop-member.invariant.known;
}
