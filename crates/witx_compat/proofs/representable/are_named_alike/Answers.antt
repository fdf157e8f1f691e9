use Rattle.std.proofs.Common.{arith, ◌∙◌, sym}
use Rattle.witx_compat.proofs.Heads.{other-count, name-same, name-other}
use Rattle.witx_compat.proofs.representable.are_named_alike.Goals as goal

pub returns-then-members-by : goal.returns-then-members-by
returns-then-members-by c = other-count c.args.members.now c.args.by.now c.if-members-by.true

pub returns-then-not-is_named_alike : goal.returns-then-not-is_named_alike
returns-then-not-is_named_alike c =
    name-other c.args.members.now c.args.by.now c.loop-i.i c.index-members-i.result c.index-by-i.result _ c.loop-i-test.true (omega (arith, c.loop-i-test.true, c.if-members-by.false)) c.index-members-i.is c.index-by-i.is (sym c.is_named_alike.ensures ∙ c.if-not-is_named_alike.true) c.loop-i.invariant.same

pub loop-i-preserved : goal.loop-i-preserved
loop-i-preserved c = record {
  same = name-same c.args.members.now c.args.by.now c.loop-i.i c.index-members-i.result c.index-by-i.result _ c.loop-i-test.true (omega (arith, c.loop-i-test.true, c.if-members-by.false)) c.index-members-i.is c.index-by-i.is (sym c.is_named_alike.ensures ∙ c.if-not-is_named_alike.false) c.loop-i.invariant.same;
}
