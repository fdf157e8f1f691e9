use Rattle.std.proofs.lemmas.Grind.{common_steps}
use Rattle.std.proofs.Common.{arith, sym}
use Rattle.std.proofs.lemmas.Bool.Decides.{nat_tests}
use Rattle.witx_lex.proofs.Blocks.{block_in, block_out, block_plain, block_none}
use Rattle.witx_lex.proofs.comment.block_len.Goals as goal

pub loop-at-preserved-then-bytes-at-eq59 : goal.loop-at-preserved-then-bytes-at-eq59
loop-at-preserved-then-bytes-at-eq59 c = (block_in c.loop-at.depth c.loop-at.at c.args.bytes.now _ c.loop-at-test.true c.if-bytes-at-eq40.true c.if-bytes-at-eq59.true c.loop-at.invariant.0, omega arith, omega (arith, c.loop-at.invariant.2))

pub loop-at-preserved-then-bytes-at-eq41 : goal.loop-at-preserved-then-bytes-at-eq41
loop-at-preserved-then-bytes-at-eq41 c = (block_out c.loop-at.depth c.loop-at.at c.args.bytes.now _ c.loop-at-test.true c.if-bytes-at-eq59-2.true c.if-bytes-at-eq41.true (omega arith) c.loop-at.invariant.0, omega arith, omega (arith, c.loop-at.invariant.2))

pub loop-at-preserved : goal.loop-at-preserved
loop-at-preserved c = (block_plain c.loop-at.depth c.loop-at.at c.args.bytes.now _ c.loop-at-test.true (grind (arith, nat_tests)) (grind (arith, nat_tests)) c.loop-at.invariant.0, omega arith, omega (arith, c.loop-at.invariant.2))

pub returns : goal.returns
returns c = sym (block_none c.loop-at.depth c.loop-at.at c.args.bytes.now _ c.loop-at-test.false c.loop-at.invariant.0)

pub returns-then-depth-eq0 : goal.returns-then-depth-eq0
returns-then-depth-eq0 c = grind (arith, common_steps)
