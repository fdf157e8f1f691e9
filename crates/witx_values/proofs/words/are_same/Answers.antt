use Rattle.std.proofs.Common.{arith}
use Rattle.witx_values.proofs.Same.{same-behind, other-here, same-whole}
use Rattle.witx_values.proofs.words.are_same.Goals as goal

pub returns-then-word-at : goal.returns-then-word-at
returns-then-word-at c = other-here _ _ _ c.requires c.bytes-test.true c.if-word-at.true c.bytes.invariant.1

pub bytes-preserved : goal.bytes-preserved
bytes-preserved c = (omega (arith, c.bytes-test.true), same-behind _ _ _ c.requires c.bytes-test.true c.if-word-at.false c.bytes.invariant.1)

pub returns : goal.returns
returns c = same-whole _ _ _ c.requires c.bytes-test.false c.bytes.invariant.1
