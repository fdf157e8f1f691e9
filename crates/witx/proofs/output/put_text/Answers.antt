use Rattle.std.proofs.Common.{◌≡◌, ◌∙◌, ap, length, drop, arith, length-drop}
use Rattle.witx_commands.proofs.WrittenWhole.{wrote-more}
use Rattle.witx.proofs.output.put_text.Goals as goal

pub loop-at-preserved : goal.loop-at-preserved
loop-at-preserved g c = let e = c.in_ok-at.ensures in record {
  wrote = wrote-more _ _ _ _ _ _ c.loop-at.invariant.wrote (rw c.from.ensures at e.appended);
  within = let k : length c.from.result.now ≡ length (drop c.loop-at.at c.as_bytes-bytes.result.now) = ap length c.from.ensures in omega (arith, k, length-drop c.loop-at.at c.as_bytes-bytes.result.now, e.bound);
  no_fault = e.no_fault ∙ c.loop-at.invariant.no_fault;
  untouched = λ z. absurd (let t = c.loop-at-test.true in let k = ap length z in omega (arith, t, k));
}
