use Rattle.std.proofs.Common.{◌-◌, sym, ◌∙◌, arith}
use Rattle.witx_bytes.specs.Bytes.{held}
use Rattle.witx_bytes.proofs.Ranges.{stand_then}
use Rattle.witx_bytes.proofs.memory.ByteMemory.all_stand.Goals as goal

pub loop-x-preserved : goal.loop-x-preserved
loop-x-preserved c = record {
  so_far = stand_then c.args.wanted c.args.at c.loop-x.x c.part_end-stop.result (c.part_end-stop.result - c.loop-x.x) (held c.args.self.now)
      c.loop-x.invariant.so_far (sym c.part_stands.ensures ∙ c.if-not-part_stands.false) (omega arith);
  lower = omega arith;
  upper = omega arith;
}
