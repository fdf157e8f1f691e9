use Rattle.std.proofs.Common.{◌≤◌, ◌-◌, ◌+◌, ◌/◌, Some}
use Rattle.witx_bytes.specs.Bytes.{held, Filled, HasBlocks}
use Rattle.witx_bytes.proofs.memory.ByteMemory.fill.Given as goal

abbrev pub invariant-loop-x : goal.invariant-loop-x
invariant-loop-x l = record {
  filled : Filled l.at l.x (Some 0) (held l.initial.self) (held l.self);
  blocks : HasBlocks (l.at / 256) ((l.end + 255) / 256) l.self;
  lower : l.at ≤ l.x;
  upper : l.x ≤ l.end;
}

abbrev pub decreases-loop-x : goal.decreases-loop-x
decreases-loop-x l = l.end - l.x
