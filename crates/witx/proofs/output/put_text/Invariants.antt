use Rattle.std.proofs.Common.{length, ◌-◌, ◌≡◌, ◌≤◌, [], take}
use Rattle.std.specs.Io.KnownBytes.{Appends}
use Rattle.witx.proofs.output.put_text.Given as goal

abbrev pub invariant-loop-at : goal.invariant-loop-at
invariant-loop-at g l = record {
  wrote : Appends (g.K.Sink.taken l.initial.sink) (g.K.Sink.taken l.sink) (take l.at l.bytes);
  within : l.at ≤ length l.bytes;
  no_fault : g.K.Sink.faults l.sink ≡ g.K.Sink.faults l.initial.sink;
  untouched : l.bytes ≡ [] → l.sink ≡ l.initial.sink;
}

abbrev pub decreases-loop-at : goal.decreases-loop-at
decreases-loop-at g l = length l.bytes - l.at
