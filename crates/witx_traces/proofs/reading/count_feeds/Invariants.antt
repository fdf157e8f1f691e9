use Rattle.std.proofs.Common.{◌≡◌, ◌+◌, ◌≤◌, drop}
use Rattle.witx_traces.specs.Passages.{feeds}
use Rattle.witx_traces.proofs.reading.count_feeds.Given as goal

abbrev pub invariant-loop-byte : goal.invariant-loop-byte
invariant-loop-byte l = record {
  count : l.count + feeds (drop l.byte-index l.bytes) ≡ feeds l.bytes;
  few : l.count ≤ l.byte-index;
}
