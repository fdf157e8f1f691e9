use Rattle.std.proofs.Common.{length}
use Rattle.witx_traces.proofs.Spelling.{SpelledOn}
use Rattle.witx_traces.proofs.quoted_names.spelled_bytes.Given as goal

abbrev pub invariant-loop-byte : goal.invariant-loop-byte
invariant-loop-byte l = SpelledOn l.text l.bytes.items l.rest

abbrev pub decreases-loop-byte : goal.decreases-loop-byte
decreases-loop-byte l = length l.rest
