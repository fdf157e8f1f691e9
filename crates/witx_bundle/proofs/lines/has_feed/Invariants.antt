use Rattle.std.proofs.Common.{◌≡◌, drop, ◌==◌}
use Rattle.std.specs.Prelude.{◌||◌}
use Rattle.std.specs.List.{list_any}
use Rattle.witx_bundle.proofs.lines.has_feed.Given as goal

abbrev pub invariant-loop-byte : goal.invariant-loop-byte
invariant-loop-byte l = (l.found || list_any (λ byte. byte == 10) (drop l.byte-index l.bytes)) ≡ list_any (λ byte. byte == 10) l.bytes
