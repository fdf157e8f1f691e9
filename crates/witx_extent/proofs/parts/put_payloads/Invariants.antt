use Rattle.std.proofs.Common.{◌≡◌, ◌+◌, drop}
use Rattle.witx_extent.specs.Waiting.{waiting_extent, payloads_extent}
use Rattle.witx_extent.proofs.parts.put_payloads.Given as goal

abbrev pub invariant-loop-case : goal.invariant-loop-case
invariant-loop-case l = waiting_extent l.waiting.items + payloads_extent (drop l.case-index l.cases) ≡ waiting_extent l.initial.waiting.items + payloads_extent l.cases
