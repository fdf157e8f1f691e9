use Rattle.std.proofs.Common.{◌≡◌, ◌+◌, drop}
use Rattle.witx_extent.specs.Waiting.{waiting_extent, members_extent}
use Rattle.witx_extent.proofs.parts.put_members.Given as goal

abbrev pub invariant-loop-member : goal.invariant-loop-member
invariant-loop-member l = waiting_extent l.waiting.items + members_extent (drop l.member-index l.members) ≡ waiting_extent l.initial.waiting.items + members_extent l.members
