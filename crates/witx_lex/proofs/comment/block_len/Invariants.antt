use Rattle.std.proofs.Common.{◌≡◌, ◌+◌, ◌-◌, ◌≤◌, length, drop}
use Rattle.std.specs.Option.{option_map}
use Rattle.witx_lex.specs.BlockScan.{block_len}
use Rattle.witx_lex.proofs.comment.block_len.Given as goal

abbrev pub invariant-loop-at : goal.invariant-loop-at
invariant-loop-at l = (option_map (λ k. k + l.at) (block_len l.depth (drop l.at l.bytes)) ≡ block_len 0 l.bytes)
    × (l.at ≤ length l.bytes) × (l.depth ≤ l.at)

abbrev pub decreases-loop-at : goal.decreases-loop-at
decreases-loop-at l = length l.bytes - l.at
