use Rattle.std.proofs.Common.{◌≡◌, ◌++◌, map, drop}
use Rattle.witx_bytes.specs.Seen.{seen}
use Rattle.witx_invoke.proofs.copies.+copies.Given as goal

abbrev pub invariant-copy_values-loop-value : goal.invariant-copy_values-loop-value
invariant-copy_values-loop-value l = map seen l.made ++ map seen (drop l.value-index l.values) ≡ map seen l.values
