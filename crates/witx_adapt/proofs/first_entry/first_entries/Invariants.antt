use Rattle.std.proofs.Common.{◌≡◌}
use Rattle.witx_adapt.specs.declared.first_entry.FunctionName.{FunctionName}
use Rattle.witx_adapt.specs.FirstEntries.{first_at}
use Rattle.witx_adapt.proofs.FirstEntries.{first_from}
use Rattle.witx_adapt.proofs.first_entry.first_entries.Given as goal

abbrev pub invariant-loop-number : goal.invariant-loop-number
invariant-loop-number l = (i : FunctionName) → first_at l.first.entries i ≡ first_from l.functions l.number i
