use Rattle.std.proofs.Common.{◌≡◌, ◌++◌, drop}
use Rattle.witx_invoke.proofs.copies.copy_flags.Given as goal

abbrev pub invariant-loop-flag : goal.invariant-loop-flag
invariant-loop-flag l = l.made ++ drop l.flag-index l.flags ≡ l.flags
