use Rattle.std.proofs.Common.{◌≡◌, vec_len}
use Rattle.witx_tests_types.proofs.tests.abi.push_numbers.Given as goal

abbrev pub invariant-loop-i : goal.invariant-loop-i
invariant-loop-i l = vec_len l.results ≡ l.i
