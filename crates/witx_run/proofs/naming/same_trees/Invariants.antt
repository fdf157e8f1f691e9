use Rattle.std.proofs.Common.{◌≡◌}
use Rattle.witx_run.proofs.PairLemmas.{left_pairs}
use Rattle.witx_run.proofs.NameLemmas.{is_type}
use Rattle.witx_run.proofs.naming.same_trees.Given as goal

abbrev pub invariant-loop-i : goal.invariant-loop-i
invariant-loop-i l = left_pairs is_type l.types l.params l.i ≡ left_pairs is_type l.types l.params 0
