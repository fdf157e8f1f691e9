use Rattle.std.specs.Prelude.{◌≡◌, length}
use Rattle.witx_commands.specs.Mappings.{mapping_of, pairs_of}
use Rattle.witx_commands.proofs.Mapping.{with_pairs}
use Rattle.witx_commands.proofs.polyfill.mapping_of.Given as goal

abbrev pub invariant-loop-rest : goal.invariant-loop-rest
invariant-loop-rest l = with_pairs l.mapping (pairs_of l.rest) ≡ mapping_of l.names

abbrev pub decreases-loop-rest : goal.decreases-loop-rest
decreases-loop-rest l = length l.rest
