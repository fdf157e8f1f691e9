use Rattle.std.proofs.Common.{◌≡◌, ◌&&◌}
use Rattle.witx_symbols.specs.Symbols.{Source}
use Rattle.witx_symbols.specs.Wholes.{comes_from}
use Rattle.witx_symbols.proofs.OriginLemmas.{parts_same}
use Rattle.witx_symbols.proofs.wholes.+origin.Given as goal

abbrev pub invariant-origin_of_parts-loop-i : goal.invariant-origin_of_parts-loop-i
invariant-origin_of_parts-loop-i l = (z : Source) → parts_same l.parts l.members z 0 ≡ comes_from l.common z && parts_same l.parts l.members z l.i
