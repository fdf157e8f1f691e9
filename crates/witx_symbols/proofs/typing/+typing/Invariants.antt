use Rattle.std.proofs.Common.{◌≡◌}
use Rattle.witx_symbols.proofs.TypingLemmas.{left_of}
use Rattle.witx_symbols.proofs.typing.+typing.Given as goal

abbrev pub invariant-all_are-loop-i : goal.invariant-all_are-loop-i
invariant-all_are-loop-i l = left_of l.members l.parts l.i ≡ left_of l.members l.parts 0
