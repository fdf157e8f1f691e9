use Rattle.std.proofs.Common.{map}
use Rattle.witx_bytes.specs.Seen.{seen}
use Rattle.witx_invoke.proofs.Lines.{LinesLeft}
use Rattle.witx_invoke.proofs.given.read_lines.Given as goal

abbrev pub invariant-loop-i : goal.invariant-loop-i
invariant-loop-i l = LinesLeft (map seen l.values) l.params l.before l.i l.fn.text l.rest
