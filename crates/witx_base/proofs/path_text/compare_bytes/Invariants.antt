use Rattle.std.proofs.Common.{◌≡◌, drop}
use Rattle.std.specs.Cmp.Lexicographic.{slice_cmp}
use Rattle.witx_base.specs.PathTexts.{slash_first}
use Rattle.witx_base.proofs.path_text.compare_bytes.Given as goal

abbrev pub invariant-loop-i : goal.invariant-loop-i
invariant-loop-i l = slice_cmp slash_first (drop l.i l.bytes) (drop l.i l.others) ≡ slice_cmp slash_first l.bytes l.others
