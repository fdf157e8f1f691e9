use Rattle.std.proofs.Common.{◌≡◌, drop}
use Rattle.witx_ast.specs.Views.{cases_plain}
use Rattle.witx_compat.specs.Heads.{all_placed}
use Rattle.witx_compat.proofs.places.all_at_places.Given as goal

abbrev pub invariant-loop-i : goal.invariant-loop-i
invariant-loop-i l = record {
  placed : all_placed l.i (cases_plain (drop l.i l.cases)) (cases_plain l.by) ≡ all_placed 0 (cases_plain l.cases) (cases_plain l.by);
}
