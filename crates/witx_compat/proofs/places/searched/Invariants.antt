use Rattle.std.proofs.Common.{◌≡◌, drop}
use Rattle.witx_ast.specs.Views.{cases_plain}
use Rattle.witx_compat.specs.Represents.{last_place}
use Rattle.witx_compat.proofs.Steps.{last_from}
use Rattle.witx_compat.proofs.places.searched.Given as goal

abbrev pub invariant-loop-i : goal.invariant-loop-i
invariant-loop-i l = record {
  place : last_from l.last l.i l.name (cases_plain (drop l.i l.cases)) ≡ last_place l.name (cases_plain l.cases);
}
