use Rattle.std.proofs.Common.{◌≡◌, ℕ, List, drop}
use Rattle.witx_ast.specs.Views.{cases_plain}
use Rattle.witx_base.specs.Found.{found}
use Rattle.witx_compat.specs.Represents.{last_place}
use Rattle.witx_compat.proofs.Steps.{last_from}
use Rattle.witx_compat.proofs.places.last_places.Given as goal

abbrev pub invariant-loop-i : goal.invariant-loop-i
invariant-loop-i l = record {
  places : (q : List ℕ) → last_from (found l.places q) l.i q (cases_plain (drop l.i l.cases)) ≡ last_place q (cases_plain l.cases);
}
