-- Where names stand in a list, and the case at such a place.
use Rattle.std.specs.Prelude.{ℕ, List, Option, Some, None, slice_get}
use Rattle.std.specs.List.{position_from}
use Rattle.witx_base.specs.Texts.{same_text}
use Rattle.witx_ast.specs.declared.types.Case.{Case}
use Rattle.witx_ast.specs.Tree.{Arm}
use Rattle.witx_ast.specs.Views.{case_arm}
use Rattle.witx_scope.specs.Trees.{bare_arm}

-- the first place of the name, from 0
abbrev pub place_in : List (List ℕ) → List ℕ → Option ℕ
place_in names n = position_from (same_text n) 0 names

abbrev pub case_or_bare : Option Case → List ℕ → Arm
case_or_bare None n = bare_arm n None
case_or_bare (Some c) n = case_arm c

-- the case at the place, if there is one
abbrev pub case_placed : List Case → Option ℕ → List ℕ → Arm
case_placed cases None n = bare_arm n None
case_placed cases (Some i) n = case_or_bare (slice_get cases i) n
