-- The introduced names: those of finished typenames and modules, and those that are not finished.
use Rattle.std.specs.Prelude.{◌≡◌, ◌||◌, ℕ, List, Option, Some, None, Bool, false}
use Rattle.std.specs.Option.{is_some}
use Rattle.witx_base.specs.Found.{found}
use Rattle.witx_ast.specs.declared.definition.Entry.{Entry}
use Rattle.witx_scope.specs.declared.unfinished.Unfinished.{Unfinished}
use Rattle.witx_scope.specs.Names.{Names}
use Rattle.witx_scope.specs.Positions.{is_same_name}

-- whether the name is that of a declaration, if there is one
abbrev pub is_named : Option (List ℕ) → List ℕ → Bool
is_named None n = false
is_named (Some m) n = is_same_name n m

-- whether the name is being declared, or its declaration was refused
abbrev pub is_unfinished : Unfinished → List ℕ → Bool
is_unfinished u n = is_named u.current n || is_some (found u.refused n)

-- a name is introduced exactly where it has an entry or is not finished
abbrev pub AreIntroduced : Names → Unfinished → List (List ℕ × Entry) → Type 0
AreIntroduced names unfinished entries =
    (n : List ℕ) → is_some (found names n) ≡ (is_some (found entries n) || is_unfinished unfinished n)
