-- Constants that a map keeps under the names of their types.
use Rattle.std.specs.Prelude.{◌≡◌, ℕ, List, [], map}
use Rattle.std.specs.Borrow.{Bor}
use Rattle.std.specs.Option.{unwrap_or}
use Rattle.witx_base.specs.Found.{found}
use Rattle.witx_ast.specs.declared.definition.Constant.{Constant}
use Rattle.witx_docs.specs.Parts.{constants_of}

-- the constants under a name
abbrev pub standing : List (List ℕ × List (Bor Constant)) → List ℕ → List Constant
standing entries name = map (λ c. c.now) (unwrap_or (found entries name) [])

-- under each name stand those of these constants whose type has it, in order
abbrev pub StandByType : List (List ℕ × List (Bor Constant)) → List Constant → Type 0
StandByType entries cs = (name : List ℕ) → standing entries name ≡ constants_of name cs
