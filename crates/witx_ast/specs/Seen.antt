-- What a search for types has found: a set tells which types its list has, by their trees, and the list grows by those that it lacks.
use Rattle.std.specs.Prelude.{◌≡◌, List, [], ◌∷◌, ◌++◌, map, if◌then◌else◌}
use Rattle.std.specs.List.{list_any}
use Rattle.std.specs.HashSet.{HashSet, contains}
use Rattle.witx_ast.specs.Tree.{Tree}
use Rattle.witx_ast.specs.Views.{tree_of}
use Rattle.witx_ast.specs.Same.{same_tree}
use Rattle.witx_ast.specs.declared.types.TypeRef.{TypeRef}

abbrev pub TellsTypes : {S : Type 0} → HashSet TypeRef S → List TypeRef → Type 0
TellsTypes seen kept = (t : TypeRef) → contains (λ a b. same_tree (tree_of a) (tree_of b)) seen t ≡ list_any (same_tree (tree_of t)) (map tree_of kept)

-- one more, unless it is there
abbrev pub and_type : List Tree → Tree → List Tree
and_type kept x = if list_any (same_tree x) kept then kept else kept ++ x ∷ []

abbrev pub and_types : List Tree → List Tree → List Tree
and_types kept [] = kept
and_types kept (x ∷ xs) = and_types (and_type kept x) xs
