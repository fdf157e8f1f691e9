-- When two texts are the same: byte for byte.
-- A text is the list of its bytes, so this is the computed form of equality of lists.
use Rattle.std.specs.Prelude.{ℕ, List, Bool, ◌==◌}
use Rattle.std.specs.Cmp.Lexicographic.{pointwise}

unfoldable pub same_text : List ℕ → List ℕ → Bool
same_text = pointwise ◌==◌
