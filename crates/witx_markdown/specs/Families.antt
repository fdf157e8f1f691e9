-- No part of what a tree is: of each node its first child, and the child of the same parent that follows it.
use Rattle.std.specs.Prelude.{◌≡◌, ℕ, ◌+◌, ◌≤◌, ◌<◌, List, [], ◌∷◌, length, drop, Option, Some, None, if◌then◌else◌}
use Rattle.std.specs.List.{slice_index_or}
use Rattle.witx_markdown.specs.Trees.{is_parent, parent_of}

-- the first child of p among nodes numbered from i on
abbrev pub first_from : ℕ → List (Option ℕ) → ℕ → Option ℕ
first_from i [] p = None
first_from i (q ∷ qs) p = (if is_parent p q then Some i else first_from (i + 1) qs p)

-- the first child of p from number i on
unfoldable pub next_child : List (Option ℕ) → ℕ → ℕ → Option ℕ
next_child parents i p = first_from i (drop i parents) p

-- of nodes from number i on: each node's first child, and the child of the same parent that follows it
pub record AreLinked (parents : List (Option ℕ)) (i : ℕ) (first next : List (Option ℕ)) : Type 0 where
  pub firsts : length first ≡ length parents
  pub nexts : length next ≡ length parents
  pub first_children : (p : ℕ) → p < length parents → slice_index_or first p None ≡ next_child parents i p
  pub next_children : (n p : ℕ) → i ≤ n → parent_of parents n ≡ Some p → slice_index_or next n None ≡ next_child parents (n + 1) p
