-- What holds of every reading order, whatever the texts, their faults and the files are.
use Rattle.std.specs.Prelude.{◌≡◌, List, [], ◌∷◌, ◌++◌}
use Rattle.std.specs.List.{AllByRecursion}
use Rattle.witx_base.specs.Paths.{Path}
use Rattle.witx_order.specs.Items.{Declared}
use Rattle.witx_order.specs.Walks.{World, Mark, Place, go, next, beginning, Marks, IsFront, IsReadDeclaration, IsWalk}
use Rattle.witx_order.specs.Groups.{IsGrouped}
use Rattle.witx_order.specs.GroupFronts.{IsGroupedFront}
use Rattle.witx_order.specs.Verdicts.{Verdict, fine, IsVerdict}
use Rattle.witx_order.specs.Fronts.{IsFinal, Means}

-- there is at most one walk
abbrev pub OneWalk : Type 0 → Type 0
OneWalk F = (w : World F) (handed : List Path) (marks marks' : List Mark) (declared declared' : List Declared)
    → IsWalk w handed marks declared → IsWalk w handed marks' declared' → (marks ≡ marks') × (declared ≡ declared')

-- there is exactly one final front, and it has one verdict
abbrev pub OneFinalFront : Type 0 → Type 0
OneFinalFront F = (w : World F) (handed : List Path) → (marks : List Mark) × ((v : Verdict F) × (IsFinal w handed marks v
    × ((marks' : List Mark) (u : Verdict F) → IsFinal w handed marks' u → (marks ≡ marks') × (v ≡ u))))

-- there is exactly one verdict
abbrev pub OneVerdict : Type 0 → Type 0
OneVerdict F = (w : World F) (handed : List Path) → (v : Verdict F) × (IsVerdict w handed v × ((u : Verdict F) → IsVerdict w handed u → v ≡ u))

-- it is that of the final front
abbrev pub FrontVerdict : Type 0 → Type 0
FrontVerdict F = (w : World F) (handed : List Path) (marks : List Mark) (v : Verdict F) → IsFinal w handed marks v → IsVerdict w handed v

-- it is fine exactly where the handed paths mean these declarations
abbrev pub FineMeans : Type 0 → Type 0
FineMeans F = (w : World F) (handed : List Path) (declared : List Declared)
    → (IsVerdict w handed (fine declared) → Means w handed declared) × (Means w handed declared → IsVerdict w handed (fine declared))

-- the step by step walks are exactly those by their groups
abbrev pub WalkForm : Type 0 → Type 0
WalkForm F = (w : World F) (handed : List Path) (marks : List Mark) →
    (IsGrouped w handed marks → (declared : List Declared) × IsWalk w handed marks declared)
    × ((declared : List Declared) → IsWalk w handed marks declared → IsGrouped w handed marks)

-- the step by step fronts are exactly those by their groups
abbrev pub FrontForm : Type 0 → Type 0
FrontForm F = (w : World F) (handed : List Path) (marks : List Mark) →
    (IsGroupedFront w handed marks → IsFront w handed marks) × (IsFront w handed marks → IsGroupedFront w handed marks)

-- the next mark of where a front has come to is the one mark with which the list is a front again
abbrev pub NextMark : Type 0 → Type 0
NextMark F = (w : World F) (handed : List Path) (marks : List Mark) (last : Place) → Marks w (beginning handed) marks last → (mark : Mark) →
    ((behind : Place) → next w last ≡ go mark behind → IsFront w handed (marks ++ mark ∷ []))
    × (IsFront w handed (marks ++ mark ∷ []) → (behind : Place) × (next w last ≡ go mark behind))

-- each declaration of a walk is an item of the text that its path has
abbrev pub DeclaredWhereRead : Type 0 → Type 0
DeclaredWhereRead F = (w : World F) (handed : List Path) (marks : List Mark) (declared : List Declared)
    → IsWalk w handed marks declared → AllByRecursion (IsReadDeclaration w) declared
