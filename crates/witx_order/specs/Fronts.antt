-- The final front of a walk: it ends with the first declaration that has a fault, or, where none of its declarations has
-- one, it has no next mark. What the texts mean, where the final front is a walk.
use Rattle.std.specs.Prelude.{◌≡◌, List, [], ◌∷◌, ◌++◌, Some, None}
use Rattle.witx_base.specs.Paths.{Path}
use Rattle.witx_order.specs.Items.{Declared}
use Rattle.witx_order.specs.Walks.{World, Mark, start, decl, skip, end, Place, Next, go, stuck, over, faulty, next, beginning, Marks, IsWalk}
use Rattle.witx_order.specs.Verdicts.{Verdict, fine, refused}

-- the declarations among marks, in order
abbrev pub declarations : List Mark → List Declared
declarations [] = []
declarations (decl δ ∷ marks) = δ ∷ declarations marks
declarations (start path directory ∷ marks) = declarations marks
declarations (skip path ∷ marks) = declarations marks
declarations (end path ∷ marks) = declarations marks

-- none of these declarations has a fault behind those before it
abbrev pub AreSound : {F : Type 0} → World F → List Declared → List Declared → Type 0
AreSound w before [] = Unit {0}
AreSound w before (δ ∷ δs) = (w.fault_of before δ ≡ None) × AreSound w (before ++ δ ∷ []) δs

-- the verdict of a place without a next mark, behind these declarations
abbrev pub Comes : {F : Type 0} → Next F → List Declared → Verdict F → Type 0
Comes (go mark behind) declared v = ⊥
Comes (stuck refusal) declared v = v ≡ refused refusal
Comes over declared v = v ≡ fine declared

-- a front without a fault that has no next mark
pub record IsStuck {F : Type 0} (w : World F) (handed : List Path) (marks : List Mark) (v : Verdict F) : Type 0 where
  pub last : Place
  pub leads : Marks w (beginning handed) marks last
  pub sound : AreSound w [] (declarations marks)
  pub verdict : Comes (next w last) (declarations marks) v

-- a front that ends with the first declaration that has a fault
pub record IsFaulty {F : Type 0} (w : World F) (handed : List Path) (marks : List Mark) (v : Verdict F) : Type 0 where
  pub before : List Mark
  pub δ : Declared
  pub fault : F
  pub last : Place
  pub ends_so : marks ≡ before ++ decl δ ∷ []
  pub leads : Marks w (beginning handed) marks last
  pub sound : AreSound w [] (declarations before)
  pub fails : w.fault_of (declarations before) δ ≡ Some fault
  pub verdict : v ≡ refused (faulty fault)

-- a final front, with its verdict
pub data IsFinal {F : Type 0} (w : World F) (handed : List Path) (marks : List Mark) (v : Verdict F) : Type 0 where
  at_end : IsStuck w handed marks v → IsFinal w handed marks v
  at_fault : IsFaulty w handed marks v → IsFinal w handed marks v

-- the handed paths mean these declarations: there is a walk, they are its reading order, and none has a fault
abbrev pub Means : {F : Type 0} → World F → List Path → List Declared → Type 0
Means w handed declared = (marks : List Mark) × (IsWalk w handed marks declared × AreSound w [] declared)
