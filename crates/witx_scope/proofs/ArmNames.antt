-- The names of cases, case by case.
use Rattle.std.specs.Prelude.{◌≡◌, ℕ, List, [], ◌∷◌, ◌++◌, ◌+◌, ◌<◌, ◌≤◌, length, drop, map, Option, Some, None}
use Rattle.std.proofs.Common.{refl, get_or, append_assoc}
use Rattle.std.proofs.lemmas.List.{drop_more, drop_all, append-nil}
use Rattle.witx_ast.specs.declared.types.Case.{Case}
use Rattle.witx_ast.specs.Tree.{Tree, Arm, Arms, arm, arms_of}
use Rattle.witx_ast.specs.Views.{case_arm}
use Rattle.witx_ast.proofs.Trees.{tree-Case}
use Rattle.witx_scope.specs.Tags.{arm_names}

arm_names-payload : (n : List ℕ) (t : Option Tree) (d : List ℕ) (cs : Arms) → arm_names (arm n t d cs) ≡ n ∷ arm_names cs
arm_names-payload n None d cs = refl
arm_names-payload n (Some t) d cs = refl

pub arm_names-arm : (a : Arm) (rest : List Arm) → arm_names (arms_of (a ∷ rest)) ≡ a.called ∷ arm_names (arms_of rest)
arm_names-arm a rest = arm_names-payload a.called a.payload a.comment (arms_of rest)

-- the names of the cases so far, and of those to come
pub names-next : (cs : List Case) (i : ℕ) (c : Case) (n : List ℕ) (ns : List (List ℕ)) (x : List (List ℕ))
    → i < length cs → c ≡ get_or cs i c → n ≡ c.name
    → ns ++ arm_names (arms_of (map case_arm (drop i cs))) ≡ x
    → (ns ++ n ∷ []) ++ arm_names (arms_of (map case_arm (drop (i + 1) cs))) ≡ x
names-next cs i c n ns x l p s e =
    let e1 = rw (drop_more cs i c l, ← p, arm_names-arm (case_arm c) (map case_arm (drop (i + 1) cs)), tree-Case c) at e in
    rw (append_assoc, s) e1

pub names-end : (cs : List Case) (i : ℕ) (ns : List (List ℕ)) (x : List (List ℕ))
    → length cs ≤ i → ns ++ arm_names (arms_of (map case_arm (drop i cs))) ≡ x → ns ≡ x
names-end cs i ns x l e = let e1 = rw (drop_all i cs l, append-nil) at e in e1

pub ruleset name_rules = (names-next, names-end)
