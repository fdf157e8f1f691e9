-- How the lists of members and of cases are compared, item by item.
use Rattle.std.proofs.Common.{◌≡◌, ℕ, Bool, true, false, ◌&&◌, List, [], ◌∷◌, map, refl, sym, ap, ◌∙◌, Option, Some, None, option_map}
use Rattle.std.specs.Cmp.Lexicographic.{pointwise}
use Rattle.witx_ast.specs.Tree.{Tree, Arms, behind, arm, arms_of}
use Rattle.witx_ast.specs.Plain.{plain, plain_arms}
use Rattle.witx_ast.specs.Views.{tree_of, case_arm, members_plain, cases_plain}
use Rattle.witx_base.specs.SameBytes.{same_bytes}
use Rattle.witx_ast.specs.declared.types.RecordMember.{RecordMember}
use Rattle.witx_ast.specs.declared.types.Case.{Case}
use Rattle.witx_ast.proofs.TreeKinds.{kind_rules, plain-behind}
use Rattle.witx_ast.proofs.Trees.{tree-RecordMember, tree-Case}
use Rattle.witx_ast.specs.Alike.{same_plain, same_plain_fields, same_plain_arms}
use Rattle.witx_run.proofs.PairLemmas.{pair-more, pair-fails, pairs-end, pairs-uneven}
use Rattle.witx_symbols.specs.Payloads.{payloads_alike}

-- members
abbrev pub member_same : RecordMember → RecordMember → Bool
member_same x y = same_bytes x.name y.name && same_plain (plain (tree_of x.tref)) (plain (tree_of y.tref))

pub members-pairs : (a b : List RecordMember) → same_plain_fields (members_plain a) (members_plain b) ≡ pointwise member_same a b
members-pairs [] [] = refl
members-pairs [] (y ∷ b) = refl
members-pairs (x ∷ a) [] = refl
members-pairs (x ∷ a) (y ∷ b) = rw (tree-RecordMember x, tree-RecordMember y) (ap (λ t. member_same x y && t) (members-pairs a b))

-- cases
abbrev pub case_same : Case → Case → Bool
case_same x y = same_bytes x.name y.name && payloads_alike (option_map tree_of x.tref) (option_map tree_of y.tref)

arm-step : (n m d e : List ℕ) (t u : Option Tree) (cs ds : Arms) → same_plain_arms (plain_arms (arm n t d cs)) (plain_arms (arm m u e ds)) ≡ (same_bytes n m && payloads_alike t u) && same_plain_arms (plain_arms cs) (plain_arms ds)
arm-step n m d e None None cs ds = ap (λ b. b && same_plain_arms (plain_arms cs) (plain_arms ds)) (sym (and_true (same_bytes n m)))
  where
    and_true : (b : Bool) → b && true ≡ b
    and_true true = refl
    and_true false = refl
arm-step n m d e (Some t) (Some u) cs ds = refl
arm-step n m d e None (Some u) cs ds = ap (λ b. b && same_plain_arms (plain_arms cs) (plain_arms ds)) (sym (and_false (same_bytes n m)))
  where
    and_false : (b : Bool) → b && false ≡ false
    and_false true = refl
    and_false false = refl
arm-step n m d e (Some t) None cs ds = ap (λ b. b && same_plain_arms (plain_arms cs) (plain_arms ds)) (sym (and_false (same_bytes n m)))
  where
    and_false : (b : Bool) → b && false ≡ false
    and_false true = refl
    and_false false = refl

two-cases : (x y : Case) (a b : List Case) → same_plain_arms (cases_plain (x ∷ a)) (cases_plain (y ∷ b)) ≡ case_same x y && same_plain_arms (cases_plain a) (cases_plain b)
two-cases x y a b = rw (tree-Case x, tree-Case y) (arm-step x.name y.name x.docs y.docs (option_map tree_of x.tref) (option_map tree_of y.tref) (arms_of (map case_arm a)) (arms_of (map case_arm b)))

alone : (x : Case) (a : List Case) → (false ≡ same_plain_arms (cases_plain []) (cases_plain (x ∷ a))) × (false ≡ same_plain_arms (cases_plain (x ∷ a)) (cases_plain []))
alone x a = rw (tree-Case x) (by (option_map tree_of x.tref))
  where
    by : (t : Option Tree) → (false ≡ same_plain_arms (cases_plain []) (plain_arms (arm x.name t x.docs (arms_of (map case_arm a))))) × (false ≡ same_plain_arms (plain_arms (arm x.name t x.docs (arms_of (map case_arm a)))) (cases_plain []))
    by None = (refl, refl)
    by (Some t) = (refl, refl)

pub cases-pairs : (a b : List Case) → same_plain_arms (cases_plain a) (cases_plain b) ≡ pointwise case_same a b
cases-pairs [] [] = refl
cases-pairs [] (y ∷ b) = sym (alone y b).0
cases-pairs (x ∷ a) [] = sym (alone x a).1
cases-pairs (x ∷ a) (y ∷ b) = two-cases x y a b ∙ ap (λ t. case_same x y && t) (cases-pairs a b)

pub plain-of-behind : (x t : Tree) → x ≡ behind t → plain x ≡ plain t
plain-of-behind x t e = rw (e) (plain-behind t)

pub ruleset alike_rules = (kind_rules, plain-of-behind, members-pairs, cases-pairs, pair-more, pair-fails, pairs-end, pairs-uneven)
