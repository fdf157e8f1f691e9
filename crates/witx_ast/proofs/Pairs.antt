-- Two cases, and cases without payload.
use Rattle.std.specs.Prelude.{◌≡◌, ℕ, ◌+◌, ◌<◌, List, [], ◌∷◌, true, false, ◌&&◌, Option, Some, None, option_map, map, length, codes, if◌then◌else◌}
use Rattle.std.proofs.Common.{arith, get_or, drop, refl, not, is_some, is_none}
use Rattle.std.proofs.lemmas.List.{drop_more}
use Rattle.witx_base.specs.Texts.{same_text}
use Rattle.witx_ast.specs.Views.{tree_of, case_arm}
use Rattle.witx_ast.specs.Words.{expected_payloads, is_bool_arms, is_bare, all_arms_bare}
use Rattle.witx_ast.proofs.Trees.{tree-Case}
use Rattle.witx_ast.specs.declared.types.Case.{Case}
use Rattle.witx_ast.specs.declared.types.TypeRef.{TypeRef}

pair-is : (xs : List Case) (a b : Case) → length xs ≡ 2 → a ≡ get_or xs 0 a → b ≡ get_or xs 1 b → xs ≡ a ∷ b ∷ []
pair-is [] a b l p q = grind arith
pair-is (x ∷ []) a b l p q = grind arith
pair-is (x ∷ y ∷ []) a b l p q = cc
pair-is (x ∷ y ∷ z ∷ zs) a b l p q = grind arith

pub expected-two : (xs : List Case) (a b : Case) → length xs ≡ 2 → a ≡ get_or xs 0 a → b ≡ get_or xs 1 b
    → expected_payloads (map case_arm xs) ≡ (if same_text a.name (codes "ok") && same_text b.name (codes "err") then Some (option_map tree_of a.tref, option_map tree_of b.tref) else None)
expected-two xs a b l p q = rw (pair-is xs a b l p q, tree-Case a, tree-Case b) refl

pub expected-other : (xs : List Case) → (length xs ≡ 2 → ⊥) → expected_payloads (map case_arm xs) ≡ None
expected-other [] l = refl
expected-other (x ∷ []) l = refl
expected-other (x ∷ y ∷ []) l = absurd (l refl)
expected-other (x ∷ y ∷ z ∷ zs) l = refl

pub bool-two : (xs : List Case) (a b : Case) → length xs ≡ 2 → a ≡ get_or xs 0 a → b ≡ get_or xs 1 b
    → is_bool_arms (map case_arm xs) ≡ same_text a.name (codes "false") && same_text b.name (codes "true") && (is_bare (option_map tree_of a.tref) && is_bare (option_map tree_of b.tref))
bool-two xs a b l p q = rw (pair-is xs a b l p q, tree-Case a, tree-Case b) refl

pub bool-other : (xs : List Case) → (length xs ≡ 2 → ⊥) → is_bool_arms (map case_arm xs) ≡ false
bool-other [] l = refl
bool-other (x ∷ []) l = refl
bool-other (x ∷ y ∷ []) l = absurd (l refl)
bool-other (x ∷ y ∷ z ∷ zs) l = refl

pub bare-drop : (xs : List Case) (i : ℕ) (a : Case) → i < length xs → a ≡ get_or xs i a
    → all_arms_bare (map case_arm (drop i xs)) ≡ is_bare (option_map tree_of a.tref) && all_arms_bare (map case_arm (drop (i + 1) xs))
bare-drop xs i a l p = rw (drop_more xs i a l, ← p, tree-Case a) refl

pub bare-some : (o : Option TypeRef) → is_bare (option_map tree_of o) ≡ not (is_some o)
bare-some None = refl
bare-some (Some t) = refl

pub expected-yes : (xs : List Case) (a b : Case) → length xs ≡ 2 → a ≡ get_or xs 0 a → b ≡ get_or xs 1 b
    → same_text a.name (codes "ok") ≡ true → same_text b.name (codes "err") ≡ true
    → expected_payloads (map case_arm xs) ≡ Some (option_map tree_of a.tref, option_map tree_of b.tref)
expected-yes xs a b l p q h k = rw (expected-two xs a b l p q, h, k) refl

pub expected-first : (xs : List Case) (a b : Case) → length xs ≡ 2 → a ≡ get_or xs 0 a → b ≡ get_or xs 1 b
    → same_text a.name (codes "ok") ≡ false → expected_payloads (map case_arm xs) ≡ None
expected-first xs a b l p q h = rw (expected-two xs a b l p q, h) refl

pub expected-second : (xs : List Case) (a b : Case) → length xs ≡ 2 → a ≡ get_or xs 0 a → b ≡ get_or xs 1 b
    → same_text a.name (codes "ok") ≡ true → same_text b.name (codes "err") ≡ false → expected_payloads (map case_arm xs) ≡ None
expected-second xs a b l p q h k = rw (expected-two xs a b l p q, h, k) refl

pub none-some : (o : Option TypeRef) → is_none o ≡ not (is_some o)
none-some None = refl
none-some (Some t) = refl

pub bool-yes : (xs : List Case) (a b : Case) → length xs ≡ 2 → a ≡ get_or xs 0 a → b ≡ get_or xs 1 b
    → same_text a.name (codes "false") ≡ true → same_text b.name (codes "true") ≡ true
    → is_bool_arms (map case_arm xs) ≡ is_none a.tref && is_none b.tref
bool-yes xs a b l p q h k = rw (bool-two xs a b l p q, h, k, bare-some a.tref, bare-some b.tref, none-some a.tref, none-some b.tref) refl

pub bool-first : (xs : List Case) (a b : Case) → length xs ≡ 2 → a ≡ get_or xs 0 a → b ≡ get_or xs 1 b
    → same_text a.name (codes "false") ≡ false → is_bool_arms (map case_arm xs) ≡ false
bool-first xs a b l p q h = rw (bool-two xs a b l p q, h) refl

pub bool-second : (xs : List Case) (a b : Case) → length xs ≡ 2 → a ≡ get_or xs 0 a → b ≡ get_or xs 1 b
    → same_text a.name (codes "false") ≡ true → same_text b.name (codes "true") ≡ false → is_bool_arms (map case_arm xs) ≡ false
bool-second xs a b l p q h k = rw (bool-two xs a b l p q, h, k) refl

pub bool-bare : (xs : List Case) (a b : Case) → length xs ≡ 2 → a ≡ get_or xs 0 a → b ≡ get_or xs 1 b
    → same_text a.name (codes "false") ≡ true → same_text b.name (codes "true") ≡ true → a.tref ≡ None → b.tref ≡ None → is_bool_arms (map case_arm xs) ≡ true
bool-bare xs a b l p q h k u v = rw (bool-yes xs a b l p q h k, u, v) refl

pub bool-one : (xs : List Case) (a b : Case) → length xs ≡ 2 → a ≡ get_or xs 0 a → b ≡ get_or xs 1 b
    → same_text a.name (codes "false") ≡ true → same_text b.name (codes "true") ≡ true → (t : TypeRef) → a.tref ≡ Some t → is_bool_arms (map case_arm xs) ≡ false
bool-one xs a b l p q h k t u = rw (bool-yes xs a b l p q h k, u) refl

pub bool-two-has : (xs : List Case) (a b : Case) → length xs ≡ 2 → a ≡ get_or xs 0 a → b ≡ get_or xs 1 b
    → same_text a.name (codes "false") ≡ true → same_text b.name (codes "true") ≡ true → (t : TypeRef) → a.tref ≡ None → b.tref ≡ Some t → is_bool_arms (map case_arm xs) ≡ false
bool-two-has xs a b l p q h k t u v = rw (bool-yes xs a b l p q h k, u, v) refl

pub ruleset bool_rules = (bool-bare, bool-one, bool-two-has, bool-first, bool-second, bool-other)

pub ruleset pair_rules = (expected-yes, expected-first, expected-second, expected-other)

pub bare-no : (xs : List Case) (i : ℕ) (a : Case) → i < length xs → a ≡ get_or xs i a → is_some a.tref ≡ false
    → all_arms_bare (map case_arm (drop i xs)) ≡ all_arms_bare (map case_arm (drop (i + 1) xs))
bare-no xs i a l p h = rw (bare-drop xs i a l p, bare-some a.tref, h) refl

pub bare-yes : (xs : List Case) (i : ℕ) (a : Case) → i < length xs → a ≡ get_or xs i a → is_some a.tref ≡ true
    → all_arms_bare (map case_arm (drop i xs)) ≡ false
bare-yes xs i a l p h = rw (bare-drop xs i a l p, bare-some a.tref, h) refl

pub ruleset bare_rules = (bare-no, bare-yes)
