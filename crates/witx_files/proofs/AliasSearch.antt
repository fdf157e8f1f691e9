-- A search from the first alias on finds what the path stands for.
use Rattle.std.proofs.Common.{◌≡◌, ℕ, ◌+◌, ◌<◌, ◌≤◌, ◌∷◌, Bool, true, false, sym, ap, ◌∙◌, length, drop, get_or, cond, ◌==◌, unwrap_or, Some}
use Rattle.std.proofs.lemmas.List.{drop_more, drop_all}
use Rattle.std.specs.Map.{lookup}
use Rattle.std.specs.Cmp.Lexicographic.{pointwise, lists_equiv, nat_list_eq_equiv}
use Rattle.witx_base.specs.Paths.{Path}
use Rattle.witx_files.specs.Files.{Aliases, same_path, canonical}
use Rattle.witx_files.proofs.SamePaths.{same-test}

turned-test : (p q : Path) (b : Bool) → pointwise (pointwise ◌==◌) q p ≡ b → same_path p q ≡ b
turned-test p q b e = sym (same-test p q) ∙ ((lists_equiv nat_list_eq_equiv).symm p q ∙ e)

-- what the path stands for, where this alias is the next of those that are left, and the test on it is known
next-alias : (aliases : Aliases) (i : ℕ) (a : Path × Path) (p : Path) (b : Bool) → i < length aliases → a ≡ get_or aliases i a → pointwise (pointwise ◌==◌) a.0 p ≡ b
    → canonical (drop i aliases) p ≡ unwrap_or (cond b (Some a.1) (lookup (same_path p) (drop (i + 1) aliases))) p
next-alias aliases i a p b l e t =
    ap (λ xs. canonical xs p) (drop_more aliases i a l ∙ ap (λ x. x ∷ drop (i + 1) aliases) (sym e))
    ∙ ap (λ found. unwrap_or (cond found (Some a.1) (lookup (same_path p) (drop (i + 1) aliases))) p) (turned-test p a.0 b t)

pub alias-found : (aliases : Aliases) (i : ℕ) (a : Path × Path) (p q : Path) → i < length aliases → a ≡ get_or aliases i a → pointwise (pointwise ◌==◌) a.0 p ≡ true
    → canonical (drop i aliases) p ≡ q → a.1 ≡ q
alias-found aliases i a p q l e t h = sym (next-alias aliases i a p true l e t) ∙ h

pub alias-passed : (aliases : Aliases) (i : ℕ) (a : Path × Path) (p q : Path) → i < length aliases → a ≡ get_or aliases i a → pointwise (pointwise ◌==◌) a.0 p ≡ false
    → canonical (drop i aliases) p ≡ q → canonical (drop (i + 1) aliases) p ≡ q
alias-passed aliases i a p q l e t h = sym (next-alias aliases i a p false l e t) ∙ h

pub no-alias : (aliases : Aliases) (i : ℕ) (p q : Path) → length aliases ≤ i → canonical (drop i aliases) p ≡ q → p ≡ q
no-alias aliases i p q l h = sym (ap (λ xs. canonical xs p) (drop_all i aliases l)) ∙ h

pub ruleset alias_rules = (no-alias)
