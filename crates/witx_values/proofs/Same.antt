-- Texts of one length, compared byte by byte from the front.
use Rattle.std.proofs.Common.{◌≡◌, ℕ, ◌+◌, ◌<◌, ◌≤◌, List, [], ◌∷◌, Bool, true, false, sym, ap, ◌∙◌, length, drop, arith, ◌==◌, get_or}
use Rattle.std.specs.Prelude.{◌&&◌}
use Rattle.std.specs.Cmp.Lexicographic.{pointwise}
use Rattle.std.proofs.lemmas.Bool.{eq-eqb, ne_eqb}
use Rattle.std.proofs.lemmas.List.{drop_more, drop_all}

abbrev same : List ℕ → List ℕ → Bool
same xs ys = pointwise ◌==◌ xs ys

step : (xs ys : List ℕ) (at : ℕ) → length xs ≡ length ys → at < length xs
    → same (drop at xs) (drop at ys) ≡ (get_or xs at 0 == get_or ys at 0) && same (drop (at + 1) xs) (drop (at + 1) ys)
step xs ys at e l = ap (λ zs. same zs (drop at ys)) (drop_more xs at 0 l) ∙ ap (λ zs. same (get_or xs at 0 ∷ drop (at + 1) xs) zs) (drop_more ys at 0 (omega arith))

-- behind a byte that both have, the rest decides
pub same-behind : (xs ys : List ℕ) (at : ℕ) → length xs ≡ length ys → at < length xs → get_or xs at 0 ≡ get_or ys at 0
    → same (drop at xs) (drop at ys) ≡ same xs ys → same (drop (at + 1) xs) (drop (at + 1) ys) ≡ same xs ys
same-behind xs ys at e l h g = sym (step xs ys at e l ∙ ap (λ t. t && same (drop (at + 1) xs) (drop (at + 1) ys)) (eq-eqb _ _ h)) ∙ g

pub other-here : (xs ys : List ℕ) (at : ℕ) → length xs ≡ length ys → at < length xs → (get_or xs at 0 ≡ get_or ys at 0 → ⊥)
    → same (drop at xs) (drop at ys) ≡ same xs ys → false ≡ same xs ys
other-here xs ys at e l h g = sym (step xs ys at e l ∙ ap (λ t. t && same (drop (at + 1) xs) (drop (at + 1) ys)) (ne_eqb _ _ h)) ∙ g

pub same-whole : (xs ys : List ℕ) (at : ℕ) → length xs ≡ length ys → length xs ≤ at
    → same (drop at xs) (drop at ys) ≡ same xs ys → true ≡ same xs ys
same-whole xs ys at e l g = sym (ap (λ zs. same zs (drop at ys)) (drop_all at xs l) ∙ ap (λ zs. same [] zs) (drop_all at ys (omega arith))) ∙ g
