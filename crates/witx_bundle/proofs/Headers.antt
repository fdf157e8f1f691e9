-- A header's path: its carriage return is dropped, and nothing else.
use Rattle.std.proofs.Common.{◌≡◌, ℕ, List, [], ◌∷◌, ◌++◌, Bool, true, false, refl, sym, ap, ◌∙◌, arith, ◌==◌, if◌then◌else◌}
use Rattle.std.proofs.lemmas.Bool.Decides.{nat_tests}
use Rattle.std.proofs.lemmas.Str.Pattern.{starts_text}
use Rattle.witx_bundle.specs.Bundles.{without_return}

pub ruleset header_rules = (starts_text)

is-return : (c : ℕ) → (c == 13) ≡ true → c ≡ 13
is-return c e = grind (arith, nat_tests)

with-return : (xs : List ℕ) → without_return (xs ++ 13 ∷ []) ≡ xs
with-return [] = refl
with-return (c ∷ []) = refl
with-return (c ∷ d ∷ ds) = ap (λ xs. c ∷ xs) (with-return (d ∷ ds))

last-byte : (c : ℕ) (drops : Bool) → (c == 13) ≡ drops → ((front : List ℕ) → c ∷ [] ≡ front ++ 13 ∷ [] → ⊥) → (if drops then [] else c ∷ []) ≡ c ∷ []
last-byte c true e h = absurd (h [] (ap (λ x. x ∷ []) (is-return c e)))
last-byte c false e h = refl

no-return : (xs : List ℕ) → ((front : List ℕ) → xs ≡ front ++ 13 ∷ [] → ⊥) → without_return xs ≡ xs
no-return [] h = refl
no-return (c ∷ []) h = last-byte c (c == 13) refl h
no-return (c ∷ d ∷ ds) h = ap (λ xs. c ∷ xs) (no-return (d ∷ ds) (λ front e. h (c ∷ front) (ap (λ xs. c ∷ xs) e)))

pub stripped : (xs ys : List ℕ) → xs ≡ ys ++ 13 ∷ [] → ys ≡ without_return xs
stripped xs ys e = sym (ap without_return e ∙ with-return ys)

pub unstripped : (xs : List ℕ) → ((front : List ℕ) → xs ≡ front ++ 13 ∷ [] → ⊥) → xs ≡ without_return xs
unstripped xs h = sym (no-return xs h)
