-- What replacing each `::` by a dot gives.
use Rattle.std.specs.Prelude.{◌≡◌, ℕ, zero, suc, ◌<◌, ◌≤◌, List, [], ◌∷◌, ◌++◌, Bool, true, false, ◌&&◌, ◌==◌, length, take, drop}
use Rattle.std.proofs.Common.{arith, refl, sym, ap, subst, ◌∙◌, inl, inr, Bor}
use Rattle.std.specs.Str.Pattern.{FindsText}
use Rattle.std.specs.Str.Replace.{ReplacesMatches}
use Rattle.witx_markdown.specs.Links.{dotted}

both : (x y : ℕ) → (x == 58 && y == 58) ≡ true → (x ≡ 58) × (y ≡ 58)
both x y h = (grind arith, grind arith)

case : (x y : ℕ) (rest : List ℕ) → ((r : List ℕ) → x ∷ y ∷ rest ≡ 58 ∷ 58 ∷ r → ⊥) → (t : Bool) → (x == 58 && y == 58) ≡ t → t ≡ false
case x y rest h false e = refl
case x y rest h true e = let k = both x y e in absurd (h rest (rw (k.0, k.1) refl))

alone : (x y : ℕ) (rest : List ℕ) → ((r : List ℕ) → x ∷ y ∷ rest ≡ 58 ∷ 58 ∷ r → ⊥) → dotted (x ∷ y ∷ rest) ≡ x ∷ dotted (y ∷ rest)
alone x y rest h =
    subst (λ (t : Bool). (elim t as (λ _. List ℕ) [ true ↦ 46 ∷ dotted rest | false ↦ x ∷ dotted (y ∷ rest) ]) ≡ x ∷ dotted (y ∷ rest))
    (sym (case x y rest h (x == 58 && y == 58) refl)) refl

pub dotted-none : (s : List ℕ) → ((i : ℕ) → i ≤ length s → (r : List ℕ) → drop i s ≡ 58 ∷ 58 ∷ r → ⊥) → dotted s ≡ s
dotted-none [] h = refl
dotted-none (x ∷ []) h = refl
dotted-none (x ∷ y ∷ rest) h =
    alone x y rest (λ r e. h 0 (omega arith) r e) ∙ ap (λ t. x ∷ t) (dotted-none (y ∷ rest) (λ i l r e. h (suc i) (omega arith) r e))

none : (a : ℕ) (t : List ℕ) → drop a [] ≡ 58 ∷ 58 ∷ t → ⊥
none zero t e = cc
none (suc a) t e = cc

pub dotted-at : (a : ℕ) (s t : List ℕ) → ((i : ℕ) → i < a → (r : List ℕ) → drop i s ≡ 58 ∷ 58 ∷ r → ⊥) → drop a s ≡ 58 ∷ 58 ∷ t → dotted s ≡ take a s ++ (46 ∷ dotted t)
dotted-at zero s t h e = rw e refl
dotted-at (suc a) [] t h e = absurd (cc)
dotted-at (suc a) (x ∷ []) t h e = absurd (none a t e)
dotted-at (suc a) (x ∷ y ∷ rest) t h e =
    alone x y rest (λ r f. h 0 (omega arith) r f) ∙ ap (λ u. x ∷ u) (dotted-at a (y ∷ rest) t (λ i l r f. h (suc i) (omega arith) r f) e)

pub replaced-dotted : (n : ℕ) (p : Bor (List ℕ)) (s out : List ℕ) → p.now ≡ 58 ∷ 58 ∷ [] → ReplacesMatches (λ q. FindsText q.now) (λ q r. r.now ≡ q.now) (46 ∷ []) n p s out → out ≡ dotted s
replaced-dotted zero p s out e h = h.1 ∙ sym (dotted-none s (λ i l r f. h.0 i l r (rw e f)))
replaced-dotted (suc n) p s out e (a, b, q, rest, found, keep, inl on, is) =
    let same : rest ≡ dotted (drop b s) = replaced-dotted n q (drop b s) rest (keep ∙ e) on.1 in
    let at : dotted s ≡ take a s ++ (46 ∷ dotted (drop b s)) = dotted-at a s (drop b s) (λ i l r f. found.0 i l r (rw e f)) (rw e at found.1.split) in
    is ∙ rw same (sym at)
replaced-dotted (suc n) p s out e (a, b, q, rest, found, keep, inr on, is) =
    absurd (omega (arith, on.0, found.1.ends, ap length e))

pub ruleset dot_rules = (replaced-dotted)
