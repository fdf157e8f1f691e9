-- Options that one domain answers with, and what then another answers with.
use Rattle.std.proofs.Common.{◌≡◌, Bool, true, false, refl, sym, ap, subst, Option, Some, None, option_map}
use Rattle.witx_machine.specs.Words.{when}
use Rattle.witx_machine.proofs.Simulation.{Follows, Makes}

pub some-none : {A : Type 0} {x : A} → None ≡ Some x → ⊥
some-none e = cc

pub some-same : {A : Type 0} {x y : A} → Some x ≡ Some y → x ≡ y
some-same {A} {x} e = ap (of x) e
  where
    of : {A : Type 0} → A → Option A → A
    of d None = d
    of d (Some v) = v

-- where the first answers with what is known, so does the second
pub makes-from : {A B : Type 0} (K : A → Type 0) (R : A → B → Type 0) (o : Option A) (p : Option B) → ((x : A) → o ≡ Some x → K x → (q : B) × (p ≡ Some q) × R x q) → Makes K R o p
makes-from K R None p h = tt
makes-from K R (Some x) None h = λ k. some-none (h x refl k).1
makes-from K R (Some x) (Some y) h = λ k. let q = h x refl k in subst (R x) (sym (some-same q.1)) q.2

pub makes-if : {A B : Type 0} (K : A → Type 0) (R : A → B → Type 0) (x : A) (p : Option B) → (K x → (q : B) × (p ≡ Some q) × R x q) → Makes K R (Some x) p
makes-if K R x p h = makes-from K R (Some x) p (λ y e k. subst (λ y. (q : _) × (p ≡ Some q) × R y q) (some-same e) (h (subst K (sym (some-same e)) k)))

pub made-of : {A B : Type 0} (K : A → Type 0) (R : A → B → Type 0) (o : Option A) (p : Option B) → Makes K R o p → (x : A) → o ≡ Some x → K x → (q : B) × (p ≡ Some q) × R x q
made-of K R None p h x e k = absurd (some-none e)
made-of K R (Some y) None h x e k = absurd (h (subst K (sym (some-same e)) k))
made-of K R (Some y) (Some z) h x e k = (z, refl, subst (λ x. R x z) (some-same e) (h (subst K (sym (some-same e)) k)))

pub follows-from : {A B : Type 0} (R : A → B → Type 0) (o : Option A) (p : Option B) → ((x : A) → o ≡ Some x → (q : B) × (p ≡ Some q) × R x q) → Follows R o p
follows-from R None p h = tt
follows-from R (Some x) None h = absurd (some-none (h x refl).1)
follows-from R (Some x) (Some y) h = let q = h x refl in subst (R x) (sym (some-same q.1)) q.2

pub followed-of : {A B : Type 0} (R : A → B → Type 0) (o : Option A) (p : Option B) → Follows R o p → (x : A) → o ≡ Some x → (q : B) × (p ≡ Some q) × R x q
followed-of R None p h x e = absurd (some-none e)
followed-of R (Some y) None h x e = absurd h
followed-of R (Some y) (Some z) h x e = (z, refl, subst (λ x. R x z) (some-same e) h)

pub when-some : {A : Type 0} (b : Bool) (o : Option A) (x : A) → when b o ≡ Some x → (b ≡ true) × (o ≡ Some x)
when-some true o x e = (refl, e)
when-some false o x e = absurd (some-none e)

pub when-true : {A : Type 0} (b : Bool) (o : Option A) → b ≡ true → when b o ≡ o
when-true b o e = ap (λ b. when b o) e

pub map-some : {A B : Type 0} (f : A → B) (o : Option A) (y : B) → option_map f o ≡ Some y → (x : A) × (o ≡ Some x) × (f x ≡ y)
map-some f None y e = absurd (some-none e)
map-some f (Some x) y e = (x, refl, some-same e)
