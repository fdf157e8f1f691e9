-- Tests that hold exactly where something does, joined.
use Rattle.std.specs.Prelude.{◌≡◌, ℕ, ◌<◌, ◌≤◌, ◌⊎◌, Bool, true, false, ◌&&◌, ◌||◌, not, nat_lt, nat_le, nat_eq}
use Rattle.std.proofs.Common.{refl, inl, inr}
use Rattle.std.specs.Bool.{Decides}
use Rattle.std.proofs.lemmas.Bool.{leb-true, le-leb}
use Rattle.std.proofs.lemmas.Bool.Decides.{Decides-ltb, Decides-eqb}
use Rattle.witx_base.specs.SameBytes.{false-true, both}

pub always : Decides true (Unit {0})
always = (λ h. tt, λ h. refl)

pub never : Decides false ⊥
never = (λ h. absurd (false-true h), λ h. absurd h)

pub both-then : (a b : Bool) → a ≡ true → b ≡ true → a && b ≡ true
both-then a b h k = rw (h, k) refl

pub decides-and : {P Q : Type 0} (a b : Bool) → Decides a P → Decides b Q → Decides (a && b) (P × Q)
decides-and a b p q = (λ h. let s = both a b h in (p.0 s.0, q.0 s.1), λ h. both-then a b (p.1 h.0) (q.1 h.1))

pub decides-or : {P Q : Type 0} (a b : Bool) → Decides a P → Decides b Q → Decides (a || b) (P ⊎ Q)
decides-or true b p q = (λ h. inl (p.0 refl), λ h. refl)
decides-or false b p q = (λ h. inr (q.0 h), λ h. elim h [ inl x ↦ absurd (false-true (p.1 x)) | inr y ↦ q.1 y ])

pub decides-lt : (a b : ℕ) → Decides (nat_lt a b) (a < b)
decides-lt a b = Decides-ltb a b

pub decides-le : (a b : ℕ) → Decides (nat_le a b) (a ≤ b)
decides-le a b = (leb-true a b, le-leb a b)

pub decides-eq : (a b : ℕ) → Decides (nat_eq a b) (a ≡ b)
decides-eq a b = Decides-eqb a b

pub decides-true : (b : Bool) → Decides b (b ≡ true)
decides-true b = (λ h. h, λ h. h)

pub decides-false : (b : Bool) → Decides (not b) (b ≡ false)
decides-false true = (λ h. absurd (false-true h), λ h. absurd (false-true (rw (← h) refl)))
decides-false false = (λ h. refl, λ h. refl)
