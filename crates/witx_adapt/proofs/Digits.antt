-- A number below ten is its one digit.
use Rattle.std.proofs.Common.{◌≡◌, ℕ, zero, suc, ◌+◌, ◌<◌, [], ◌∷◌, refl, arith}
use Rattle.std.specs.Fmt.{decimal, digits}

pub one-digit : (n : ℕ) → n < 10 → decimal n ≡ (48 + n) ∷ []
unfolding digits
one-digit zero l = refl
one-digit (suc zero) l = refl
one-digit (suc (suc zero)) l = refl
one-digit (suc (suc (suc zero))) l = refl
one-digit (suc (suc (suc (suc zero)))) l = refl
one-digit (suc (suc (suc (suc (suc zero))))) l = refl
one-digit (suc (suc (suc (suc (suc (suc zero)))))) l = refl
one-digit (suc (suc (suc (suc (suc (suc (suc zero))))))) l = refl
one-digit (suc (suc (suc (suc (suc (suc (suc (suc zero)))))))) l = refl
one-digit (suc (suc (suc (suc (suc (suc (suc (suc (suc zero))))))))) l = refl
one-digit (suc (suc (suc (suc (suc (suc (suc (suc (suc (suc n)))))))))) l = absurd (omega arith)

pub ruleset digit_rules = (one-digit)
