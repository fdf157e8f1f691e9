-- The number of more flags than a word of the program's has bits.
use Rattle.std.proofs.Common.{◌≡◌, ℕ, zero, suc, ◌+◌, ◌*◌, ◌^◌, ◌<◌, ◌≤◌, Bool, true, false, cond, refl, sym, ap, ◌∙◌, arith, List, [], ◌∷◌, take, drop, nat_eq, pow-suc, subst}
use Rattle.witx_ast.proofs.Decided.{decides-eq}
use Rattle.witx_base.specs.SameBytes.{false-true}
use Rattle.witx_machine.specs.Words.{bits_of_flags}

-- none from the n-th on is set
none-above : (n : ℕ) (xs : List Bool) → bits_of_flags (drop n xs) ≡ 0 → bits_of_flags xs ≡ bits_of_flags (take n xs)
none-above zero [] h = refl
none-above zero (b ∷ bs) h = h
none-above (suc n) [] h = refl
none-above (suc n) (b ∷ bs) h = ap (λ k. cond b 1 0 + 2 * k) (none-above n bs h)

-- one from the n-th on is set
some-above : (n : ℕ) (xs : List Bool) → 0 < bits_of_flags (drop n xs) → 2 ^ n ≤ bits_of_flags xs
some-above zero [] h = absurd (omega (arith, h))
some-above zero (b ∷ bs) h = omega (arith, h)
some-above (suc n) [] h = absurd (omega (arith, h))
some-above (suc n) (b ∷ bs) h = omega (arith, some-above n bs h, pow-suc 2 n)

pub low-number : (xs low high : List Bool) (bits : ℕ) → low ≡ take 64 xs → high ≡ drop 64 xs → nat_eq (bits_of_flags high) 0 ≡ true → bits ≡ bits_of_flags low → bits ≡ bits_of_flags xs
low-number xs low high bits l h none is =
    is ∙ ap bits_of_flags l ∙ sym (none-above 64 xs (ap bits_of_flags (sym h) ∙ (decides-eq (bits_of_flags high) 0).0 none))

pub no-number : (xs high : List Bool) → high ≡ drop 64 xs → nat_eq (bits_of_flags high) 0 ≡ false → 2 ^ 64 ≤ bits_of_flags xs
no-number xs high h some = some-above 64 xs (subst (λ k. 0 < bits_of_flags k) h (positive (bits_of_flags high) some))
  where
    positive : (n : ℕ) → nat_eq n 0 ≡ false → 0 < n
    positive zero e = absurd (false-true (sym e))
    positive (suc n) e = omega arith

pub ruleset number_rules = (low-number, no-number)
