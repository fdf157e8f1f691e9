-- The number of flags, from the last to the first.
use Rattle.std.proofs.Common.{◌≡◌, ℕ, ◌+◌, ◌*◌, ◌^◌, ◌<◌, ◌≤◌, Bool, cond, sym, ap, ◌∙◌, arith, List, ◌∷◌, length, drop, get_or, pow_mono, length-drop}
use Rattle.std.proofs.lemmas.List.{drop_more, drop_all}
use Rattle.witx_machine.specs.Words.{bits_of_flags}
use Rattle.witx_bytes.proofs.NumberLaws.{flags-below}

-- the number of the flags from an index on
pub record FlagsFrom (xs : List Bool) (i bits : ℕ) : Type 0 where
  pub within : i ≤ length xs
  pub is : bits ≡ bits_of_flags (drop i xs)

pub flags_none : (xs : List Bool) → FlagsFrom xs (length xs) 0
flags_none xs = record { within = omega arith; is = sym (ap bits_of_flags (drop_all (length xs) xs (omega arith))) }

pub flags_more : (xs : List Bool) (i j bits more : ℕ) (b : Bool) → FlagsFrom xs i bits → i ≡ j + 1 → b ≡ get_or xs j b → more ≡ bits * 2 + cond b 1 0 → FlagsFrom xs j more
flags_more xs i j bits more b f e p is =
    let lt : j < length xs = omega (arith, f.within, e) in
    let whole : drop j xs ≡ b ∷ drop (j + 1) xs = drop_more xs j b lt ∙ ap (λ c. c ∷ drop (j + 1) xs) (sym p) in
    let rest : bits_of_flags (drop (j + 1) xs) ≡ bits = ap (λ k. bits_of_flags (drop k xs)) (sym e) ∙ sym f.is in
    let all : bits_of_flags (drop j xs) ≡ cond b 1 0 + 2 * bits_of_flags (drop (j + 1) xs) = ap bits_of_flags whole in
    record { within = omega (arith, lt); is = omega (arith, is, rest, all) }

pub flags_small : (xs : List Bool) (i bits : ℕ) → FlagsFrom xs i bits → length xs ≤ 64 → 0 < i → bits < 2 ^ 63
flags_small xs i bits f h l =
    let long : length (drop i xs) ≤ 63 = omega (arith, length-drop i xs, h, l) in
    let power : 2 ^ length (drop i xs) ≤ 2 ^ 63 = pow_mono long in
    omega (arith, flags-below (drop i xs), f.is, power)

pub flags_all : (xs : List Bool) (bits : ℕ) → FlagsFrom xs 0 bits → bits ≡ bits_of_flags xs
flags_all xs bits f = f.is

pub ruleset flag_rules = (flags_none, flags_more, flags_small, flags_all)
