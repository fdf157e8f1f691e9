-- Flags that are read, from the lowest bit on.
use Rattle.std.proofs.Common.{◌≡◌, ℕ, suc, ◌+◌, ◌-◌, ◌/◌, ◌%◌, ◌^◌, ◌<◌, ◌≤◌, Bool, true, false, refl, sym, ap, ◌∙◌, arith, Some, None, List, [], ◌∷◌, ◌++◌, append-nil, append_assoc, pow-suc, nat_eq, nat_lt}
use Rattle.witx_base.specs.SameBytes.{false-true}
use Rattle.witx_ast.proofs.Decided.{decides-lt}
use Rattle.witx_ast.specs.Values as plain
use Rattle.witx_machine.specs.Words.{flags_from, when}
use Rattle.witx_bytes.specs.Reading.{flags_at}
use Rattle.witx_bytes.specs.Seen.{seen}
use Rattle.witx_bytes.specs.declared.value.Value.TheVariants as value
use Rattle.witx_bytes.proofs.Seen.{seen-Flags}

-- so many flags are still to come, from the rest of the number
pub record FlagsLeft (count made bits rest : ℕ) (flags : List Bool) : Type 0 where
  pub same : flags_from count bits ≡ flags ++ flags_from (count - made) rest
  pub beyond : nat_lt bits (2 ^ count) ≡ nat_lt rest (2 ^ (count - made))

pub flags_first : (count bits : ℕ) → FlagsLeft count 0 bits bits []
flags_first count bits =
    let all : count - 0 ≡ count = omega arith in
    record { same = ap (λ k. flags_from k bits) (sym all); beyond = ap (λ k. nat_lt bits (2 ^ k)) (sym all) }

half-below : (rest n : ℕ) → nat_lt rest (2 ^ suc n) ≡ nat_lt (rest / 2) (2 ^ n)
half-below rest n = go (nat_lt (rest / 2) (2 ^ n)) refl (nat_lt rest (2 ^ suc n)) refl
  where
    go : (b : Bool) → nat_lt (rest / 2) (2 ^ n) ≡ b → (c : Bool) → nat_lt rest (2 ^ suc n) ≡ c → nat_lt rest (2 ^ suc n) ≡ nat_lt (rest / 2) (2 ^ n)
    go true e true k = k ∙ sym e
    go false e false k = k ∙ sym e
    go true e false k =
        let l = (decides-lt (rest / 2) (2 ^ n)).0 e in
        let u : rest < 2 ^ suc n = omega (arith, l, pow-suc 2 n) in
        absurd (false-true (sym k ∙ (decides-lt rest (2 ^ suc n)).1 u))
    go false e true k =
        let l = (decides-lt rest (2 ^ suc n)).0 k in
        let u : rest / 2 < 2 ^ n = omega (arith, l, pow-suc 2 n) in
        absurd (false-true (sym e ∙ (decides-lt (rest / 2) (2 ^ n)).1 u))

pub flags_more : (count made more bits rest next : ℕ) (flags longer : List Bool) (b : Bool) → FlagsLeft count made bits rest flags → made < count → more ≡ made + 1 → next ≡ rest / 2 → b ≡ nat_eq (rest % 2) 1 → longer ≡ flags ++ b ∷ [] → FlagsLeft count more bits next longer
flags_more count made more bits rest next flags longer b f l m n e is =
    let step : count - made ≡ suc (count - more) = omega (arith, l, m) in
    record {
      same =
          f.same ∙ ap (λ k. flags ++ flags_from k rest) step
          ∙ sym (append_assoc flags (nat_eq (rest % 2) 1 ∷ []) (flags_from (count - more) (rest / 2)))
          ∙ ap (λ b. (flags ++ b ∷ []) ++ flags_from (count - more) (rest / 2)) (sym e)
          ∙ ap (λ r. (flags ++ b ∷ []) ++ flags_from (count - more) r) (sym n)
          ∙ ap (λ xs. xs ++ flags_from (count - more) next) (sym is);
      beyond = f.beyond ∙ ap (λ k. nat_lt rest (2 ^ k)) step ∙ half-below rest (count - more) ∙ ap (λ r. nat_lt r (2 ^ (count - more))) (sym n);
    }

-- nothing is left of the number, or something is
pub flags_end : (count made bits rest : ℕ) (flags : List Bool) → FlagsLeft count made bits rest flags → count ≤ made → rest ≤ 0 → flags_at count bits ≡ Some (seen (value.Flags flags))
flags_end count made bits rest flags f l z =
    let none : count - made ≡ 0 = omega (arith, l) in
    let small : nat_lt rest (2 ^ (count - made)) ≡ true = ap (λ k. nat_lt rest (2 ^ k)) none ∙ (decides-lt rest 1).1 (omega (arith, z)) in
    let all : flags_from count bits ≡ flags = f.same ∙ ap (λ k. flags ++ flags_from k rest) none ∙ append-nil flags in
    ap (λ b. when b (Some (plain.flag_bits (flags_from count bits)))) (f.beyond ∙ small) ∙ ap (λ bs. Some (plain.flag_bits bs)) all ∙ ap Some (sym (seen-Flags flags))

pub flags_over : (count made bits rest : ℕ) (flags : List Bool) → FlagsLeft count made bits rest flags → count ≤ made → 0 < rest → flags_at count bits ≡ None
flags_over count made bits rest flags f l z =
    let none : count - made ≡ 0 = omega (arith, l) in
    go (nat_lt bits (2 ^ count)) refl none
  where
    go : (b : Bool) → nat_lt bits (2 ^ count) ≡ b → count - made ≡ 0 → flags_at count bits ≡ None
    go false e none = ap (λ b. when b (Some (plain.flag_bits (flags_from count bits)))) e
    go true e none =
        let small : nat_lt rest 1 ≡ true = ap (λ k. nat_lt rest (2 ^ k)) (sym none) ∙ sym f.beyond ∙ e in
        absurd (omega (arith, z, (decides-lt rest 1).0 small))

pub ruleset flag_rules = (flags_first, flags_more, flags_end, flags_over)
