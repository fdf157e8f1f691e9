-- What values are made of, as the program has them.
use Rattle.std.proofs.Common.{◌≡◌, ℕ, suc, ◌<◌, ◌^◌, true, refl, ap, ◌∙◌, List, [], ◌∷◌, map, length, Some, nat_eq}
use Rattle.witx_ast.proofs.Decided.{decides-lt}
use Rattle.witx_machine.specs.Words.{is_u32, when}
use Rattle.witx_machine.specs.Cells.{list_of_values, values_of, tuple_parts}
use Rattle.witx_ast.specs.Values as plain
use Rattle.witx_bytes.specs.Seen.{seen}
use Rattle.witx_bytes.specs.declared.value.Value.{Value}
use Rattle.witx_bytes.proofs.Seen.{seen_rules}

pub listed-values : (vs : List plain.Value) → list_of_values (values_of vs) ≡ vs
listed-values [] = refl
listed-values (v ∷ vs) = ap (λ l. v ∷ l) (listed-values vs)

same-length : (vs : List Value) → length (map seen vs) ≡ length vs
same-length [] = refl
same-length (v ∷ vs) = ap suc (same-length vs)

pub tuple-parts : (n : ℕ) (vs : List Value) → tuple_parts n (plain.tuple_values (values_of (map seen vs))) ≡ when (nat_eq n (length vs)) (Some (map seen vs))
tuple-parts n vs =
    ap (λ l. when (nat_eq n (length l)) (Some l)) (listed-values (map seen vs)) ∙ ap (λ k. when (nat_eq n k) (Some (map seen vs))) (same-length vs)

-- a number of 32 bits is below 2^32
pub small-number : (n : ℕ) → n < 2 ^ 32 → is_u32 n ≡ true
small-number n l = (decides-lt n (2 ^ 32)).1 l

pub ruleset shape_rules = (seen_rules, tuple-parts, small-number)
