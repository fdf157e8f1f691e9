-- Flags that are read, one after the other.
use Rattle.std.proofs.Common.{◌≡◌, ℕ, suc, ◌+◌, ◌-◌, ◌<◌, ◌≤◌, List, [], ◌∷◌, ◌++◌, Bool, Option, Some, None, option_map, option_and_then, refl, sym, ap, ◌∙◌, arith, append_assoc, append-nil, add-one}
use Rattle.witx_invoke.specs.Reading.{made, flag_at, flags_read, item_past}

-- flags so far, and then those that are left
abbrev pub FlagsRead : ℕ → List Bool → ℕ → (text rest : List ℕ) → Type 0
FlagsRead count flags i text rest = flags_read 0 count text ≡ option_map (made (λ bs. flags ++ bs)) (flags_read i (count - i) rest)

nothing-before : (o : Option (List Bool × List ℕ)) → o ≡ option_map (made (λ bs. [] ++ bs)) o
nothing-before None = refl
nothing-before (Some p) = refl

pub flags_first : (count : ℕ) (text : List ℕ) → FlagsRead count [] 0 text text
flags_first count text =
    let all : count - 0 ≡ count = omega arith in
    nothing-before (flags_read 0 count text) ∙ ap (λ n. option_map (made (λ bs. [] ++ bs)) (flags_read 0 n text)) (sym all)

one-more : (flags : List Bool) (b : Bool) (o : Option (List Bool × List ℕ)) → option_map (made (λ bs. flags ++ bs)) (option_map (made (λ bs. b ∷ bs)) o) ≡ option_map (made (λ bs. (flags ++ b ∷ []) ++ bs)) o
one-more flags b None = refl
one-more flags b (Some p) = ap (λ (bs : List Bool). Some (bs, p.1)) (sym (append_assoc flags (b ∷ []) p.0))

module _ (count : ℕ) (flags : List Bool) (i : ℕ) (text rest : List ℕ) (h : FlagsRead count flags i text rest) (l : i < count) where
  step : (o : Option (Bool × List ℕ)) → option_and_then flag_at (item_past i rest) ≡ o
      → flags_read 0 count text ≡ option_map (made (λ bs. flags ++ bs)) (option_and_then (λ p. option_map (made (λ bs. p.0 ∷ bs)) (flags_read (suc i) (count - (i + 1)) p.1)) o)
  step o e =
      let left : count - i ≡ suc (count - (i + 1)) = omega (arith, l) in
      h ∙ ap (λ n. option_map (made (λ bs. flags ++ bs)) (flags_read i n rest)) left
      ∙ ap (λ o. option_map (made (λ bs. flags ++ bs)) (option_and_then (λ p. option_map (made (λ bs. p.0 ∷ bs)) (flags_read (suc i) (count - (i + 1)) p.1)) o)) e

  pub flags_stop : option_and_then flag_at (item_past i rest) ≡ None → flags_read 0 count text ≡ None
  flags_stop e = step None e

  pub flags_next : (longer : List Bool) (b : Bool) (more : List ℕ) → longer ≡ flags ++ b ∷ [] → option_and_then flag_at (item_past i rest) ≡ Some (b, more) → FlagsRead count longer (i + 1) text more
  flags_next longer b more is e =
      step (Some (b, more)) e ∙ one-more flags b (flags_read (suc i) (count - (i + 1)) more)
      ∙ ap (λ j. option_map (made (λ bs. (flags ++ b ∷ []) ++ bs)) (flags_read j (count - (i + 1)) more)) (sym (add-one i))
      ∙ ap (λ fs. option_map (made (λ bs. fs ++ bs)) (flags_read (i + 1) (count - (i + 1)) more)) (sym is)

pub flags_done : (count : ℕ) (flags : List Bool) (i : ℕ) (text rest : List ℕ) → FlagsRead count flags i text rest → count ≤ i → flags_read 0 count text ≡ Some (flags, rest)
flags_done count flags i text rest h l =
    let none : count - i ≡ 0 = omega (arith, l) in
    h ∙ ap (λ n. option_map (made (λ bs. flags ++ bs)) (flags_read i n rest)) none ∙ ap (λ (bs : List Bool). Some (bs, rest)) (append-nil flags)

pub ruleset flag_rules = (flags_first, flags_stop, flags_next, flags_done)
