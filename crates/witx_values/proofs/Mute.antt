-- Tokens that are spelled as words stand for nothing, if this holds of each word's kind.
use Rattle.std.proofs.Common.{◌≡◌, ℕ, Bool, true, false, cond, List, [], ◌∷◌, refl, sym}
use Rattle.std.specs.List.{list_all}
use Rattle.std.proofs.lemmas.Bool.{and_parts}
use Rattle.witx_base.specs.Texts.{same_text}
use Rattle.witx_values.specs.Words.{Spelling, kind_spelled}
use Rattle.witx_values.proofs.Truths.{not_both}

abbrev is_none : {S : Type 0} → List S → Bool
is_none [] = true
is_none (s ∷ ss) = false

none : {S : Type 0} (ss : List S) → is_none ss ≡ true → [] ≡ ss
none [] e = refl
none (s ∷ ss) e = absurd (not_both (sym e))

module _ {T S : Type 0} (sorts : T → List S) where
  -- no value stands for tokens of the kind
  abbrev pub is_mute : T → Bool
  is_mute k = is_none (sorts k)

  mute_one : (b : Bool) (j k : T) → is_mute j ≡ true → is_mute k ≡ true → is_mute (cond b j k) ≡ true
  mute_one true j k d e = d
  mute_one false j k d e = e

  mute_spelled : (other : T) (ss : List (Spelling T)) (t : List ℕ) → is_mute other ≡ true → list_all (λ s. is_mute s.kind) ss ≡ true → is_mute (kind_spelled other ss t) ≡ true
  mute_spelled other [] t m e = m
  mute_spelled other (s ∷ ss) t m e =
      let p = and_parts (is_mute s.kind) (list_all (λ s. is_mute s.kind) ss) e in
      mute_one (same_text s.text t) s.kind (kind_spelled other ss t) p.0 (mute_spelled other ss t m p.1)

  -- what is spelled so is of no sort
  pub no_sorts_spelled : (other : T) (ss : List (Spelling T)) (t : List ℕ) → is_mute other ≡ true → list_all (λ s. is_mute s.kind) ss ≡ true → [] ≡ sorts (kind_spelled other ss t)
  no_sorts_spelled other ss t m e = none (sorts (kind_spelled other ss t)) (mute_spelled other ss t m e)
