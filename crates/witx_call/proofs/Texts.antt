-- What is appended, piece by piece.
use Rattle.std.proofs.Common.{◌≡◌, ℕ, zero, suc, ◌+◌, ◌<◌, ◌≤◌, List, [], ◌∷◌, ◌++◌, Bool, Option, Some, None, option_map, refl, sym, ap, ◌∙◌, subst, arith, append_assoc, append-nil, add-one, length, drop, get_or}
use Rattle.std.proofs.lemmas.List.{drop_more, drop_all}
use Rattle.witx_bytes.specs.Seen.{seen, values_seen}
use Rattle.witx_bytes.specs.declared.value.Value.{Value}
use Rattle.witx_bytes.proofs.Seen.{seen_rules}
use Rattle.witx_call.specs.ValueTexts.{value_text, values_text, flags_text, flag_text, space_before}

-- a loop over items with one space between: what is written, with what the items left are to give, is the whole
module _ {A : Type 0} (whole : ℕ → List A → List ℕ) (f : A → List ℕ) (step : (i : ℕ) (x : A) (xs : List A) → whole i (x ∷ xs) ≡ space_before i ++ f x ++ whole (suc i) xs) where
  item-more : (xs : List A) (i : ℕ) (x : A) (before between now total : List ℕ) → i < length xs → x ≡ get_or xs i x → between ≡ before ++ space_before i → now ≡ between ++ f x → before ++ whole i (drop i xs) ≡ total → now ++ whole (i + 1) (drop (i + 1) xs) ≡ total
  item-more xs i x before between now total l e b n h =
      let left : drop i xs ≡ x ∷ drop (i + 1) xs = drop_more xs i x l ∙ ap (λ y. y ∷ drop (i + 1) xs) (sym e) in
      ap (λ s. s ++ whole (i + 1) (drop (i + 1) xs)) (n ∙ ap (λ s. s ++ f x) b)
      ∙ ap (λ j. ((before ++ space_before i) ++ f x) ++ whole j (drop (i + 1) xs)) (add-one i)
      ∙ regroup before (space_before i) (f x) (whole (suc i) (drop (i + 1) xs))
      ∙ ap (λ s. before ++ s) (sym (step i x (drop (i + 1) xs)))
      ∙ ap (λ xs. before ++ whole i xs) (sym left) ∙ h
    where
      regroup : (a b c d : List ℕ) → ((a ++ b) ++ c) ++ d ≡ a ++ ((b ++ c) ++ d)
      regroup a b c d = simp append_assoc

  item-end : ((i : ℕ) → whole i [] ≡ []) → (xs : List A) (i : ℕ) (now total : List ℕ) → length xs ≤ i → now ++ whole i (drop i xs) ≡ total → now ≡ total
  item-end none xs i now total l h = sym (append-nil now) ∙ ap (λ s. now ++ s) (sym (none i) ∙ ap (whole i) (sym (drop_all i xs l))) ∙ h

-- values
abbrev pub values_whole : ℕ → List Value → List ℕ
values_whole i vs = values_text i (values_seen vs)

abbrev pub ValuesLeft : List Value → ℕ → (now total : List ℕ) → Type 0
ValuesLeft vs i now total = now ++ values_whole i (drop i vs) ≡ total

pub values_more : (vs : List Value) (i : ℕ) (v : Value) (before between now total : List ℕ) → i < length vs → v ≡ get_or vs i v → between ≡ before ++ space_before i → now ≡ between ++ value_text (seen v) → ValuesLeft vs i before total → ValuesLeft vs (i + 1) now total
values_more vs i v before between now total l e b n h = item-more values_whole (λ v. value_text (seen v)) (λ i v vs. refl) vs i v before between now total l e b n h

pub values_end : (vs : List Value) (i : ℕ) (now total : List ℕ) → length vs ≤ i → ValuesLeft vs i now total → now ≡ total
values_end vs i now total l h = item-end values_whole (λ v. value_text (seen v)) (λ i v vs. refl) (λ i. refl) vs i now total l h

-- flags
abbrev pub FlagsLeft : List Bool → ℕ → (now total : List ℕ) → Type 0
FlagsLeft bs i now total = now ++ flags_text i (drop i bs) ≡ total

pub flags_more : (bs : List Bool) (i : ℕ) (b : Bool) (before between now total : List ℕ) → i < length bs → b ≡ get_or bs i b → between ≡ before ++ space_before i → now ≡ between ++ flag_text b → FlagsLeft bs i before total → FlagsLeft bs (i + 1) now total
flags_more bs i b before between now total l e k n h = item-more flags_text flag_text (λ i b bs. refl) bs i b before between now total l e k n h

pub flags_end : (bs : List Bool) (i : ℕ) (now total : List ℕ) → length bs ≤ i → FlagsLeft bs i now total → now ≡ total
flags_end bs i now total l h = item-end flags_text flag_text (λ i b bs. refl) (λ i. refl) bs i now total l h

-- nothing before the first item, a space before each other
pub first_space : (i : ℕ) → i ≡ 0 → space_before i ≡ []
first_space i e = ap space_before e

pub other_space : (i : ℕ) → (i ≡ 0 → ⊥) → space_before i ≡ 32 ∷ []
other_space zero n = absurd (n refl)
other_space (suc i) n = refl

-- a payload, or none
pub ruleset text_rules = (seen_rules)

pub ruleset loop_rules = (values_more, values_end, flags_more, flags_end, first_space, other_space, append-nil)
