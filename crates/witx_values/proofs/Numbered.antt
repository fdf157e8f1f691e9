-- Where no two words are spelled alike, a text that is one of them is of that one's kind, wherever it stands.
use Rattle.std.proofs.Common.{◌≡◌, ℕ, zero, suc, ◌<◌, Bool, true, false, cond, List, [], ◌∷◌, length, get_or, map, refl, sym, ap, ◌∙◌, arith}
use Rattle.std.specs.Prelude.{not}
use Rattle.std.specs.List.{list_any}
use Rattle.std.proofs.lemmas.Bool.{and_parts, or_left, or_right}
use Rattle.witx_base.specs.Texts.{same_text}
use Rattle.witx_base.proofs.Names.{same-equal}
use Rattle.witx_grammar.specs.Prediction.{are_distinct}
use Rattle.witx_values.specs.declared.words.Word as code
use Rattle.witx_values.specs.Words.{spelling_view, kind_spelled, AreApart}

not_of : (b : Bool) → not b ≡ true → b ≡ true → ⊥
not_of true h e = absurd cc
not_of false h e = absurd cc

module _ {K M : Type 0} (other : K) where
  -- one of the words is spelled so
  one_is : (ws : List (code.Word K M)) (i : ℕ) (d : code.Word K M) (u : List ℕ) → i < length ws → same_text (get_or ws i d).text.now u ≡ true
      → list_any (λ s. same_text s.text u) (map spelling_view ws) ≡ true
  one_is [] i d u lt same = absurd (omega (arith, lt))
  one_is (w ∷ ws) zero d u lt same = or_left _ _ same
  one_is (w ∷ ws) (suc i) d u lt same = let less : i < length ws = omega (arith, lt) in or_right _ _ (one_is ws i d u less same)

  -- the word in front is another
  other_in_front : (b : Bool) (w : code.Word K M) (ws : List (code.Word K M)) (i : ℕ) (d : code.Word K M) (t : List ℕ) → i < length ws
      → not (list_any (λ s. same_text s.text w.text.now) (map spelling_view ws)) ≡ true → same_text (get_or ws i d).text.now t ≡ true
      → same_text w.text.now t ≡ b → b ≡ false
  other_in_front false w ws i d t lt apart same is = refl
  other_in_front true w ws i d t lt apart same is =
      let alike : (get_or ws i d).text.now ≡ w.text.now = (same-equal (get_or ws i d).text.now t).0 same ∙ sym ((same-equal w.text.now t).0 is) in
      absurd (not_of (list_any (λ s. same_text s.text w.text.now) (map spelling_view ws)) apart (one_is ws i d w.text.now lt ((same-equal (get_or ws i d).text.now w.text.now).1 alike)))

  pub kind_at : (ws : List (code.Word K M)) (i : ℕ) (d e : code.Word K M) (t : List ℕ) → i < length ws → AreApart (map spelling_view ws)
      → same_text (get_or ws i d).text.now t ≡ true → (get_or ws i e).kind ≡ kind_spelled other (map spelling_view ws) t
  kind_at [] i d e t lt apart same = absurd (omega (arith, lt))
  kind_at (w ∷ ws) zero d e t lt apart same = sym (ap (λ (b : Bool). cond b w.kind (kind_spelled other (map spelling_view ws) t)) same)
  kind_at (w ∷ ws) (suc i) d e t lt apart same =
      let both = and_parts (not (list_any (λ s. same_text s.text w.text.now) (map spelling_view ws))) (are_distinct (λ s u. same_text s.text u.text) (map spelling_view ws)) apart in
      let less : i < length ws = omega (arith, lt) in
      kind_at ws i d e t less both.1 same
      ∙ sym (ap (λ (b : Bool). cond b w.kind (kind_spelled other (map spelling_view ws) t)) (other_in_front _ w ws i d t less both.0 same refl))
