-- So many items taken off the stack, one after the other.
use Rattle.std.proofs.Common.{◌≡◌, ℕ, suc, ◌+◌, ◌-◌, ◌<◌, ◌≤◌, List, [], ◌∷◌, ◌++◌, map, refl, sym, ap, ◌∙◌, arith, Option, Some, None}
use Rattle.std.specs.Prelude.{reverse}
use Rattle.std.proofs.lemmas.List.{reverse-append}
use Rattle.witx_machine.specs.Machine.{Item, word_item, value_item, values_off, words_off, items_off}
use Rattle.witx_run.specs.StackRows.{top_value_of, top_word_of}

map-more : {A B : Type 0} (f : A → B) (xs : List A) (x : A) → map f (xs ++ x ∷ []) ≡ map f xs ++ f x ∷ []
map-more f [] x = refl
map-more f (y ∷ xs) x = ap (λ l. f y ∷ l) (map-more f xs x)

-- one more is the newest
newest : {A B : Type 0} (f : A → B) (xs : List A) (x : A) → reverse (map f (xs ++ x ∷ [])) ≡ f x ∷ reverse (map f xs)
newest f xs x = ap reverse (map-more f xs x) ∙ reverse-append (map f xs) (f x ∷ [])

pub map-turned : {A B : Type 0} (f : A → B) (xs : List A) → map f (reverse xs) ≡ reverse (map f xs)
map-turned f [] = refl
map-turned f (x ∷ xs) = ap (map f) (reverse-append (x ∷ []) xs ∙ refl) ∙ map-more f (reverse xs) x ∙ ap (λ l. l ++ f x ∷ []) (map-turned f xs) ∙ sym (reverse-append (f x ∷ []) (map f xs))

none_some : {A : Type 0} {x : A} → None ≡ Some x → ⊥
none_some e = cc

some-same : {A : Type 0} {x y : A} → Some x ≡ Some y → x ≡ y
some-same e = cc

one-less : (n i : ℕ) → i < n → n - i ≡ suc (n - (i + 1))
one-less n i l = omega arith

module _ {A V W : Type 0} (f : A → V) where
  value-on : (n : ℕ) (vs : List V) (stack rest : List (Item V W)) (v : V) → top_value_of stack ≡ Some (v, rest) → values_off (suc n) vs stack ≡ values_off n (v ∷ vs) rest
  value-on n vs [] rest v e = absurd (none_some e)
  value-on n vs (word_item w ∷ stack) rest v e = absurd (none_some e)
  value-on n vs (value_item u t ∷ stack) rest v e = ap (λ (p : V × List (Item V W)). values_off n (p.0 ∷ vs) p.1) (some-same e)

  value-off : (n : ℕ) (vs : List V) (stack : List (Item V W)) → top_value_of stack ≡ None → values_off (suc n) vs stack ≡ None
  value-off n vs [] e = refl
  value-off n vs (word_item w ∷ stack) e = refl
  value-off n vs (value_item u t ∷ stack) e = absurd (none_some (sym e))

  pub values-on : (n i : ℕ) (xs ys : List A) (x : A) (stack rest : List (Item V W)) (all : Option (List V × List (Item V W))) → i < n → top_value_of stack ≡ Some (f x, rest) → ys ≡ xs ++ x ∷ [] →
      values_off (n - i) (reverse (map f xs)) stack ≡ all → values_off (n - (i + 1)) (reverse (map f ys)) rest ≡ all
  values-on n i xs ys x stack rest all l top e h =
      ap (λ ys. values_off (n - (i + 1)) (reverse (map f ys)) rest) e
      ∙ ap (λ vs. values_off (n - (i + 1)) vs rest) (newest f xs x)
      ∙ sym (value-on (n - (i + 1)) (reverse (map f xs)) stack rest (f x) top)
      ∙ ap (λ k. values_off k (reverse (map f xs)) stack) (sym (one-less n i l)) ∙ h

  pub values-short : (n i : ℕ) (xs : List A) (stack : List (Item V W)) (all : Option (List V × List (Item V W))) → i < n → top_value_of stack ≡ None →
      values_off (n - i) (reverse (map f xs)) stack ≡ all → None ≡ all
  values-short n i xs stack all l top h =
      sym (value-off (n - (i + 1)) (reverse (map f xs)) stack top) ∙ ap (λ k. values_off k (reverse (map f xs)) stack) (sym (one-less n i l)) ∙ h

  pub values-done : (n i : ℕ) (xs ys : List A) (stack : List (Item V W)) (all : Option (List V × List (Item V W))) → n ≤ i → ys ≡ reverse xs →
      values_off (n - i) (reverse (map f xs)) stack ≡ all → Some (map f ys, stack) ≡ all
  values-done n i xs ys stack all l e h =
      let none : n - i ≡ 0 = omega arith in
      ap (λ ys. Some (map f ys, stack)) e ∙ ap (λ vs. Some (vs, stack)) (map-turned f xs) ∙ ap (λ k. values_off k (reverse (map f xs)) stack) (sym none) ∙ h

module _ {A V W : Type 0} (f : A → W) where
  word-on : (n : ℕ) (ws : List W) (stack rest : List (Item V W)) (w : W) → top_word_of stack ≡ Some (w, rest) → words_off (suc n) ws stack ≡ words_off n (w ∷ ws) rest
  word-on n ws [] rest w e = absurd (none_some e)
  word-on n ws (value_item u t ∷ stack) rest w e = absurd (none_some e)
  word-on n ws (word_item u ∷ stack) rest w e = ap (λ (p : W × List (Item V W)). words_off n (p.0 ∷ ws) p.1) (some-same e)

  word-off : (n : ℕ) (ws : List W) (stack : List (Item V W)) → top_word_of stack ≡ None → words_off (suc n) ws stack ≡ None
  word-off n ws [] e = refl
  word-off n ws (value_item u t ∷ stack) e = refl
  word-off n ws (word_item w ∷ stack) e = absurd (none_some (sym e))

  pub words-on : (n i : ℕ) (xs ys : List A) (x : A) (stack rest : List (Item V W)) (all : Option (List W × List (Item V W))) → i < n → top_word_of stack ≡ Some (f x, rest) → ys ≡ xs ++ x ∷ [] →
      words_off (n - i) (reverse (map f xs)) stack ≡ all → words_off (n - (i + 1)) (reverse (map f ys)) rest ≡ all
  words-on n i xs ys x stack rest all l top e h =
      ap (λ ys. words_off (n - (i + 1)) (reverse (map f ys)) rest) e
      ∙ ap (λ ws. words_off (n - (i + 1)) ws rest) (newest f xs x)
      ∙ sym (word-on (n - (i + 1)) (reverse (map f xs)) stack rest (f x) top)
      ∙ ap (λ k. words_off k (reverse (map f xs)) stack) (sym (one-less n i l)) ∙ h

  pub words-short : (n i : ℕ) (xs : List A) (stack : List (Item V W)) (all : Option (List W × List (Item V W))) → i < n → top_word_of stack ≡ None →
      words_off (n - i) (reverse (map f xs)) stack ≡ all → None ≡ all
  words-short n i xs stack all l top h =
      sym (word-off (n - (i + 1)) (reverse (map f xs)) stack top) ∙ ap (λ k. words_off k (reverse (map f xs)) stack) (sym (one-less n i l)) ∙ h

  pub words-done : (n i : ℕ) (xs ys : List A) (stack : List (Item V W)) (all : Option (List W × List (Item V W))) → n ≤ i → ys ≡ reverse xs →
      words_off (n - i) (reverse (map f xs)) stack ≡ all → Some (map f ys, stack) ≡ all
  words-done n i xs ys stack all l e h =
      let none : n - i ≡ 0 = omega arith in
      ap (λ ys. Some (map f ys, stack)) e ∙ ap (λ ws. Some (ws, stack)) (map-turned f xs) ∙ ap (λ k. words_off k (reverse (map f xs)) stack) (sym none) ∙ h

module _ {A V W : Type 0} (f : A → Item V W) where
  pub items-on : (n i : ℕ) (xs ys : List A) (x : A) (stack rest : List (Item V W)) (all : Option (List (Item V W) × List (Item V W))) → i < n → stack ≡ f x ∷ rest → ys ≡ xs ++ x ∷ [] →
      items_off (n - i) (reverse (map f xs)) stack ≡ all → items_off (n - (i + 1)) (reverse (map f ys)) rest ≡ all
  items-on n i xs ys x stack rest all l top e h =
      ap (λ ys. items_off (n - (i + 1)) (reverse (map f ys)) rest) e
      ∙ ap (λ ws. items_off (n - (i + 1)) ws rest) (newest f xs x)
      ∙ ap (λ stack. items_off (suc (n - (i + 1))) (reverse (map f xs)) stack) (sym top)
      ∙ ap (λ k. items_off k (reverse (map f xs)) stack) (sym (one-less n i l)) ∙ h

  pub items-short : (n i : ℕ) (xs : List A) (stack : List (Item V W)) (all : Option (List (Item V W) × List (Item V W))) → i < n → stack ≡ [] →
      items_off (n - i) (reverse (map f xs)) stack ≡ all → None ≡ all
  items-short n i xs stack all l top h =
      ap (λ stack. items_off (suc (n - (i + 1))) (reverse (map f xs)) stack) (sym top) ∙ ap (λ k. items_off k (reverse (map f xs)) stack) (sym (one-less n i l)) ∙ h

  pub items-done : (n i : ℕ) (xs ys : List A) (stack : List (Item V W)) (all : Option (List (Item V W) × List (Item V W))) → n ≤ i → ys ≡ reverse xs →
      items_off (n - i) (reverse (map f xs)) stack ≡ all → Some (map f ys, stack) ≡ all
  items-done n i xs ys stack all l e h =
      let none : n - i ≡ 0 = omega arith in
      ap (λ ys. Some (map f ys, stack)) e ∙ ap (λ ws. Some (ws, stack)) (map-turned f xs) ∙ ap (λ k. items_off k (reverse (map f xs)) stack) (sym none) ∙ h
