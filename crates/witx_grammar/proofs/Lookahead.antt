-- Where the tokens begin with the lookahead of a list of symbols, symbol by symbol.
use Rattle.std.proofs.Common.{◌≡◌, ℕ, zero, suc, ◌+◌, ◌<◌, ◌≤◌, Bool, true, false, cond, ◌&&◌, List, [], ◌∷◌, ◌++◌, length, get_or, take, drop, Option, Some, None, refl, sym, ap, ◌∙◌, arith}
use Rattle.std.specs.Prelude.{not}
use Rattle.std.specs.Option.{is_some}
use Rattle.std.proofs.lemmas.Bool.{and_parts}
use Rattle.std.proofs.lemmas.List.{drop_more, drop_all}
use Rattle.witx_grammar.specs.declared.table.Symbol.{Symbol}
use Rattle.witx_grammar.specs.declared.table.Symbol.TheVariants.{Terminal, Nonterminal}
use Rattle.witx_grammar.specs.Grammar.{Wants}
use Rattle.witx_grammar.specs.Prediction.{begins_with, lookahead}

pub not_true : (b : Bool) → true ≡ not b → b ≡ false
not_true true h = h
not_true false h = refl

pub not_false : (b : Bool) → false ≡ not b → b ≡ true
not_false true h = refl
not_false false h = h

not_both : true ≡ false → ⊥
not_both e = cc

test_fails : (a x : Bool) → a ≡ false → (a && x) ≡ false
test_fails a x e = ap (λ (b : Bool). b && x) e

test_passes : (a x : Bool) → a ≡ true → (a && x) ≡ x
test_passes a x e = ap (λ (b : Bool). b && x) e

module _ {T N : Type 0} (e : T → T → Bool) (w : Wants T N) (ts : List T) (i : ℕ) where
  -- whether what is left of the tokens begins with what is left of the symbols
  abbrev pub left_fits : Bool
  left_fits = begins_with e (lookahead (drop i w)) (drop i ts)

  pub no_more : length w ≤ i → left_fits ≡ true
  no_more past = ap (λ (v : Wants T N). begins_with e (lookahead v) (drop i ts)) (drop_all i w past)

  -- the symbol at the place, and what is left behind it
  opened : (d x : Symbol T N) → i < length w → get_or w i d ≡ x → left_fits ≡ begins_with e (lookahead (x ∷ drop (i + 1) w)) (drop i ts)
  opened d x inside is = ap (λ (v : Wants T N). begins_with e (lookahead v) (drop i ts)) (drop_more w i d inside ∙ ap (λ (y : Symbol T N). y ∷ drop (i + 1) w) is)

  pub at_nonterminal : (d : Symbol T N) (f : N) → i < length w → get_or w i d ≡ Nonterminal f → left_fits ≡ true
  at_nonterminal d f inside is = opened d (Nonterminal f) inside is

  pub at_end : (d : Symbol T N) (t : T) → i < length w → get_or w i d ≡ Terminal t → length ts ≤ i → left_fits ≡ false
  at_end d t inside is past =
      opened d (Terminal t) inside is ∙ ap (λ (us : List T). begins_with e (t ∷ lookahead (drop (i + 1) w)) us) (drop_all i ts past)

  compared : (d : Symbol T N) (t c : T) → i < length w → get_or w i d ≡ Terminal t → i < length ts
      → left_fits ≡ (e t (get_or ts i c) && begins_with e (lookahead (drop (i + 1) w)) (drop (i + 1) ts))
  compared d t c inside is more =
      opened d (Terminal t) inside is ∙ ap (λ (us : List T). begins_with e (t ∷ lookahead (drop (i + 1) w)) us) (drop_more ts i c more)

  pub at_other : (d : Symbol T N) (t c : T) → i < length w → get_or w i d ≡ Terminal t → i < length ts → e t (get_or ts i c) ≡ false → left_fits ≡ false
  at_other d t c inside is more ne = compared d t c inside is more ∙ test_fails (e t (get_or ts i c)) (begins_with e (lookahead (drop (i + 1) w)) (drop (i + 1) ts)) ne

  pub at_same : (d : Symbol T N) (t c : T) → i < length w → get_or w i d ≡ Terminal t → i < length ts → e t (get_or ts i c) ≡ true
      → left_fits ≡ begins_with e (lookahead (drop (i + 1) w)) (drop (i + 1) ts)
  at_same d t c inside is more same = compared d t c inside is more ∙ test_passes (e t (get_or ts i c)) (begins_with e (lookahead (drop (i + 1) w)) (drop (i + 1) ts)) same

-- ---- how many tokens a lookahead takes

pub counted_at_nonterminal : {T N : Type 0} (w : Wants T N) (i : ℕ) (d : Symbol T N) (f : N) → i < length w → get_or w i d ≡ Nonterminal f → length (lookahead (drop i w)) ≡ 0
counted_at_nonterminal {T} {N} w i d f inside is = ap (λ (v : Wants T N). length (lookahead v)) (drop_more w i d inside ∙ ap (λ (y : Symbol T N). y ∷ drop (i + 1) w) is)

pub counted_at_terminal : {T N : Type 0} (w : Wants T N) (i : ℕ) (d : Symbol T N) (t : T) (n : ℕ) → i < length w → get_or w i d ≡ Terminal t
    → i + length (lookahead (drop i w)) ≡ n → (i + 1) + length (lookahead (drop (i + 1) w)) ≡ n
counted_at_terminal {T} {N} w i d t n inside is e =
    let h : length (lookahead (drop i w)) ≡ length (t ∷ lookahead (drop (i + 1) w)) =
    ap (λ (v : Wants T N). length (lookahead v)) (drop_more w i d inside ∙ ap (λ (y : Symbol T N). y ∷ drop (i + 1) w) is) in omega (arith, h, e)

-- a lookahead is no longer than its symbols
pub lookahead_within : {T N : Type 0} (w : Wants T N) → length (lookahead w) ≤ length w
lookahead_within [] = omega arith
lookahead_within (Terminal t ∷ w) = let h = lookahead_within w in omega (arith, h)
lookahead_within (Nonterminal f ∷ w) = omega arith

pub counted_at_end : {T N : Type 0} (w : Wants T N) (i : ℕ) → length w ≤ i → i + length (lookahead (drop i w)) ≡ length (lookahead w) → length (lookahead w) ≡ length w
counted_at_end w i past e = let h = lookahead_within w in omega (arith, h, e, past)

pub is_found : (b : Bool) (n i : ℕ) → b ≡ true → n ≡ i → Some i ≡ cond b (Some n) None
is_found true n i e same = ap (λ (k : ℕ). Some k) (sym same)
is_found false n i e same = cc

pub is_lost : (b : Bool) (n : ℕ) → b ≡ false → None ≡ cond b (Some n) None
is_lost true n e = cc
is_lost false n e = refl

pub found_is : (b : Bool) (n i : ℕ) → Some i ≡ cond b (Some n) None → (b ≡ true) × (i ≡ n)
found_is true n i e = (refl, cc)
found_is false n i e = absurd cc

pub lost_is : (b : Bool) (n : ℕ) → None ≡ cond b (Some n) None → b ≡ false
lost_is true n e = absurd cc
lost_is false n e = refl

pub none_is : (b : Bool) (n : ℕ) (r : Option ℕ) → r ≡ cond b (Some n) None → false ≡ is_some r → b ≡ false
none_is b n None e h = lost_is b n e
none_is b n (Some i) e h = absurd cc

-- What the first tokens rule out, they rule out with whatever comes behind them.
and_false : (a x y : Bool) → (x ≡ false → y ≡ false) → (a && x) ≡ false → (a && y) ≡ false
and_false true x y f h = f h
and_false false x y f h = refl

pub ruled_out : {T N : Type 0} (e : T → T → Bool) (k : ℕ) (w : Wants T N) (next ts : List T) → k ≤ length next
    → begins_with e (lookahead (take k w)) next ≡ false → begins_with e (lookahead w) (next ++ ts) ≡ false
ruled_out e zero w next ts low h = absurd cc
ruled_out e (suc k) [] next ts low h = absurd cc
ruled_out e (suc k) (Nonterminal f ∷ w) next ts low h = absurd cc
ruled_out e (suc k) (Terminal s ∷ w) [] ts low h = absurd (omega (arith, low))
ruled_out e (suc k) (Terminal s ∷ w) (t ∷ next) ts low h =
    let less : k ≤ length next = omega (arith, low) in and_false (e s t) _ _ (ruled_out e k w next ts less) h

-- What tokens begin with they begin with whatever comes behind them.
pub begins_further : {T : Type 0} (e : T → T → Bool) (ps next us : List T) → begins_with e ps next ≡ true → begins_with e ps (next ++ us) ≡ true
begins_further e [] next us h = refl
begins_further e (p ∷ ps) [] us h = cc
begins_further e (p ∷ ps) (t ∷ next) us h =
    let both = and_parts (e p t) (begins_with e ps next) h in test_passes (e p t) (begins_with e ps (next ++ us)) both.0 ∙ begins_further e ps next us both.1

-- Where the lookahead of the first two symbols comes next, a lookahead of no more than two tokens does,
pub begins_at_once : {T N : Type 0} (e : T → T → Bool) (w : Wants T N) (ts : List T) → length (lookahead w) ≤ 2 → begins_with e (lookahead (take 2 w)) ts ≡ true
    → true ≡ begins_with e (lookahead w) ts
begins_at_once e [] ts few h = refl
begins_at_once e (Nonterminal f ∷ w) ts few h = refl
begins_at_once e (Terminal a ∷ []) ts few h = sym h
begins_at_once e (Terminal a ∷ Nonterminal f ∷ w) ts few h = sym h
begins_at_once e (Terminal a ∷ Terminal b ∷ []) ts few h = sym h
begins_at_once e (Terminal a ∷ Terminal b ∷ Nonterminal f ∷ w) ts few h = sym h
begins_at_once e (Terminal a ∷ Terminal b ∷ Terminal c ∷ w) ts few h = absurd (omega (arith, few))

-- and of a longer one there are two tokens, and only what is behind these is left to come.
two_and_on : {T N : Type 0} (e : T → T → Bool) (w : Wants T N) (ts : List T) → 2 < length (lookahead w) → begins_with e (lookahead (take 2 w)) ts ≡ true
    → (2 ≤ length ts) × (begins_with e (lookahead w) ts ≡ begins_with e (lookahead (drop 2 w)) (drop 2 ts))
two_and_on e [] ts many h = absurd (omega (arith, many))
two_and_on e (Nonterminal f ∷ w) ts many h = absurd (omega (arith, many))
two_and_on e (Terminal a ∷ []) ts many h = absurd (omega (arith, many))
two_and_on e (Terminal a ∷ Nonterminal f ∷ w) ts many h = absurd (omega (arith, many))
two_and_on e (Terminal a ∷ Terminal b ∷ w) [] many h = absurd cc
two_and_on e (Terminal a ∷ Terminal b ∷ w) (x ∷ []) many h = absurd (not_both (sym ((and_parts (e a x) false h).1)))
two_and_on e (Terminal a ∷ Terminal b ∷ w) (x ∷ y ∷ ts) many h =
    let both = and_parts (e a x) (e b y && true) h in
    let two = and_parts (e b y) true both.1 in
    (omega arith, test_passes (e a x) (e b y && begins_with e (lookahead w) ts) both.0 ∙ test_passes (e b y) (begins_with e (lookahead w) ts) two.0)

pub begins_on : {T N : Type 0} (e : T → T → Bool) (w : Wants T N) (ts : List T) → 2 < length (lookahead w) → begins_with e (lookahead (take 2 w)) ts ≡ true
    → begins_with e (lookahead w) ts ≡ begins_with e (lookahead (drop 2 w)) (drop 2 ts)
begins_on e w ts many h = (two_and_on e w ts many h).1

pub two_begin : {T N : Type 0} (e : T → T → Bool) (w : Wants T N) (ts : List T) → 2 < length (lookahead w) → begins_with e (lookahead (take 2 w)) ts ≡ true → 2 ≤ length ts
two_begin e w ts many h = (two_and_on e w ts many h).0

pub some_is : (b : Bool) (n : ℕ) (r : Option ℕ) → r ≡ cond b (Some n) None → is_some r ≡ b
some_is true n r e = ap (λ (o : Option ℕ). is_some o) e
some_is false n r e = ap (λ (o : Option ℕ). is_some o) e
