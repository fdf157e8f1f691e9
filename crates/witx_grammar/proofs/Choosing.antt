-- Productions in front that don't fit change no choice.
use Rattle.std.proofs.Common.{◌≡◌, ℕ, ◌+◌, ◌<◌, ◌≤◌, Bool, true, false, cond, List, [], ◌∷◌, ◌++◌, length, get_or, take, drop, map, Option, Some, None, sym, ap, ◌∙◌, subst, inl, inr, arith}
use Rattle.std.specs.Prelude.{IfSome}
use Rattle.std.proofs.lemmas.List.{drop_more, take-append-drop, take_all}
use Rattle.std.proofs.lemmas.Bool.{cases_lt}
use Rattle.std.proofs.lemmas.List.Elements.{All-get_or, All-push}
use Rattle.witx_grammar.specs.declared.table.Production.{Production}
use Rattle.witx_grammar.specs.declared.known.Known.{Known}
use Rattle.witx_grammar.specs.Grammar.{Rewrite, Wants, rewrite_view, rewrites_of}
use Rattle.witx_grammar.specs.Prediction.{begins_with, lookahead, candidate, pick}
use Rattle.witx_grammar.specs.Choices.{first_of, AlikeBehind, IsRest, MayFit, IsKnown, AreKnown}
use Rattle.witx_grammar.proofs.Lookahead.{ruled_out, begins_further}

pub one_ruled_out : {T N P : Type 0} (e : T → T → Bool) (next : List T) (ps : List (Production T N P)) (i k : ℕ) (p : Production T N P)
    → i < length ps → p ≡ get_or ps i p → k ≤ length next → begins_with e (lookahead (take k p.symbols.now)) next ≡ false
    → AlikeBehind e next (drop i ps) ps → AlikeBehind e next (drop (i + 1) ps) ps
one_ruled_out {T} {N} {P} e next ps i k p inside is low out alike f ts =
    let split : drop i ps ≡ p ∷ drop (i + 1) ps = drop_more ps i p inside ∙ ap (λ (x : Production T N P). x ∷ drop (i + 1) ps) (sym is) in
    sym (ap (λ (xs : List (Production T N P)). first_of e f xs (next ++ ts)) split
    ∙ ap (λ (b : Bool). cond b (Some (rewrite_view f p)) (first_of e f (drop (i + 1) ps) (next ++ ts))) (ruled_out e k p.symbols.now next ts low out))
    ∙ alike f ts

-- what may fit where some tokens come next may fit whatever comes behind them
fits_further : {T N P : Type 0} (e : T → T → Bool) (next us : List T) (n : ℕ) (ps : List (Production T N P)) → MayFit e next n ps → MayFit e (next ++ us) n ps
fits_further e next us n [] h = tt
fits_further e next us n (p ∷ ps) h = (h.0, begins_further e (lookahead (take 2 p.symbols.now)) next us h.1)

take_fewer : {X : Type 0} (k : ℕ) (xs : List X) → (2 ≤ length xs → k ≡ 2) → (length xs < 2 → k ≡ length xs) → take k xs ≡ take 2 xs
take_fewer {X} k xs many few = elim (cases_lt (length xs) 2) [
  | inl lt ↦ let past : length xs ≤ 2 = omega (arith, lt) in
      let same : length xs ≤ k = let e = few lt in omega (arith, e) in
      take_all k xs same ∙ sym (take_all 2 xs past)
  | inr ge ↦ ap (λ (n : ℕ). take n xs) (many ge)
]

-- the first production that isn't ruled out may fit
pub found_first : {T N P : Type 0} (e : T → T → Bool) (next : List T) (ps : List (Production T N P)) (i k n : ℕ) (p : Production T N P)
    → i < length ps → p ≡ get_or ps i p → (2 ≤ length p.symbols.now → k ≡ 2) → (length p.symbols.now < 2 → k ≡ length p.symbols.now)
    → begins_with e (lookahead (take k p.symbols.now)) next ≡ true → n ≡ length (lookahead p.symbols.now) → MayFit e next n (drop i ps)
found_first {T} {N} {P} e next ps i k n p inside is many few begins front =
    let split : drop i ps ≡ p ∷ drop (i + 1) ps = drop_more ps i p inside ∙ ap (λ (x : Production T N P). x ∷ drop (i + 1) ps) (sym is) in
    subst (λ (xs : List (Production T N P)). MayFit e next n xs) (sym split)
    (front, subst (λ (w : Wants T N). begins_with e (lookahead w) next ≡ true) (take_fewer k p.symbols.now many few) begins)

pub at_head : {T N P : Type 0} (e : T → T → Bool) (ts : List T) (n : ℕ) (ps : List (Production T N P)) (p : Production T N P)
    → 0 < length ps → p ≡ get_or ps 0 p → MayFit e ts n ps → (n ≡ length (lookahead p.symbols.now)) × (begins_with e (lookahead (take 2 p.symbols.now)) ts ≡ true)
at_head e ts n [] p some is h = absurd (omega (arith, some))
at_head {T} {N} {P} e ts n (x ∷ ps) p some is h =
    subst (λ (y : Production T N P). (n ≡ length (lookahead y.symbols.now)) × (begins_with e (lookahead (take 2 y.symbols.now)) ts ≡ true)) (sym is) h

pub sure_head : {T N P : Type 0} (e : T → T → Bool) (ts : List T) (o : Option ℕ) (n : ℕ) (ps : List (Production T N P)) (p : Production T N P)
    → o ≡ Some n → 0 < length ps → p ≡ get_or ps 0 p → IfSome o (λ k. MayFit e ts k ps) → (n ≡ length (lookahead p.symbols.now)) × (begins_with e (lookahead (take 2 p.symbols.now)) ts ≡ true)
sure_head {T} {N} {P} e ts o n ps p is some first h = at_head e ts n ps p some first (subst (λ (x : Option ℕ). IfSome x (λ k. MayFit e ts k ps)) is h)

two_of : {T : Type 0} (ts : List T) (a b : T) → 2 ≤ length ts → a ≡ get_or ts 0 a → b ≡ get_or ts 1 b → take 2 ts ≡ a ∷ b ∷ []
two_of [] a b more f h = absurd (omega (arith, more))
two_of (x ∷ []) a b more f h = absurd (omega (arith, more))
two_of {T} (x ∷ y ∷ ts) a b more f h = ap (λ (z : T). z ∷ y ∷ []) (sym f) ∙ ap (λ (z : T). a ∷ z ∷ []) (sym h)

module _ {T N P : Type 0} (e : T → T → Bool) (q : N → N → Bool) (g : List (Rewrite T N P)) where
  -- what is found at two kinds holds wherever they come next
  pub found_at : (f : N) (a b : T) (n : ℕ) (ts : List T) (rest all : List (Production T N P)) → 2 ≤ length ts → a ≡ get_or ts 0 a → b ≡ get_or ts 1 b
      → map (rewrite_view f) all ≡ rewrites_of q g f → AlikeBehind e (take 2 ts) rest all → MayFit e (take 2 ts) n rest
      → (us : List T) → IsRest e q g f (a ∷ b ∷ us) rest × MayFit e (a ∷ b ∷ us) n rest
  found_at f a b n ts rest all more first second whole alike front us =
      let two : take 2 ts ≡ a ∷ b ∷ [] = two_of ts a b more first second in (
        subst (λ (next : List T). first_of e f rest (next ++ us) ≡ first_of e f all (next ++ us)) two (alike f us)
            ∙ ap (λ (xs : List (Rewrite T N P)). pick e (map candidate xs) (a ∷ b ∷ us)) whole,
        fits_further e (a ∷ b ∷ []) us n rest (subst (λ (next : List T). MayFit e next n rest) two front),
      )

  -- and so here
  pub found_here : (f : N) (ts : List T) (rest all : List (Production T N P)) → map (rewrite_view f) all ≡ rewrites_of q g f → AlikeBehind e (take 2 ts) rest all → IsRest e q g f ts rest
  found_here f ts rest all whole alike =
      subst (λ (us : List T). first_of e f rest us ≡ first_of e f all us) (take-append-drop 2 ts) (alike f (drop 2 ts))
      ∙ ap (λ (xs : List (Rewrite T N P)). pick e (map candidate xs) ts) whole

  pub may_fit_here : (n : ℕ) (ts : List T) (rest : List (Production T N P)) → MayFit e (take 2 ts) n rest → MayFit e ts n rest
  may_fit_here n ts rest h = subst (λ (us : List T). MayFit e us n rest) (take-append-drop 2 ts) (fits_further e (take 2 ts) (drop 2 ts) n rest h)

  -- what is kept for the two tokens that come next holds of all tokens
  pub kept_here : (os : List (Option (Known T N P))) (place : ℕ) (o : Option (Known T N P)) (k : Known T N P) (ts : List T) (a b : T) → place < length os → o ≡ get_or os place o → o ≡ Some k
      → k.first ≡ a → k.second ≡ b → a ≡ get_or ts 0 a → b ≡ get_or ts 1 b → 2 ≤ length ts → AreKnown e q g os → MayFit e ts k.front k.rest.now
  kept_here os place o k ts a b inside at is one two first second more all =
      let here : IfSome o (IsKnown e q g) = subst (λ (x : Option (Known T N P)). IfSome x (IsKnown e q g)) (sym at) (All-get_or (λ (x : Option (Known T N P)). IfSome x (IsKnown e q g)) os place o inside all) in
      let kept : IsKnown e q g k = subst (λ (x : Option (Known T N P)). IfSome x (IsKnown e q g)) is here in
      let whole : k.first ∷ k.second ∷ drop 2 ts ≡ ts =
      ap (λ (x : T). x ∷ k.second ∷ drop 2 ts) one ∙ ap (λ (x : T). a ∷ x ∷ drop 2 ts) two
      ∙ ap (λ (us : List T). us ++ drop 2 ts) (sym (two_of ts a b more first second)) ∙ take-append-drop 2 ts in
      subst (λ (us : List T). MayFit e us k.front k.rest.now) whole (kept (drop 2 ts)).1

  pub nothing_more_known : (old new : List (Option (Known T N P))) → AreKnown e q g old → new ≡ old ++ None ∷ [] → AreKnown e q g new
  nothing_more_known old new h is = subst (λ (os : List (Option (Known T N P))). AreKnown e q g os) (sym is) (All-push (λ (o : Option (Known T N P)). IfSome o (IsKnown e q g)) old None h tt)
