-- What is followed from token to token is all that steps can want: no way is lost, and none is made up.
use Rattle.std.proofs.Common.{◌≡◌, ℕ, zero, suc, Bool, true, false, cond, List, [], ◌∷◌, ◌++◌, refl, sym, ap, ◌∙◌, subst, inl, inr}
use Rattle.std.specs.Bool.{Decides}
use Rattle.std.specs.List.{list_any}
use Rattle.witx_grammar.specs.declared.table.Symbol.TheVariants.{Terminal, Nonterminal}
use Rattle.witx_grammar.specs.declared.table.Step.{Step}
use Rattle.witx_grammar.specs.declared.table.Step.TheVariants.{Leaf, Node}
use Rattle.witx_grammar.specs.Grammar.{In, Rewrite, Wants, rewrites_of, Reaches, Derives}
use Rattle.witx_grammar.specs.Search.{ways, firsts, is_nothing}
use Rattle.witx_grammar.specs.Prediction.{is_some_want, is_grounded}
use Rattle.witx_grammar.proofs.Steps.{not_nothing, not_both, in_all, of_all, way_in, way_of}
use Rattle.witx_grammar.proofs.Grounded.{step_down, none_at_zero}

way_if : {X : Type 0} (b : Bool) (w v : X) → In v (cond b (w ∷ []) []) → (b ≡ true) × (v ≡ w)
way_if true w v i = elim i [ inl e ↦ (refl, e) | inr j ↦ absurd j ]
way_if false w v i = absurd i

first_way : {X : Type 0} (b : Bool) (w : X) → b ≡ true → In w (cond b (w ∷ []) [])
first_way true w e = inl refl
first_way false w e = absurd (not_both (sym e))

first_is : {T N : Type 0} (t u : T) (w v : Wants T N) → Terminal u ∷ w ≡ Terminal t ∷ v → t ≡ u
first_is t u w v e = cc

no_terminal : {T N : Type 0} (f : N) (t : T) (w v : Wants T N) → Nonterminal f ∷ w ≡ Terminal t ∷ v → ⊥
no_terminal f t w v e = cc

module _ {T N P : Type 0} (e : T → T → Bool) (q : N → N → Bool) (et : (x y : T) → Decides (e x y) (x ≡ y)) (qn : (x y : N) → Decides (q x y) (x ≡ y)) (g : List (Rewrite T N P)) where
  -- ---- what is followed is wanted by some steps

  pub ways_sound : (k : ℕ) (t : T) (w v : Wants T N) → In v (ways e q g k t w) → (ms : List (Step P)) × Reaches g ms w [] (Terminal t ∷ v)
  ways_sound k t [] v h = absurd h
  ways_sound k t (Terminal u ∷ w) v h =
      let r = way_if (e u t) w v h in
      ([], (refl, ap (λ (x : T). Terminal x ∷ w) ((et u t).0 r.0) ∙ ap (λ (x : Wants T N). Terminal t ∷ x) (sym r.1)))
  ways_sound zero t (Nonterminal f ∷ w) v h = absurd h
  ways_sound (suc k) t (Nonterminal f ∷ w) v h =
      let r = of_all (λ (x : Rewrite T N P). ways e q g k t (x.symbols ++ w)) v (rewrites_of q g f) h in
      let i = way_of q qn r.0 f g r.1 in
      let below = ways_sound k t (r.0.symbols ++ w) v r.2 in
      (Node r.0.name ∷ below.0, (r.0, i.0, i.1, refl, below.1))

  pub firsts_sound : (k : ℕ) (t : T) (w : Wants T N) → In t (firsts q g k w) → (ms : List (Step P)) × (v : Wants T N) × Reaches g ms w [] (Terminal t ∷ v)
  firsts_sound k t [] h = absurd h
  firsts_sound k t (Terminal u ∷ w) h = elim h [
    | inl s ↦ ([], w, (refl, ap (λ (x : T). Terminal x ∷ w) (sym s)))
    | inr j ↦ absurd j
  ]
  firsts_sound zero t (Nonterminal f ∷ w) h = absurd h
  firsts_sound (suc k) t (Nonterminal f ∷ w) h =
      let r = of_all (λ (x : Rewrite T N P). firsts q g k (x.symbols ++ w)) t (rewrites_of q g f) h in
      let i = way_of q qn r.0 f g r.1 in
      let below = firsts_sound k t (r.0.symbols ++ w) r.2 in
      (Node r.0.name ∷ below.0, below.1, (r.0, i.0, i.1, refl, below.2))

  -- ---- what some steps want is followed

  abbrev Follows : ℕ → T → Wants T N → List T → Wants T N → Type 0
  Follows k t w ts x = (v : Wants T N) × (ns : List (Step P)) × In v (ways e q g k t w) × Reaches g ns v ts x

  pub ways_complete : (k : ℕ) (t : T) (w x : Wants T N) (ts : List T) (ms : List (Step P)) → is_grounded q g k w ≡ true → Reaches g ms w (t ∷ ts) x → Follows k t w ts x
  ways_complete k t w x ts [] h d = absurd (not_nothing t ts d.0)
  ways_complete k t [] x ts (m ∷ ms) h d = absurd d
  ways_complete k t (Terminal u ∷ w) x ts (Node p ∷ ms) h d = absurd d
  ways_complete k t (Terminal u ∷ w) x ts (Leaf ∷ ms) h d = (w, ms, first_way (e u t) w ((et u t).1 d.0), d.1)
  ways_complete k t (Nonterminal f ∷ w) x ts (Leaf ∷ ms) h d = absurd d
  ways_complete zero t (Nonterminal f ∷ w) x ts (Node p ∷ ms) h d = absurd (none_at_zero q qn g f w h)
  ways_complete (suc k) t (Nonterminal f ∷ w) x ts (Node p ∷ ms) h d =
      let r = ways_complete k t (d.0.symbols ++ w) x ts ms (step_down q qn g k f w d.0 h d.1 d.2).1 d.4 in
      (r.0, r.1, in_all (λ (y : Rewrite T N P). ways e q g k t (y.symbols ++ w)) d.0 r.0 (rewrites_of q g f) (way_in q qn d.0 f g d.1 d.2) r.2, r.3)

  pub firsts_complete : (k : ℕ) (t : T) (w v : Wants T N) (ms : List (Step P)) → is_grounded q g k w ≡ true → Reaches g ms w [] (Terminal t ∷ v) → In t (firsts q g k w)
  firsts_complete k t [] v [] h d = absurd (not_nothing (Terminal t) v (sym d.1))
  firsts_complete k t [] v (m ∷ ms) h d = absurd d
  firsts_complete k t (Terminal u ∷ w) v [] h d = inl (first_is t u w v d.1)
  firsts_complete k t (Terminal u ∷ w) v (Leaf ∷ ms) h d = absurd d
  firsts_complete k t (Terminal u ∷ w) v (Node p ∷ ms) h d = absurd d
  firsts_complete k t (Nonterminal f ∷ w) v [] h d = absurd (no_terminal f t w v d.1)
  firsts_complete k t (Nonterminal f ∷ w) v (Leaf ∷ ms) h d = absurd d
  firsts_complete zero t (Nonterminal f ∷ w) v (Node p ∷ ms) h d = absurd (none_at_zero q qn g f w h)
  firsts_complete (suc k) t (Nonterminal f ∷ w) v (Node p ∷ ms) h d =
      in_all (λ (y : Rewrite T N P). firsts q g k (y.symbols ++ w)) d.0 t (rewrites_of q g f) (way_in q qn d.0 f g d.1 d.2)
      (firsts_complete k t (d.0.symbols ++ w) v ms (step_down q qn g k f w d.0 h d.1 d.2).1 d.4)

  some_and_more : (v w : Wants T N) → is_some_want v ≡ true → v ++ w ≡ [] → ⊥
  some_and_more [] w h n = not_both (sym h)
  some_and_more (x ∷ v) w h n = not_nothing x (v ++ w) n

  -- Where something is wanted the tokens aren't at their end: a nonterminal is never nothing.
  pub never_nothing : (k : ℕ) (w : Wants T N) (ms : List (Step P)) → is_grounded q g k w ≡ true → Derives g ms w [] → w ≡ []
  never_nothing k w [] h d = d.1
  never_nothing k [] (m ∷ ms) h d = absurd d
  never_nothing k (Terminal u ∷ w) (Leaf ∷ ms) h d = absurd d
  never_nothing k (Terminal u ∷ w) (Node p ∷ ms) h d = absurd d
  never_nothing k (Nonterminal f ∷ w) (Leaf ∷ ms) h d = absurd d
  never_nothing zero (Nonterminal f ∷ w) (Node p ∷ ms) h d = absurd (none_at_zero q qn g f w h)
  never_nothing (suc k) (Nonterminal f ∷ w) (Node p ∷ ms) h d =
      let down = step_down q qn g k f w d.0 h d.1 d.2 in
      absurd (some_and_more d.0.symbols w down.0 (never_nothing k (d.0.symbols ++ w) ms down.1 d.4))

module _ {T N : Type 0} where
  some_nothing : (hs : List (Wants T N)) → In [] hs → list_any is_nothing hs ≡ true
  some_nothing [] h = absurd h
  some_nothing ([] ∷ hs) h = refl
  some_nothing ((x ∷ w) ∷ hs) h = elim h [ inl e ↦ absurd (not_nothing x w (sym e)) | inr i ↦ some_nothing hs i ]

  pub nothing_among : (w : Wants T N) (hs : List (Wants T N)) → In w hs → w ≡ [] → list_any is_nothing hs ≡ true
  nothing_among w hs i e = some_nothing hs (subst (λ (u : Wants T N). In u hs) e i)

  pub nothing_some : (hs : List (Wants T N)) → list_any is_nothing hs ≡ true → In [] hs
  nothing_some [] e = absurd (not_both (sym e))
  nothing_some ([] ∷ hs) e = inl refl
  nothing_some ((x ∷ w) ∷ hs) e = inr (nothing_some hs e)
