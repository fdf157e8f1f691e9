-- The lookahead of a predictive table shows the production that a derivation takes, so there is at most one derivation.
use Rattle.std.proofs.Common.{◌≡◌, ℕ, zero, suc, Bool, true, false, cond, ◌&&◌, List, [], ◌∷◌, ◌++◌, Option, Some, None, refl, sym, ap, ◌∙◌, subst, inl, inr, append_assoc}
use Rattle.std.specs.Prelude.{◌⊎◌, not}
use Rattle.std.specs.Bool.{Decides}
use Rattle.std.proofs.lemmas.Bool.{and_parts, or_left, or_right}
use Rattle.std.specs.List.{list_all, list_any}
use Rattle.witx_grammar.specs.declared.table.Symbol.TheVariants.{Terminal, Nonterminal}
use Rattle.witx_grammar.specs.declared.table.Step.{Step}
use Rattle.witx_grammar.specs.declared.table.Step.TheVariants.{Leaf, Node}
use Rattle.witx_grammar.specs.Grammar.{In, Rewrite, Wants, rewrites_of, Derives}
use Rattle.witx_grammar.specs.Prediction.{steps, Candidate, candidate, begins_with, candidates, pick, choose, onward, advance, is_empty, is_shown, is_first, leads, all_lead, are_distinct, names}
use Rattle.witx_grammar.proofs.Steps.{not_both, not_nothing, one_of, of_map, way_in, way_of}

-- what a test that is true says of its parts
if_true : (b x y : Bool) → cond b x y ≡ true → ((b ≡ true) × (x ≡ true)) ⊎ ((b ≡ false) × (y ≡ true))
if_true true x y e = inl (refl, e)
if_true false x y e = inr (refl, e)

none_is : {X : Type 0} (x : X) → None ≡ Some x → ⊥
none_is x e = cc

pub some_is : {X : Type 0} (x y : X) → Some x ≡ Some y → x ≡ y
some_is x y e = cc

picked_one : {X : Type 0} (b : Bool) (c x : X) (o : Option X) → cond b (Some c) o ≡ Some x → (c ≡ x) ⊎ (o ≡ Some x)
picked_one true c x o e = inl (some_is c x e)
picked_one false c x o e = inr e

not_true : (a : Bool) → not a ≡ true → a ≡ true → ⊥
not_true true e h = not_both (sym e)
not_true false e h = not_both (sym h)

-- the production that a derivation takes is the one that is shown
abbrev pub Takes : {T N P : Type 0} → (T → T → Bool) → (N → N → Bool) → List (Rewrite T N P) → Type 0
Takes {T} {N} {P} e q g = (x : Rewrite T N P) (k : Wants T N) (ms : List (Step P)) (ts : List T) → In x g → Derives g ms (x.symbols ++ k) ts → choose e q g x.nonterminal ts ≡ Some x

module _ {T N P : Type 0} (e : T → T → Bool) (q : N → N → Bool) (l : P → P → Bool) (qn : (x y : N) → Decides (q x y) (x ≡ y)) (lp : (x y : P) → Decides (l x y) (x ≡ y)) where
  -- ---- what is picked is one of the candidates

  picked : (cs : List (Candidate T N P)) (ts : List T) (x : Rewrite T N P) → pick e cs ts ≡ Some x → (c : Candidate T N P) × In c cs × (c.rewrite ≡ x)
  picked [] ts x o = absurd (none_is x o)
  picked (c ∷ cs) ts x o = elim (picked_one (begins_with e c.tokens ts) c.rewrite x (pick e cs ts) o) [
    | inl s ↦ (c, inl refl, s)
    | inr r ↦ let more = picked cs ts x r in (more.0, inr more.1, more.2)
  ]

  -- a production that is shown is one of the nonterminal
  pub shown_is : (g : List (Rewrite T N P)) (f : N) (ts : List T) (x : Rewrite T N P) → choose e q g f ts ≡ Some x → In x g × (x.nonterminal ≡ f)
  shown_is g f ts x o =
      let p = picked (candidates q g f) ts x o in
      let y = of_map candidate p.0 (rewrites_of q g f) p.1 in
      way_of q qn x f g (subst (λ (z : Rewrite T N P). In z (rewrites_of q g f)) (ap (λ (h : Candidate T N P). h.rewrite) y.2 ∙ p.2) y.1)

  -- ---- names are distinct

  name_among : (y : Rewrite T N P) (n : P) (xs : List (Rewrite T N P)) → In y xs → y.name ≡ n → list_any (λ m. l m n) (names xs) ≡ true
  name_among y n [] i s = absurd i
  name_among y n (x ∷ xs) i s = elim i [
    | inl h ↦ or_left (l x.name n) (list_any (λ m. l m n) (names xs)) ((lp x.name n).1 (ap (λ (z : Rewrite T N P). z.name) (sym h) ∙ s))
    | inr j ↦ or_right (l x.name n) (list_any (λ m. l m n) (names xs)) (name_among y n xs j s)
  ]

  pub one_by_name : (g : List (Rewrite T N P)) → are_distinct l (names g) ≡ true → (x y : Rewrite T N P) → In x g → In y g → x.name ≡ y.name → x ≡ y
  one_by_name [] d x y i j s = absurd i
  one_by_name (z ∷ g) d x y i j s =
      let both = and_parts (not (list_any (λ m. l m z.name) (names g))) (are_distinct l (names g)) d in
      elim i [
        | inl a ↦ elim j [
          | inl b ↦ a ∙ sym b
          | inr b ↦ absurd (not_true (list_any (λ m. l m z.name) (names g)) both.0 (name_among y z.name g b (sym s ∙ ap (λ (u : Rewrite T N P). u.name) a)))
        ]
        | inr a ↦ elim j [
          | inl b ↦ absurd (not_true (list_any (λ m. l m z.name) (names g)) both.0 (name_among x z.name g a (s ∙ ap (λ (u : Rewrite T N P). u.name) b)))
          | inr b ↦ one_by_name g both.1 x y a b s
        ]
      ]

  -- ---- what leads to a name picks it

  abbrev Picks : List (Candidate T N P) → List T → P → Type 0
  Picks cs ts p = (x : Rewrite T N P) × (pick e cs ts ≡ Some x) × (x.name ≡ p)

  begins_empty : (ps ts : List T) → is_empty ps ≡ true → begins_with e ps ts ≡ true
  begins_empty [] ts h = refl
  begins_empty (p ∷ ps) ts h = absurd (not_both (sym h))

  picks_first : (cs : List (Candidate T N P)) (ts : List T) (p : P) → is_shown cs ≡ true → is_first l p cs ≡ true → Picks cs ts p
  picks_first [] ts p s f = absurd (not_both (sym s))
  picks_first (c ∷ cs) ts p s f = (c.rewrite, ap (λ (b : Bool). cond b (Some c.rewrite) (pick e cs ts)) (begins_empty c.tokens ts s), (lp c.rewrite.name p).0 f)

  onward_one : (b : Bool) (ps : List T) (x : Rewrite T N P) (more : List (Candidate T N P)) (ts : List T)
      → cond (b && begins_with e ps ts) (Some x) (pick e more ts) ≡ pick e (cond b (record { rewrite = x; tokens = ps } ∷ more) more) ts
  onward_one true ps x more ts = refl
  onward_one false ps x more ts = refl

  pick_onward : (t : T) (ps : List T) (x : Rewrite T N P) (more : List (Candidate T N P)) (ts : List T)
      → cond (begins_with e ps (t ∷ ts)) (Some x) (pick e more ts) ≡ pick e (onward e t ps x more) ts
  pick_onward t [] x more ts = refl
  pick_onward t (p ∷ ps) x more ts = onward_one (e p t) ps x more ts

  pick_advance : (t : T) (cs : List (Candidate T N P)) (ts : List T) → pick e cs (t ∷ ts) ≡ pick e (advance e t cs) ts
  pick_advance t [] ts = refl
  pick_advance t (c ∷ cs) ts =
      ap (λ (o : Option (Rewrite T N P)). cond (begins_with e c.tokens (t ∷ ts)) (Some c.rewrite) o) (pick_advance t cs ts) ∙ pick_onward t c.tokens c.rewrite (advance e t cs) ts

  leads_picks : (g : List (Rewrite T N P)) (n : ℕ) (cs : List (Candidate T N P)) (w : Wants T N) (p : P) (k : Wants T N) (ms : List (Step P)) (ts : List T)
      → leads e q l g n cs w p ≡ true → Derives g ms (w ++ k) ts → Picks cs ts p
  leads_picks g zero cs w p k ms ts h d = absurd (not_both (sym h))
  leads_picks g (suc n) cs [] p k ms ts h d =
      elim (if_true (is_shown cs) (is_first l p cs) false h) [
        | inl s ↦ picks_first cs ts p s.0 s.1
        | inr s ↦ absurd (not_both (sym s.1))
      ]
  leads_picks g (suc n) cs (Terminal t ∷ w) p k [] ts h d = absurd (not_nothing (Terminal t) (w ++ k) d.1)
  leads_picks g (suc n) cs (Terminal t ∷ w) p k (Node r ∷ ms) ts h d = absurd d
  leads_picks g (suc n) cs (Terminal t ∷ w) p k (Leaf ∷ ms) [] h d = absurd d
  leads_picks g (suc n) cs (Terminal t ∷ w) p k (Leaf ∷ ms) (s ∷ ts) h d =
      elim (if_true (is_shown cs) (is_first l p cs) (leads e q l g n (advance e t cs) w p) h) [
        | inl o ↦ picks_first cs (s ∷ ts) p o.0 o.1
        | inr o ↦
            let r = leads_picks g n (advance e t cs) w p k ms ts o.1 d.1 in
            (r.0, ap (λ (u : T). pick e cs (u ∷ ts)) (sym d.0) ∙ pick_advance t cs ts ∙ r.1, r.2)
      ]
  leads_picks g (suc n) cs (Nonterminal f ∷ w) p k [] ts h d = absurd (not_nothing (Nonterminal f) (w ++ k) d.1)
  leads_picks g (suc n) cs (Nonterminal f ∷ w) p k (Leaf ∷ ms) ts h d = absurd d
  leads_picks g (suc n) cs (Nonterminal f ∷ w) p k (Node r ∷ ms) ts h d =
      elim (if_true (is_shown cs) (is_first l p cs) (list_all (λ x. leads e q l g n cs (x.symbols ++ w) p) (rewrites_of q g f)) h) [
        | inl o ↦ picks_first cs ts p o.0 o.1
        | inr o ↦ leads_picks g n cs (d.0.symbols ++ w) p k ms ts
            (one_of (λ x. leads e q l g n cs (x.symbols ++ w) p) d.0 (rewrites_of q g f) o.1 (way_in q qn d.0 f g d.1 d.2))
            (subst (λ (v : Wants T N). Derives g ms v ts) (sym (append_assoc d.0.symbols w k)) d.4)
      ]

  pub taken_is_shown : (g : List (Rewrite T N P)) → all_lead e q l g g ≡ true → are_distinct l (names g) ≡ true → Takes e q g
  taken_is_shown g all distinct x k ms ts i d =
      let lead : leads e q l g steps (candidates q g x.nonterminal) x.symbols x.name ≡ true = one_of (λ y. leads e q l g steps (candidates q g y.nonterminal) y.symbols y.name) x g all i in
      let r = leads_picks g steps (candidates q g x.nonterminal) x.symbols x.name k ms ts lead d in
      let y = shown_is g x.nonterminal ts r.0 r.1 in
      r.1 ∙ ap (λ (z : Rewrite T N P). Some z) (one_by_name g distinct r.0 x y.0 i r.2)

-- a list of tokens has at most one derivation
pub unique : {T N P : Type 0} (e : T → T → Bool) (q : N → N → Bool) (g : List (Rewrite T N P)) → Takes e q g → (ms ns : List (Step P)) (w : Wants T N) (ts : List T) → Derives g ms w ts → Derives g ns w ts → ms ≡ ns
unique e q g takes [] [] w ts a b = refl
unique e q g takes [] (n ∷ ns) [] ts a b = absurd b
unique e q g takes [] (n ∷ ns) (x ∷ w) ts a b = absurd (not_nothing x w a.1)
unique e q g takes (m ∷ ms) [] [] ts a b = absurd a
unique e q g takes (m ∷ ms) [] (x ∷ w) ts a b = absurd (not_nothing x w b.1)
unique e q g takes (m ∷ ms) (n ∷ ns) [] ts a b = absurd a
unique e q g takes (Leaf ∷ ms) (n ∷ ns) (Terminal t ∷ w) [] a b = absurd a
unique {T} {N} {P} e q g takes (Leaf ∷ ms) (Leaf ∷ ns) (Terminal t ∷ w) (s ∷ ts) a b = ap (λ (x : List (Step P)). Leaf ∷ x) (unique e q g takes ms ns w ts a.1 b.1)
unique e q g takes (Leaf ∷ ms) (Node p ∷ ns) (Terminal t ∷ w) (s ∷ ts) a b = absurd b
unique e q g takes (Node p ∷ ms) (n ∷ ns) (Terminal t ∷ w) ts a b = absurd a
unique e q g takes (Leaf ∷ ms) (n ∷ ns) (Nonterminal f ∷ w) ts a b = absurd a
unique e q g takes (Node p ∷ ms) (Leaf ∷ ns) (Nonterminal f ∷ w) ts a b = absurd b
unique {T} {N} {P} e q g takes (Node p ∷ ms) (Node r ∷ ns) (Nonterminal f ∷ w) ts a b =
    let here : choose e q g f ts ≡ Some a.0 = subst (λ (n : N). choose e q g n ts ≡ Some a.0) a.2 (takes a.0 w ms ts a.1 a.4) in
    let there : choose e q g f ts ≡ Some b.0 = subst (λ (n : N). choose e q g n ts ≡ Some b.0) b.2 (takes b.0 w ns ts b.1 b.4) in
    let same : a.0 ≡ b.0 = some_is a.0 b.0 (sym here ∙ there) in
    let name : p ≡ r = sym a.3 ∙ ap (λ (x : Rewrite T N P). x.name) same ∙ b.3 in
    let other : Derives g ms (b.0.symbols ++ w) ts = subst (λ (x : Rewrite T N P). Derives g ms (x.symbols ++ w) ts) same a.4 in
    ap (λ (x : P). Node x ∷ ms) name ∙ ap (λ (x : List (Step P)). Node r ∷ x) (unique e q g takes ms ns (b.0.symbols ++ w) ts other b.4)
