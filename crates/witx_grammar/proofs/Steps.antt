-- Members of lists, and steps that are put together: what the first leave is where the others begin.
use Rattle.std.proofs.Common.{◌≡◌, Bool, true, false, cond, ◌&&◌, List, [], ◌∷◌, ◌++◌, map, refl, sym, ap, ◌∙◌, subst, inl, inr}
use Rattle.std.specs.Prelude.{◌⊎◌}
use Rattle.std.specs.Bool.{Decides}
use Rattle.std.specs.List.{flat_map, list_all}
use Rattle.std.proofs.lemmas.Bool.{and_parts}
use Rattle.witx_grammar.specs.declared.table.Symbol.TheVariants.{Terminal, Nonterminal}
use Rattle.witx_grammar.specs.declared.table.Step.{Step}
use Rattle.witx_grammar.specs.declared.table.Step.TheVariants.{Leaf, Node}
use Rattle.witx_grammar.specs.Grammar.{In, Rewrite, Wants, rewrites_of, Reaches}

pub not_nothing : {X : Type 0} (x : X) (xs : List X) → x ∷ xs ≡ [] → ⊥
not_nothing x xs e = cc

pub not_both : true ≡ false → ⊥
not_both e = cc

-- ---- members

in_left : {X : Type 0} (x : X) (xs ys : List X) → In x xs → In x (xs ++ ys)
in_left x [] ys h = absurd h
in_left x (y ∷ xs) ys h = elim h [ inl e ↦ inl e | inr i ↦ inr (in_left x xs ys i) ]

in_right : {X : Type 0} (x : X) (xs ys : List X) → In x ys → In x (xs ++ ys)
in_right x [] ys h = h
in_right x (y ∷ xs) ys h = inr (in_right x xs ys h)

in_either : {X : Type 0} (x : X) (xs ys : List X) → In x (xs ++ ys) → In x xs ⊎ In x ys
in_either x [] ys h = inr h
in_either x (y ∷ xs) ys h = elim h [
  | inl e ↦ inl (inl e)
  | inr i ↦ elim (in_either x xs ys i) [ inl a ↦ inl (inr a) | inr b ↦ inr b ]
]

pub in_all : {X Y : Type 0} (f : X → List Y) (x : X) (y : Y) (xs : List X) → In x xs → In y (f x) → In y (flat_map f xs)
in_all f x y [] h i = absurd h
in_all f x y (z ∷ xs) h i = elim h [
  | inl e ↦ in_left y (f z) (flat_map f xs) (subst (λ u. In y (f u)) e i)
  | inr j ↦ in_right y (f z) (flat_map f xs) (in_all f x y xs j i)
]

pub of_all : {X Y : Type 0} (f : X → List Y) (y : Y) (xs : List X) → In y (flat_map f xs) → (x : X) × In x xs × In y (f x)
of_all f y [] h = absurd h
of_all f y (z ∷ xs) h = elim (in_either y (f z) (flat_map f xs) h) [
  | inl i ↦ (z, inl refl, i)
  | inr j ↦ let r = of_all f y xs j in (r.0, inr r.1, r.2)
]

pub of_map : {X Y : Type 0} (f : X → Y) (y : Y) (xs : List X) → In y (map f xs) → (x : X) × In x xs × (f x ≡ y)
of_map f y [] h = absurd h
of_map f y (z ∷ xs) h = elim h [
  | inl e ↦ (z, inl refl, sym e)
  | inr j ↦ let r = of_map f y xs j in (r.0, inr r.1, r.2)
]

-- what holds of all holds of a member
pub one_of : {X : Type 0} (p : X → Bool) (x : X) (xs : List X) → list_all p xs ≡ true → In x xs → p x ≡ true
one_of p x [] e h = absurd h
one_of p x (y ∷ xs) e h =
    let both = and_parts (p y) (list_all p xs) e in
    elim h [ inl s ↦ ap p s ∙ both.0 | inr i ↦ one_of p x xs both.1 i ]

both_are : (a b : Bool) → a ≡ true → b ≡ true → (a && b) ≡ true
both_are true b e f = f
both_are false b e f = e

pub all_weaker : {X : Type 0} (p r : X → Bool) (xs : List X) → ((x : X) → p x ≡ true → r x ≡ true) → list_all p xs ≡ true → list_all r xs ≡ true
all_weaker p r [] h e = refl
all_weaker p r (x ∷ xs) h e =
    let both = and_parts (p x) (list_all p xs) e in
    both_are (r x) (list_all r xs) (h x both.0) (all_weaker p r xs h both.1)

-- ---- the ways to write a nonterminal

kept : {X : Type 0} (b : Bool) (x y : X) (xs : List X) → In x xs → In x (cond b (y ∷ xs) xs)
kept true x y xs h = inr h
kept false x y xs h = h

kept_first : {X : Type 0} (b : Bool) (x y : X) (xs : List X) → b ≡ true → x ≡ y → In x (cond b (y ∷ xs) xs)
kept_first true x y xs t e = inl e
kept_first false x y xs t e = absurd (not_both (sym t))

of_kept : {X : Type 0} (b : Bool) (x y : X) (xs : List X) → In x (cond b (y ∷ xs) xs) → ((b ≡ true) × (x ≡ y)) ⊎ In x xs
of_kept true x y xs h = elim h [ inl e ↦ inl (refl, e) | inr j ↦ inr j ]
of_kept false x y xs h = inr h

all_kept : {X : Type 0} (p : X → Bool) (b : Bool) (y : X) (xs : List X) → p y ≡ true → list_all p xs ≡ true → list_all p (cond b (y ∷ xs) xs) ≡ true
all_kept p true y xs e f = both_are (p y) (list_all p xs) e f
all_kept p false y xs e f = f

module _ {T N P : Type 0} (q : N → N → Bool) (qn : (x y : N) → Decides (q x y) (x ≡ y)) where
  pub way_in : (x : Rewrite T N P) (f : N) (xs : List (Rewrite T N P)) → In x xs → x.nonterminal ≡ f → In x (rewrites_of q xs f)
  way_in x f [] h e = absurd h
  way_in x f (y ∷ xs) h e = elim h [
    | inl s ↦ kept_first (q y.nonterminal f) x y (rewrites_of q xs f) ((qn y.nonterminal f).1 (ap (λ (z : Rewrite T N P). z.nonterminal) (sym s) ∙ e)) s
    | inr j ↦ kept (q y.nonterminal f) x y (rewrites_of q xs f) (way_in x f xs j e)
  ]

  pub way_of : (x : Rewrite T N P) (f : N) (xs : List (Rewrite T N P)) → In x (rewrites_of q xs f) → In x xs × (x.nonterminal ≡ f)
  way_of x f [] h = absurd h
  way_of x f (y ∷ xs) h = elim (of_kept (q y.nonterminal f) x y (rewrites_of q xs f) h) [
    | inl s ↦ (inl s.1, ap (λ (z : Rewrite T N P). z.nonterminal) s.1 ∙ (qn y.nonterminal f).0 s.0)
    | inr j ↦ let r = way_of x f xs j in (inr r.0, r.1)
  ]

  pub ways_all : (p : Rewrite T N P → Bool) (f : N) (xs : List (Rewrite T N P)) → list_all p xs ≡ true → list_all p (rewrites_of q xs f) ≡ true
  ways_all p f [] e = refl
  ways_all p f (y ∷ xs) e =
      let both = and_parts (p y) (list_all p xs) e in
      all_kept p (q y.nonterminal f) y (rewrites_of q xs f) both.0 (ways_all p f xs both.1)

-- ---- steps

from_nothing : {T N P : Type 0} (g : List (Rewrite T N P)) (v w x : Wants T N) (ns : List (Step P)) (ts us : List T) → ts ≡ [] → v ≡ w → Reaches g ns w us x → Reaches g ns v (ts ++ us) x
from_nothing {T} {N} {P} g v w x ns ts us none same d =
    subst (λ (u : Wants T N). Reaches g ns u (ts ++ us) x) (sym same) (subst (λ (u : List T). Reaches g ns w (u ++ us) x) (sym none) d)

pub reaches_append : {T N P : Type 0} (g : List (Rewrite T N P)) (ms ns : List (Step P)) (v w x : Wants T N) (ts us : List T)
    → Reaches g ms v ts w → Reaches g ns w us x → Reaches g (ms ++ ns) v (ts ++ us) x
reaches_append g [] ns v w x ts us d e = from_nothing g v w x ns ts us d.0 d.1 e
reaches_append g (m ∷ ms) ns [] w x ts us d e = absurd d
reaches_append g (Leaf ∷ ms) ns (Terminal t ∷ v) w x [] us d e = absurd d
reaches_append g (Leaf ∷ ms) ns (Terminal t ∷ v) w x (s ∷ ts) us d e = (d.0, reaches_append g ms ns v w x ts us d.1 e)
reaches_append g (Leaf ∷ ms) ns (Nonterminal f ∷ v) w x ts us d e = absurd d
reaches_append g (Node p ∷ ms) ns (Terminal t ∷ v) w x ts us d e = absurd d
reaches_append g (Node p ∷ ms) ns (Nonterminal f ∷ v) w x ts us d e =
    (d.0, d.1, d.2, d.3, reaches_append g ms ns (d.0.symbols ++ v) w x ts us d.4 e)

-- one token is read
pub reads_one : {T N P : Type 0} (g : List (Rewrite T N P)) (ms : List (Step P)) (v w : Wants T N) (ts : List T) (t : T) → Reaches g ms v ts (Terminal t ∷ w) → Reaches g (ms ++ Leaf ∷ []) v (ts ++ t ∷ []) w
reads_one g ms v w ts t d = reaches_append g ms (Leaf ∷ []) v (Terminal t ∷ w) w ts (t ∷ []) d (refl, (refl, refl))
