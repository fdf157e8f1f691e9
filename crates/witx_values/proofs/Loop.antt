-- Steps of the loop that reads a derivation from its end: what lies on the stack is what the steps from here on stand for.
use Rattle.std.proofs.Common.{◌≡◌, ℕ, zero, suc, ◌+◌, ◌-◌, ◌<◌, ◌≤◌, List, [], ◌∷◌, ◌++◌, length, get_or, drop, map, reverse, refl, sym, ap, ◌∙◌, subst, arith}
use Rattle.std.proofs.lemmas.List.{reverse-append}
use Rattle.std.proofs.lemmas.List.Concat.{flat_map-append}
use Rattle.witx_grammar.specs.Grammar.{Wants, Rewrite}
use Rattle.witx_grammar.specs.declared.table.Symbol.TheVariants.{Terminal, Nonterminal}
use Rattle.witx_grammar.specs.declared.table.Step.{Step}
use Rattle.witx_grammar.specs.declared.table.Step.TheVariants.{Leaf, Node}
use Rattle.witx_grammar.proofs.Reading.{Back, back_start, back_before, back_token, back_past, back_wanted, back_production, back_end}
use Rattle.witx_values.specs.Language.{Language, production_of, symbol_sorts, grammar_of, kinds_of, sorts_of, parts_of, made_sort, Are, Holds, stands_for, IsDerived, IsLawful, stack_of}
use Rattle.witx_values.proofs.Fitting.{no_value, first_value, named, token_fits, production_fits, one_value}

module _ {T N P L S V : Type 0} (a : Language T N P L S V) where
  -- the values are of the sorts of the symbols
  abbrev Fits : Wants T N → List V → Type 0
  Fits w vs = Are a (sorts_of a w) vs

  -- the values stand for the steps from the one with the number n on, which read the tokens from the one with the number at on
  abbrev pub Here : N → List (Step P) → List L → ℕ → ℕ → List V → Type 0
  Here start ms ls n at vs = Back (grammar_of a) (Nonterminal start ∷ []) ms (kinds_of a ls) ls a.leaf a.act Fits n at vs

  kinds_count : (ls : List L) → length (kinds_of a ls) ≡ length ls + 1
  kinds_count [] = refl
  kinds_count (l ∷ ls) = omega (arith, kinds_count ls)

  kind_there : (ls : List L) (at : ℕ) (l : L) (t : T) → at < length ls → get_or (kinds_of a ls) at t ≡ a.kind (get_or ls at l)
  kind_there [] at l t lt = absurd (omega (arith, lt))
  kind_there (x ∷ ls) zero l t lt = refl
  kind_there (x ∷ ls) (suc at) l t lt = kind_there ls at l t (omega (arith, lt))

  kind_past : (ls : List L) (at : ℕ) → length ls ≤ at → get_or (kinds_of a ls) at a.end ≡ a.end
  kind_past [] zero le = refl
  kind_past [] (suc at) le = refl
  kind_past (x ∷ ls) zero le = absurd (omega (arith, le))
  kind_past (x ∷ ls) (suc at) le = kind_past ls at (omega (arith, le))

module _ {T N P L S V : Type 0} (a : Language T N P L S V) (h : IsLawful a) (start : N) (ms : List (Step P)) (ls : List L) (d : IsDerived a start ms ls) where
  pub at_start : Here a start ms ls (length ms) (length ls + 1) []
  at_start = subst (λ (n : ℕ). Here a start ms ls (length ms) n []) (kinds_count a ls)
      (back_start (grammar_of a) (Nonterminal start ∷ []) ms (kinds_of a ls) ls a.leaf a.act (Fits a) d refl)

  shift : (n at : ℕ) (vs : List V) → 0 < n → Here a start ms ls n at vs → Here a start ms ls (n - 1 + 1) at vs
  shift n at vs lt b = subst (λ (x : ℕ). Here a start ms ls x at vs) (omega (arith, lt)) b

  -- a token is there, or the end
  pub before_leaf : (n at : ℕ) (vs : List V) → 0 < n → Here a start ms ls n at vs → get_or ms (n - 1) Leaf ≡ Leaf → 1 ≤ at
  before_leaf n at vs lt b e =
      let q = back_before (grammar_of a) (Nonterminal start ∷ []) ms (kinds_of a ls) ls a.leaf a.act (Fits a) d (n - 1) at vs (shift n at vs lt b) e in
      omega (arith, q.0)

  behind : (n at : ℕ) (vs : List V) → 0 < n → Here a start ms ls n at vs → get_or ms (n - 1) Leaf ≡ Leaf → Here a start ms ls (n - 1 + 1) (at - 1 + 1) vs
  behind n at vs lt b e = subst (λ (x : ℕ). Here a start ms ls (n - 1 + 1) x vs) (omega (arith, before_leaf n at vs lt b e)) (shift n at vs lt b)

  pub token_there : (n at : ℕ) (l : L) (vs us : List V) → 0 < n → Here a start ms ls n at vs → get_or ms (n - 1) Leaf ≡ Leaf → at - 1 < length ls → l ≡ get_or ls (at - 1) l → us ≡ a.leaf l ++ vs
      → Here a start ms ls (n - 1) (at - 1) us
  token_there n at l vs us lt b e inside this is =
      let told : us ≡ a.leaf (get_or ls (at - 1) l) ++ vs = is ∙ ap (λ (x : L). a.leaf x ++ vs) this in
      back_token (grammar_of a) (Nonterminal start ∷ []) ms (kinds_of a ls) ls a.leaf a.act (Fits a) d (n - 1) (at - 1) a.end l vs us (behind n at vs lt b e) e inside told
      (λ w f. subst (λ (x : List V). Fits a (Terminal (get_or (kinds_of a ls) (at - 1) a.end) ∷ w) x) (sym told)
      (subst (λ (t : T). Fits a (Terminal t ∷ w) (a.leaf (get_or ls (at - 1) l) ++ vs)) (sym (kind_there a ls (at - 1) l a.end inside))
      (token_fits a h (get_or ls (at - 1) l) (sorts_of a w) vs f)))

  pub end_there : (n at : ℕ) (vs : List V) → 0 < n → Here a start ms ls n at vs → get_or ms (n - 1) Leaf ≡ Leaf → length ls ≤ at - 1 → Here a start ms ls (n - 1) (at - 1) vs
  end_there n at vs lt b e past =
      back_past (grammar_of a) (Nonterminal start ∷ []) ms (kinds_of a ls) ls a.leaf a.act (Fits a) d (n - 1) (at - 1) a.end vs (behind n at vs lt b e) e past
      (λ w f. subst (λ (x : List S). Are a (x ++ sorts_of a w) vs) (sym (ap a.terminal_sorts (kind_past a ls (at - 1) past) ∙ h.ends)) f)

  pub before_node : (n at : ℕ) (p : P) (vs : List V) → 0 < n → Here a start ms ls n at vs → get_or ms (n - 1) Leaf ≡ Node p → Holds a (parts_of a p) vs
  before_node n at p vs lt b e =
      let q = back_wanted (grammar_of a) (Nonterminal start ∷ []) ms (kinds_of a ls) ls a.leaf a.act (Fits a) d (n - 1) at p vs (shift n at vs lt b) e in
      let same : q.0 ≡ production_of a.written p = named a h q.0 q.2 ∙ ap (production_of a.written) q.3 in
      let there : Fits a ((a.written p).symbols ++ q.1) vs = subst (λ (x : Rewrite T N P). Fits a (x.symbols ++ q.1) vs) same q.4 in
      (sorts_of a q.1, subst (λ (x : List S). Are a x vs) (flat_map-append (symbol_sorts a.terminal_sorts a.nonterminal_sort) (a.written p).symbols q.1) there)

  pub after_node : (n at : ℕ) (p : P) (vs us : List V) → 0 < n → Here a start ms ls n at vs → get_or ms (n - 1) Leaf ≡ Node p → us ≡ a.act p (drop at ls) vs → Here a start ms ls (n - 1) at us
  after_node n at p vs us lt b e is =
      back_production (grammar_of a) (Nonterminal start ∷ []) ms (kinds_of a ls) ls a.leaf a.act (Fits a) d (n - 1) at p vs us (shift n at vs lt b) e is
      (λ x w i s f.
      let same : x ≡ production_of a.written p = named a h x i ∙ ap (production_of a.written) s in
      let made = production_fits a h p (drop at ls) w vs (subst (λ (y : Rewrite T N P). Fits a (y.symbols ++ w) vs) same f) in
      subst (λ (y : Rewrite T N P). Fits a (Nonterminal y.nonterminal ∷ w) us) (sym same)
      (subst (λ (y : List V). Are a (made_sort a p ∷ sorts_of a w) y) (sym is) made))

  -- at the end of the loop one value stands alone
  pub at_end : (n at : ℕ) (vs : List V) → n ≡ 0 → Here a start ms ls n at vs → (vs ≡ stands_for a ls ms) × Are a (a.nonterminal_sort start ∷ []) vs
  at_end n at vs e b = back_end (grammar_of a) (Nonterminal start ∷ []) ms (kinds_of a ls) ls a.leaf a.act (Fits a) d at vs (subst (λ (x : ℕ). Here a start ms ls x at vs) e b)

-- ---- at the code

any_default : {X : Type 0} (xs : List X) (i : ℕ) (d e : X) → i < length xs → get_or xs i d ≡ get_or xs i e
any_default [] i d e lt = absurd (omega (arith, lt))
any_default (x ∷ xs) zero d e lt = refl
any_default (x ∷ xs) (suc i) d e lt = any_default xs i d e (omega (arith, lt))

-- the step before, which is this one
pub step_is : {P : Type 0} (ms : List (Step P)) (n : ℕ) (x y : Step P) → 0 < n → n ≤ length ms → x ≡ get_or ms (n - 1) x → x ≡ y → get_or ms (n - 1) Leaf ≡ y
step_is ms n x y lt le this is = any_default ms (n - 1) Leaf x (omega (arith, lt, le)) ∙ sym this ∙ is

-- an item that is there is the same whatever stands in place of none
pub this_token : {X : Type 0} (xs : List X) (at : ℕ) (d : X) → at < length xs → get_or xs at d ≡ get_or xs at (get_or xs at d)
this_token xs at d lt = any_default xs at d (get_or xs at d) lt

pub not_none : {X V : Type 0} (f : X → V) (xs : List X) (v : V) → xs ≡ [] → stack_of f xs ≡ v ∷ [] → ⊥
not_none {X} {V} f xs v e is = no_value v (subst (λ (ys : List X). stack_of f ys ≡ v ∷ []) e is)

-- the top of a stack of one
pub top_is : {X V : Type 0} (f : X → V) (xs ys : List X) (x : X) (v : V) → xs ≡ ys ++ x ∷ [] → stack_of f xs ≡ v ∷ [] → f x ≡ v
top_is {X} {V} f xs ys x v e is =
    first_value (f x) v (stack_of f ys) [] (sym (ap (λ (zs : List X). map f zs) (ap (λ (zs : List X). reverse zs) e ∙ reverse-append ys (x ∷ []))) ∙ is)

module _ {T N P L S V X : Type 0} (a : Language T N P L S V) (h : IsLawful a) (start : N) (ms : List (Step P)) (ls : List L) (d : IsDerived a start ms ls)
    (f : X → V) (xs : List X) (n at : ℕ) (none : n ≡ 0) (b : Here a start ms ls n at (stack_of f xs)) where
  ends : (stack_of f xs ≡ stands_for a ls ms) × Are a (a.nonterminal_sort start ∷ []) (stack_of f xs)
  ends = at_end a h start ms ls d n at (stack_of f xs) none b

  -- the stack isn't empty
  pub some_left : xs ≡ [] → ⊥
  some_left e = let o = one_value a h (stack_of f xs) (a.nonterminal_sort start) ends.1 in not_none f xs o.0 e o.1

  -- and its top is what the derivation stands for
  pub built : (ys : List X) (x : X) → xs ≡ ys ++ x ∷ [] → stands_for a ls ms ≡ f x ∷ []
  built ys x e =
      let o = one_value a h (stack_of f xs) (a.nonterminal_sort start) ends.1 in
      sym ends.0 ∙ o.1 ∙ ap (λ (v : V). v ∷ []) (sym (top_is f xs ys x o.0 e o.1))
