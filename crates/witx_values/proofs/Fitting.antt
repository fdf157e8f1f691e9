-- What a derivation stands for is of the sorts that its symbols say.
use Rattle.std.proofs.Common.{◌≡◌, List, [], ◌∷◌, ◌++◌, map, refl, sym, ap, ◌∙◌, subst, inl, inr}
use Rattle.std.proofs.lemmas.List.{map-append}
use Rattle.std.proofs.lemmas.List.Concat.{flat_map-append}
use Rattle.witx_grammar.specs.Grammar.{Wants, In, Rewrite, Derives}
use Rattle.witx_grammar.specs.Reading.{values}
use Rattle.witx_grammar.specs.declared.table.Symbol.TheVariants.{Terminal, Nonterminal}
use Rattle.witx_grammar.specs.declared.table.Step.{Step}
use Rattle.witx_grammar.specs.declared.table.Step.TheVariants.{Leaf, Node}
use Rattle.witx_values.specs.Language.{Language, production_of, symbol_sorts, grammar_of, sorts_of, made_sort, Are, stands_for, IsDerived, IsLawful}
use Rattle.witx_values.specs.Readings.{IsValue}

pub no_value : {S : Type 0} (s : S) → [] ≡ s ∷ [] → ⊥
no_value s e = cc

both : {S : Type 0} (r s : S) (rs ss : List S) → r ∷ rs ≡ s ∷ ss → (r ≡ s) × (rs ≡ ss)
both r s rs ss e = (cc, cc)

pub first_value : {V : Type 0} (u v : V) (us vs : List V) → u ∷ us ≡ v ∷ vs → u ≡ v
first_value u v us vs e = cc

none_of : {S V : Type 0} (f : V → S) (v : V) (vs : List V) → map f (v ∷ vs) ≡ [] → ⊥
none_of f v vs e = cc

module _ {T N P L S V : Type 0} (a : Language T N P L S V) (h : IsLawful a) where
  -- a production of the grammar is the one of its name
  named_in : (ps : List P) (x : Rewrite T N P) → In x (map (production_of a.written) ps) → x ≡ production_of a.written x.name
  named_in [] x i = absurd i
  named_in (p ∷ ps) x (inl e) = e ∙ ap (production_of a.written) (sym (ap (λ (z : Rewrite T N P). z.name) e))
  named_in (p ∷ ps) x (inr i) = named_in ps x i

  pub named : (x : Rewrite T N P) → In x (grammar_of a) → x ≡ production_of a.written x.name
  named x i = named_in a.names x i

  pub token_fits : (l : L) (ss : List S) (vs : List V) → Are a ss vs → Are a (a.terminal_sorts (a.kind l) ++ ss) (a.leaf l ++ vs)
  token_fits l ss vs e =
      map-append a.sort_of (a.leaf l) vs
      ∙ ap (λ (x : List S). x ++ map a.sort_of vs) (h.tokens l)
      ∙ ap (λ (x : List S). a.terminal_sorts (a.kind l) ++ x) e

  pub production_fits : (p : P) (ls : List L) (w : Wants T N) (vs : List V) → Are a (sorts_of a ((a.written p).symbols ++ w)) vs
      → Are a (made_sort a p ∷ sorts_of a w) (a.act p ls vs)
  production_fits p ls w vs e =
      h.productions p ls (sorts_of a w) vs
      (subst (λ (ss : List S). Are a ss vs) (flat_map-append (symbol_sorts a.terminal_sorts a.nonterminal_sort) (a.written p).symbols w) e)

  -- the tokens, and the kinds that stand behind them, for which no value stands
  abbrev pub AreMute : List T → Type 0
  AreMute [] = Unit {0}
  AreMute (t ∷ ts) = (a.terminal_sorts t ≡ []) × AreMute ts

  step_fits : (x : Rewrite T N P) (p : P) (f : N) (w : Wants T N) (ls : List L) (vs : List V) → In x (grammar_of a) → x.nonterminal ≡ f → x.name ≡ p
      → Are a (sorts_of a (x.symbols ++ w)) vs → Are a (sorts_of a (Nonterminal f ∷ w)) (a.act p ls vs)
  step_fits x p f w ls vs i ef en e =
      let same : x ≡ production_of a.written p = named x i ∙ ap (production_of a.written) en in
      let form : (a.written p).nonterminal ≡ f = sym (ap (λ (z : Rewrite T N P). z.nonterminal) same) ∙ ef in
      subst (λ (g : N). Are a (a.nonterminal_sort g ∷ sorts_of a w) (a.act p ls vs)) form
      (production_fits p ls w vs (subst (λ (z : Rewrite T N P). Are a (sorts_of a (z.symbols ++ w)) vs) same e))

  pub all_fit : (ms : List (Step P)) (w : Wants T N) (ls : List L) (ends : List T) → AreMute ends
      → Derives (grammar_of a) ms w (map a.kind ls ++ ends) → Are a (sorts_of a w) (values a.leaf a.act ms ls)
  all_fit [] w ls ends m d = subst (λ (x : Wants T N). Are a (sorts_of a x) []) (sym d.1) refl
  all_fit (Leaf ∷ ms) [] ls ends m d = absurd d
  all_fit (Leaf ∷ ms) (Terminal t ∷ v) [] [] m d = absurd d
  all_fit (Leaf ∷ ms) (Terminal t ∷ v) [] (s ∷ ss) m d =
      subst (λ (x : List S). Are a (x ++ sorts_of a v) (values a.leaf a.act ms [])) (sym (ap a.terminal_sorts d.0 ∙ m.0)) (all_fit ms v [] ss m.1 d.1)
  all_fit (Leaf ∷ ms) (Terminal t ∷ v) (l ∷ ls) ends m d =
      subst (λ (s : T). Are a (a.terminal_sorts s ++ sorts_of a v) (a.leaf l ++ values a.leaf a.act ms ls)) (sym d.0)
      (token_fits l (sorts_of a v) (values a.leaf a.act ms ls) (all_fit ms v ls ends m d.1))
  all_fit (Leaf ∷ ms) (Nonterminal f ∷ v) ls ends m d = absurd d
  all_fit (Node n ∷ ms) [] ls ends m d = absurd d
  all_fit (Node n ∷ ms) (Terminal t ∷ v) ls ends m d = absurd d
  all_fit (Node n ∷ ms) (Nonterminal f ∷ v) ls ends m d =
      step_fits d.0 n f v ls (values a.leaf a.act ms ls) d.1 d.2 d.3 (all_fit ms (d.0.symbols ++ v) ls ends m d.4)

  pub none_left : (vs : List V) → Are a [] vs → vs ≡ []
  none_left [] e = refl
  none_left (v ∷ vs) e = absurd (none_of a.sort_of v vs e)

  -- values of one sort are one value
  pub one_value : (vs : List V) (s : S) → Are a (s ∷ []) vs → (v : V) × (vs ≡ v ∷ []) × (a.sort_of v ≡ s)
  one_value [] s e = absurd (no_value s e)
  one_value (v ∷ vs) s e =
      let p = both (a.sort_of v) s (map a.sort_of vs) [] e in
      (v, ap (λ (x : List V). v ∷ x) (none_left vs p.1), p.0)

  -- what a derivation from a nonterminal stands for
  pub reads_as : (f : N) (ls : List L) (ms : List (Step P)) → IsDerived a f ms ls → (v : V) × (stands_for a ls ms ≡ v ∷ []) × (a.sort_of v ≡ a.nonterminal_sort f)
  reads_as f ls ms d = one_value (stands_for a ls ms) (a.nonterminal_sort f) (all_fit ms (Nonterminal f ∷ []) ls (a.end ∷ []) (h.ends, tt) d)

  -- so the value that tokens are is of the sort of the nonterminal
  pub value_sort : (f : N) (ls : List L) (v : V) → IsValue a f ls v → a.sort_of v ≡ a.nonterminal_sort f
  value_sort f ls v is =
      let one = reads_as f ls is.steps is.derives in
      ap a.sort_of (first_value v one.0 [] [] (sym is.meaning ∙ one.1)) ∙ one.2
