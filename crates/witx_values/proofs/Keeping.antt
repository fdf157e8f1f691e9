-- What holds of the values of tokens, and of what each production makes of such values, holds of what a derivation stands for.
use Rattle.std.proofs.Common.{◌≡◌, List, [], ◌∷◌, ◌++◌, map, Option, sym, ap, ◌∙◌, subst}
use Rattle.std.proofs.lemmas.List.Concat.{flat_map-append}
use Rattle.witx_grammar.specs.Grammar.{Wants, In, Rewrite, Derives}
use Rattle.witx_grammar.specs.Reading.{values}
use Rattle.witx_grammar.specs.declared.table.Symbol.TheVariants.{Terminal, Nonterminal}
use Rattle.witx_grammar.specs.declared.table.Step.{Step}
use Rattle.witx_grammar.specs.declared.table.Step.TheVariants.{Leaf, Node}
use Rattle.witx_values.specs.Language.{Language, production_of, symbol_sorts, grammar_of, sorts_of, parts_of, Are, stands_for, IsDerived, IsLawful}
use Rattle.witx_values.specs.Parts.{Sorting, on_some, Makes, made}
use Rattle.witx_values.proofs.Fitting.{named, AreMute, all_fit}
use Rattle.witx_values.proofs.Parts.{IsSorting, no_sorts, first_sort, other_sorts, opened}

-- the claim holds of each value
abbrev pub AllAre : {V : Type 0} → (V → Type 0) → List V → Type 0
AllAre Q [] = Unit {0}
AllAre Q (v ∷ vs) = Q v × AllAre Q vs

all_append : {V : Type 0} (Q : V → Type 0) (us vs : List V) → AllAre Q us → AllAre Q vs → AllAre Q (us ++ vs)
all_append Q [] vs h k = k
all_append Q (u ∷ us) vs h k = (h.0, all_append Q us vs h.1 k)

module _ {T N S V : Type 0} (k : Sorting T N S V) (Q : V → Type 0) where
  -- what is made of values for which the claim holds is such a value
  abbrev pub Keeps : (rs : List S) (s : S) → Makes k.Of rs s → Type 0
  Keeps [] s x = Q (k.wrap s x)
  Keeps (r ∷ rs) s f = (x : k.Of r) → Q (k.wrap r x) → Keeps rs s (f x)

  pub made_keeps : IsSorting k → (rs ss : List S) (s : S) (f : Makes k.Of rs s) (vs : List V) → map k.sort_of vs ≡ rs ++ ss → Keeps rs s f → AllAre Q vs → AllAre Q (made k rs s f vs)
  made_keeps h [] ss s x vs e keeps all = (keeps, all)
  made_keeps h (r ∷ rs) ss s f [] e keeps all = absurd (no_sorts r (rs ++ ss) e)
  made_keeps h (r ∷ rs) ss s f (v ∷ vs) e keeps all =
      let o = opened k h r v (first_sort (k.sort_of v) r (map k.sort_of vs) (rs ++ ss) e) in
      subst (λ (x : Option (k.Of r)). AllAre Q (on_some x (λ y. made k rs s (f y) vs))) (sym o.1)
      (made_keeps h rs ss s (f o.0) vs (other_sorts (k.sort_of v) r (map k.sort_of vs) (rs ++ ss) e) (keeps o.0 (subst (λ (u : V). Q u) (sym o.2) all.0)) all.1)

module _ {T N P L S V : Type 0} (a : Language T N P L S V) (h : IsLawful a) (Q : V → Type 0)
    (keeps : (p : P) (ls : List L) (ss : List S) (vs : List V) → Are a (parts_of a p ++ ss) vs → AllAre Q vs → AllAre Q (a.act p ls vs)) where
  -- the claim holds of what each token stands for
  abbrev pub TokensAre : List L → Type 0
  TokensAre [] = Unit {0}
  TokensAre (l ∷ ls) = AllAre Q (a.leaf l) × TokensAre ls

  step_keeps : (x : Rewrite T N P) (p : P) (w : Wants T N) (ls : List L) (vs : List V) → In x (grammar_of a) → x.name ≡ p
      → Are a (sorts_of a (x.symbols ++ w)) vs → AllAre Q vs → AllAre Q (a.act p ls vs)
  step_keeps x p w ls vs i en e k =
      let same : x ≡ production_of a.written p = named a h x i ∙ ap (production_of a.written) en in
      let there : Are a (sorts_of a ((a.written p).symbols ++ w)) vs = subst (λ (z : Rewrite T N P). Are a (sorts_of a (z.symbols ++ w)) vs) same e in
      keeps p ls (sorts_of a w) vs
      (subst (λ (ss : List S). Are a ss vs) (flat_map-append (symbol_sorts a.terminal_sorts a.nonterminal_sort) (a.written p).symbols w) there) k

  all_keep : (ms : List (Step P)) (w : Wants T N) (ls : List L) (ends : List T) → AreMute a h ends → TokensAre ls
      → Derives (grammar_of a) ms w (map a.kind ls ++ ends) → AllAre Q (values a.leaf a.act ms ls)
  all_keep [] w ls ends m k d = tt
  all_keep (Leaf ∷ ms) [] ls ends m k d = absurd d
  all_keep (Leaf ∷ ms) (Terminal t ∷ v) [] [] m k d = absurd d
  all_keep (Leaf ∷ ms) (Terminal t ∷ v) [] (s ∷ ss) m k d = all_keep ms v [] ss m.1 k d.1
  all_keep (Leaf ∷ ms) (Terminal t ∷ v) (l ∷ ls) ends m k d = all_append Q (a.leaf l) (values a.leaf a.act ms ls) k.0 (all_keep ms v ls ends m k.1 d.1)
  all_keep (Leaf ∷ ms) (Nonterminal f ∷ v) ls ends m k d = absurd d
  all_keep (Node n ∷ ms) [] ls ends m k d = absurd d
  all_keep (Node n ∷ ms) (Terminal t ∷ v) ls ends m k d = absurd d
  all_keep (Node n ∷ ms) (Nonterminal f ∷ v) ls ends m k d =
      step_keeps d.0 n v ls (values a.leaf a.act ms ls) d.1 d.3 (all_fit a h ms (d.0.symbols ++ v) ls ends m d.4) (all_keep ms (d.0.symbols ++ v) ls ends m k d.4)

  pub derived_keeps : (f : N) (ls : List L) (ms : List (Step P)) → TokensAre ls → IsDerived a f ms ls → AllAre Q (stands_for a ls ms)
  derived_keeps f ls ms k d = all_keep ms (Nonterminal f ∷ []) ls (a.end ∷ []) (h.ends, tt) k d
