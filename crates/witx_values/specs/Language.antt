-- A language: a grammar, what its tokens and productions stand for, and of which sorts these values are.
-- T are the kinds of tokens, N the nonterminals, P the names of productions, L the tokens, S the sorts and V the values.
use Rattle.std.specs.Prelude.{◌≡◌, List, [], ◌∷◌, ◌++◌, map, reverse}
use Rattle.std.specs.List.{flat_map}
use Rattle.witx_grammar.specs.Grammar.{Rewrite, Wants, Derives, grammar}
use Rattle.witx_grammar.specs.Reading.{values}
use Rattle.witx_grammar.specs.declared.table.Symbol.{Symbol}
use Rattle.witx_grammar.specs.declared.table.Symbol.TheVariants.{Terminal, Nonterminal}
use Rattle.witx_grammar.specs.declared.table.Step.{Step}
use Rattle.witx_grammar.specs.declared.table.Table.{Table}

-- a nonterminal, and what is wanted in its place
pub record Written (T N : Type 0) : Type 0 where
  pub nonterminal : N
  pub symbols : Wants T N

abbrev pub write : {T N : Type 0} → N → Wants T N → Written T N
write f w = record { nonterminal = f; symbols = w }

-- the production of a name, from what each name is written by
abbrev pub production_of : {T N P : Type 0} → (P → Written T N) → P → Rewrite T N P
production_of f p = record { nonterminal = (f p).nonterminal; name = p; symbols = (f p).symbols }

-- the productions by name, the kinds of tokens, and what tokens and productions stand for
pub record Language (T N P L S V : Type 0) : Type 0 where
  pub names : List P
  pub written : P → Written T N
  pub kind : L → T
  -- the kind of the end, which stands once, behind the last token
  pub end : T
  pub leaf : L → List V
  pub act : P → List L → List V → List V
  pub sort_of : V → S
  pub terminal_sorts : T → List S
  pub nonterminal_sort : N → S

-- the sorts of what a symbol stands for, where p says those of a token and q that of a nonterminal
abbrev pub symbol_sorts : {T N S : Type 0} → (T → List S) → (N → S) → Symbol T N → List S
symbol_sorts p q (Terminal t) = p t
symbol_sorts p q (Nonterminal f) = q f ∷ []

-- the sorts of the values that such symbols stand for
abbrev pub wants_sorts : {T N S : Type 0} → (T → List S) → (N → S) → Wants T N → List S
wants_sorts p q w = flat_map (symbol_sorts p q) w

-- values of these sorts stand first
abbrev pub StartWith : {S V : Type 0} → (V → S) → List S → List V → Type 0
StartWith {S} f ss vs = (below : List S) × (map f vs ≡ ss ++ below)

module _ {T N P L S V : Type 0} (a : Language T N P L S V) where
  -- the grammar: the productions of all names
  abbrev pub grammar_of : List (Rewrite T N P)
  grammar_of = map (production_of a.written) a.names

  -- the table of the code has this grammar
  abbrev pub IsTableOf : Table T N P → Type 0
  IsTableOf table = grammar table ≡ grammar_of

  -- the kinds of the tokens, and then, once, that of the end
  abbrev pub kinds_of : List L → List T
  kinds_of ls = map a.kind ls ++ a.end ∷ []

  -- the sorts of the values that symbols stand for
  abbrev pub sorts_of : Wants T N → List S
  sorts_of w = wants_sorts a.terminal_sorts a.nonterminal_sort w

  -- the sorts of the values that a production is made of
  abbrev pub parts_of : P → List S
  parts_of p = sorts_of (a.written p).symbols

  -- the sort of the value that it makes
  abbrev pub made_sort : P → S
  made_sort p = a.nonterminal_sort (a.written p).nonterminal

  -- the values are of these sorts, one of each
  abbrev pub Are : List S → List V → Type 0
  Are ss vs = map a.sort_of vs ≡ ss

  -- values of these sorts stand first
  abbrev pub Holds : List S → List V → Type 0
  Holds ss vs = StartWith a.sort_of ss vs

  -- what the steps of a derivation of the tokens stand for
  abbrev pub stands_for : List L → List (Step P) → List V
  stands_for ls ms = values a.leaf a.act ms ls

  -- the steps derive the tokens, and their end, from the nonterminal
  abbrev pub IsDerived : N → List (Step P) → List L → Type 0
  IsDerived f ms ls = Derives grammar_of ms (Nonterminal f ∷ []) (kinds_of ls)

  -- values are of the sorts that the symbols say
  pub record IsLawful : Type 0 where
    pub tokens : (l : L) → Are (a.terminal_sorts (a.kind l)) (a.leaf l)
    pub ends : a.terminal_sorts a.end ≡ []
    pub productions : (p : P) (ls : List L) (ss : List S) (vs : List V) → Are (parts_of p ++ ss) vs → Are (made_sort p ∷ ss) (a.act p ls vs)

-- the values on a stack of the code, the top one first, where v says what each is
abbrev pub stack_of : {X V : Type 0} → (X → V) → List X → List V
stack_of v xs = map v (reverse xs)

-- the value lies on top of the values of a stack
abbrev pub IsOnTop : {X V : Type 0} → (X → V) → V → List X → List X → Type 0
IsOnTop v x below xs = stack_of v xs ≡ x ∷ stack_of v below

-- what the production is made of lies on top of a stack
abbrev pub Ready : {T N P L S V X : Type 0} → Language T N P L S V → (X → V) → P → List X → Type 0
Ready a v p stack = Holds a (parts_of a p) (stack_of v stack)
