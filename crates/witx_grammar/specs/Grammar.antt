-- A context-free grammar as a list of rewritings, and the leftmost derivations of a list of tokens.
-- A derivation is the flat list of its steps in preorder: a production before what it is written by.
use Rattle.std.specs.Prelude.{◌≡◌, Bool, if◌then◌else◌, List, [], ◌∷◌, ◌++◌, map}
use Rattle.std.specs.Prelude.{◌⊎◌}
use Rattle.std.specs.List.{flat_map}
use Rattle.witx_grammar.specs.declared.table.Symbol.{Symbol}
use Rattle.witx_grammar.specs.declared.table.Symbol.TheVariants.{Terminal, Nonterminal}
use Rattle.witx_grammar.specs.declared.table.Step.{Step}
use Rattle.witx_grammar.specs.declared.table.Step.TheVariants.{Leaf, Node}
use Rattle.witx_grammar.specs.declared.table.Production.{Production}
use Rattle.witx_grammar.specs.declared.table.Rule.{Rule}
use Rattle.witx_grammar.specs.declared.table.Table.{Table}

-- a member of the list
abbrev pub In : {X : Type 0} → X → List X → Type 0
In x [] = ⊥
In x (y ∷ ys) = (x ≡ y) ⊎ In x ys

-- what is still to come, in order: the symbols of a sentential form
abbrev pub Wants : Type 0 → Type 0 → Type 0
Wants T N = List (Symbol T N)

-- one way to write a nonterminal: what is wanted in its place
pub record Rewrite (T N P : Type 0) : Type 0 where
  pub nonterminal : N
  pub name : P
  pub symbols : Wants T N

-- what a production of a nonterminal spells
abbrev pub rewrite_view : {T N P : Type 0} → N → Production T N P → Rewrite T N P
rewrite_view n p = record { nonterminal = n; name = p.name; symbols = p.symbols.now }

abbrev pub rule_view : {T N P : Type 0} → Rule T N P → List (Rewrite T N P)
rule_view r = map (rewrite_view r.nonterminal) r.productions.now

-- the grammar of a table
abbrev pub grammar : {T N P : Type 0} → Table T N P → List (Rewrite T N P)
grammar t = flat_map rule_view t.rules.now

-- the ways to write a nonterminal, where q compares nonterminals
abbrev pub rewrites_of : {T N P : Type 0} → (N → N → Bool) → List (Rewrite T N P) → N → List (Rewrite T N P)
rewrites_of q [] f = []
rewrites_of q (x ∷ xs) f = if q x.nonterminal f then x ∷ rewrites_of q xs f else rewrites_of q xs f

-- By these steps the tokens are read where v is wanted before them, and w is still wanted behind them:
-- a token that is wanted next is read, or a nonterminal that is wanted next is written by one of its productions.
abbrev pub Reaches : {T N P : Type 0} → List (Rewrite T N P) → List (Step P) → Wants T N → List T → Wants T N → Type 0
Reaches g [] v ts w = (ts ≡ []) × (v ≡ w)
Reaches g (m ∷ ms) [] ts w = ⊥
Reaches g (Leaf ∷ ms) (Terminal t ∷ v) [] w = ⊥
Reaches g (Leaf ∷ ms) (Terminal t ∷ v) (s ∷ ts) w = (t ≡ s) × Reaches g ms v ts w
Reaches g (Leaf ∷ ms) (Nonterminal f ∷ v) ts w = ⊥
Reaches g (Node p ∷ ms) (Terminal t ∷ v) ts w = ⊥
Reaches {T} {N} {P} g (Node p ∷ ms) (Nonterminal f ∷ v) ts w =
    (x : Rewrite T N P) × In x g × (x.nonterminal ≡ f) × (x.name ≡ p) × Reaches g ms (x.symbols ++ v) ts w

-- The steps derive the tokens, and nothing more, from what is wanted.
abbrev pub Derives : {T N P : Type 0} → List (Rewrite T N P) → List (Step P) → Wants T N → List T → Type 0
Derives g ms w ts = Reaches g ms w ts []
