-- Which production of a nonterminal the lookahead shows, and the computed condition that it always shows the right one.
-- Nothing here is part of what a grammar means. T are the kinds of tokens, N the nonterminals and P the names of productions; e, q and l compare them.
use Rattle.std.specs.Prelude.{ℕ, zero, suc, Bool, true, false, ◌&&◌, not, if◌then◌else◌, List, [], ◌∷◌, ◌++◌, map, Option, Some, None, IsTrue}
use Rattle.std.specs.List.{list_all, list_any}
use Rattle.witx_grammar.specs.declared.table.Symbol.TheVariants.{Terminal, Nonterminal}
use Rattle.witx_grammar.specs.declared.table.Rule.{Rule}
use Rattle.witx_grammar.specs.declared.table.Table.{Table}
use Rattle.witx_grammar.specs.Grammar.{Rewrite, Wants, rewrites_of, grammar}

-- a way to write a nonterminal, and the tokens that must come next for it
pub record Candidate (T N P : Type 0) : Type 0 where
  pub rewrite : Rewrite T N P
  pub tokens : List T

-- the lookahead of a list of symbols: its leading tokens, up to its first nonterminal
abbrev pub lookahead : {T N : Type 0} → Wants T N → List T
lookahead [] = []
lookahead (Terminal t ∷ w) = t ∷ lookahead w
lookahead (Nonterminal f ∷ w) = []

abbrev pub candidate : {T N P : Type 0} → Rewrite T N P → Candidate T N P
candidate x = record { rewrite = x; tokens = lookahead x.symbols }

-- the tokens begin with these
abbrev pub begins_with : {T : Type 0} → (T → T → Bool) → List T → List T → Bool
begins_with e [] ts = true
begins_with e (p ∷ ps) [] = false
begins_with e (p ∷ ps) (t ∷ ts) = e p t && begins_with e ps ts

-- what can be shown for a nonterminal
abbrev pub candidates : {T N P : Type 0} → (N → N → Bool) → List (Rewrite T N P) → N → List (Candidate T N P)
candidates q g f = map candidate (rewrites_of q g f)

-- the first that fits
abbrev pub pick : {T N P : Type 0} → (T → T → Bool) → List (Candidate T N P) → List T → Option (Rewrite T N P)
pick e [] ts = None
pick e (c ∷ cs) ts = if begins_with e c.tokens ts then Some c.rewrite else pick e cs ts

-- what is shown for a nonterminal at these tokens
abbrev pub choose : {T N P : Type 0} → (T → T → Bool) → (N → N → Bool) → List (Rewrite T N P) → N → List T → Option (Rewrite T N P)
choose e q g f ts = pick e (candidates q g f) ts

-- a candidate that is left after a token of the kind t, before others
abbrev pub onward : {T N P : Type 0} → (T → T → Bool) → T → List T → Rewrite T N P → List (Candidate T N P) → List (Candidate T N P)
onward e t [] x more = record { rewrite = x; tokens = [] } ∷ more
onward e t (p ∷ ps) x more = if e p t then record { rewrite = x; tokens = ps } ∷ more else more

abbrev pub advance : {T N P : Type 0} → (T → T → Bool) → T → List (Candidate T N P) → List (Candidate T N P)
advance e t [] = []
advance e t (c ∷ cs) = onward e t c.tokens c.rewrite (advance e t cs)

abbrev pub is_empty : {X : Type 0} → List X → Bool
is_empty [] = true
is_empty (x ∷ xs) = false

-- the first candidate needs no more tokens
abbrev pub is_shown : {T N P : Type 0} → List (Candidate T N P) → Bool
is_shown [] = false
is_shown (c ∷ cs) = is_empty c.tokens

-- the first candidate has this name
abbrev pub is_first : {T N P : Type 0} → (P → P → Bool) → P → List (Candidate T N P) → Bool
is_first l p [] = false
is_first l p (c ∷ cs) = l c.rewrite.name p

-- Whatever is written by w, the candidates lead to the production p, within n steps.
abbrev pub leads : {T N P : Type 0} → (T → T → Bool) → (N → N → Bool) → (P → P → Bool) → List (Rewrite T N P)
    → ℕ → List (Candidate T N P) → Wants T N → P → Bool
leads e q l g zero cs w p = false
leads e q l g (suc n) cs [] p = if is_shown cs then is_first l p cs else false
leads e q l g (suc n) cs (Terminal t ∷ w) p = if is_shown cs then is_first l p cs else leads e q l g n (advance e t cs) w p
leads e q l g (suc n) cs (Nonterminal f ∷ w) p =
    if is_shown cs then is_first l p cs else list_all (λ x. leads e q l g n cs (x.symbols ++ w) p) (rewrites_of q g f)

-- So many steps are tried for a production: nonterminals that are opened and tokens that are looked at. A table that needs more is refused.
abbrev pub steps : ℕ
steps = 12

-- the lookahead leads to the right production for each of the list
abbrev pub all_lead : {T N P : Type 0} → (T → T → Bool) → (N → N → Bool) → (P → P → Bool) → List (Rewrite T N P) → List (Rewrite T N P) → Bool
all_lead e q l g xs = list_all (λ x. leads e q l g steps (candidates q g x.nonterminal) x.symbols x.name) xs

abbrev pub is_some_want : {T N : Type 0} → Wants T N → Bool
is_some_want [] = false
is_some_want (x ∷ w) = true

-- A token comes first within so many nonterminals that are opened, each of them by something: none begins with itself.
abbrev pub is_grounded : {T N P : Type 0} → (N → N → Bool) → List (Rewrite T N P) → ℕ → Wants T N → Bool
is_grounded q g k [] = true
is_grounded q g k (Terminal t ∷ w) = true
is_grounded q g zero (Nonterminal f ∷ w) = false
is_grounded q g (suc k) (Nonterminal f ∷ w) = list_all (λ x. is_some_want x.symbols && is_grounded q g k x.symbols) (rewrites_of q g f)

-- So many nonterminals are opened behind that of a production before a token comes: with it these are DEPTH, 8.
abbrev pub opened_behind : ℕ
opened_behind = 7

-- the same of each production, which isn't empty
abbrev pub all_grounded : {T N P : Type 0} → (N → N → Bool) → List (Rewrite T N P) → List (Rewrite T N P) → Bool
all_grounded q g xs = list_all (λ x. is_some_want x.symbols && is_grounded q g opened_behind x.symbols) xs

-- no two are the same
abbrev pub are_distinct : {X : Type 0} → (X → X → Bool) → List X → Bool
are_distinct l [] = true
are_distinct l (x ∷ xs) = not (list_any (λ y. l y x) xs) && are_distinct l xs

abbrev pub names : {T N P : Type 0} → List (Rewrite T N P) → List P
names g = map (λ x. x.name) g

abbrev pub heads : {T N P : Type 0} → List (Rule T N P) → List N
heads rs = map (λ r. r.nonterminal) rs

-- one rule for each nonterminal
abbrev pub HasOneRuleEach : {T N P : Type 0} → (N → N → Bool) → List (Rule T N P) → Type 0
HasOneRuleEach q rs = IsTrue (are_distinct q (heads rs))

abbrev pub is_predictive : {T N P : Type 0} → (T → T → Bool) → (N → N → Bool) → (P → P → Bool) → Table T N P → Bool
is_predictive e q l t =
    are_distinct q (heads t.rules.now) && are_distinct l (names (grammar t))
    && all_lead e q l (grammar t) (grammar t) && all_grounded q (grammar t) (grammar t)

-- A table with one rule for each nonterminal and one name for each production, whose lookahead always shows the right production,
-- and in which no nonterminal begins with itself or is nothing.
abbrev pub IsPredictive : {T N P : Type 0} → (T → T → Bool) → (N → N → Bool) → (P → P → Bool) → Table T N P → Type 0
IsPredictive e q l t = IsTrue (is_predictive e q l t)
