-- Choices that are kept, and what is wanted while productions are written. Nothing here is part of what a grammar means.
-- T are the kinds of tokens, N the nonterminals and P the names of productions; e and q compare the first two.
use Rattle.std.specs.Prelude.{◌≡◌, ⊤, ℕ, Bool, true, List, [], ◌∷◌, ◌++◌, length, take, reverse, map, Option, Some, None, IfSome}
use Rattle.std.specs.List.{All, flat_map}
use Rattle.std.specs.Borrow.{Bor}
use Rattle.witx_grammar.specs.declared.table.Production.{Production}
use Rattle.witx_grammar.specs.declared.table.Symbol.{Symbol}
use Rattle.witx_grammar.specs.declared.known.Known.{Known}
use Rattle.witx_grammar.specs.Grammar.{Rewrite, Wants, rewrite_view}
use Rattle.witx_grammar.specs.Prediction.{begins_with, candidate, choose, lookahead, pick}

-- the first of these productions of a nonterminal that fits
abbrev pub first_of : {T N P : Type 0} → (T → T → Bool) → N → List (Production T N P) → List T → Option (Rewrite T N P)
first_of e f ps ts = pick e (map candidate (map (rewrite_view f) ps)) ts

-- wherever these tokens come next, the first production that fits is the same of both lists
abbrev pub AlikeBehind : {T N P : Type 0} → (T → T → Bool) → List T → List (Production T N P) → List (Production T N P) → Type 0
AlikeBehind {T} {N} e next ps qs = (f : N) (ts : List T) → first_of e f ps (next ++ ts) ≡ first_of e f qs (next ++ ts)

-- the first of these productions that fits is what is shown for the nonterminal at these tokens
abbrev pub IsRest : {T N P : Type 0} → (T → T → Bool) → (N → N → Bool) → List (Rewrite T N P) → N → List T → List (Production T N P) → Type 0
IsRest e q g f ts ps = first_of e f ps ts ≡ choose e q g f ts

-- how many tokens the lookahead of a production takes
abbrev pub lookahead_length : {T N P : Type 0} → Production T N P → ℕ
lookahead_length p = length (lookahead p.symbols.now)

-- the tokens begin with the lookahead of the production
abbrev pub ComesNext : {T N P : Type 0} → (T → T → Bool) → List T → Production T N P → Type 0
ComesNext e ts p = begins_with e (lookahead p.symbols.now) ts ≡ true

-- The lookahead of the first of these productions, if there is one, takes n tokens; that of its first two symbols comes next.
abbrev pub MayFit : {T N P : Type 0} → (T → T → Bool) → List T → ℕ → List (Production T N P) → Type 0
MayFit e ts n [] = ⊤
MayFit e ts n (p ∷ ps) = (n ≡ lookahead_length p) × (begins_with e (lookahead (take 2 p.symbols.now)) ts ≡ true)

-- what is kept holds wherever the two kinds come next
abbrev pub IsKnown : {T N P : Type 0} → (T → T → Bool) → (N → N → Bool) → List (Rewrite T N P) → Known T N P → Type 0
IsKnown {T} e q g k =
    (ts : List T) → IsRest e q g k.wanted (k.first ∷ k.second ∷ ts) k.rest.now × MayFit e (k.first ∷ k.second ∷ ts) k.front k.rest.now

-- all that is kept does
abbrev pub AreKnown : {T N P : Type 0} → (T → T → Bool) → (N → N → Bool) → List (Rewrite T N P) → List (Option (Known T N P)) → Type 0
AreKnown e q g os = All (λ o. IfSome o (IsKnown e q g)) os

-- what is wanted next, and then by the lists on a stack, of which the last comes first
abbrev pub still_wanted : {T N : Type 0} → Wants T N → List (Bor (List (Symbol T N))) → Wants T N
still_wanted w ls = w ++ flat_map (λ l. l.now) (reverse ls)

-- the same where one symbol is taken off in front, if there is one
abbrev pub all_wanted : {T N : Type 0} → Option (Symbol T N × Bor (List (Symbol T N))) → List (Bor (List (Symbol T N))) → Wants T N
all_wanted None ls = []
all_wanted (Some c) ls = c.0 ∷ still_wanted c.1.now ls
