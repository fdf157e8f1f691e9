-- The fault of a list of tokens, computed: all that can be wanted is followed from token to token.
-- A bound limits how many nonterminals are opened at one place; a law says that it changes nothing.
-- e compares kinds of tokens, q nonterminals.
use Rattle.std.specs.Prelude.{ℕ, zero, suc, ◌+◌, Bool, true, false, if◌then◌else◌, List, [], ◌∷◌, ◌++◌, map, Option, Some, None}
use Rattle.std.specs.List.{filter, flat_map, list_any}
use Rattle.std.specs.Global.{Vec}
use Rattle.witx_grammar.specs.declared.table.Symbol.{Symbol}
use Rattle.witx_grammar.specs.declared.table.Symbol.TheVariants.{Terminal, Nonterminal}
use Rattle.witx_grammar.specs.declared.fault.Fault.{Fault}
use Rattle.witx_grammar.specs.Grammar.{Rewrite, Wants, rewrites_of}
use Rattle.witx_grammar.specs.Faults.{HasDerivation, IsTokenFault}

-- what can be wanted after a token of the kind t, where a list of symbols is wanted before it
abbrev pub ways : {T N P : Type 0} → (T → T → Bool) → (N → N → Bool) → List (Rewrite T N P) → ℕ → T → Wants T N → List (Wants T N)
ways e q g k t [] = []
ways e q g k t (Terminal u ∷ w) = if e u t then w ∷ [] else []
ways e q g zero t (Nonterminal f ∷ w) = []
ways e q g (suc k) t (Nonterminal f ∷ w) = flat_map (λ x. ways e q g k t (x.symbols ++ w)) (rewrites_of q g f)

-- the same of several
abbrev pub all_ways : {T N P : Type 0} → (T → T → Bool) → (N → N → Bool) → List (Rewrite T N P) → ℕ → T → List (Wants T N) → List (Wants T N)
all_ways e q g k t ws = flat_map (ways e q g k t) ws

-- A token of the kind, if one is named, can come where these symbols are wanted, as far as the first of them tells.
abbrev pub may_come : {T N : Type 0} → (T → T → Bool) → Option T → Wants T N → Bool
may_come e None w = true
may_come e (Some t) [] = false
may_come e (Some t) (Terminal u ∷ w) = e u t
may_come e (Some t) (Nonterminal f ∷ w) = true

-- the lists that such a token doesn't rule out
abbrev pub not_ruled_out : {T N : Type 0} → (T → T → Bool) → Option T → List (Wants T N) → List (Wants T N)
not_ruled_out e next ws = filter (may_come e next) ws

-- the kinds of tokens that can come first
abbrev pub firsts : {T N P : Type 0} → (N → N → Bool) → List (Rewrite T N P) → ℕ → Wants T N → List T
firsts q g k [] = []
firsts q g k (Terminal u ∷ w) = u ∷ []
firsts q g zero (Nonterminal f ∷ w) = []
firsts q g (suc k) (Nonterminal f ∷ w) = flat_map (λ x. firsts q g k (x.symbols ++ w)) (rewrites_of q g f)

abbrev pub all_firsts : {T N P : Type 0} → (N → N → Bool) → List (Rewrite T N P) → ℕ → List (Wants T N) → List T
all_firsts q g k ws = flat_map (firsts q g k) ws

-- nothing more is wanted
abbrev pub is_nothing : {T N : Type 0} → Wants T N → Bool
is_nothing [] = true
is_nothing (x ∷ w) = false

-- none is left
abbrev pub is_stuck : {T N : Type 0} → List (Wants T N) → Bool
is_stuck [] = true
is_stuck (w ∷ ws) = false

-- a place, and the kinds that can come there
pub record Found (T : Type 0) : Type 0 where
  pub at : ℕ
  pub expected : List T

-- The fault of the tokens, of which the first has the number at, where one of several lists is wanted.
abbrev pub search_fault : {T N P : Type 0} → (T → T → Bool) → (N → N → Bool) → List (Rewrite T N P) → ℕ → List (Wants T N) → ℕ → List T → Option (Found T)
search_fault e q g k ws at [] = if list_any is_nothing ws then None else Some (record { at = at; expected = all_firsts q g k ws })
search_fault e q g k ws at (t ∷ ts) =
    if is_stuck (all_ways e q g k t ws) then Some (record { at = at; expected = all_firsts q g k ws }) else search_fault e q g k (all_ways e q g k t ws) (at + 1) ts

-- what the search says: without a fault there is a derivation
abbrev pub IsSearched : {T N P : Type 0} → List (Rewrite T N P) → N → List T → Option (Found T) → Type 0
IsSearched g f ts None = HasDerivation g f ts
IsSearched g f ts (Some x) = IsTokenFault g f ts x.at x.expected

-- the lists that the code holds
abbrev pub all_wants : {T N : Type 0} → List (Vec (Symbol T N)) → List (Wants T N)
all_wants vs = map (λ v. v.items) vs

abbrev pub found_view : {T : Type 0} → Fault T → Found T
found_view f = record { at = f.at; expected = f.expected.items }
