-- The first token of a list that cannot stand at its place, and what could stand there.
-- A prefix is a list of tokens that some steps read from the nonterminal; what such steps want next can come next.
use Rattle.std.specs.Prelude.{◌≡◌, ℕ, ◌<◌, ◌≤◌, List, [], ◌∷◌, length, take, slice_index_or}
use Rattle.witx_grammar.specs.declared.table.Symbol.TheVariants.{Terminal, Nonterminal}
use Rattle.witx_grammar.specs.declared.table.Step.{Step}
use Rattle.witx_grammar.specs.declared.parser.Parsed.{Parsed}
use Rattle.witx_grammar.specs.declared.parser.Parsed.TheVariants.{Derivation, Fault}
use Rattle.witx_grammar.specs.Grammar.{In, Rewrite, Wants, Reaches, Derives}

-- A token of the kind t can come after these tokens, where the nonterminal f is wanted before them.
abbrev pub IsNext : {T N P : Type 0} → List (Rewrite T N P) → N → List T → T → Type 0
IsNext {T} {N} {P} g f ts t = (ms : List (Step P)) × (w : Wants T N) × Reaches g ms (Nonterminal f ∷ []) ts (Terminal t ∷ w)

-- The place is that of the first token that can't come after those before it, or the end of the tokens where more is wanted;
-- the list holds exactly the kinds that can come there. (The d of a token's place stands for tokens behind the end, which are not asked for.)
pub record IsTokenFault {T N P : Type 0} (g : List (Rewrite T N P)) (f : N) (ts : List T) (at : ℕ) (expected : List T) : Type 0 where
  pub within : at ≤ length ts
  pub before : (k : ℕ) (d : T) → k < at → IsNext g f (take k ts) (slice_index_or ts k d)
  pub here : (d : T) → at < length ts → IsNext g f (take at ts) (slice_index_or ts at d) → ⊥
  pub unfinished : at ≡ length ts → (ms : List (Step P)) → Derives g ms (Nonterminal f ∷ []) ts → ⊥
  pub can_come : (t : T) → In t expected → IsNext g f (take at ts) t
  pub all_that_can : (t : T) → IsNext g f (take at ts) t → In t expected

-- two faults with one place and the same kinds
pub record IsSameFault {T : Type 0} (at : ℕ) (expected : List T) (place : ℕ) (kinds : List T) : Type 0 where
  pub one_place : at ≡ place
  pub first_kinds : (t : T) → In t expected → In t kinds
  pub second_kinds : (t : T) → In t kinds → In t expected

abbrev pub HasDerivation : {T N P : Type 0} → List (Rewrite T N P) → N → List T → Type 0
HasDerivation {T} {N} {P} g f ts = (ms : List (Step P)) × Derives g ms (Nonterminal f ∷ []) ts

abbrev pub HasTokenFault : {T N P : Type 0} → List (Rewrite T N P) → N → List T → Type 0
HasTokenFault {T} {N} {P} g f ts = (at : ℕ) × (expected : List T) × IsTokenFault g f ts at expected

-- what the tokens read as: their derivation from the nonterminal, or their fault
abbrev pub IsParsed : {T N P : Type 0} → List (Rewrite T N P) → N → List T → Parsed T P → Type 0
IsParsed g f ts (Derivation ms) = Derives g ms.items (Nonterminal f ∷ []) ts
IsParsed g f ts (Fault fault) = IsTokenFault g f ts fault.at fault.expected.items
