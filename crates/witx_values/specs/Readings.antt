-- What tokens read as: the value of a derivation, or their fault.
use Rattle.std.specs.Prelude.{◌≡◌, List, [], ◌∷◌}
use Rattle.witx_grammar.specs.Faults.{IsTokenFault}
use Rattle.witx_grammar.specs.declared.table.Step.{Step}
use Rattle.witx_values.specs.declared.reader.Reading.{Reading}
use Rattle.witx_values.specs.declared.reader.Reading.TheVariants.{Value, Fault}
use Rattle.witx_values.specs.Language.{Language, grammar_of, kinds_of, stands_for, IsDerived}

-- a derivation of the tokens from the nonterminal stands for the value
pub record IsValue {T N P L S V : Type 0} (a : Language T N P L S V) (f : N) (ls : List L) (v : V) : Type 0 where
  pub steps : List (Step P)
  pub derives : IsDerived a f steps ls
  pub meaning : stands_for a ls steps ≡ v ∷ []

-- the tokens have this value, or this fault
abbrev pub HasReading : {T N P L S V X : Type 0} → Language T N P L S V → (X → V) → N → List L → Reading X T → Type 0
HasReading a value_of f ls (Value x) = IsValue a f ls (value_of x)
HasReading a value_of f ls (Fault fault) = IsTokenFault (grammar_of a) f (kinds_of a ls) fault.at fault.expected.items
