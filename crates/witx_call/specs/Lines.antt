-- The lines of the values of one call: one for each parameter and one for a result, each the text of a value of its type, ended by a line feed.
use Rattle.std.specs.Prelude.{◌≡◌, ℕ, ◌+◌, List, [], ◌∷◌, ◌++◌, ◌≢◌, ◌⊎◌, IsTrue, codes, map, Option, Some, None}
use Rattle.witx_ast.specs.Tree.{Tree}
use Rattle.witx_ast.specs.Plain.{plain}
use Rattle.witx_ast.specs.Functions.{param_field}
use Rattle.witx_ast.specs.declared.function.InterfaceFuncParam.{InterfaceFuncParam}
use Rattle.witx_ast.specs.Values.{Value}
use Rattle.witx_ast.specs.ValueTests.{is_value}
use Rattle.witx_machine.specs.Faithful.{are_arguments, is_reply}
use Rattle.witx_machine.specs.Functions.{Function}
use Rattle.witx_call.specs.ValueTexts.{value_text}

abbrev pub line_text : Value → List ℕ
line_text v = value_text v ++ codes "\n"

abbrev pub lines_text : List Value → List ℕ
lines_text [] = []
lines_text (v ∷ vs) = line_text v ++ lines_text vs

-- the text begins with the line of a value of the type, and this follows
pub record IsValueLine (t : Tree) (text : List ℕ) (v : Value) (rest : List ℕ) : Type 0 where
  pub value : IsTrue (is_value (plain t) v)
  pub spelled : text ≡ line_text v ++ rest

-- the text begins with the line of no value of the type: it isn't that of one, has no end, or is missing
abbrev pub NoLine : Tree → List ℕ → Type 0
NoLine t text = (v : Value) (rest : List ℕ) → ¬ (IsValueLine t text v rest)

-- THE FIRST LINE AT FAULT, where the line of this number stands first: the first that isn't the text of a value of its type;
-- or, where there is one for each type and more follows, the line behind them
abbrev pub FirstFault : ℕ → List Tree → List ℕ → ℕ → Type 0
FirstFault line [] text n = (n ≡ line) × (text ≢ [])
FirstFault line (t ∷ ts) text n =
    ((n ≡ line) × NoLine t text)
    ⊎ ((v : Value) × (rest : List ℕ) × IsValueLine t text v rest × FirstFault (line + 1) ts rest n)

-- the types of the lines: those of the parameters, and then that of a result
abbrev pub line_types : Function → List Tree
line_types f = f.params ++ f.results

abbrev pub line_param_types : List InterfaceFuncParam → List Tree
line_param_types ps = map (λ p. p.tree) (map param_field ps)

-- the text begins with the lines of values of the types, and this follows
pub record AreLines (ts : List Tree) (text : List ℕ) (vs : List Value) (rest : List ℕ) : Type 0 where
  pub values : IsTrue (are_arguments ts vs)
  pub spelled : text ≡ lines_text vs ++ rest

-- what follows the line of the value, or nothing where the text doesn't begin with it or the value is none of the type
abbrev pub IsBehindLine : Tree → List ℕ → Value → Option (List ℕ) → Type 0
IsBehindLine t text v None = (rest : List ℕ) → ¬ (IsValueLine t text v rest)
IsBehindLine t text v (Some rest) = IsValueLine t text v rest

-- a result's value is behind those of the parameters
abbrev pub values_given : List Value → Option Value → List Value
values_given arguments None = arguments
values_given arguments (Some reply) = arguments ++ reply ∷ []

-- THE TEXT GIVES THESE VALUES: they are arguments and a reply of the function, and the text is their lines
pub record Gives (f : Function) (text : List ℕ) (arguments : List Value) (reply : Option Value) : Type 0 where
  pub accepted : IsTrue (are_arguments f.params arguments)
  pub replied : IsTrue (is_reply f.results reply)
  pub spelled : text ≡ lines_text (values_given arguments reply)
