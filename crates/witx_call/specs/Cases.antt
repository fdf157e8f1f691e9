-- A case with its payload or without, as the program has it.
use Rattle.std.specs.Prelude.{ℕ, List, Option, Some, None}
use Rattle.witx_ast.specs.Values.{Value}
use Rattle.witx_call.specs.ValueTexts.{value_text}

abbrev pub case_text : ℕ → Option Value → List ℕ
case_text i None = value_text (Value.bare_case i)
case_text i (Some v) = value_text (Value.case_with i v)
