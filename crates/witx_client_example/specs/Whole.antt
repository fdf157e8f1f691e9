-- What a client holds and what it is told, in the words of the crate that it names.
use Rattle.std.specs.Prelude.{◌≡◌, ℕ, List, All, map, Option, option_map}
use Rattle.witx_tools.specs.Adaptable.{IsAdaptable}
use Rattle.witx_tools.specs.Adapted.{Adapted}
use Rattle.witx_tools.specs.AdaptedFunc.{AdaptedFunc}
use Rattle.witx_tools.specs.Adapting.{defined}
use Rattle.witx_tools.specs.Closed.{IsClosed}
use Rattle.witx_tools.specs.Entries.{IsFaithful, all_functions, entry_for, entry_of}
use Rattle.witx_tools.specs.FunctionTrees.{func_tree}
use Rattle.witx_tools.specs.Functions.{Function, function_of}
use Rattle.witx_tools.specs.Seen.{seen}
use Rattle.witx_tools.specs.Values.{Value}
use Rattle.witx_tools.specs.Invoked.{Invoked}
use Rattle.witx_tools.specs.Lines.{Gives}

-- a document that was adapted: it is closed, and its functions are those of its definitions, with faithful traces
pub record IsWhole (a : Adapted) : Type 0 where
  pub closed : IsClosed (defined a)
  pub functions : map entry_of a.functions ≡ map entry_for (all_functions (defined a))
  pub faithful : All IsFaithful a.functions
  pub adaptable : IsAdaptable (defined a)

-- the lines give the function of an entry these values
abbrev pub AreGiven : AdaptedFunc → List ℕ → List Value → Option Value → Type 0
AreGiven f lines arguments reply = Gives (function_of (func_tree f.func.value)) lines arguments reply

-- the call carried what the lines say: the callee was handed their arguments, and their reply came back
pub record Carries (f : AdaptedFunc) (lines : List ℕ) (i : Invoked) : Type 0 where
  pub arguments : List Value
  pub reply : Option Value
  pub given : AreGiven f lines arguments reply
  pub notes : map seen i.notes ≡ arguments
  pub returned : option_map seen i.returned ≡ reply
