-- What the texts of values tell, and that a call comes to one thing.
use Rattle.std.specs.Prelude.{◌≡◌, ℕ, List, IsTrue, Option}
use Rattle.witx_ast.specs.Plain.{Plain, plain}
use Rattle.witx_ast.specs.Tags.{fits}
use Rattle.witx_ast.specs.Tree.{Tree}
use Rattle.witx_ast.specs.Values.{Value}
use Rattle.witx_ast.specs.ValueTests.{is_value}
use Rattle.witx_machine.specs.Events.{Event}
use Rattle.witx_machine.specs.Functions.{Function}
use Rattle.witx_call.specs.CallSeen.{CallSeen}
use Rattle.witx_call.specs.Lines.{IsValueLine}
use Rattle.witx_call.specs.ValueTexts.{value_text}
use Rattle.witx_invoke.specs.Invoking.{CanRun}
use Rattle.witx_invoke.specs.Runs.{ComesTo}

-- A TEXT TELLS ITS VALUE
abbrev pub AtMostOneValue : Type 0
AtMostOneValue =
    (t : Plain) (v w : Value) → IsTrue (fits t) → IsTrue (is_value t v) → IsTrue (is_value t w) → value_text v ≡ value_text w → v ≡ w

-- A TEXT BEGINS WITH ONE LINE AT MOST: one value of the type, and one rest
abbrev pub AtMostOneLine : Type 0
AtMostOneLine =
    (t : Tree) (text : List ℕ) (v w : Value) (rest more : List ℕ) →
    IsTrue (fits (plain t)) → IsValueLine t text v rest → IsValueLine t text w more → (v ≡ w) × (rest ≡ more)

-- the same is seen of a call
pub record SameSeen (a b : CallSeen) : Type 0 where
  pub pass : a.pass ≡ b.pass
  pub notes : a.notes ≡ b.notes
  pub back : a.back ≡ b.back
  pub returned : a.returned ≡ b.returned
  pub taken : a.taken ≡ b.taken
  pub bytes : (at : ℕ) → a.bytes at ≡ b.bytes at

-- A CALL COMES TO ONE THING, whichever runs tell it
abbrev pub ACallComesToOneThing : Type 0
ACallComesToOneThing =
    (m : List ℕ) (f : Function) (caller callee : List Event) (arguments : List Value) (reply : Option Value) →
    CanRun m f caller callee arguments reply → (a b : CallSeen) →
    ComesTo m f caller callee arguments reply a → ComesTo m f caller callee arguments reply b → SameSeen a b
