-- How a step moves the stack: it takes its operands off the top, leaves what lies below, and pushes its results.
-- The table of operands and results says how many of each; the rows of the machine keep to it on both sides of a run.
use Rattle.std.specs.Prelude.{◌≡◌, ℕ, List, ◌++◌, length, Option}
use Rattle.witx_ast.specs.Values.{Value}
use Rattle.witx_machine.specs.Words.{Word}
use Rattle.witx_machine.specs.Events.{Step, Event}
use Rattle.witx_machine.specs.Rows.{row, operands_count, results_count}
use Rattle.witx_machine.specs.Functions.{Function}
use Rattle.witx_machine.specs.Machine.{Tried, went, State, Side, Inside, act}
use Rattle.witx_machine.specs.Run.{Receiver, caller_side, callee_side}
use Rattle.witx_machine.specs.Cells.{Memory, cells}

pub record Moves {A : Type 0} (operands results : ℕ) (before after : List A) : Type 0 where
  pub taken : List A
  pub given : List A
  pub below : List A
  pub from : before ≡ taken ++ below
  pub to : after ≡ given ++ below
  pub takes : length taken ≡ operands
  pub leaves : length given ≡ results

-- wherever the step stands, and however the blocks are run that it runs
abbrev pub KeepsToTable : {C : Type 0} → Side (Unit {0}) Event Value Word Memory C → Type 0
KeepsToTable {C} side =
    (runs : Inside Value Word → List Event → State Event Value Word Memory C → Tried (Unit {0}) (State Event Value Word Memory C)) →
    (inside : Inside Value Word) (x : Step) (s s' : State Event Value Word Memory C) →
    act (λ e. e) (λ e. tt) cells side runs inside (row x) s ≡ went s' → Moves (operands_count x) (results_count x) s.stack s'.stack

abbrev pub RowsKeepToTable : Type 0
RowsKeepToTable =
    ((m : List ℕ) (f : Function) (to : Receiver) (callee : List Event) (arguments : List Value) (reply : Option Value) →
    KeepsToTable (caller_side (λ e. e) (λ e. tt) cells m f to tt callee arguments reply)) ×
    ((m : List ℕ) (f : Function) (reply : Option Value) (words : List Word) →
    KeepsToTable (callee_side (λ e. e) (λ e. tt) cells m f reply words))
