-- Every call of an old function arrives at a new one.
use Rattle.std.specs.Prelude.{◌≡◌, ℕ, List, Option, Some, IsTrue, option_and_then}
use Rattle.witx_ast.specs.Functions.{FunctionTree}
use Rattle.witx_ast.specs.Tags.{function_fits}
use Rattle.witx_machine.specs.Functions.{function_of}
use Rattle.witx_machine.specs.Traces.{caller_events, callee_events}
use Rattle.witx_machine.specs.Shims.{order_by_name, pass, FaithfulThrough}

-- The numbers of the old function's words in the order in which the new one gets them: for each new parameter, in order, those of the old parameter of
-- its name, then the return pointers
abbrev pub words_passed : (old new : FunctionTree) → Option (List ℕ)
words_passed old new = option_and_then (λ order. pass order (function_of old)) (order_by_name old.params new.params)

-- Old caller against new callee is faithful through these words, for the modules of these names: the callee notes the old arguments in the order of
-- its own parameters by name, and all else is as the old function has it
pub record Arrives (old_module new_module : List ℕ) (old new : FunctionTree) (words : List ℕ) : Type 0 where
  pub order : List ℕ
  pub by_name : order_by_name old.params new.params ≡ Some order
  pub faithful : FaithfulThrough old_module new_module (function_of old) (function_of new) order words
      (caller_events old_module (function_of old)) (callee_events new_module (function_of new))

-- for any two modules' names, where the types of both functions fit their tags
abbrev pub EachArrives : (old new : FunctionTree) → (words : List ℕ) → Type 0
EachArrives old new words =
    (old_module new_module : List ℕ) → IsTrue (function_fits old) → IsTrue (function_fits new) → Arrives old_module new_module old new words
