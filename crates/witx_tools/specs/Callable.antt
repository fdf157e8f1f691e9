-- What calls of a document's functions hand on: which entries can be called with any values of their types, and values as the
-- program has them.
use Rattle.std.specs.Prelude.{◌≡◌, ◌≤◌, List, length, map, Option, option_map, true, IsTrue}
use Rattle.witx_ast.specs.Functions.{func_tree}
use Rattle.witx_ast.specs.Tags.{function_fits}
use Rattle.witx_ast.specs.Values.{Value}
use Rattle.witx_machine.specs.Faithful.{are_arguments, is_reply}
use Rattle.witx_instructions.specs.Views.{called, event_of}
use Rattle.witx_adapt.specs.Entries.{IsFaithful}
use Rattle.witx_adapt.specs.declared.adapted.AdaptedFunc.{AdaptedFunc}
use Rattle.witx_bytes.specs.Seen.{seen}
use Rattle.witx_invoke.specs.Invoking.{AllocatesWritable}
use Rattle.witx_invoke.specs.declared.given.GivenValues.{GivenValues}
use Rattle.witx_tools.specs.Calls.{HandedValues}

-- whatever values it is called with
pub record IsCallable (f : AdaptedFunc) : Type 0 where
  pub single : length f.func.value.results ≤ 1
  pub fits : function_fits (func_tree f.func.value) ≡ true
  pub faithful : IsFaithful f
  pub writable : (arguments : List Value) (reply : Option Value)
      → AllocatesWritable f.module.value.name (called f.func.value) (map event_of f.caller.events)
      (map event_of f.callee.events) arguments reply

-- values are of its types
pub record AreFor (f : AdaptedFunc) (h : HandedValues) : Type 0 where
  pub arguments : IsTrue (are_arguments (called f.func.value).params h.arguments)
  pub reply : IsTrue (is_reply (called f.func.value).results h.reply)

abbrev pub handed_of : GivenValues → HandedValues
handed_of g = record { arguments = map seen g.args; reply = option_map seen g.reply }
