-- What the call of one function is asked for and answers: under which condition it is made, what an answer says, and when it is refused.
use Rattle.std.specs.Prelude.{◌≡◌, ℕ, List, map, IsTrue, IsFalse, Option, option_map}
use Rattle.witx_ast.specs.Values.{Value}
use Rattle.witx_machine.specs.Words.{Word}
use Rattle.witx_machine.specs.Events.{Event}
use Rattle.witx_machine.specs.Functions.{Function}
use Rattle.witx_machine.specs.Run.{Outcome}
use Rattle.witx_machine.specs.Cells.{Memory}
use Rattle.witx_machine.specs.Faithful.{Faithful, are_arguments, is_reply, zero_error}
use Rattle.witx_bytes.specs.Follow.{AreWritable}
use Rattle.witx_bytes.specs.Seen.{seen}
use Rattle.witx_call.specs.CallSeen.{seen_of}
use Rattle.witx_call.specs.declared.call_seen.Invoked.{Invoked}
use Rattle.witx_invoke.specs.Runs.{ComesTo, NoRoom, RunsAsStated}
use Rattle.witx_invoke.specs.declared.error.InvokeError.{InvokeError}

module _ (m : List ℕ) (f : Function) (caller callee : List Event) (arguments : List Value) (reply : Option Value) where
  -- each type that the traces allocate, in a run on these with the stated addresses, fits its tags
  abbrev pub AllocatesWritable : Type 0
  AllocatesWritable =
      (more : List ℕ) (o : Outcome Value Word Memory) → RunsAsStated m f caller callee arguments reply more o → AreWritable o.memory.taken

  -- THE CONDITION: faithful traces, which allocate what fits its tags; arguments and a reply of the function's types, the reply exactly where there is a result
  pub record CanRun : Type 0 where
    pub faithful : Faithful m f caller callee
    pub writable : AllocatesWritable
    pub arguments_fit : IsTrue (are_arguments f.params arguments)
    pub reply_fits : IsTrue (is_reply f.results reply)

  -- AN ANSWER: what the call comes to, of a reply that isn't excepted, where there is room; the notes are the arguments, and the returned value is the reply
  pub record IsAnswer (i : Invoked) : Type 0 where
    pub comes_to : ComesTo m f caller callee arguments reply (seen_of i)
    pub notes : map seen i.notes ≡ arguments
    pub returned : option_map seen i.returned ≡ reply
    pub accepted : IsFalse (zero_error f reply)
    pub room : ¬ (NoRoom m f caller callee arguments reply)

  -- A REFUSAL: of a reply that is excepted, or of another for want of room. Want of memory alone is free
  abbrev pub Refuses : InvokeError → Type 0
  Refuses InvokeError.ZeroError = IsTrue (zero_error f reply)
  Refuses InvokeError.NoRoom = IsFalse (zero_error f reply) × NoRoom m f caller callee arguments reply
  Refuses InvokeError.OutOfMemory = Unit {0}
