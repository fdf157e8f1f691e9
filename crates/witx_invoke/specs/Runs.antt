-- What a call that is run over a memory of bytes comes to, and when there is no room for it.
use Rattle.std.specs.Prelude.{◌≡◌, ℕ, ◌+◌, ◌^◌, ◌<◌, ◌⊎◌, List, [], ◌++◌, length, Option, Some, option_to_list}
use Rattle.witx_ast.specs.Values.{Value}
use Rattle.witx_machine.specs.Words.{Word}
use Rattle.witx_machine.specs.Events.{Event}
use Rattle.witx_machine.specs.Functions.{Function}
use Rattle.witx_machine.specs.Run.{Outcome, values_in}
use Rattle.witx_machine.specs.Cells.{Memory, run_cells}
use Rattle.witx_bytes.specs.ByteMachine.{Store, run_bytes}
use Rattle.witx_call.specs.Ranges.{AreStated, addresses, ranges}
use Rattle.witx_call.specs.Room.{no_bytes}
use Rattle.witx_call.specs.CallSeen.{CallSeen}

module _ (m : List ℕ) (f : Function) (caller callee : List Event) (arguments : List Value) (reply : Option Value) where
  -- THE RUN WITH THE STATED ADDRESSES, over cells from an empty memory: the ranges that it takes stand where they are to stand; more: addresses that it doesn't take
  pub record RunsAsStated (more : List ℕ) (o : Outcome Value Word Memory) : Type 0 where
    pub stated : AreStated o.memory.taken
    pub run : run_cells m f caller callee arguments reply [] (addresses o.memory.taken ++ more) ≡ Some o

  -- WHAT A CALL COMES TO: the words and values of that run, the ranges that it takes, and the bytes of the run over bytes with the same addresses
  pub record ComesTo (seen : CallSeen) : Type 0 where
    pub more : List ℕ
    pub o : Outcome Value Word Memory
    pub p : Outcome Value Word Store
    pub runs : RunsAsStated more o
    pub pass : seen.pass ≡ o.call.words
    pub notes : seen.notes ≡ o.call.noted
    pub back : seen.back ≡ o.call.callee_words
    pub returned : Some (option_to_list seen.returned) ≡ values_in o.back
    pub taken : seen.taken ≡ ranges o.memory.taken
    pub run : run_bytes m f caller callee arguments reply no_bytes (addresses o.memory.taken ++ more) ≡ Some p
    pub bytes : (at : ℕ) → seen.bytes at ≡ p.memory.bytes at

  -- THERE IS NO ROOM: the traces have more than 2^30 events, or no run with the stated addresses keeps below 2^20.
  -- Of faithful traces, where the reply isn't excepted: of another reply there may be no run at all
  abbrev pub NoRoom : Type 0
  NoRoom = (2 ^ 30 < length caller + length callee) ⊎ ((more : List ℕ) (o : Outcome Value Word Memory) → ¬ (RunsAsStated more o))
