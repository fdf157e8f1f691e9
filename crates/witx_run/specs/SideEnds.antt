-- What a side of a call comes to, by its trace, how far that was run, and what the run is given.
use Rattle.std.specs.Prelude.{◌≡◌, List, map, true, Option, Some, None}
use Rattle.std.specs.Global.{Vec}
use Rattle.witx_ast.specs.Views.{tree_of}
use Rattle.witx_ast.specs.declared.types.TypeRef.{TypeRef}
use Rattle.witx_machine.specs.declared.surface.WasmType.{WasmType}
use Rattle.witx_machine.specs.Events.{Event}
use Rattle.witx_machine.specs.Functions.{Function}
use Rattle.witx_machine.specs.Machine as machine
use Rattle.witx_machine.specs.Machine.{Tried, went}
use Rattle.witx_machine.specs.Positions.{Spot}
use Rattle.witx_machine.specs.Rows.{Row}
use Rattle.witx_machine.specs.Run.{Call}
use Rattle.witx_instructions.specs.Views.{event_of}
use Rattle.witx_instructions.specs.declared.event.Event as declared_event
use Rattle.witx_run.specs.CallViews.{Replies, HandsOn, TakesBack}
use Rattle.witx_run.specs.MachineViews.{Noted, Setting, state_in}
use Rattle.witx_run.specs.RunEnds.{CallsNoMore, CalleeComes, CalleeEnds, CallerComes, EndsAs, HandedOn, TakenUp, callee_run, finished}
use Rattle.witx_run.specs.Turns.{Known, StateIn, script_events, stopped, whole, whole_at, whole_behind}
use Rattle.witx_run.specs.Views.{items_of, reply_of}
use Rattle.witx_run.specs.declared.callee.CalleeEnd.{CalleeEnd}
use Rattle.witx_run.specs.declared.callee.Returned.{Returned}
use Rattle.witx_run.specs.declared.domain.Domain as Domain
use Rattle.witx_run.specs.declared.machine.Machine.{Machine}
use Rattle.witx_run.specs.declared.naming.CallRow.{CallRow}
use Rattle.witx_run.specs.declared.outcome.CallMade.{CallMade}
use Rattle.witx_run.specs.declared.outcome.Run.{Run}
use Rattle.witx_run.specs.declared.progress.Stop.{Stop}
use Rattle.witx_run.specs.declared.side.End.{End}
use Rattle.witx_run.specs.declared.side.Host.{Host}
use Rattle.witx_run.specs.declared.side.Side.{Side}

module _ {D v w m : Type 0} (d : Domain.Ghosts D v w m) where
  -- what a call of a run makes of the machine, and what comes of a callee's run, by what the run is given
  module _ (h : Host D v w m) where
    abbrev pub HostReplies : Function → CallRow TypeRef → (old new : Machine v w m) → Option (Vec v) → Type 0
    HostReplies f call old new noted =
        Replies (d.domain h.domain.now) d.value_of d.word_of d.memory_of h.owner.now f (reply_of d.value_of h.reply)
        call.owner.now call.name.now (map tree_of call.params.now) (map tree_of call.results.now) old new noted

    abbrev pub HostHandsOn : Function → CallRow WasmType → (old new : Machine v w m) → Option (Vec w) → Type 0
    HostHandsOn f call old new words =
        HandsOn (d.domain h.domain.now) d.value_of d.word_of d.memory_of h.owner.now f
        call.owner.now call.name.now call.params.now call.results.now old new words

    abbrev pub HostTakesBack : Function → List d.W → Returned v w m → (old new : Machine v w m) → Option (CallMade v w m) → Type 0
    HostTakesBack f words returned old new call =
        TakesBack (d.domain h.domain.now) d.value_of d.word_of d.memory_of f words
        (map d.value_of returned.noted.items) (items_of d.value_of d.word_of returned.back.items) (d.memory_of returned.memory) old new call

    abbrev pub HostRuns : Function → List Event → List d.W → d.M → CalleeEnd v w m → Type 0
    HostRuns f es words memory e =
        CalleeEnds d.value_of d.word_of d.memory_of e
        (callee_run (d.domain h.domain.now) h.owner.now f es (reply_of d.value_of h.reply) words memory)

  -- what a trace comes to, in whatever setting it stands
  abbrev pub Coming : Type 0
  Coming = (x : Setting d.V d.W d.M) → List Event → Tried Spot (StateIn x)

  module _ (s : Side D v w m) where
    abbrev pub domain_in : machine.Domain d.V d.W d.M
    domain_in = d.domain s.host.now.domain.now

    -- the trace, of which so much was run
    abbrev pub ahead : Coming
    ahead = λ x es. whole domain_in d.value_of d.word_of d.memory_of x es s.progress

    -- the same where it has halted here
    abbrev pub halted : Stop → Coming
    halted stop = λ x es. stopped domain_in d.value_of d.word_of d.memory_of x es s.progress stop

    -- the same where the event at hand is a step of this row
    abbrev pub at_row : Row → Coming
    at_row row = λ x es. whole_at domain_in d.value_of d.word_of d.memory_of x es s.progress row

    -- the same behind the event at hand, which has made the state
    abbrev pub behind_event : Coming
    behind_event = λ x es.
        whole_behind domain_in d.value_of d.word_of d.memory_of x es s.progress
        (went (state_in d.value_of d.word_of d.memory_of x es s.progress.machine))

    -- a trace that has made its call ends so, whatever was noted there
    abbrev pub EndsSo : Coming → End v w m → Type 0
    EndsSo run e =
        (x : Setting d.V d.W d.M) (c : Noted d.V d.W d.M x.trace) →
        Known d.value_of d.word_of x s.script.now true → x.called ≡ Some c → CallsNoMore x →
        EndsAs d.value_of d.word_of d.memory_of x c e (finished x (script_events s.script.now) (run x (script_events s.script.now)))

    -- the callee's trace ends so, which has noted this
    abbrev pub EndsAsCallee : Option (List d.V) → Coming → CalleeEnd v w m → Type 0
    EndsAsCallee noted run e =
        CalleeComes domain_in d.value_of d.word_of d.memory_of
        s.host.now.owner.now (reply_of d.value_of s.host.now.reply) noted s.script.now run e

    -- this comes of the caller's trace, which has made this call
    abbrev pub EndsAsCaller : List Event → Option (Call d.V d.W d.M) → Coming → Run v w m → Type 0
    EndsAsCaller callee made run r =
        CallerComes domain_in d.value_of d.word_of d.memory_of
        s.host.now.owner.now callee (reply_of d.value_of s.host.now.reply) made s.script.now run r

    -- the same of a caller's trace that has made no call yet
    abbrev pub CallerEnds : List declared_event.Event → Coming → Run v w m → Type 0
    CallerEnds callee run r = EndsAsCaller (map event_of callee) None run r

    -- the same where these words are handed on, and where this has come back
    abbrev pub EndsHanding : List Event → List d.W → Run v w m → Type 0
    EndsHanding callee words r =
        HandedOn domain_in d.value_of d.word_of d.memory_of
        s.host.now.owner.now callee (reply_of d.value_of s.host.now.reply) s.script.now s.progress words r

    abbrev pub EndsTaking : List Event → List d.W → Returned v w m → Run v w m → Type 0
    EndsTaking callee words returned r =
        TakenUp domain_in d.value_of d.word_of d.memory_of
        s.host.now.owner.now callee (reply_of d.value_of s.host.now.reply) s.script.now s.progress words returned r
