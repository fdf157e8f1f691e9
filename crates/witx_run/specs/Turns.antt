-- What the turns of the program's loop over a trace are held against: the run of the whole trace, of which so much is
-- done, stays what it is until it halts.
use Rattle.std.specs.Prelude.{◌≡◌, ℕ, suc, ◌-◌, ◌<◌, ◌≤◌, List, ◌∷◌, length, map, reverse, Bool, true, false, cond, Option, is_some}
use Rattle.witx_ast.specs.Tree.{Tree}
use Rattle.witx_ast.specs.Views.{tree_of}
use Rattle.witx_machine.specs.Events.{Event}
use Rattle.witx_machine.specs.Rows.{Row, call_wasm, call_interface}
use Rattle.witx_machine.specs.Machine as machine
use Rattle.witx_machine.specs.Machine.{Domain, Item, Tried, went, stuck_at, if_found, goes_on, State, outside, in_lower, in_lift, payload_item, act, give_slot, slot_word, two_blocks, run_block, flowing, play, runs_within}
use Rattle.witx_machine.specs.Positions.{Spot, numbered}
use Rattle.witx_machine.specs.Run.{result_has_cases, start}
use Rattle.witx_instructions.specs.Views.{event_of, called}
use Rattle.witx_run.specs.Frames.{Frame, leaves, behind, resume}
use Rattle.witx_run.specs.MachineViews.{Noted, Numbered, Setting, part, spot_in, inside_of, state_in}
use Rattle.witx_run.specs.SlotViews.{given_slots}
use Rattle.witx_run.specs.Views.{items_of, stack_of}
use Rattle.witx_run.specs.declared.script.Script as declared_script
use Rattle.witx_run.specs.declared.frame.Frame as declared_frame
use Rattle.witx_run.specs.declared.progress.Progress as declared_progress
use Rattle.witx_run.specs.declared.progress.Stop as declared_stop
use Rattle.witx_run.specs.declared.progress.Stop.TheVariants as stop
use Rattle.witx_run.specs.declared.progress.Turn as declared_turn
use Rattle.witx_run.specs.declared.progress.Turn.TheVariants as turn

-- the state of a run
abbrev pub StateIn : {V W M : Type 0} → Setting V W M → Type 0
StateIn {V} {W} {M} x = State Numbered V W M (Noted V W M x.trace)

abbrev pub script_events : {v w : Type 0} → declared_script.Script v w → List Event
script_events s = map event_of s.events.now

module _ {v w V W : Type 0} (value : v → V) (word : w → W) where
  abbrev pub frame_of : (ℕ → Spot) → List Event → declared_frame.Frame v w → Frame Spot Numbered V W
  frame_of spot es f = record {
    inside = inside_of value word f.inside;
    at = spot f.at;
    more = part spot es (suc f.at) f.end;
    below = stack_of value word f.below.items;
    lowers = f.lowers;
    error = f.error;
    has_value = f.has_value;
    end = spot f.finish;
  }

  -- the innermost block first
  abbrev pub frames_of : (ℕ → Spot) → List Event → List (declared_frame.Frame v w) → List (Frame Spot Numbered V W)
  frames_of spot es fs = map (frame_of spot es) (reverse fs)

-- no more blocks are being run within one another than the trace has events
abbrev pub FramesFit : {v w m : Type 0} → declared_script.Script v w → declared_progress.Progress v w m → Type 0
FramesFit s p = length p.frames.items ≤ length s.events.now

-- how many more blocks can be run within one another
abbrev pub deeper : {v w : Type 0} → List Event → List (declared_frame.Frame v w) → ℕ
deeper es fs = length es - length fs

module _ {v w m V W M : Type 0} (D : Domain V W M) (value : v → V) (word : w → W) (memory : m → M) (x : Setting V W M) (es : List Event) where
  abbrev pub runs_in : ℕ → machine.Inside V W → List Numbered → StateIn x → Tried Spot (StateIn x)
  runs_in n = runs_within (λ e. e.1) (λ e. e.0) D x.side n

  -- what the trace comes to, of whose innermost block, or of which itself, this comes
  abbrev pub whole_with : declared_progress.Progress v w m → Tried Spot (StateIn x) → Tried Spot (StateIn x)
  whole_with p t =
      resume (λ e. e.1) (λ e. e.0) D x.side (deeper es p.frames.items) (frames_of value word (spot_in x.trace) es p.frames.items) t

  -- what the trace comes to
  abbrev pub whole : declared_progress.Progress v w m → Tried Spot (StateIn x)
  whole p = whole_with p
      (play (λ e. e.1) (λ e. e.0) D x.side (runs_in (deeper es p.frames.items)) (inside_of value word p.inside)
      (part (spot_in x.trace) es p.at p.end) flowing (state_in value word memory x es p.machine))

  -- what it comes to where the event at hand came to t
  abbrev pub whole_behind : declared_progress.Progress v w m → Tried Spot (StateIn x) → Tried Spot (StateIn x)
  whole_behind p t = whole_with p
      (behind (λ e. e.1) (λ e. e.0) D x.side (deeper es p.frames.items) (inside_of value word p.inside)
      (spot_in x.trace p.at) (part (spot_in x.trace) es (suc p.at) p.end) t)

  -- what it comes to where the event at hand is a step of this row
  abbrev pub whole_at : declared_progress.Progress v w m → Row → Tried Spot (StateIn x)
  whole_at p row = whole_behind p
      (act (λ e. e.1) (λ e. e.0) D x.side (runs_in (deeper es p.frames.items)) (inside_of value word p.inside) row (state_in value word memory x es p.machine))

  -- what it comes to where the event at hand gives a slot an address
  abbrev pub space_at : declared_progress.Progress v w m → ℕ → Tree → Tried Spot (StateIn x)
  space_at p k t = whole_behind p
      (give_slot (λ e. e.1) (λ e. e.0) D x.side (runs_in (deeper es p.frames.items)) (inside_of value word p.inside)
      k t (slot_word k (given_slots word p.machine.slots.in_order.items)) (state_in value word memory x es p.machine))

  -- where this block is run by the step at hand, and the step makes of what it leaves what it does
  abbrev pub entering : declared_progress.Progress v w m → machine.Inside V W → Bool → Bool → machine.Block Numbered
      → List (Item V W) → StateIn x → Tried Spot (StateIn x)
  entering p inside lowers error block below s =
      goes_on (run_block (λ e. e.1) (λ e. e.0) D x.side (runs_in (deeper es p.frames.items)) inside block s)
      (leaves D lowers error below)

  -- a step that has taken a value, or a word, off the stack and runs the block of the value's case, or the word's
  abbrev pub lowering_by : declared_progress.Progress v w m → Option Tree → Option Tree → V → List (Item V W) → StateIn x → Tried Spot (StateIn x)
  lowering_by p ok err v below s = two_blocks s.blocks (λ a b more. if_found (D.picks ok err v) (λ c.
      entering p (in_lower (payload_item c.1)) true c.0 (cond c.0 b a) below (record s { blocks = more })))

  abbrev pub lifting_by : declared_progress.Progress v w m → W → List (Item V W) → StateIn x → Tried Spot (StateIn x)
  lifting_by p y below s = two_blocks s.blocks (λ a b more. if_found (D.chooses y) (λ e.
      entering p in_lift false e (cond e b a) below (record s { blocks = more })))

  -- what the trace comes to where the innermost block, run by this frame, is over
  abbrev pub leaving : declared_progress.Progress v w m → declared_frame.Frame v w → Tried Spot (StateIn x)
  leaving p f =
      resume (λ e. e.1) (λ e. e.0) D x.side (length es - suc (length p.frames.items))
      (frame_of value word (spot_in x.trace) es f ∷ frames_of value word (spot_in x.trace) es p.frames.items) (went (state_in value word memory x es p.machine))

  -- what the trace comes to from its start
  abbrev pub run_start : M → Tried Spot (StateIn x)
  run_start m = runs_in (suc (length es)) outside (numbered (spot_in x.trace) 0 es) (start m)

  -- what a run that has halted here comes to
  abbrev pub stopped : declared_progress.Progress v w m → declared_stop.Stop → Tried Spot (StateIn x)
  stopped p (stop.Stuck i) = stuck_at (spot_in x.trace i)
  stopped p stop.Over = went (state_in value word memory x es p.machine)
  stopped p (stop.Wasm m n ps rs) = whole_at p (call_wasm m.now n.now ps.now rs.now)
  stopped p (stop.Interface m n ps rs) = whole_at p (call_interface m.now n.now (map tree_of ps.now) (map tree_of rs.now))

  abbrev pub turned : declared_progress.Progress v w m → declared_turn.Turn → Tried Spot (StateIn x)
  turned p turn.Advances = whole p
  turned p (turn.Stops s) = stopped p s

-- what the program knows of a trace's side, whatever else that is
pub record Known {v w V W M : Type 0} (value : v → V) (word : w → W) (x : Setting V W M) (script : declared_script.Script v w) (calls : Bool) : Type 0 where
  pub arguments : x.side.arguments ≡ items_of value word script.arguments.items
  pub cases : (ok err : Option Tree) → x.side.has_cases ok err ≡ result_has_cases (called script.func.now).results ok err
  pub has_called : is_some x.called ≡ calls

module _ {v w m V W M : Type 0} (D : Domain V W M) (value : v → V) (word : w → W) (memory : m → M) (script : declared_script.Script v w) (calls : Bool) where
  -- whatever the side is, a trace that came to this comes to what the turn has left
  abbrev pub ComesTo : ((x : Setting V W M) → List Event → Tried Spot (StateIn x)) → declared_progress.Progress v w m → declared_turn.Turn → Type 0
  ComesTo before new turn =
      (x : Setting V W M) → Known value word x script calls → before x (script_events script) ≡ turned D value word memory x (script_events script) new turn

  -- and to what the run that has halted leaves
  abbrev pub HaltsAt : ((x : Setting V W M) → List Event → Tried Spot (StateIn x)) → declared_progress.Progress v w m → declared_stop.Stop → Type 0
  HaltsAt before new stop =
      (x : Setting V W M) → Known value word x script calls → before x (script_events script) ≡ stopped D value word memory x (script_events script) new stop

-- the event at hand, a call, is within what is left
abbrev pub IsHere : {v w m : Type 0} → declared_progress.Progress v w m → declared_stop.Stop → Type 0
IsHere p (stop.Stuck i) = Unit {0}
IsHere p stop.Over = Unit {0}
IsHere p (stop.Wasm m n ps rs) = p.at < p.end
IsHere p (stop.Interface m n ps rs) = p.at < p.end

abbrev pub TurnsHere : {v w m : Type 0} → declared_progress.Progress v w m → declared_turn.Turn → Type 0
TurnsHere p turn.Advances = Unit {0}
TurnsHere p (turn.Stops s) = IsHere p s
