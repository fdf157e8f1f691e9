-- How the program's machine is read while it runs a trace: as the state of the machine, for whatever side the trace
-- is of, and whatever was noted at its call.
use Rattle.std.specs.Prelude.{◌≡◌, ℕ, ◌-◌, List, [], map, reverse, take, drop, Bool, Option, None, option_map, is_some}
use Rattle.witx_ast.specs.Tree.{Tree}
use Rattle.witx_machine.specs.Events.{Event, finish}
use Rattle.witx_machine.specs.Rows.{Row}
use Rattle.witx_machine.specs.Machine as machine
use Rattle.witx_machine.specs.Machine.{Domain, State, Side, outside, in_lower, in_lift, act, runs_within, give_slot, slot_word}
use Rattle.witx_machine.specs.Run.{Call}
use Rattle.witx_machine.specs.Positions.{Spot, in_caller, in_callee, numbered}
use Rattle.witx_run.specs.SlotViews.{given_slots}
use Rattle.witx_run.specs.StackRows.{tried_if}
use Rattle.witx_run.specs.Views.{item_of, items_of, stack_of}
use Rattle.witx_run.specs.declared.item.Item as declared_item
use Rattle.witx_run.specs.declared.machine.Block as declared_block
use Rattle.witx_run.specs.declared.machine.Inside as declared_inside
use Rattle.witx_run.specs.declared.machine.Inside.TheVariants as inside
use Rattle.witx_run.specs.declared.machine.Machine as declared_machine

-- an event with its place
abbrev pub Numbered : Type 0
Numbered = Spot × Event

-- the events from one number up to another
abbrev pub part : (ℕ → Spot) → List Event → ℕ → ℕ → List Numbered
part spot es i end = numbered spot i (take (end - i) (drop i es))

-- which of the two traces is run
pub data Trace : Type 0 where
  of_caller : Trace
  of_callee : Trace

abbrev pub spot_in : Trace → ℕ → Spot
spot_in of_caller = in_caller
spot_in of_callee = in_callee

-- what is noted at its call
abbrev pub Noted : (V W M : Type 0) → Trace → Type 0
Noted V W M of_caller = Call V W M
Noted V W M of_callee = List V

-- what is known of a trace's side, and what was noted, which the rows between two calls don't look at
pub record Setting (V W M : Type 0) : Type 0 where
  pub trace : Trace
  pub side : Side Spot Numbered V W M (Noted V W M trace)
  pub called : Option (Noted V W M trace)

abbrev pub block_view : (ℕ → Spot) → List Event → declared_block.Block → machine.Block Numbered
block_view spot es b = record { events = part spot es b.first b.end; has_value = b.has_value; end = (spot b.end, finish b.has_value) }

module _ {v w V W : Type 0} (value : v → V) (word : w → W) where
  abbrev pub inside_of : declared_inside.Inside v w → machine.Inside V W
  inside_of inside.Outside = outside
  inside_of (inside.Lower p) = in_lower (option_map (item_of value word) p)
  inside_of inside.Lift = in_lift

module _ {v w m V W M : Type 0} (value : v → V) (word : w → W) (memory : m → M) where
  abbrev pub state_in : (x : Setting V W M) → List Event → declared_machine.Machine v w m → State Numbered V W M (Noted V W M x.trace)
  state_in x es s = record {
    stack = stack_of value word s.stack.items;
    slots = given_slots word s.slots.in_order.items;
    memory = memory s.memory;
    blocks = map (block_view (spot_in x.trace) es) (reverse s.blocks.items);
    returned = option_map word s.returned;
    called = x.called;
    answer = option_map (λ xs. items_of value word xs.items) s.answer;
  }

-- nothing was run yet
pub record IsNew {v w m : Type 0} (s : declared_machine.Machine v w m) (memory : m) : Type 0 where
  pub stack : s.stack.items ≡ []
  pub slots : s.slots.in_order.items ≡ []
  pub memory_is : s.memory ≡ memory
  pub blocks : s.blocks.items ≡ []
  pub returned : s.returned ≡ None
  pub answer : s.answer ≡ None

module _ {v w m V W M : Type 0} (D : Domain V W M) (value : v → V) (word : w → W) (memory : m → M) where
  -- the program's step does what the machine's row does, whatever the side
  abbrev pub Performs : List (declared_item.Item v w) → Bool → declared_inside.Inside v w → Row
      → declared_machine.Machine v w m → declared_machine.Machine v w m → Bool → Type 0
  Performs arguments called inside row old new went =
      (x : Setting V W M) (es : List Event) (n : ℕ) → x.side.arguments ≡ items_of value word arguments → is_some x.called ≡ called →
      act (λ e. e.1) (λ e. e.0) D x.side (runs_within (λ e. e.1) (λ e. e.0) D x.side n) (inside_of value word inside) row (state_in value word memory x es old)
      ≡ tried_if went (state_in value word memory x es new)

  -- the program gives a slot its address as the machine does
  abbrev pub GivesSlot : ℕ → Tree → declared_machine.Machine v w m → declared_machine.Machine v w m → Bool → Type 0
  GivesSlot k t old new went =
      (x : Setting V W M) (es : List Event) (n : ℕ) (inside : machine.Inside V W) →
      give_slot (λ e. e.1) (λ e. e.0) D x.side (runs_within (λ e. e.1) (λ e. e.0) D x.side n) inside
      k t (slot_word k (given_slots word old.slots.in_order.items)) (state_in value word memory x es old)
      ≡ tried_if went (state_in value word memory x es new)
