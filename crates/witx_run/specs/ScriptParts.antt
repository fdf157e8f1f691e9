-- The event at a number, and the block that begins there, of a part of a trace.
use Rattle.std.specs.Prelude.{◌≡◌, ℕ, suc, ◌<◌, List, Bool, cond, Option, Some, None, slice_get, nat_lt}
use Rattle.witx_machine.specs.Events.{Event, finish}
use Rattle.witx_machine.specs.Positions.{Spot}
use Rattle.witx_run.specs.Cuts.{Cut, cut}
use Rattle.witx_run.specs.MachineViews.{Numbered, part}
use Rattle.witx_run.specs.declared.machine.Block as declared_block

-- the event of this number, where that is below the end
abbrev pub event_below : List Event → ℕ → ℕ → Option Event
event_below es i end = cond (nat_lt i end) (slice_get es i) None

-- whether a finish has a value
abbrev pub finish_value : Option Event → Option Bool
finish_value (Some (finish v)) = Some v
finish_value _ = None

-- a block, cut out of the events behind its push and below an end
abbrev pub cut_of : (ℕ → Spot) → List Event → ℕ → declared_block.Block → Cut Numbered
cut_of spot es end b = record {
  inner = part spot es b.first b.end;
  has_value = b.has_value;
  end = (spot b.end, finish b.has_value);
  rest = part spot es (suc b.end) end;
}

-- what the program finds of the block that begins at a push
abbrev pub BlockFound : List Event → ℕ → ℕ → Option declared_block.Block → Type 0
BlockFound es i end None = (spot : ℕ → Spot) → cut (λ (e : Numbered). e.1) (part spot es (suc i) end) 0 ≡ None
BlockFound es i end (Some b) =
    (b.first ≡ suc i) × (i < b.end) × (b.end < end) × ((spot : ℕ → Spot) → cut (λ (e : Numbered). e.1) (part spot es (suc i) end) 0 ≡ Some (cut_of spot es end b))
