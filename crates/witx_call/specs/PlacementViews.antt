-- How the memory of a call is read.
use Rattle.witx_bytes.specs.Bytes.{held}
use Rattle.witx_call.specs.Room.{Room}
use Rattle.witx_call.specs.RangeViews.{taken_of}
use Rattle.witx_call.specs.declared.placement.Placement.{Placement}

abbrev pub room_of : Placement → Room
room_of p = record { bytes = held p.bytes; taken = taken_of p.taken.items }
