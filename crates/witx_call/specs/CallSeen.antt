-- What is seen of a call, how the program's answer is read, and which parts of an outcome these are.
use Rattle.std.specs.Prelude.{◌≡◌, ℕ, List, map, Option, Some, option_map, option_to_list}
use Rattle.witx_ast.specs.Values.{Value}
use Rattle.witx_machine.specs.Words.{Word}
use Rattle.witx_machine.specs.Run.{Outcome, values_in}
use Rattle.witx_bytes.specs.Bytes.{Bytes, held}
use Rattle.witx_bytes.specs.Seen.{seen}
use Rattle.witx_call.specs.Ranges.{ranges}
use Rattle.witx_call.specs.Room.{Room}
use Rattle.witx_call.specs.WordViews.{word_view}
use Rattle.witx_call.specs.declared.call_seen.Placed.{Placed}
use Rattle.witx_call.specs.declared.call_seen.Invoked.{Invoked}

-- what is seen of a call: the words that pass, the values that are noted, the words that come back, the value that is returned,
-- the ranges in the order in which they were given, and the bytes in the end
pub record CallSeen : Type 0 where
  pub pass : List Word
  pub notes : List Value
  pub back : List Word
  pub returned : Option Value
  pub taken : List (ℕ × ℕ)
  pub bytes : Bytes

abbrev pub placed_of : Placed → ℕ × ℕ
placed_of p = (p.at, p.len)

-- what is seen of a call, as the program answers it
abbrev pub seen_of : Invoked → CallSeen
seen_of i = record {
  pass = map word_view i.pass;
  notes = map seen i.notes;
  back = map word_view i.back;
  returned = option_map seen i.returned;
  taken = map placed_of i.taken;
  bytes = held i.memory;
}

-- the parts of an outcome
pub record IsSeen (q : Outcome Value Word Room) (s : CallSeen) : Type 0 where
  pub pass : s.pass ≡ q.call.words
  pub notes : s.notes ≡ q.call.noted
  pub back : s.back ≡ q.call.callee_words
  pub returned : (reply : Option Value) → values_in q.back ≡ Some (option_to_list reply) → s.returned ≡ reply
  pub taken : s.taken ≡ ranges q.memory.taken
  pub bytes : s.bytes ≡ q.memory.bytes
