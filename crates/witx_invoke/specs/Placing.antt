-- The machine over bytes with the stated addresses: a range begins behind the one before it, and none ends above 2^20.
-- Beyond that it asks what a program can't do without: what is written is a value of its type, which fits its tags, and what is read is of a type
-- that fits its tags and whose size is a machine's number. The runs of a call are defined in Runs, and not by this.
use Rattle.std.specs.Prelude.{ℕ, ◌^◌, Bool, ◌&&◌, Option, Some, option_map, nat_lt}
use Rattle.witx_ast.specs.Tree.{Tree}
use Rattle.witx_ast.specs.Plain.{Plain, plain}
use Rattle.witx_ast.specs.Tags.{fits}
use Rattle.witx_ast.specs.Values.{Value}
use Rattle.witx_ast.specs.ValueTests.{is_value}
use Rattle.witx_layout.specs.Numbers.{size_of}
use Rattle.witx_machine.specs.Words.{Word, is_u32, when}
use Rattle.witx_machine.specs.Functions.{by_address}
use Rattle.witx_machine.specs.Machine.{Domain}
use Rattle.witx_machine.specs.Cells.{cells, is_i32}
use Rattle.witx_bytes.specs.Bytes.{image_written}
use Rattle.witx_bytes.specs.Images.{image}
use Rattle.witx_bytes.specs.Reading.{value_at}
use Rattle.witx_bytes.specs.ByteMachine.{has_room}
use Rattle.witx_call.specs.Room.{Room, room_given}

abbrev pub is_writable : Plain → Value → Bool
is_writable t v = is_value t v && fits t

abbrev pub is_readable : Plain → Bool
is_readable t = fits t && nat_lt (size_of t) (2 ^ 64)

abbrev pub is_address : Word → Bool
is_address w = is_i32 w && is_u32 w.bits

abbrev pub value_put : Plain → Value → ℕ → Room → Room
value_put t v at m = record m { bytes = image_written at (image t v) m.bytes }

-- a domain with these memories in place of its own: values and words are as they were
abbrev pub with_memories :
    {V W M N : Type 0} → Domain V W M → (Tree → N → Option (W × N)) → (Tree → V → N → Option (W × N)) →
    (Tree → W → N → Option V) → (Tree → W → V → N → Option N) → Domain V W N
with_memories d give put get set = record {
  lower = d.lower;
  lift = d.lift;
  list_words = d.list_words;
  list_value = d.list_value;
  tuple = d.tuple;
  parts = d.parts;
  give = give;
  put = put;
  get = get;
  set = set;
  picks = d.picks;
  case_word = d.case_word;
  chooses = d.chooses;
  result = d.result;
  has_type = d.has_type;
}

abbrev pub placing : Domain Value Word Room
placing = with_memories cells room_given
    (λ t v m. when (by_address (plain t) && is_writable (plain t) v) (option_map (λ r. (r.0, value_put (plain t) v r.0.bits r.1)) (room_given t m)))
    (λ t w m. when (is_address w && is_readable (plain t)) (value_at (plain t) m.bytes w.bits))
    (λ t w v m. when (is_address w && (has_room (plain t) w.bits m.bytes && is_writable (plain t) v)) (Some (value_put (plain t) v w.bits m)))
