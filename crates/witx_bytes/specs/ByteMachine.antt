-- The machine over bytes: an address is the begin of a range that holds the image of a value.
-- A range is placed where it is free; a store writes an image, and a load has a rule where the range spells a value.
-- Values and words are those of the machine over cells.
use Rattle.std.specs.Prelude.{ℕ, max, List, [], ◌∷◌, ◌++◌, ◌&&◌, ◌||◌, Bool, Option, Some, None, option_map, nat_eq}
use Rattle.witx_ast.specs.Tree.{Tree}
use Rattle.witx_ast.specs.Plain.{Plain, plain}
use Rattle.witx_ast.specs.Values.{Value}
use Rattle.witx_ast.specs.ValueTests.{is_value}
use Rattle.witx_layout.specs.Numbers.{size_of}
use Rattle.witx_machine.specs.Words.{Word, i32, when}
use Rattle.witx_machine.specs.Events.{Event}
use Rattle.witx_machine.specs.Functions.{Function, by_address}
use Rattle.witx_machine.specs.Machine.{Domain}
use Rattle.witx_machine.specs.Run.{Outcome, run}
use Rattle.witx_machine.specs.Cells.{Taken, is_i32, cells, outcome}
use Rattle.witx_bytes.specs.Bytes.{Bytes, image_written, with_zeros, holds, is_free}
use Rattle.witx_bytes.specs.Images.{image}
use Rattle.witx_bytes.specs.Reading.{value_at}

-- bytes, the addresses still to give, and those given, with their types
pub record Store : Type 0 where
  pub bytes : Bytes
  pub fresh : List ℕ
  pub taken : Taken

-- a range has the type's size, and at least one byte
abbrev pub range_size : Plain → ℕ
range_size t = max 1 (size_of t)

-- the next address, with a range of zeros for the type
abbrev pub range_given : Tree → Bytes → List ℕ → Taken → Option (Word × Store)
range_given t m [] taken = None
range_given t m (a ∷ more) taken =
    when (is_free a (range_size (plain t)) m) (Some (i32 a, record { bytes = with_zeros a (range_size (plain t)) m; fresh = more; taken = taken ++ (a, t) ∷ [] }))

-- the value written at an address
abbrev pub value_written : Plain → Value → ℕ → Store → Store
value_written t v at m = record m { bytes = image_written at (image t v) m.bytes }

-- a value of the type can be written there
abbrev pub has_room : Plain → ℕ → Bytes → Bool
has_room t at m = nat_eq (size_of t) 0 || holds at (size_of t) m

abbrev pub bytes : Domain Value Word Store
bytes = record {
  lower = cells.lower;
  lift = cells.lift;
  list_words = cells.list_words;
  list_value = cells.list_value;
  tuple = cells.tuple;
  parts = cells.parts;
  give = λ t m. range_given t m.bytes m.fresh m.taken;
  put = λ t v m. when (by_address (plain t)) (option_map (λ r. (r.0, value_written (plain t) v r.0.bits r.1)) (range_given t m.bytes m.fresh m.taken));
  get = λ t w m. when (is_i32 w) (value_at (plain t) m.bytes w.bits);
  set = λ t w v m. when (is_i32 w) (when (has_room (plain t) w.bits m.bytes && is_value (plain t) v) (Some (value_written (plain t) v w.bits m)));
  picks = cells.picks;
  case_word = cells.case_word;
  chooses = cells.chooses;
  result = cells.result;
  has_type = cells.has_type;
}

abbrev pub run_bytes :
    List ℕ → Function → (caller callee : List Event) → List Value → Option Value → Bytes → List ℕ →
    Option (Outcome Value Word Store)
run_bytes m f caller callee arguments reply memory addresses =
    outcome (run {P = Unit {0}} (λ e. e) (λ e. tt) bytes m f tt tt caller callee arguments reply (record { bytes = memory; fresh = addresses; taken = [] }))
