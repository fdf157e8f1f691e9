-- When the addresses that a run over cells takes are fit for a memory of bytes, and what the run over bytes then is.
use Rattle.std.specs.Prelude.{◌≡◌, ℕ, ◌+◌, ◌<◌, ◌≤◌, ◌⊎◌, List, [], ◌∷◌, true, Option, Some, is_some, IsTrue, IsFalse, length}
use Rattle.witx_ast.specs.Tree.{Tree}
use Rattle.witx_ast.specs.Plain.{plain}
use Rattle.witx_ast.specs.Values.{Value}
use Rattle.witx_ast.specs.Functions.{FunctionTree}
use Rattle.witx_ast.specs.Tags.{AllFit, function_fits}
use Rattle.witx_machine.specs.Words.{Word}
use Rattle.witx_machine.specs.Events.{Event}
use Rattle.witx_machine.specs.Functions.{Function, function_of}
use Rattle.witx_machine.specs.Lowerable.{lowerable}
use Rattle.witx_machine.specs.Traces.{caller_events, callee_events}
use Rattle.witx_machine.specs.Run.{Outcome}
use Rattle.witx_machine.specs.Cells.{Cells, Memory, Taken, run_cells}
use Rattle.witx_machine.specs.Faithful.{are_arguments, is_reply, zero_error, AreFree}
use Rattle.witx_bytes.specs.Bytes.{Bytes, is_free}
use Rattle.witx_bytes.specs.ByteMachine.{Store, range_size, run_bytes}

-- the ranges of two addresses don't overlap
abbrev pub Apart : ℕ × Tree → ℕ × Tree → Type 0
Apart x y = (x.0 + range_size (plain x.1) ≤ y.0) ⊎ (y.0 + range_size (plain y.1) ≤ x.0)

abbrev pub ApartFrom : ℕ × Tree → Taken → Type 0
ApartFrom x [] = Unit {0}
ApartFrom x (y ∷ ys) = Apart x y × ApartFrom x ys

abbrev pub AreRangesApart : Taken → Type 0
AreRangesApart [] = Unit {0}
AreRangesApart (x ∷ xs) = ApartFrom x xs × AreRangesApart xs

-- each range begins above 0, ends within 2^32, and uses no address of the memory
abbrev pub AreUnused : Bytes → Taken → Type 0
AreUnused m [] = Unit {0}
AreUnused m (x ∷ xs) = IsTrue (is_free x.0 (range_size (plain x.1)) m) × AreUnused m xs

abbrev pub IsFit : Bytes → Taken → Type 0
IsFit m taken = AreRangesApart taken × AreUnused m taken

-- each type fits its tags
abbrev pub AreWritable : Taken → Type 0
AreWritable [] = Unit {0}
AreWritable (x ∷ xs) = AllFit (plain x.1) × AreWritable xs

-- an address in one of the ranges
abbrev pub LiesIn : ℕ → Taken → Type 0
LiesIn at [] = ⊥
LiesIn at (x ∷ xs) = ((x.0 ≤ at) × (at < x.0 + range_size (plain x.1))) ⊎ LiesIn at xs

-- the outcomes are the same but for the memories; each byte of the given memory is unchanged, and no further byte is held but in what was taken
pub record SameOutcome (memory : Bytes) (o : Outcome Value Word Memory) (p : Outcome Value Word Store) : Type 0 where
  pub words : p.call.words ≡ o.call.words
  pub noted : p.call.noted ≡ o.call.noted
  pub callee_words : p.call.callee_words ≡ o.call.callee_words
  pub back : p.back ≡ o.back
  pub unchanged : (at b : ℕ) → memory at ≡ Some b → p.memory.bytes at ≡ Some b
  pub no_further : (at : ℕ) → is_some (p.memory.bytes at) ≡ true → (is_some (memory at) ≡ true) ⊎ LiesIn at o.memory.taken

-- BYTES FOLLOW CELLS: where a run over cells from an empty memory has an outcome and takes what is fit for the bytes,
-- the run over bytes with the same addresses has the same outcome
abbrev pub BytesFollowCells : Type 0
BytesFollowCells =
    (m : List ℕ) (f : Function) (caller callee : List Event) (arguments : List Value) (reply : Option Value) →
    (memory : Bytes) (addresses : List ℕ) (o : Outcome Value Word Memory) →
    IsTrue (are_arguments f.params arguments) → IsTrue (is_reply f.results reply) →
    run_cells m f caller callee arguments reply [] addresses ≡ Some o →
    IsFit memory o.memory.taken → AreWritable o.memory.taken →
    (p : Outcome Value Word Store) × (run_bytes m f caller callee arguments reply memory addresses ≡ Some p) × SameOutcome memory o p

-- THE TRACES OF A FUNCTION OVER BYTES: with any distinct addresses, as many as both traces have events, the run over cells from an
-- empty memory has an outcome; and over each memory of bytes for which what it takes is fit, the run has the same outcome
abbrev pub RunOverBytes : List ℕ → Function → (caller callee : List Event) → Type 0
RunOverBytes m f caller callee =
    (arguments : List Value) (reply : Option Value) (addresses : List ℕ) →
    IsTrue (are_arguments f.params arguments) → IsTrue (is_reply f.results reply) → IsFalse (zero_error f reply) →
    AreFree [] addresses → length addresses ≡ length caller + length callee →
    (o : Outcome Value Word Memory) × (run_cells m f caller callee arguments reply [] addresses ≡ Some o) ×
    ((memory : Bytes) → IsFit memory o.memory.taken →
    (p : Outcome Value Word Store) × (run_bytes m f caller callee arguments reply memory addresses ≡ Some p) × SameOutcome memory o p)

abbrev pub TracesOverBytes : Type 0
TracesOverBytes =
    (m : List ℕ) (func : FunctionTree) → IsTrue (lowerable (function_of func)) → IsTrue (function_fits func) →
    RunOverBytes m (function_of func) (caller_events m (function_of func)) (callee_events m (function_of func))

-- what the two traces of a function that fits its tags take is writable, in any run of them
abbrev pub TakesAreWritable : Type 0
TakesAreWritable =
    (m : List ℕ) (func : FunctionTree) → IsTrue (function_fits func) →
    (arguments : List Value) (reply : Option Value) (memory : Cells) (addresses : List ℕ) (o : Outcome Value Word Memory) →
    run_cells m (function_of func) (caller_events m (function_of func)) (callee_events m (function_of func)) arguments reply memory addresses ≡ Some o →
    AreWritable o.memory.taken
