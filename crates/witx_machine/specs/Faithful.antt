-- When a pair of traces is faithful to a function: caller against callee passes the words of the interface,
-- hands over any arguments of the declared types and brings back any reply, and leaves used memory alone.
-- Excepted under Preview1 is a reply that is an error passed as the word 0, which can't be told from ok;
-- under Stored no reply is.
use Rattle.std.specs.Prelude.{◌≡◌, ℕ, zero, suc, ◌+◌, ◌^◌, ◌<◌, List, [], ◌∷◌, length, Bool, true, false, cond, ◌≢◌, IsTrue, IsFalse, Option, Some, None, ◌⊎◌, nat_eq, option_map, option_to_list}
use Rattle.witx_ast.specs.declared.function.Abi.{Abi}
use Rattle.witx_ast.specs.Tree.{Tree, Arms}
use Rattle.witx_ast.specs.Plain.{Plain, plain}
use Rattle.witx_ast.specs.Values.{Value}
use Rattle.witx_ast.specs.ValueTests.{is_value}
use Rattle.witx_machine.specs.Words.{Word, i32, word_in}
use Rattle.witx_machine.specs.Events.{Event}
use Rattle.witx_machine.specs.Functions.{Function, err_of, result_cases}
use Rattle.witx_machine.specs.Machine.{Domain}
use Rattle.witx_machine.specs.Run.{Outcome, Receiver, itself, values_in}
use Rattle.witx_machine.specs.Cells.{get, Cells, Cell, Memory, Taken, cells, run_cells_to}
use Rattle.witx_machine.specs.Passage.{Meaning, Passes, Returns}

-- a run ended as it should, in any domain; arranged: the arguments as the callee is to hand them over
pub record EndsWell {V W M : Type 0} (D : Domain V W M) (J : Meaning V W M) (f : Function)
    (arguments : List V) (arranged : Option (List V)) (reply : Option V) (o : Outcome V W M) : Type 0 where
  pub passes : Passes D J f arguments o
  pub gives_back : Returns D J f reply o
  pub noted : arranged ≡ Some o.call.noted
  pub back : values_in o.back ≡ Some (option_to_list reply)

-- over cells: the words of a value that isn't passed by address
abbrev pub direct_words : Plain → Value → Option (List Word)
direct_words (Plain.list_of t) (Value.list_at a l) = Some (i32 a ∷ i32 l ∷ [])
direct_words t v = option_map (λ w. w ∷ []) (word_in t v)

-- the address was given
abbrev pub IsTaken : Taken → ℕ → Type 0
IsTaken [] a = ⊥
IsTaken (x ∷ xs) a = (a ≡ x.0) ⊎ IsTaken xs a

-- the word is an I32 for which this holds
abbrev pub At : (ℕ → Type 0) → Word → Type 0
At P w = (a : ℕ) × (w ≡ i32 a) × P a

abbrev pub IsMadeFor : Cells → ℕ → Tree → Type 0
IsMadeFor cells a t = (c : Cell) × (get cells a ≡ Some c) × (c.made_for ≡ t)

abbrev pub CellHolds : Cells → ℕ → Value → Type 0
CellHolds cells a v = (c : Cell) × (get cells a ≡ Some c) × (c.content ≡ Some v)

abbrev pub cell_meaning : Meaning Value Word Memory
cell_meaning = record {
  direct = λ t v ws. direct_words t v ≡ Some ws;
  given = λ m. At (IsTaken m.taken);
  holds = λ m w v. At (λ a. CellHolds m.cells a v) w;
  made_for = λ m w t. At (λ a. IsMadeFor m.cells a t) w;
}

-- which values are the arguments of these types
abbrev pub are_arguments : List Tree → List Value → Bool
are_arguments [] [] = true
are_arguments (t ∷ ts) (v ∷ vs) = cond (is_value (plain t) v) (are_arguments ts vs) false
are_arguments [] (v ∷ vs) = false
are_arguments (t ∷ ts) [] = false

-- none without a result, else a value of its type; of two or more results there is no reply, so that a function
-- with so many, which can't be lowered, is faithful to any traces
abbrev pub is_reply : List Tree → Option Value → Bool
is_reply [] None = true
is_reply (t ∷ []) (Some v) = is_value (plain t) v
is_reply _ _ = false

-- an error whose one word is 0
abbrev pub is_zero : Option (List Word) → Bool
is_zero (Some (w ∷ [])) = nat_eq w.bits 0
is_zero _ = false

abbrev pub zero_of : Option Tree → Value → Bool
zero_of None p = false
zero_of (Some e) p = is_zero (direct_words (plain e) p)

abbrev pub zero_by : Option Arms → Value → Bool
zero_by None p = false
zero_by (Some cs) p = zero_of (err_of cs) p

abbrev pub zero_in : List Tree → Option Value → Bool
zero_in (t ∷ []) (Some (Value.case_with (suc zero) p)) = zero_by (result_cases t) p
zero_in _ _ = false

-- the excepted replies
abbrev pub zero_under : Abi → List Tree → Option Value → Bool
zero_under Abi.Preview1 results reply = zero_in results reply
zero_under Abi.Stored results reply = false

abbrev pub zero_error : Function → Option Value → Bool
zero_error f reply = zero_under f.abi f.results reply

abbrev pub AreOther : ℕ → List ℕ → Type 0
AreOther a [] = Unit {0}
AreOther a (b ∷ bs) = (a ≢ b) × AreOther a bs

-- distinct addresses from 1 on and below 2^32 that the memory leaves free
abbrev pub AreFree : Cells → List ℕ → Type 0
AreFree memory [] = Unit {0}
AreFree memory (a ∷ more) = (0 < a) × (a < 2 ^ 32) × (get memory a ≡ None) × AreOther a more × AreFree memory more

-- Whatever the arguments, the reply, the memory and the free addresses, as many as there are events. The caller
-- is of the function f, whose words the receiver's callee gets; that one hands the arguments over as arranged
abbrev pub FaithfulTo : List ℕ → Function → Receiver → (arranged : List Value → Option (List Value)) → (caller callee : List Event) → Type 0
FaithfulTo m f to arranged caller callee =
    (arguments : List Value) (reply : Option Value) (memory : Cells) (addresses : List ℕ) →
    IsTrue (are_arguments f.params arguments) → IsTrue (is_reply f.results reply) → IsFalse (zero_error f reply) →
    AreFree memory addresses → length addresses ≡ length caller + length callee →
    (o : Outcome Value Word Memory) × (run_cells_to m f to caller callee arguments reply memory addresses ≡ Some o) ×
    EndsWell cells cell_meaning f arguments (arranged arguments) reply o ×
    ((a : ℕ) (c : Cell) → get memory a ≡ Some c → get o.memory.cells a ≡ Some c)

-- FAITHFUL: both traces are of the one function, and the arguments are handed over as they are
abbrev pub Faithful : List ℕ → Function → (caller callee : List Event) → Type 0
Faithful m f = FaithfulTo m f (itself m f) (λ vs. Some vs)
