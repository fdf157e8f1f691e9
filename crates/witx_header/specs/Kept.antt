-- What the generator of bodies keeps, as calls: an event, with the variables that it was handed and left.
use Rattle.std.specs.Prelude.{ℕ, ◌+◌, ◌≡◌, List, [], ◌∷◌, map, length, Bool, true, false, Option, Some, None, slice_get}
use Rattle.witx_machine.specs.Events.{Event, Step, emit, space, push, finish}
use Rattle.witx_machine.specs.Rows.{operands_count, results_count}
use Rattle.witx_instructions.specs.Views.{event_of}
use Rattle.witx_instructions.specs.Handed.{GeneratorCall, emitted, made_room, began, ended}
use Rattle.witx_header.specs.declared.handed.Variable.{Variable}
use Rattle.witx_header.specs.declared.handed.Handed.{Handed}
use Rattle.witx_header.specs.Bodies.{numbered_variables}

-- the call for the first of these events
abbrev pub call_for : List Event → (operands results : List Variable) → GeneratorCall Variable
call_for [] operands results = began
call_for (emit x ∷ es) operands results = emitted x operands results
call_for (space slot t ∷ es) operands results = made_room slot t
call_for (push ∷ es) operands results = began
call_for (finish v ∷ es) operands results = ended (slice_get operands 0)

abbrev pub call_of : Handed → GeneratorCall Variable
call_of h = call_for (map event_of h.told.events) h.operands h.results

-- how many variables a call leaves
abbrev pub left_by : GeneratorCall Variable → ℕ
left_by (emitted x operands results) = results_count x
left_by (made_room slot t) = 0
left_by began = 0
left_by (ended operand) = 0

abbrev pub left_by_all : List (GeneratorCall Variable) → ℕ
left_by_all [] = 0
left_by_all (c ∷ cs) = left_by c + left_by_all cs

-- an instruction takes as many variables as it has operands, and leaves as many as it has results, from this number on
abbrev pub Leaves : ℕ → GeneratorCall Variable → Type 0
Leaves next (emitted x operands results) = (length operands ≡ operands_count x) × (results ≡ numbered_variables next (results_count x))
Leaves next (made_room slot t) = Unit {0}
Leaves next began = Unit {0}
Leaves next (ended operand) = Unit {0}

-- THE RESULTS ARE NUMBERED in order, over all calls
abbrev pub AreNumbered : ℕ → List (GeneratorCall Variable) → Type 0
AreNumbered next [] = Unit {0}
AreNumbered next (c ∷ cs) = Leaves next c × AreNumbered (next + left_by c) cs
