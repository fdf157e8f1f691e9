-- Which operands a generator is handed, call by call, and that they are those which earlier calls left, in order.
-- Operands lie on one stack. An instruction takes its operands off the top, and its results take their place, in order;
-- the end of a block takes the operand on top, where it takes one; no other call moves an operand.
use Rattle.std.specs.Prelude.{◌≡◌, ℕ, List, [], ◌∷◌, ◌++◌, map, take, Option, Some, None, is_some, Result, OnOk, vec_len}
use Rattle.std.specs.declared.alloc.Global.{Global}
use Rattle.std.specs.declared.vec.Vec.{Vec}
use Rattle.witx_ast.specs.Tree.{Tree}
use Rattle.witx_machine.specs.Events.{Event, Step, emit, space, push, finish}
use Rattle.witx_machine.specs.Rows.{results_count}
use Rattle.witx_instructions.specs.declared.instruction.Instruction.{Instruction}
use Rattle.witx_instructions.specs.Told.{told_further}
use Rattle.witx_instructions.specs.Views.{step_of}

-- one call of a generator: an instruction with the operands that it was handed and the results that it left, both the
-- topmost last; room for a result; the begin of a block; its end, with the operand that was handed, if one was
pub data GeneratorCall (O : Type 0) : Type 0 where
  emitted : (step : Step) (operands results : List O) → GeneratorCall O
  made_room : (slot : ℕ) (ty : Tree) → GeneratorCall O
  began : GeneratorCall O
  ended : (operand : Option O) → GeneratorCall O

-- the event that it was called for
abbrev pub called_for : {O : Type 0} → GeneratorCall O → Event
called_for (emitted x operands results) = emit x
called_for (made_room k t) = space k t
called_for began = push
called_for (ended operand) = finish (is_some operand)

-- what lies on the stack before a call and behind it, the topmost last
abbrev pub Hands : {O : Type 0} → GeneratorCall O → (stack behind : List O) → Type 0
Hands {O} (emitted x operands results) stack behind = (below : List O) × (stack ≡ below ++ operands) × (behind ≡ below ++ results)
Hands (made_room k t) stack behind = behind ≡ stack
Hands began stack behind = behind ≡ stack
Hands (ended None) stack behind = behind ≡ stack
Hands (ended (Some operand)) stack behind = stack ≡ behind ++ operand ∷ []

-- an instruction that was taken has left as many results as it has
abbrev pub LeavesResults : {R E O : Type 0} → Result R E → Instruction → Vec O Global → Type 0
LeavesResults r i results = OnOk r (vec_len results ≡ results_count (step_of i))

-- calls one behind the other: each is handed what the ones before it have left
abbrev pub HandOn : {O : Type 0} → List (GeneratorCall O) → (stack behind : List O) → Type 0
HandOn [] stack behind = behind ≡ stack
HandOn {O} (c ∷ cs) stack behind = (between : List O) × Hands c stack between × HandOn cs between behind

-- a generator that tells its calls was called once for each of these events, in order, from this stack on
pub record InOrder {O : Type 0} (es : List Event) (before now : Option (List (GeneratorCall O))) (stack behind : List O) : Type 0 where
  pub calls : List (GeneratorCall O)
  pub told : now ≡ told_further before calls
  pub events : map called_for calls ≡ es
  pub hand_on : HandOn calls stack behind

-- THE OPERANDS ARE IN ORDER: the generator was called for these events, and each operand that it was handed is the one that
-- an earlier of these calls left on top
pub record OperandsInOrder {O : Type 0} (es : List Event) (before now : Option (List (GeneratorCall O))) : Type 0 where
  pub behind : List O
  pub in_order : InOrder es before now [] behind

-- the same for a front of the events, from this stack on, where a refusal cut the rest off
pub record FrontInOrder {O : Type 0} (es : List Event) (before now : Option (List (GeneratorCall O))) (stack : List O) : Type 0 where
  pub count : ℕ
  pub behind : List O
  pub in_order : InOrder (take count es) before now stack behind
