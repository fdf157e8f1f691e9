-- Calls that are run with the stated addresses, computed: what each comes to, and where its ranges stand.
use Rattle.std.proofs.Common.{arith}
use Rattle.std.specs.Prelude.{◌≡◌, refl, ℕ, zero, suc, List, [], ◌∷◌, Option, Some, None, pos, true, false, codes, option_map, option_and_then, option_to_list, ◌^◌}
use native.Mathlib.Decide.{ℕ_discrete}
use Rattle.witx_ast.specs.declared.function.Abi.{Abi}
use Rattle.witx_ast.specs.declared.types.BuiltinType.{BuiltinType}
use Rattle.witx_ast.specs.declared.types.IntRepr.{IntRepr}
use Rattle.witx_ast.specs.declared.types.RecordKind.{RecordKind}
use Rattle.witx_ast.specs.Tree.{Tree, Fields, Arms}
use Rattle.witx_ast.specs.Values.{Value, Values}
use Rattle.witx_machine.specs.declared.surface.WasmType.{WasmType}
use Rattle.witx_machine.specs.Words.{Word, i32}
use Rattle.witx_machine.specs.Functions.{Function}
use Rattle.witx_machine.specs.Faithful.{zero_error}
use Rattle.witx_machine.specs.Traces.{caller_events, callee_events}
use Rattle.witx_machine.specs.Run.{Outcome, values_in}
use Rattle.witx_machine.specs.Cells.{Memory, run_cells}
use Rattle.witx_bytes.specs.Bytes.{Bytes}
use Rattle.witx_bytes.specs.ByteMachine.{Store, run_bytes}
use Rattle.witx_call.specs.Ranges.{AreStated, EndBelow, StandFrom, ranges}
use Rattle.witx_call.specs.Room.{no_bytes}

abbrev m : List ℕ
m = codes "m"

abbrev named : List ℕ → Tree → Tree
named name t = Tree.named name t []

abbrev u8 : Tree
u8 = Tree.builtin (BuiltinType.U8 false)

abbrev u32 : Tree
u32 = Tree.builtin (BuiltinType.U32 false)

abbrev count : Tree
count = named (codes "n") u32

abbrev fault : Tree
fault = named (codes "e") (Tree.variant_of IntRepr.U32 (Arms.bare (codes "a") [] (Arms.bare (codes "b") [] Arms.no_arms)))

abbrev expected : Tree
expected = Tree.variant_of IntRepr.U32 (Arms.carries (codes "ok") count [] (Arms.carries (codes "err") fault [] Arms.no_arms))

abbrev function : Abi → List Tree → List Tree → Function
function abi params results = record { abi = abi; name = codes "f"; params = params; results = results }

abbrev number : ℕ → Value
number n = Value.number (BuiltinType.U32 false) (pos n)

-- so many bytes from an address on
abbrev shown : ℕ → ℕ → Bytes → List (Option ℕ)
shown at zero m = []
shown at (suc n) m = m at ∷ shown (suc at) n m

-- what both runs show
pub record Seen : Type 0 where
  pub pass : List Word
  pub notes : List Value
  pub back : List Word
  pub returned : Option (List Value)
  pub taken : List (ℕ × ℕ)
  pub bytes : List (Option ℕ)
  pub same : List Word × List Value × List Word × Option (List Value)

abbrev seen : ℕ → Outcome Value Word Memory → Outcome Value Word Store → Seen
seen n o p = record {
  pass = o.call.words;
  notes = o.call.noted;
  back = o.call.callee_words;
  returned = values_in o.back;
  taken = ranges o.memory.taken;
  bytes = shown 16 n p.memory.bytes;
  same = (p.call.words, p.call.noted, p.call.callee_words, values_in p.back);
}

abbrev call : Function → List Value → Option Value → List ℕ → ℕ → Option Seen
call f arguments reply addresses n =
    option_and_then (λ o. option_map (seen n o) (run_bytes m f (caller_events m f) (callee_events m f) arguments reply no_bytes addresses))
    (run_cells m f (caller_events m f) (callee_events m f) arguments reply [] addresses)

abbrev told : List Word → List Value → List Word → Option Value → List (ℕ × ℕ) → List (Option ℕ) → Option Seen
told pass notes back returned taken bytes =
    Some (record { pass = pass; notes = notes; back = back; returned = Some (option_to_list returned); taken = taken; bytes = bytes; same = (pass, notes, back, Some (option_to_list returned)) })

-- two numbers in, a number back: no range
abbrev adds : Function
adds = function Abi.Preview1 (u32 ∷ Tree.builtin BuiltinType.U64 ∷ []) (u32 ∷ [])

abbrev i64 : ℕ → Word
i64 n = record { type = WasmType.I64; bits = n }

adding : call adds (number 5 ∷ Value.number BuiltinType.U64 (pos 7) ∷ []) (Some (number 12)) [] 0
    ≡ told (i32 5 ∷ i64 7 ∷ []) (number 5 ∷ Value.number BuiltinType.U64 (pos 7) ∷ []) (i32 12 ∷ []) (Some (number 12)) [] []
unfolding ℕ_discrete
adding = refl

-- a text in, a number or an error back
abbrev reads : Function
reads = function Abi.Preview1 (Tree.list_of (Tree.builtin BuiltinType.Char) ∷ []) (expected ∷ [])

abbrev text : Value
text = Value.list_at 1000 5

read_well : call reads (text ∷ []) (Some (Value.case_with 0 (number 7))) (16 ∷ []) 4
    ≡ told (i32 1000 ∷ i32 5 ∷ i32 16 ∷ []) (text ∷ []) (i32 0 ∷ []) (Some (Value.case_with 0 (number 7))) ((16, 4) ∷ []) (Some 7 ∷ Some 0 ∷ Some 0 ∷ Some 0 ∷ [])
unfolding ℕ_discrete
read_well = refl

-- the range of the number stays zeros
read_badly : call reads (text ∷ []) (Some (Value.case_with 1 (Value.enum_index 1))) (16 ∷ []) 4
    ≡ told (i32 1000 ∷ i32 5 ∷ i32 16 ∷ []) (text ∷ []) (i32 1 ∷ []) (Some (Value.case_with 1 (Value.enum_index 1))) ((16, 4) ∷ []) (Some 0 ∷ Some 0 ∷ Some 0 ∷ Some 0 ∷ [])
unfolding ℕ_discrete
read_badly = refl

error_word_is_zero : zero_error reads (Some (Value.case_with 1 (Value.enum_index 0))) ≡ true
error_word_is_zero = refl

-- the whole result through one address: no reply is excepted
abbrev stores : Function
stores = function Abi.Stored (Tree.list_of (Tree.builtin BuiltinType.Char) ∷ []) (named (codes "r") expected ∷ [])

stored_error_is_told : zero_error stores (Some (Value.case_with 1 (Value.enum_index 0))) ≡ false
stored_error_is_told = refl

stored : call stores (text ∷ []) (Some (Value.case_with 1 (Value.enum_index 0))) (16 ∷ []) 8
    ≡ told (i32 1000 ∷ i32 5 ∷ i32 16 ∷ []) (text ∷ []) [] (Some (Value.case_with 1 (Value.enum_index 0))) ((16, 8) ∷ []) (Some 1 ∷ Some 0 ∷ Some 0 ∷ Some 0 ∷ Some 0 ∷ Some 0 ∷ Some 0 ∷ Some 0 ∷ [])
unfolding ℕ_discrete
stored = refl

-- a variant of 12 bytes in, with three bytes of padding behind its tag and zeros behind its payload
abbrev five : Tree
five = named (codes "b") (Tree.record_of RecordKind.Other (Fields.field (codes "p") u8 [] (Fields.field (codes "q") u8 [] (Fields.field (codes "r") u8 [] (Fields.field (codes "s") u8 [] (Fields.field (codes "t") u8 [] Fields.no_fields))))))

abbrev either : Tree
either = named (codes "v") (Tree.variant_of IntRepr.U8 (Arms.carries (codes "x") five [] (Arms.carries (codes "y") u32 [] Arms.no_arms)))

abbrev takes : Function
takes = function Abi.Preview1 (either ∷ []) []

padded : call takes (Value.case_with 1 (number 258) ∷ []) None (16 ∷ []) 12
    ≡ told (i32 16 ∷ []) (Value.case_with 1 (number 258) ∷ []) [] None ((16, 12) ∷ []) (Some 1 ∷ Some 0 ∷ Some 0 ∷ Some 0 ∷ Some 2 ∷ Some 1 ∷ Some 0 ∷ Some 0 ∷ Some 0 ∷ Some 0 ∷ Some 0 ∷ Some 0 ∷ [])
unfolding ℕ_discrete
padded = refl

-- two ranges: the first that is given stands at 16, the next behind it at a multiple of 8. First an argument and then a return pointer
abbrev byte : ℕ → Value
byte n = Value.number (BuiltinType.U8 false) (pos n)

abbrev five_value : Value
five_value = Value.record_values (Values.value_then (byte 1) (Values.value_then (byte 2) (Values.value_then (byte 3) (Values.value_then (byte 4) (Values.value_then (byte 5) Values.no_values)))))

abbrev counts : Function
counts = function Abi.Preview1 (five ∷ []) (expected ∷ [])

argument_first : call counts (five_value ∷ []) (Some (Value.case_with 0 (number 7))) (16 ∷ 24 ∷ []) 12
    ≡ told (i32 16 ∷ i32 24 ∷ []) (five_value ∷ []) (i32 0 ∷ []) (Some (Value.case_with 0 (number 7))) ((16, 5) ∷ (24, 4) ∷ [])
    (Some 1 ∷ Some 2 ∷ Some 3 ∷ Some 4 ∷ Some 5 ∷ None ∷ None ∷ None ∷ Some 7 ∷ Some 0 ∷ Some 0 ∷ Some 0 ∷ [])
unfolding ℕ_discrete
argument_first = refl

-- then a return pointer for each member of a tuple
abbrev two : Tree
two = Tree.record_of RecordKind.Tuple (Fields.field (codes "0") five [] (Fields.field (codes "1") count [] Fields.no_fields))

abbrev gives_two : Function
gives_two = function Abi.Preview1 [] (Tree.variant_of IntRepr.U32 (Arms.carries (codes "ok") two [] (Arms.carries (codes "err") fault [] Arms.no_arms)) ∷ [])

abbrev two_value : Value
two_value = Value.case_with 0 (Value.tuple_values (Values.value_then five_value (Values.value_then (number 7) Values.no_values)))

members_in_order : call gives_two [] (Some two_value) (16 ∷ 24 ∷ []) 12
    ≡ told (i32 16 ∷ i32 24 ∷ []) [] (i32 0 ∷ []) (Some two_value) ((16, 5) ∷ (24, 4) ∷ [])
    (Some 1 ∷ Some 2 ∷ Some 3 ∷ Some 4 ∷ Some 5 ∷ None ∷ None ∷ None ∷ Some 7 ∷ Some 0 ∷ Some 0 ∷ Some 0 ∷ [])
unfolding ℕ_discrete
members_in_order = refl

-- where ranges stand: five bytes from 16 on, and behind them the next at 24
one_stands : AreStated ((16, count) ∷ [])
one_stands = record { stand = (refl, tt); room = (omega arith, tt) }

two_stand : AreStated ((16, five) ∷ (24, count) ∷ (32, either) ∷ [])
two_stand = record { stand = (refl, (refl, (refl, tt))); room = (omega arith, (omega arith, (omega arith, tt))) }

none_stands : AreStated []
none_stands = record { stand = tt; room = tt }

too_low : ¬ (StandFrom 16 ((8, count) ∷ []))
too_low h = absurd (omega arith)

too_high : ¬ (StandFrom 16 ((16, five) ∷ (32, count) ∷ []))
too_high h = absurd (omega arith)

-- the last range of eight bytes that has room, and the first that hasn't
last_fits : EndBelow (2 ^ 20) ((1048568, named (codes "r") expected) ∷ [])
last_fits = (omega arith, tt)

next_ends_above : ¬ (EndBelow (2 ^ 20) ((1048576, named (codes "r") expected) ∷ []))
next_ends_above h = absurd (omega arith)
