-- Worked functions, computed: their signatures, their events, their runs, and wrong traces that get stuck or go astray.
use Rattle.std.specs.Prelude.{◌≡◌, refl, ℕ, zero, suc, ◌+◌, ◌^◌, ◌<◌, List, [], ◌∷◌, ◌++◌, length, Option, Some, None, pos, negsuc, true, false, option_map, option_to_list, codes, take, drop, nat_lt, IsTrue, IsFalse}
use Rattle.std.proofs.Common.{sym, ap, ◌∙◌, subst, arith, lit<, ltb→lt, T}
use native.Mathlib.Decide.{ℕ_discrete}
use Rattle.witx_base.specs.Texts.{same_text}
use Rattle.witx_ast.specs.declared.function.Abi.{Abi}
use Rattle.witx_ast.specs.declared.types.BuiltinType.{BuiltinType}
use Rattle.witx_ast.specs.declared.types.IntRepr.{IntRepr}
use Rattle.witx_ast.specs.declared.types.RecordKind.{RecordKind}
use Rattle.witx_ast.specs.Tree.{Tree, Fields, Arms, Field}
use Rattle.witx_ast.specs.Values.{Value, Values}
use Rattle.witx_machine.specs.declared.surface.WasmType.{WasmType}
use Rattle.witx_machine.specs.declared.surface.Place.{Place}
use Rattle.witx_machine.specs.Words.{Word, i32, number_of, pointer, const_pointer, value_of, word_of}
use Rattle.witx_machine.specs.Events.{Step, Event, emit, space, push, finish}
use Rattle.witx_machine.specs.Functions.{Function}
use Rattle.witx_machine.specs.Signature.{signature_params, signature_results, without_signature}
use Rattle.witx_machine.specs.Lowerable.{unlowerable}
use Rattle.witx_machine.specs.Traces.{caller_events, callee_events}
use Rattle.witx_machine.specs.Machine.{Tried, went, no_rule, stuck_at, word_item, run_trace}
use Rattle.witx_machine.specs.Run.{Outcome, values_in, numbers, start, callee_side}
use Rattle.witx_machine.specs.Cells.{run_cells_to, run_cells, Memory, Cell, Cells, cells, get, list_words, outcome}
use Rattle.witx_machine.specs.Passage.{Passes, Returns}
use Rattle.witx_machine.specs.Faithful.{cell_meaning, At, CellHolds, IsMadeFor, zero_error, are_arguments, is_reply, AreOther, AreFree, EndsWell, Faithful}
use Rattle.witx_machine.specs.Shims.{order_by_name, pass}
use Rattle.witx_machine.specs.Positions.{Spot, in_caller, in_callee, spotted_run}

abbrev called_type : List ℕ → Tree → Tree
called_type name t = Tree.named name t []

abbrev number_type : Tree
number_type = Tree.builtin (BuiltinType.U32 false)

abbrev function : List Tree → List Tree → Function
function params results = record { abi = Abi.Preview1; name = codes "f"; params = params; results = results }

abbrev stored_function : List Tree → List Tree → Function
stored_function params results = record { abi = Abi.Stored; name = codes "f"; params = params; results = results }

abbrev m : List ℕ
m = codes "m"

-- what comes back of a run, and the words at its call
abbrev back : Function → (caller callee : List Event) → List Value → Option Value → Option (Option (List Value))
back f caller callee arguments reply = option_map (λ o. values_in o.back) (run_cells m f caller callee arguments reply [] (16 ∷ 17 ∷ []))

abbrev words : Function → (caller callee : List Event) → List Value → Option Value → Option (List Word)
words f caller callee arguments reply = option_map (λ o. o.call.words) (run_cells m f caller callee arguments reply [] (16 ∷ 17 ∷ []))

abbrev own_back : Function → List Value → Option Value → Option (Option (List Value))
own_back f = back f (caller_events m f) (callee_events m f)

abbrev memory : Memory
memory = record { cells = []; fresh = 16 ∷ 17 ∷ []; taken = [] }

abbrev spot_of : {A : Type 0} → Tried Spot A → Option Spot
spot_of (went x) = None
spot_of no_rule = None
spot_of (stuck_at p) = Some p

-- where a run gets stuck
abbrev stuck : Function → (caller callee : List Event) → List Value → Option Value → Option Spot
stuck f caller callee arguments reply = spot_of (spotted_run cells m f caller callee arguments reply memory)

abbrev u32_value : ℕ → Value
u32_value n = Value.number (BuiltinType.U32 false) (pos n)

-- two builtins and a result
abbrev adds : Function
adds = function (number_type ∷ Tree.builtin BuiltinType.U64 ∷ []) (number_type ∷ [])

adds_caller : caller_events m adds ≡ emit (Step.GetArg 0) ∷ emit Step.I32FromU32 ∷ emit (Step.GetArg 1) ∷ emit Step.I64FromU64 ∷ emit (Step.CallWasm m (codes "f") (WasmType.I32 ∷ WasmType.I64 ∷ []) (WasmType.I32 ∷ [])) ∷ emit Step.U32FromI32 ∷ emit (Step.Return 1) ∷ []
adds_caller = refl

adds_callee : callee_events m adds ≡ emit (Step.GetArg 0) ∷ emit Step.U32FromI32 ∷ emit (Step.GetArg 1) ∷ emit Step.U64FromI64 ∷ emit (Step.CallInterface m (codes "f") adds.params adds.results) ∷ emit Step.I32FromU32 ∷ emit (Step.Return 1) ∷ []
adds_callee = refl

abbrev two_numbers : List Value
two_numbers = u32_value 5 ∷ Value.number BuiltinType.U64 (pos 7) ∷ []

adds_back : own_back adds two_numbers (Some (u32_value 12)) ≡ Some (Some (u32_value 12 ∷ []))
unfolding ℕ_discrete
adds_back = refl

adds_words : words adds (caller_events m adds) (callee_events m adds) two_numbers (Some (u32_value 12)) ≡ Some (i32 5 ∷ record { type = WasmType.I64; bits = 7 } ∷ [])
unfolding ℕ_discrete
adds_words = refl

-- a caller that gives back a word, and no value
word_back : option_map (λ o. values_in o.back) (run_cells m adds (emit (Step.GetArg 0) ∷ emit Step.I32FromU32 ∷ emit (Step.GetArg 1) ∷ emit Step.I64FromU64 ∷ emit (Step.CallWasm m (codes "f") (WasmType.I32 ∷ WasmType.I64 ∷ []) (WasmType.I32 ∷ [])) ∷ emit (Step.Return 1) ∷ []) (callee_events m adds) two_numbers (Some (u32_value 12)) [] []) ≡ Some None
unfolding ℕ_discrete
word_back = refl

-- the callee without its second lifting
missing_lift : stuck adds (caller_events m adds) (emit (Step.GetArg 0) ∷ emit Step.U32FromI32 ∷ emit (Step.GetArg 1) ∷ emit (Step.CallInterface m (codes "f") adds.params adds.results) ∷ emit Step.I32FromU32 ∷ emit (Step.Return 1) ∷ []) two_numbers (Some (u32_value 12)) ≡ Some (in_callee 3)
unfolding ℕ_discrete
missing_lift = refl

-- a push that is never finished, a finish without a push, a missing return
open_push : stuck adds (emit (Step.GetArg 0) ∷ push ∷ emit (Step.GetArg 1) ∷ push ∷ emit Step.I32FromU32 ∷ finish true ∷ []) [] two_numbers (Some (u32_value 12)) ≡ Some (in_caller 1)
open_push = refl

lone_finish : stuck adds (emit (Step.GetArg 0) ∷ finish true ∷ []) [] two_numbers (Some (u32_value 12)) ≡ Some (in_caller 1)
lone_finish = refl

no_return : stuck adds (emit (Step.GetArg 0) ∷ []) [] two_numbers (Some (u32_value 12)) ≡ Some (in_caller 1)
no_return = refl

-- a text in, and a number or an error back
abbrev number_name : Tree
number_name = called_type (codes "n") number_type

abbrev error_type : Tree
error_type = Tree.variant_of IntRepr.U32 (Arms.bare (codes "a") [] (Arms.bare (codes "b") [] Arms.no_arms))

abbrev error_name : Tree
error_name = called_type (codes "e") error_type

abbrev expected : Option Tree → Option Tree → Tree
expected ok err = Tree.variant_of IntRepr.U32 (Rattle.witx_ast.specs.Tree.arm (codes "ok") ok [] (Rattle.witx_ast.specs.Tree.arm (codes "err") err [] Arms.no_arms))

abbrev text_type : Tree
text_type = Tree.list_of (Tree.builtin BuiltinType.Char)

abbrev reads : Function
reads = function (text_type ∷ []) (expected (Some number_name) (Some error_name) ∷ [])

reads_caller : caller_events m reads ≡ emit (Step.GetArg 0) ∷ emit Step.ListPointerLength ∷ space 0 number_name ∷ emit (Step.ReturnPointerGet 0) ∷ emit (Step.CallWasm m (codes "f") (WasmType.I32 ∷ WasmType.I32 ∷ WasmType.I32 ∷ []) (WasmType.I32 ∷ []))
    ∷ push ∷ emit (Step.ReturnPointerGet 0) ∷ emit (Step.Load number_name) ∷ finish true ∷ push ∷ emit Step.ReuseReturn ∷ emit (Step.EnumLift error_name) ∷ finish true ∷ emit Step.ResultLift ∷ emit (Step.Return 1) ∷ []
reads_caller = refl

reads_callee : callee_events m reads ≡ emit (Step.GetArg 0) ∷ emit (Step.GetArg 1) ∷ emit (Step.ListFromPointerLength (Tree.builtin BuiltinType.Char)) ∷ emit (Step.CallInterface m (codes "f") reads.params reads.results)
    ∷ push ∷ emit Step.VariantPayload ∷ emit (Step.GetArg 2) ∷ emit (Step.Store number_name) ∷ finish false ∷ push ∷ emit Step.VariantPayload ∷ emit (Step.EnumLower error_name) ∷ finish true ∷ emit (Step.ResultLower (Some number_name) (Some error_name)) ∷ emit (Step.Return 1) ∷ []
reads_callee = refl

reads_ok : own_back reads (Value.list_at 1000 5 ∷ []) (Some (Value.case_with 0 (u32_value 7))) ≡ Some (Some (Value.case_with 0 (u32_value 7) ∷ []))
unfolding ℕ_discrete
reads_ok = refl

reads_words : words reads (caller_events m reads) (callee_events m reads) (Value.list_at 1000 5 ∷ []) (Some (Value.case_with 0 (u32_value 7))) ≡ Some (i32 1000 ∷ i32 5 ∷ i32 16 ∷ [])
unfolding ℕ_discrete
reads_words = refl

reads_err : own_back reads (Value.list_at 1000 5 ∷ []) (Some (Value.case_with 1 (Value.enum_index 1))) ≡ Some (Some (Value.case_with 1 (Value.enum_index 1) ∷ []))
unfolding ℕ_discrete
reads_err = refl

-- a return pointer that is numbered by the parameters is a list's length, at which there is no cell
abbrev stores_at_length : List Event
stores_at_length =
    emit (Step.GetArg 0) ∷ emit (Step.GetArg 1) ∷ emit (Step.ListFromPointerLength (Tree.builtin BuiltinType.Char)) ∷ emit (Step.CallInterface m (codes "f") reads.params reads.results)
    ∷ push ∷ emit Step.VariantPayload ∷ emit (Step.GetArg 1) ∷ emit (Step.Store number_name) ∷ finish false ∷ push ∷ emit Step.VariantPayload ∷ emit (Step.EnumLower error_name) ∷ finish true ∷ emit (Step.ResultLower (Some number_name) (Some error_name)) ∷ emit (Step.Return 1) ∷ []

stored_at_length : stuck reads (caller_events m reads) stores_at_length (Value.list_at 1000 5 ∷ []) (Some (Value.case_with 0 (u32_value 7))) ≡ Some (in_callee 7)
unfolding ℕ_discrete
stored_at_length = refl

-- an error whose word is 0 is taken for ok: the caller loads a cell that was never stored
zero_err : stuck reads (caller_events m reads) (callee_events m reads) (Value.list_at 1000 5 ∷ []) (Some (Value.case_with 1 (Value.enum_index 0))) ≡ Some (in_caller 7)
unfolding ℕ_discrete
zero_err = refl

-- the word that the callee gave back for it
zero_word : option_map (λ r. r.1) (outcome (run_trace {P = Unit {0}} (λ e. e) (λ e. tt) cells (callee_side (λ e. e) (λ e. tt) cells m reads (Some (Value.case_with 1 (Value.enum_index 0))) (i32 1000 ∷ i32 5 ∷ i32 16 ∷ [])) tt (callee_events m reads) (start memory))) ≡ Some (word_item (i32 0) ∷ [])
unfolding ℕ_discrete
zero_word = refl

-- a tuple of two back
abbrev pair_type : Tree
pair_type = Tree.record_of RecordKind.Tuple (Fields.field (codes "0") number_name [] (Fields.field (codes "1") number_name [] Fields.no_fields))

abbrev gives_two : Function
gives_two = function [] (expected (Some pair_type) (Some error_name) ∷ [])

gives_two_signature : signature_params gives_two ≡ WasmType.I32 ∷ WasmType.I32 ∷ []
gives_two_signature = refl

gives_two_word : signature_results gives_two ≡ WasmType.I32 ∷ []
gives_two_word = refl

gives_two_caller : caller_events m gives_two ≡ space 0 number_name ∷ emit (Step.ReturnPointerGet 0) ∷ space 1 number_name ∷ emit (Step.ReturnPointerGet 1) ∷ emit (Step.CallWasm m (codes "f") (WasmType.I32 ∷ WasmType.I32 ∷ []) (WasmType.I32 ∷ []))
    ∷ push ∷ emit (Step.ReturnPointerGet 0) ∷ emit (Step.Load number_name) ∷ emit (Step.ReturnPointerGet 1) ∷ emit (Step.Load number_name) ∷ emit (Step.TupleLift 2) ∷ finish true
    ∷ push ∷ emit Step.ReuseReturn ∷ emit (Step.EnumLift error_name) ∷ finish true ∷ emit Step.ResultLift ∷ emit (Step.Return 1) ∷ []
gives_two_caller = refl

gives_two_callee : callee_events m gives_two ≡ emit (Step.CallInterface m (codes "f") [] gives_two.results) ∷ push ∷ emit Step.VariantPayload ∷ emit (Step.TupleLower 2) ∷ emit (Step.GetArg 1) ∷ emit (Step.Store number_name) ∷ emit (Step.GetArg 0) ∷ emit (Step.Store number_name) ∷ finish false
    ∷ push ∷ emit Step.VariantPayload ∷ emit (Step.EnumLower error_name) ∷ finish true ∷ emit (Step.ResultLower (Some pair_type) (Some error_name)) ∷ emit (Step.Return 1) ∷ []
gives_two_callee = refl

abbrev pair_value : ℕ → ℕ → Value
pair_value a b = Value.case_with 0 (Value.tuple_values (Values.value_then (u32_value a) (Values.value_then (u32_value b) Values.no_values)))

gives_two_back : own_back gives_two [] (Some (pair_value 1 2)) ≡ Some (Some (pair_value 1 2 ∷ []))
unfolding ℕ_discrete
gives_two_back = refl

-- the members stored first to last come back exchanged
abbrev stores_in_order : List Event
stores_in_order =
    emit (Step.CallInterface m (codes "f") [] gives_two.results) ∷ push ∷ emit Step.VariantPayload ∷ emit (Step.TupleLower 2) ∷ emit (Step.GetArg 0) ∷ emit (Step.Store number_name) ∷ emit (Step.GetArg 1) ∷ emit (Step.Store number_name) ∷ finish false
    ∷ push ∷ emit Step.VariantPayload ∷ emit (Step.EnumLower error_name) ∷ finish true ∷ emit (Step.ResultLower (Some pair_type) (Some error_name)) ∷ emit (Step.Return 1) ∷ []

stored_in_order : back gives_two (caller_events m gives_two) stores_in_order [] (Some (pair_value 1 2)) ≡ Some (Some (pair_value 2 1 ∷ []))
unfolding ℕ_discrete
stored_in_order = refl

-- result_lower without the error's type has no rule
without_err : stuck gives_two (caller_events m gives_two) (emit (Step.CallInterface m (codes "f") [] gives_two.results) ∷ push ∷ emit Step.VariantPayload ∷ emit (Step.TupleLower 2) ∷ emit (Step.GetArg 1) ∷ emit (Step.Store number_name) ∷ emit (Step.GetArg 0) ∷ emit (Step.Store number_name) ∷ finish false
    ∷ push ∷ emit Step.VariantPayload ∷ emit (Step.EnumLower error_name) ∷ finish true ∷ emit (Step.ResultLower (Some pair_type) None) ∷ emit (Step.Return 1) ∷ []) [] (Some (pair_value 1 2)) ≡ Some (in_callee 13)
unfolding ℕ_discrete
without_err = refl

-- ok and error without payloads beside one that has one
abbrev may_fail : Function
may_fail = function [] (expected None (Some error_name) ∷ [])

bare_ok : own_back may_fail [] (Some (Value.bare_case 0)) ≡ Some (Some (Value.bare_case 0 ∷ []))
unfolding ℕ_discrete
bare_ok = refl

abbrev may_give : Function
may_give = function [] (expected (Some number_name) None ∷ [])

bare_err : own_back may_give [] (Some (Value.bare_case 1)) ≡ Some (Some (Value.bare_case 1 ∷ []))
unfolding ℕ_discrete
bare_err = refl

-- opening a path, with a handle, flags of three widths and a text
abbrev flags_type : IntRepr → Tree
flags_type r = called_type (codes "flags") (Tree.record_of (RecordKind.Bitflags r) (Fields.field (codes "x") number_type [] Fields.no_fields))

abbrev handle_name : Tree
handle_name = called_type (codes "fd") Tree.handle

abbrev path_open : Function
path_open = function (handle_name ∷ flags_type IntRepr.U32 ∷ text_type ∷ flags_type IntRepr.U16 ∷ flags_type IntRepr.U64 ∷ flags_type IntRepr.U64 ∷ flags_type IntRepr.U16 ∷ []) (expected (Some handle_name) (Some error_name) ∷ [])

path_open_params : signature_params path_open ≡ WasmType.I32 ∷ WasmType.I32 ∷ WasmType.I32 ∷ WasmType.I32 ∷ WasmType.I32 ∷ WasmType.I64 ∷ WasmType.I64 ∷ WasmType.I32 ∷ WasmType.I32 ∷ []
path_open_params = refl

path_open_results : signature_results path_open ≡ WasmType.I32 ∷ []
path_open_results = refl

-- the callee stores the handle by the last of its words
path_open_stores : take 2 (drop 18 (callee_events m path_open)) ≡ emit (Step.GetArg 8) ∷ emit (Step.Store handle_name) ∷ []
path_open_stores = refl

-- flags on u64, and a negative number in two's complement
abbrev wide_flags : Function
wide_flags = function (flags_type IntRepr.U64 ∷ []) []

wide_flags_words : words wide_flags (caller_events m wide_flags) (callee_events m wide_flags) (Value.flag_bits (true ∷ []) ∷ []) None ≡ Some (record { type = WasmType.I64; bits = 1 } ∷ [])
unfolding ℕ_discrete
wide_flags_words = refl

minus_two : word_of (number_of BuiltinType.S8) (Value.number BuiltinType.S8 (negsuc 1)) ≡ Some (i32 4294967294)
minus_two = refl

minus_two_back : value_of (number_of BuiltinType.S8) (i32 4294967294) ≡ Some (Value.number BuiltinType.S8 (negsuc 1))
minus_two_back = refl

-- an address beyond 32 bits has no word, and neither has a list's
far_address : word_of pointer (Value.address 4294967296) ≡ None
far_address = refl

far_list : list_words (Value.list_at 5 4294967296) ≡ None
far_list = refl

far_word : value_of const_pointer (i32 4294967296) ≡ None
far_word = refl

-- what can't be lowered
unnamed_bool : unlowerable (function (Tree.variant_of IntRepr.U32 (Arms.bare (codes "false") [] (Arms.bare (codes "true") [] Arms.no_arms)) ∷ []) []) ≡ Some (Place.Param 0)
unnamed_bool = refl

unnamed_pair : unlowerable (function (pair_type ∷ []) []) ≡ Some (Place.Param 0)
unnamed_pair = refl

unnamed_result : unlowerable (function [] (expected None None ∷ [])) ≡ Some (Place.Result 0)
unfolding same_text
unnamed_result = refl

text_error : unlowerable (function [] (expected None (Some (called_type (codes "s") text_type)) ∷ [])) ≡ Some (Place.Result 0)
unfolding same_text
text_error = refl

wide_result : unlowerable (function [] (called_type (codes "r") (Tree.variant_of IntRepr.U64 (Arms.bare (codes "ok") [] (Arms.bare (codes "err") [] Arms.no_arms))) ∷ [])) ≡ Some (Place.Result 0)
wide_result = refl

wide_word : signature_results (function [] (called_type (codes "r") (Tree.variant_of IntRepr.U64 (Arms.bare (codes "ok") [] (Arms.bare (codes "err") [] Arms.no_arms))) ∷ [])) ≡ WasmType.I64 ∷ []
wide_word = refl

two_results : unlowerable (function [] (number_type ∷ number_type ∷ [])) ≡ Some (Place.Result 1)
two_results = refl

list_result : without_signature (function [] (number_type ∷ text_type ∷ [])) ≡ Some (Place.Result 1)
list_result = refl

-- two numbers whose words are exchanged on both sides arrive, but the words at the call aren't the interface's
abbrev takes_two : Function
takes_two = function (number_type ∷ number_type ∷ []) []

abbrev reversed_caller : List Event
reversed_caller = emit (Step.GetArg 1) ∷ emit Step.I32FromU32 ∷ emit (Step.GetArg 0) ∷ emit Step.I32FromU32 ∷ emit (Step.CallWasm m (codes "f") (WasmType.I32 ∷ WasmType.I32 ∷ []) []) ∷ emit (Step.Return 0) ∷ []

abbrev reversed_callee : List Event
reversed_callee = emit (Step.GetArg 1) ∷ emit Step.U32FromI32 ∷ emit (Step.GetArg 0) ∷ emit Step.U32FromI32 ∷ emit (Step.CallInterface m (codes "f") takes_two.params []) ∷ emit (Step.Return 0) ∷ []

reversed : (addresses : List ℕ) → option_map (λ o. o.call.words) (run_cells m takes_two reversed_caller reversed_callee (u32_value 5 ∷ u32_value 7 ∷ []) None [] addresses) ≡ Some (i32 7 ∷ i32 5 ∷ [])
unfolding ℕ_discrete
reversed addresses = refl

-- another name at the call, and other types
abbrev calling : List ℕ → List WasmType → List Event
calling name back = emit (Step.GetArg 0) ∷ emit Step.I32FromU32 ∷ emit (Step.GetArg 1) ∷ emit Step.I32FromU32 ∷ emit (Step.CallWasm m name (WasmType.I32 ∷ WasmType.I32 ∷ []) back) ∷ emit (Step.Return 0) ∷ []

misnamed : stuck takes_two (calling (codes "g") []) (callee_events m takes_two) (u32_value 5 ∷ u32_value 7 ∷ []) None ≡ Some (in_caller 4)
unfolding ℕ_discrete
misnamed = refl

mistyped : stuck takes_two (calling (codes "f") (WasmType.I32 ∷ [])) (callee_events m takes_two) (u32_value 5 ∷ u32_value 7 ∷ []) None ≡ Some (in_caller 4)
unfolding ℕ_discrete
mistyped = refl

-- a named byte by address on both sides
abbrev byte_name : Tree
byte_name = called_type (codes "b") (Tree.builtin (BuiltinType.U8 false))

abbrev takes_byte : Function
takes_byte = function (byte_name ∷ []) []

abbrev byte_caller : List Event
byte_caller = emit (Step.GetArg 0) ∷ emit Step.AddrOf ∷ emit (Step.CallWasm m (codes "f") (WasmType.I32 ∷ []) []) ∷ emit (Step.Return 0) ∷ []

abbrev byte_callee : List Event
byte_callee = emit (Step.GetArg 0) ∷ emit (Step.Load byte_name) ∷ emit (Step.CallInterface m (codes "f") (byte_name ∷ []) []) ∷ emit (Step.Return 0) ∷ []

byte_by_address : stuck takes_byte byte_caller byte_callee (Value.number (BuiltinType.U8 false) (pos 5) ∷ []) None ≡ Some (in_caller 1)
unfolding ℕ_discrete
byte_by_address = refl

-- a text in, and a number or an error back, stored whole
abbrev reply_name : Tree
reply_name = called_type (codes "r") (expected (Some number_name) (Some error_name))

abbrev stores : Function
stores = stored_function (text_type ∷ []) (reply_name ∷ [])

stores_caller : caller_events m stores ≡ emit (Step.GetArg 0) ∷ emit Step.ListPointerLength ∷ space 0 reply_name ∷ emit (Step.ReturnPointerGet 0) ∷ emit (Step.CallWasm m (codes "f") (WasmType.I32 ∷ WasmType.I32 ∷ WasmType.I32 ∷ []) [])
    ∷ emit (Step.ReturnPointerGet 0) ∷ emit (Step.Load reply_name) ∷ emit (Step.Return 1) ∷ []
stores_caller = refl

stores_callee : callee_events m stores ≡ emit (Step.GetArg 0) ∷ emit (Step.GetArg 1) ∷ emit (Step.ListFromPointerLength (Tree.builtin BuiltinType.Char)) ∷ emit (Step.CallInterface m (codes "f") stores.params stores.results)
    ∷ emit (Step.GetArg 2) ∷ emit (Step.Store reply_name) ∷ emit (Step.Return 0) ∷ []
stores_callee = refl

abbrev text_value : Value
text_value = Value.list_at 1000 5

abbrev first_error : Value
first_error = Value.case_with 1 (Value.enum_index 0)

-- the error of case 0 is excepted where it comes as a word, and comes back where it is stored
excepted_word : zero_error reads (Some first_error) ≡ true
excepted_word = refl

not_excepted : zero_error stores (Some first_error) ≡ false
not_excepted = refl

stores_err : own_back stores (text_value ∷ []) (Some first_error) ≡ Some (Some (first_error ∷ []))
unfolding ℕ_discrete
stores_err = refl

stores_ok : own_back stores (text_value ∷ []) (Some (Value.case_with 0 (u32_value 7))) ≡ Some (Some (Value.case_with 0 (u32_value 7) ∷ []))
unfolding ℕ_discrete
stores_ok = refl

stores_words : words stores (caller_events m stores) (callee_events m stores) (text_value ∷ []) (Some first_error) ≡ Some (i32 1000 ∷ i32 5 ∷ i32 16 ∷ [])
unfolding ℕ_discrete
stores_words = refl

stores_no_word : option_map (λ o. o.call.callee_words) (run_cells m stores (caller_events m stores) (callee_events m stores) (text_value ∷ []) (Some first_error) [] (16 ∷ [])) ≡ Some []
unfolding ℕ_discrete
stores_no_word = refl

stores_cell : option_map (λ o. get o.call.at_return.cells 16) (run_cells m stores (caller_events m stores) (callee_events m stores) (text_value ∷ []) (Some first_error) [] (16 ∷ [])) ≡ Some (Some (record { made_for = reply_name; content = Some first_error }))
unfolding ℕ_discrete
stores_cell = refl

-- a text back, stored
abbrev text_name : Tree
text_name = called_type (codes "s") text_type

stores_text : own_back (stored_function [] (text_name ∷ [])) [] (Some text_value) ≡ Some (Some (text_value ∷ []))
unfolding ℕ_discrete
stores_text = refl

stored_text : unlowerable (stored_function [] (text_name ∷ [])) ≡ None
stored_text = refl

stored_unnamed : unlowerable (stored_function [] (number_type ∷ [])) ≡ Some (Place.Result 0)
stored_unnamed = refl

stored_two : unlowerable (stored_function [] (number_name ∷ number_name ∷ [])) ≡ Some (Place.Result 1)
stored_two = refl

stored_pointer : signature_params (stored_function [] (number_type ∷ text_type ∷ [])) ≡ WasmType.I32 ∷ []
stored_pointer = refl

stored_signature : without_signature (stored_function [] (number_type ∷ text_type ∷ [])) ≡ None
stored_signature = refl

-- A callee that stores the ok payload alone. Through the pointer to the whole result there is no rule for it
abbrev payload_stored : List Event
payload_stored =
    emit (Step.GetArg 0) ∷ emit (Step.GetArg 1) ∷ emit (Step.ListFromPointerLength (Tree.builtin BuiltinType.Char)) ∷ emit (Step.CallInterface m (codes "f") stores.params stores.results)
    ∷ push ∷ emit Step.VariantPayload ∷ emit (Step.GetArg 2) ∷ emit (Step.Store number_name) ∷ finish false ∷ push ∷ finish false ∷ emit (Step.ResultLower (Some number_name) (Some error_name))
    ∷ emit Step.U32FromI32 ∷ space 0 number_name ∷ emit (Step.ReturnPointerGet 0) ∷ emit (Step.Store number_name) ∷ emit (Step.Return 0) ∷ []

payload_stuck : stuck stores (caller_events m stores) payload_stored (text_value ∷ []) (Some (Value.case_with 0 (u32_value 7))) ≡ Some (in_callee 7)
unfolding ℕ_discrete
payload_stuck = refl

-- and where the caller made its space for the payload alone, the run ends, but not as Returns asks
abbrev payload_loaded : List Event
payload_loaded =
    emit (Step.GetArg 0) ∷ emit Step.ListPointerLength ∷ space 0 number_name ∷ emit (Step.ReturnPointerGet 0) ∷ emit (Step.CallWasm m (codes "f") (WasmType.I32 ∷ WasmType.I32 ∷ WasmType.I32 ∷ []) [])
    ∷ emit (Step.ReturnPointerGet 0) ∷ emit (Step.Load number_name) ∷ emit (Step.Return 1) ∷ []

payload_back : back stores payload_loaded payload_stored (text_value ∷ []) (Some (Value.case_with 0 (u32_value 7))) ≡ Some (Some (u32_value 7 ∷ []))
unfolding ℕ_discrete
payload_back = refl

-- what is held at an address is what its cell has
held_is : (cs : Cells) (a : ℕ) (c : Cell) (v u : Value) → get cs a ≡ Some c → c.content ≡ Some u → At (λ a. CellHolds cs a v) (i32 a) → u ≡ v
held_is cs a c v u is has h =
    let same : a ≡ h.0 = ap (λ w. w.bits) h.1 in
    let cell : Some c ≡ Some h.2.0 = sym is ∙ subst (λ b. get cs b ≡ Some h.2.0) (sym same) h.2.1 in
    ap (from_some u) (sym has ∙ ap content_of cell ∙ h.2.2)
  where
    content_of : Option Cell → Option Value
    content_of None = None
    content_of (Some c) = c.content

    from_some : Value → Option Value → Value
    from_some d None = d
    from_some d (Some v) = v

abbrev number_cell : Option Value → Cell
number_cell v = record { made_for = number_name; content = v }

abbrev cells_left : Cells
cells_left = (17, number_cell (Some (u32_value 0))) ∷ (17, number_cell None) ∷ (16, number_cell (Some (u32_value 7))) ∷ (16, number_cell None) ∷ []

payload_refused : (o : Outcome Value Word Memory) → run_cells m stores payload_loaded payload_stored (text_value ∷ []) (Some (Value.case_with 0 (u32_value 7))) [] (16 ∷ 17 ∷ []) ≡ Some o → Returns cells cell_meaning stores (Some (Value.case_with 0 (u32_value 7))) o → ⊥
unfolding ℕ_discrete
payload_refused o e h = go (subst (λ o. ReturnsIn o) (sym e) h)
  where
    ReturnsIn : Option (Outcome Value Word Memory) → Type 0
    ReturnsIn None = ⊥
    ReturnsIn (Some o) = Returns cells cell_meaning stores (Some (Value.case_with 0 (u32_value 7))) o

    clash : u32_value 7 ≡ Value.case_with 0 (u32_value 7) → ⊥
    clash e = cc

    go : ReturnsIn (run_cells m stores payload_loaded payload_stored (text_value ∷ []) (Some (Value.case_with 0 (u32_value 7))) [] (16 ∷ 17 ∷ [])) → ⊥
    go h = clash (held_is cells_left 16 (number_cell (Some (u32_value 7))) (Value.case_with 0 (u32_value 7)) (u32_value 7) refl refl h.1.0)

-- a caller whose pointer was made for a name that stands for the result's: the reply comes back, but Passes refuses the pointer
abbrev other_name : Tree
other_name = called_type (codes "q") reply_name

abbrev gives_stored : Function
gives_stored = stored_function [] (reply_name ∷ [])

abbrev other_space : List Event
other_space = space 0 other_name ∷ emit (Step.ReturnPointerGet 0) ∷ emit (Step.CallWasm m (codes "f") (WasmType.I32 ∷ []) []) ∷ emit (Step.ReturnPointerGet 0) ∷ emit (Step.Load reply_name) ∷ emit (Step.Return 1) ∷ []

other_back : back gives_stored other_space (callee_events m gives_stored) [] (Some first_error) ≡ Some (Some (first_error ∷ []))
unfolding ℕ_discrete
other_back = refl

-- a cell is made for one type
made_once : (cs : Cells) (a : ℕ) (w : Word) (c : Cell) (t : Tree) → w ≡ i32 a → get cs a ≡ Some c → At (λ a. IsMadeFor cs a t) w → c.made_for ≡ t
made_once cs a w c t at is h =
    let same : a ≡ h.0 = ap (λ w. w.bits) (sym at ∙ h.1) in
    let cell : Some c ≡ Some h.2.0 = sym is ∙ subst (λ b. get cs b ≡ Some h.2.0) (sym same) h.2.1 in
    ap (made_of c.made_for) cell ∙ h.2.2
  where
    made_of : Tree → Option Cell → Tree
    made_of d None = d
    made_of d (Some c) = c.made_for

other_refused : (o : Outcome Value Word Memory) → run_cells m gives_stored other_space (callee_events m gives_stored) [] (Some first_error) [] (16 ∷ []) ≡ Some o → Passes cells cell_meaning gives_stored [] o → ⊥
unfolding ℕ_discrete
other_refused o e h = go (subst (λ o. PassesIn o) (sym e) h)
  where
    PassesIn : Option (Outcome Value Word Memory) → Type 0
    PassesIn None = ⊥
    PassesIn (Some o) = Passes cells cell_meaning gives_stored [] o

    first : Word → List Word → Word
    first d [] = d
    first d (w ∷ ws) = w

    named_in : Tree → Tree
    named_in (Tree.named n t d) = t
    named_in t = t

    clash : reply_name ≡ expected (Some number_name) (Some error_name) → ⊥
    clash e = cc

    go : PassesIn (run_cells m gives_stored other_space (callee_events m gives_stored) [] (Some first_error) [] (16 ∷ [])) → ⊥
    go h = clash (ap named_in (made_once ((16, record { made_for = other_name; content = None }) ∷ []) 16 h.0 (record { made_for = other_name; content = None }) reply_name (sym (ap (first (i32 16)) h.2)) refl h.4))

-- an old caller against a new callee whose parameters stand the other way round
abbrev old_function : List Tree → Function
old_function results = function (text_type ∷ Tree.builtin (BuiltinType.U8 false) ∷ []) results

abbrev new_function : List Tree → Function
new_function results = function (Tree.builtin (BuiltinType.U8 false) ∷ text_type ∷ []) results

abbrev parameter : List ℕ → Tree → Field
parameter name t = record { called = name; tree = t; comment = [] }

other_way_round : order_by_name (parameter (codes "s") text_type ∷ parameter (codes "x") (Tree.builtin (BuiltinType.U8 false)) ∷ []) (parameter (codes "x") (Tree.builtin (BuiltinType.U8 false)) ∷ parameter (codes "s") text_type ∷ []) ≡ Some (1 ∷ 0 ∷ [])
unfolding ℕ_discrete
other_way_round = refl

passed_words : pass (1 ∷ 0 ∷ []) (old_function []) ≡ Some (2 ∷ 0 ∷ 1 ∷ [])
passed_words = refl

passed_pointer : pass (1 ∷ 0 ∷ []) (old_function (expected (Some number_name) (Some error_name) ∷ [])) ≡ Some (2 ∷ 0 ∷ 1 ∷ 3 ∷ [])
passed_pointer = refl

passed_stored : pass (1 ∷ 0 ∷ []) (stored_function (text_type ∷ Tree.builtin (BuiltinType.U8 false) ∷ []) (reply_name ∷ [])) ≡ Some (2 ∷ 0 ∷ 1 ∷ 3 ∷ [])
passed_stored = refl

-- what the callee hands over, of a run to the new function in a module of another name
abbrev shimmed : List ℕ → Option (List Value)
shimmed order = option_map (λ o. o.call.noted) (run_cells_to m (old_function []) (record { module_name = codes "n"; function = new_function []; order = order }) (caller_events m (old_function [])) (callee_events (codes "n") (new_function [])) (text_value ∷ Value.number (BuiltinType.U8 false) (pos 7) ∷ []) None [] (16 ∷ []))

shimmed_arguments : shimmed (2 ∷ 0 ∷ 1 ∷ []) ≡ Some (Value.number (BuiltinType.U8 false) (pos 7) ∷ text_value ∷ [])
unfolding ℕ_discrete
shimmed_arguments = refl

-- a list's address without its length
address_alone : shimmed (2 ∷ 0 ∷ []) ≡ None
unfolding ℕ_discrete
address_alone = refl

address_twice : shimmed (2 ∷ 0 ∷ 0 ∷ []) ≡ Some (Value.number (BuiltinType.U8 false) (pos 7) ∷ Value.list_at 1000 1000 ∷ [])
unfolding ℕ_discrete
address_twice = refl

-- FAITHFUL REFUSES THEM. Addresses from 1 on are distinct, and free in an empty memory
other_above : (a b n : ℕ) → a < b → AreOther a (numbers b n)
other_above a b zero l = tt
other_above a b (suc n) l = (λ e. absurd (omega (arith, e)), other_above a (b + 1) n (omega arith))

numbers_free : (a n k : ℕ) → 0 < a → a + n < k → k ≡ 2 ^ 32 → AreFree [] (numbers a n)
numbers_free a zero k p l e = tt
numbers_free a (suc n) k p l e = (p, subst (λ k. a < k) e (omega arith), refl, other_above a (a + 1) n (omega arith), numbers_free (a + 1) n k (omega arith) (omega arith) e)

count : (a n : ℕ) → length (numbers a n) ≡ n
count a zero = refl
count a (suc n) = ap suc (count (a + 1) n)

abbrev from_some : {A : Type 0} → A → Option A → A
from_some d None = d
from_some d (Some x) = x

module _ (f : Function) (caller callee : List Event) (arguments : List Value) (reply : Option Value) (a : IsTrue (are_arguments f.params arguments)) (r : IsTrue (is_reply f.results reply)) (z : IsFalse (zero_error f reply)) (l : T (nat_lt (1 + (length caller + length callee)) (2 ^ 32))) where
  abbrev ran : Option (Outcome Value Word Memory)
  ran = run_cells m f caller callee arguments reply [] (numbers 1 (length caller + length callee))

  ends : Faithful m f caller callee → (o : Outcome Value Word Memory) × (ran ≡ Some o) × EndsWell cells cell_meaning f arguments (Some arguments) reply o
  ends h =
      let n = length caller + length callee in
      let d = h arguments reply [] (numbers 1 n) a r z (numbers_free 1 n (2 ^ 32) (lit< tt) (ltb→lt _ _ l) refl) (count 1 n) in
      (d.0, d.1, d.2)

  stuck_refused : ran ≡ None → Faithful m f caller callee → ⊥
  stuck_refused is h = let d = ends h in clash d.0 (sym is ∙ d.1)
    where
      clash : (o : Outcome Value Word Memory) → None ≡ Some o → ⊥
      clash o e = cc

  astray_refused : (vs : List Value) → option_map (λ o. values_in o.back) ran ≡ Some (Some vs) → (vs ≡ option_to_list reply → ⊥) → Faithful m f caller callee → ⊥
  astray_refused vs is other h =
      let d = ends h in
      let back = ap (from_some (Some vs)) (sym is ∙ ap (option_map (λ o. values_in o.back)) d.1) in
      other (ap (from_some vs) (back ∙ d.2.back))

misnamed_refused : Faithful m takes_two (calling (codes "g") []) (callee_events m takes_two) → ⊥
unfolding ℕ_discrete
misnamed_refused = stuck_refused takes_two (calling (codes "g") []) (callee_events m takes_two) (u32_value 5 ∷ u32_value 7 ∷ []) None refl refl refl tt refl

mistyped_refused : Faithful m takes_two (calling (codes "f") (WasmType.I32 ∷ [])) (callee_events m takes_two) → ⊥
unfolding ℕ_discrete
mistyped_refused = stuck_refused takes_two (calling (codes "f") (WasmType.I32 ∷ [])) (callee_events m takes_two) (u32_value 5 ∷ u32_value 7 ∷ []) None refl refl refl tt refl

byte_refused : Faithful m takes_byte byte_caller byte_callee → ⊥
unfolding ℕ_discrete
byte_refused = stuck_refused takes_byte byte_caller byte_callee (Value.number (BuiltinType.U8 false) (pos 5) ∷ []) None refl refl refl tt refl

at_length_refused : Faithful m reads (caller_events m reads) stores_at_length → ⊥
unfolding ℕ_discrete
at_length_refused = stuck_refused reads (caller_events m reads) stores_at_length (text_value ∷ []) (Some (Value.case_with 0 (u32_value 7))) refl refl refl tt refl

payload_alone_refused : Faithful m stores (caller_events m stores) payload_stored → ⊥
unfolding ℕ_discrete
payload_alone_refused = stuck_refused stores (caller_events m stores) payload_stored (text_value ∷ []) (Some (Value.case_with 0 (u32_value 7))) refl refl refl tt refl

in_order_refused : Faithful m gives_two (caller_events m gives_two) stores_in_order → ⊥
unfolding ℕ_discrete
in_order_refused = astray_refused gives_two (caller_events m gives_two) stores_in_order [] (Some (pair_value 1 2)) refl refl refl tt (pair_value 2 1 ∷ []) refl other
  where
    first : List Value → ℕ
    first (Value.case_with i (Value.tuple_values (Values.value_then (Value.number b (pos n)) vs)) ∷ us) = n
    first _ = 0

    other : pair_value 2 1 ∷ [] ≡ pair_value 1 2 ∷ [] → ⊥
    other e = let two : 2 ≡ 1 = ap first e in absurd (omega (arith, two))

-- the words themselves are the wrong ones
reversed_refused : Faithful m takes_two reversed_caller reversed_callee → ⊥
unfolding ℕ_discrete
reversed_refused h =
    let d = ends takes_two reversed_caller reversed_callee (u32_value 5 ∷ u32_value 7 ∷ []) None refl refl refl tt h in
    let words = ap (from_some []) (sym (reversed (numbers 1 12)) ∙ ap (option_map (λ o. o.call.words)) d.1) in
    let p = d.2.passes in
    let seven : 7 ≡ 5 = ap first (words ∙ p.2 ∙ ap (λ ws. ws ++ p.1) (ap (from_some []) (sym p.3))) in
    absurd (omega (arith, seven))
  where
    first : List Word → ℕ
    first [] = 0
    first (w ∷ ws) = w.bits
