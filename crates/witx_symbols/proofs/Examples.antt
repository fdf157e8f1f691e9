-- Worked functions and traces, computed: those that get a yes, and the doubts of wrong ones.
use Rattle.std.specs.Prelude.{◌≡◌, refl, ℕ, zero, suc, List, [], ◌∷◌, ◌++◌, Option, Some, None, true, false, codes, Bool}
use native.Mathlib.Decide.{ℕ_discrete}
use Rattle.witx_base.specs.Texts.{same_text}
use Rattle.witx_ast.specs.declared.function.Abi.{Abi}
use Rattle.witx_ast.specs.declared.types.BuiltinType.{BuiltinType}
use Rattle.witx_ast.specs.declared.types.IntRepr.{IntRepr}
use Rattle.witx_ast.specs.declared.types.RecordKind.{RecordKind}
use Rattle.witx_ast.specs.Tree.{Tree, Fields, Arms, arm}
use Rattle.witx_machine.specs.declared.surface.WasmType.{WasmType}
use Rattle.witx_machine.specs.declared.surface.Place.{Place}
use Rattle.witx_machine.specs.Events.{Step, Event, emit, space, push, finish}
use Rattle.witx_machine.specs.Functions.{Function}
use Rattle.witx_machine.specs.Traces.{caller_events, callee_events}
use Rattle.witx_symbols.specs.declared.surface.Doubt.{Doubt}
use Rattle.witx_symbols.specs.Verdicts.{doubt}

abbrev called_type : List ℕ → Tree → Tree
called_type name t = Tree.named name t []

abbrev number_type : Tree
number_type = Tree.builtin (BuiltinType.U32 false)

abbrev function : List Tree → List Tree → Function
function params results = record { abi = Abi.Preview1; name = codes "f"; params = params; results = results }

abbrev stored_function : List Tree → Function
stored_function results = record { abi = Abi.Stored; name = codes "f"; params = []; results = results }

abbrev m : List ℕ
m = codes "m"

abbrev own : Function → Option Doubt
own f = doubt m f (caller_events m f) (callee_events m f)

-- two builtins and a result
abbrev adds : Function
adds = function (number_type ∷ Tree.builtin BuiltinType.U64 ∷ []) (number_type ∷ [])

adds_yes : own adds ≡ None
unfolding ℕ_discrete same_text
adds_yes = refl

-- without the second lifting
missing_lift : doubt m adds (caller_events m adds) (emit (Step.GetArg 0) ∷ emit Step.U32FromI32 ∷ emit (Step.GetArg 1) ∷ emit (Step.CallInterface m (codes "f") adds.params adds.results) ∷ emit Step.I32FromU32 ∷ emit (Step.Return 1) ∷ []) ≡ Some (Doubt.Callee 3)
unfolding ℕ_discrete same_text
missing_lift = refl

-- a trace that doesn't return, and an event after the return
no_return : doubt m adds (emit (Step.GetArg 0) ∷ []) (callee_events m adds) ≡ Some (Doubt.Caller 1)
no_return = refl

return_early : doubt m adds (caller_events m adds ++ emit (Step.GetArg 0) ∷ []) (callee_events m adds) ≡ Some (Doubt.Caller 6)
unfolding ℕ_discrete same_text
return_early = refl

-- two of one type, exchanged in both traces; then in the callee's alone
abbrev two : Function
two = function (number_type ∷ number_type ∷ []) []

abbrev exchanged_callee : List Event
exchanged_callee = emit (Step.GetArg 1) ∷ emit Step.U32FromI32 ∷ emit (Step.GetArg 0) ∷ emit Step.U32FromI32 ∷ emit (Step.CallInterface m (codes "f") two.params []) ∷ emit (Step.Return 0) ∷ []

exchanged : doubt m two (emit (Step.GetArg 1) ∷ emit Step.I32FromU32 ∷ emit (Step.GetArg 0) ∷ emit Step.I32FromU32 ∷ emit (Step.CallWasm m (codes "f") (WasmType.I32 ∷ WasmType.I32 ∷ []) []) ∷ emit (Step.Return 0) ∷ []) exchanged_callee ≡ Some Doubt.Passes
unfolding ℕ_discrete same_text
exchanged = refl

noted_wrongly : doubt m two (caller_events m two) exchanged_callee ≡ Some Doubt.Notes
unfolding ℕ_discrete same_text
noted_wrongly = refl

-- a text in, a number or an error back; the error whose word is 0 is excepted
abbrev number_name : Tree
number_name = called_type (codes "n") number_type

abbrev error_name : Tree
error_name = called_type (codes "e") (Tree.variant_of IntRepr.U32 (Arms.bare (codes "a") [] (Arms.bare (codes "b") [] Arms.no_arms)))

abbrev expected : Option Tree → Option Tree → Tree
expected ok err = Tree.variant_of IntRepr.U32 (arm (codes "ok") ok [] (arm (codes "err") err [] Arms.no_arms))

abbrev reads : Function
reads = function (Tree.list_of (Tree.builtin BuiltinType.Char) ∷ []) (expected (Some number_name) (Some error_name) ∷ [])

reads_yes : own reads ≡ None
unfolding ℕ_discrete same_text
reads_yes = refl

abbrev only_error : Function
only_error = function [] (expected None (Some error_name) ∷ [])

only_error_yes : own only_error ≡ None
unfolding ℕ_discrete same_text
only_error_yes = refl

-- a tuple of two back, also with both spaces made first
abbrev pair_type : Tree
pair_type = Tree.record_of RecordKind.Tuple (Fields.field (codes "0") number_name [] (Fields.field (codes "1") number_name [] Fields.no_fields))

abbrev gives_two : Function
gives_two = function [] (expected (Some pair_type) (Some error_name) ∷ [])

gives_two_yes : own gives_two ≡ None
unfolding ℕ_discrete same_text
gives_two_yes = refl

abbrev spaces_first : List Event
spaces_first =
    space 0 number_name ∷ space 1 number_name ∷ emit (Step.ReturnPointerGet 0) ∷ emit (Step.ReturnPointerGet 1) ∷ emit (Step.CallWasm m (codes "f") (WasmType.I32 ∷ WasmType.I32 ∷ []) (WasmType.I32 ∷ []))
    ∷ push ∷ emit (Step.ReturnPointerGet 0) ∷ emit (Step.Load number_name) ∷ emit (Step.ReturnPointerGet 1) ∷ emit (Step.Load number_name) ∷ emit (Step.TupleLift 2) ∷ finish true
    ∷ push ∷ emit Step.ReuseReturn ∷ emit (Step.EnumLift error_name) ∷ finish true ∷ emit Step.ResultLift ∷ emit (Step.Return 1) ∷ []

spaces_first_yes : doubt m gives_two spaces_first (callee_events m gives_two) ≡ None
unfolding ℕ_discrete same_text
spaces_first_yes = refl

-- what the callee makes of the tuple
abbrev stores : Bool → List Event → List Event → List Event
stores v ok err =
    emit (Step.CallInterface m (codes "f") [] gives_two.results) ∷ push ∷ emit Step.VariantPayload ∷ emit (Step.TupleLower 2) ∷ (ok ++ finish v ∷ push ∷ emit Step.VariantPayload ∷ (err ++ finish true ∷ emit (Step.ResultLower (Some pair_type) (Some error_name)) ∷ emit (Step.Return 1) ∷ []))

abbrev store_at : ℕ → ℕ → List Event
store_at a b = emit (Step.GetArg a) ∷ emit (Step.Store number_name) ∷ emit (Step.GetArg b) ∷ emit (Step.Store number_name) ∷ []

abbrev error_word : List Event
error_word = emit (Step.EnumLower error_name) ∷ []

last_first : doubt m gives_two (caller_events m gives_two) (stores false (store_at 1 0) error_word) ≡ None
unfolding ℕ_discrete same_text
last_first = refl

-- the members exchanged; both through one pointer, so that nothing can be loaded at the other; a pointer too far
exchanged_members : doubt m gives_two (caller_events m gives_two) (stores false (store_at 0 1) error_word) ≡ Some Doubt.Returns
unfolding ℕ_discrete same_text
exchanged_members = refl

stored_twice : doubt m gives_two (caller_events m gives_two) (stores false (store_at 1 1) error_word) ≡ Some (Doubt.Caller 7)
unfolding ℕ_discrete same_text
stored_twice = refl

too_far : doubt m gives_two (caller_events m gives_two) (stores false (store_at 1 2) error_word) ≡ Some (Doubt.Callee 6)
unfolding ℕ_discrete same_text
too_far = refl

-- a block that leaves nothing where its end has a value; one that leaves a value where a word is wanted, in the error's world
left_nothing : doubt m gives_two (caller_events m gives_two) (stores true (store_at 1 0) error_word) ≡ Some (Doubt.Callee 8)
unfolding ℕ_discrete same_text
left_nothing = refl

left_value : doubt m gives_two (caller_events m gives_two) (stores false (store_at 1 0) []) ≡ Some (Doubt.Callee 12)
unfolding ℕ_discrete same_text
left_value = refl

-- the caller hands back the tuple's members exchanged
wrong_reply : doubt m gives_two (space 0 number_name ∷ space 1 number_name ∷ emit (Step.ReturnPointerGet 0) ∷ emit (Step.ReturnPointerGet 1) ∷ emit (Step.CallWasm m (codes "f") (WasmType.I32 ∷ WasmType.I32 ∷ []) (WasmType.I32 ∷ []))
    ∷ push ∷ emit (Step.ReturnPointerGet 1) ∷ emit (Step.Load number_name) ∷ emit (Step.ReturnPointerGet 0) ∷ emit (Step.Load number_name) ∷ emit (Step.TupleLift 2) ∷ finish true
    ∷ push ∷ emit Step.ReuseReturn ∷ emit (Step.EnumLift error_name) ∷ finish true ∷ emit Step.ResultLift ∷ emit (Step.Return 1) ∷ []) (callee_events m gives_two) ≡ Some Doubt.Reply
unfolding ℕ_discrete same_text
wrong_reply = refl

-- a record by address
abbrev record_name : Tree
record_name = called_type (codes "r") (Tree.record_of RecordKind.Other (Fields.field (codes "a") (Tree.builtin (BuiltinType.U8 false)) [] Fields.no_fields))

by_address_yes : own (function (record_name ∷ []) []) ≡ None
unfolding ℕ_discrete same_text
by_address_yes = refl

-- functions that can't be lowered, or don't fit their tags
unnamed : doubt m (function (number_type ∷ pair_type ∷ []) []) [] [] ≡ Some (Doubt.Function (Place.Param 1))
unnamed = refl

abbrev members : ℕ → Fields
members zero = Fields.no_fields
members (suc n) = Fields.field (codes "x") (Tree.builtin (BuiltinType.U8 false)) [] (members n)

abbrev wide_flags : Tree
wide_flags = called_type (codes "w") (Tree.record_of (RecordKind.Bitflags IntRepr.U8) (members 9))

too_wide : doubt m (function (number_type ∷ []) (wide_flags ∷ [])) [] [] ≡ Some (Doubt.Function (Place.Result 0))
too_wide = refl

-- a return pointer made for a type that is alike to the named one
abbrev other_name : Tree
other_name = called_type (codes "o") number_type

other_space : doubt m reads (
    emit (Step.GetArg 0) ∷ emit Step.ListPointerLength ∷ space 0 other_name ∷ emit (Step.ReturnPointerGet 0) ∷ emit (Step.CallWasm m (codes "f") (WasmType.I32 ∷ WasmType.I32 ∷ WasmType.I32 ∷ []) (WasmType.I32 ∷ []))
    ∷ push ∷ emit (Step.ReturnPointerGet 0) ∷ emit (Step.Load number_name) ∷ finish true
    ∷ push ∷ emit Step.ReuseReturn ∷ emit (Step.EnumLift error_name) ∷ finish true ∷ emit Step.ResultLift ∷ emit (Step.Return 1) ∷ []) (callee_events m reads) ≡ Some Doubt.Passes
unfolding ℕ_discrete same_text
other_space = refl

-- stored whole: a result with an error, and one with a third case
abbrev stored_pair : Tree
stored_pair = called_type (codes "r") (expected (Some number_name) (Some error_name))

abbrev stored_three : Tree
stored_three = called_type (codes "r") (Tree.variant_of IntRepr.U32 (arm (codes "a") (Some number_name) [] (arm (codes "b") (Some number_name) [] (arm (codes "c") (Some number_name) [] Arms.no_arms))))

abbrev stored_two : Tree
stored_two = called_type (codes "r") (expected (Some number_name) (Some number_name))

stored_yes : own (stored_function (stored_pair ∷ [])) ≡ None
unfolding ℕ_discrete same_text
stored_yes = refl

three_yes : own (stored_function (stored_three ∷ [])) ≡ None
unfolding ℕ_discrete same_text
three_yes = refl

-- the payload alone where the whole result belongs
payload_stored : doubt m (stored_function (stored_two ∷ [])) (caller_events m (stored_function (stored_two ∷ []))) (
    emit (Step.CallInterface m (codes "f") [] (stored_two ∷ [])) ∷ push ∷ emit Step.VariantPayload ∷ emit (Step.GetArg 0) ∷ emit (Step.Store number_name) ∷ finish false
    ∷ push ∷ finish false ∷ emit (Step.ResultLower (Some number_name) (Some number_name)) ∷ emit (Step.Return 0) ∷ []) ≡ Some (Doubt.Callee 4)
unfolding ℕ_discrete same_text
payload_stored = refl

-- a callee that takes the reply apart and puts it together again: fine where there are two cases, no rule where the reply is a third one
abbrev case_kept : List Event → List Event
case_kept more = push ∷ emit Step.VariantPayload ∷ emit (Step.ReturnPointerGet 0) ∷ emit (Step.Store number_name) ∷ finish false ∷ more

abbrev case_made : List Event → List Event
case_made more = push ∷ emit (Step.ReturnPointerGet 0) ∷ emit (Step.Load number_name) ∷ finish true ∷ more

abbrev made_again : Tree → List Event
made_again t =
    emit (Step.CallInterface m (codes "f") [] (t ∷ [])) ∷ space 0 number_name
    ∷ case_kept (case_kept (emit (Step.ResultLower (Some number_name) (Some number_name))
    ∷ case_made (case_made (emit Step.ResultLift ∷ emit (Step.GetArg 0) ∷ emit (Step.Store t) ∷ emit (Step.Return 0) ∷ []))))

again_yes : doubt m (stored_function (stored_two ∷ [])) (caller_events m (stored_function (stored_two ∷ []))) (made_again stored_two) ≡ None
unfolding ℕ_discrete same_text
again_yes = refl

again_later : doubt m (stored_function (stored_three ∷ [])) (caller_events m (stored_function (stored_three ∷ []))) (made_again stored_three) ≡ Some (Doubt.Callee 12)
unfolding ℕ_discrete same_text
again_later = refl
