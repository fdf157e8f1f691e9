-- The events that the two sides of a call make for a function: the caller's and the callee's.
-- The caller lowers its arguments, makes a space for each return pointer, calls, and lifts the result.
-- The callee lifts its words, calls the interface's function, and lowers the result.
use Rattle.std.specs.Prelude.{ℕ, ◌+◌, List, [], ◌∷◌, ◌++◌, take, length, Bool, false, cond, Option, Some, None, is_some}
use Rattle.witx_ast.specs.declared.function.Abi.{Abi}
use Rattle.witx_ast.specs.declared.types.BuiltinType.{BuiltinType}
use Rattle.witx_ast.specs.declared.types.IntRepr.{IntRepr}
use Rattle.witx_ast.specs.declared.types.RecordKind.{RecordKind}
use Rattle.witx_ast.specs.Tree.{Tree, Arms}
use Rattle.witx_ast.specs.Plain.{plain, plain_arms}
use Rattle.witx_machine.specs.declared.surface.WasmType.{WasmType}
use Rattle.witx_machine.specs.Events.{Step, Event, emit, space, push, finish}
use Rattle.witx_machine.specs.Functions.{Function, is_tuple, has_payload, ok_of, err_of, result_cases}
use Rattle.witx_machine.specs.Signature.{param_words, words_of_params, pointers_at, return_pointers, signature_params, signature_results}

abbrev pub lower_builtin : BuiltinType → Step
lower_builtin BuiltinType.Char = Step.I32FromChar
lower_builtin (BuiltinType.U8 c) = cond c Step.I32FromChar8 Step.I32FromU8
lower_builtin BuiltinType.U16 = Step.I32FromU16
lower_builtin (BuiltinType.U32 p) = cond p Step.I32FromUsize Step.I32FromU32
lower_builtin BuiltinType.U64 = Step.I64FromU64
lower_builtin BuiltinType.S8 = Step.I32FromS8
lower_builtin BuiltinType.S16 = Step.I32FromS16
lower_builtin BuiltinType.S32 = Step.I32FromS32
lower_builtin BuiltinType.S64 = Step.I64FromS64
lower_builtin BuiltinType.F32 = Step.F32FromIf32
lower_builtin BuiltinType.F64 = Step.F64FromIf64

abbrev pub lift_builtin : BuiltinType → Step
lift_builtin BuiltinType.Char = Step.CharFromI32
lift_builtin (BuiltinType.U8 c) = cond c Step.Char8FromI32 Step.U8FromI32
lift_builtin BuiltinType.U16 = Step.U16FromI32
lift_builtin (BuiltinType.U32 p) = cond p Step.UsizeFromI32 Step.U32FromI32
lift_builtin BuiltinType.U64 = Step.U64FromI64
lift_builtin BuiltinType.S8 = Step.S8FromI32
lift_builtin BuiltinType.S16 = Step.S16FromI32
lift_builtin BuiltinType.S32 = Step.S32FromI32
lift_builtin BuiltinType.S64 = Step.S64FromI64
lift_builtin BuiltinType.F32 = Step.If32FromF32
lift_builtin BuiltinType.F64 = Step.If64FromF64

abbrev pub lower_flags : IntRepr → Tree → Step
lower_flags IntRepr.U64 t = Step.I64FromBitflags t
lower_flags _ t = Step.I32FromBitflags t

abbrev pub lift_flags : IntRepr → Tree → Step
lift_flags IntRepr.U64 t = Step.BitflagsFromI64 t
lift_flags _ t = Step.BitflagsFromI32 t

-- whole: the type as it is written; then what is left of it when names are looked through
abbrev pub lower_at : Tree → Tree → Step
lower_at whole (Tree.named n t d) = lower_at whole t
lower_at whole (Tree.builtin b) = lower_builtin b
lower_at whole Tree.handle = Step.I32FromHandle whole
lower_at whole (Tree.pointer_to t) = Step.I32FromPointer
lower_at whole (Tree.const_pointer_to t) = Step.I32FromConstPointer
lower_at whole (Tree.list_of t) = Step.ListPointerLength
lower_at whole (Tree.record_of (RecordKind.Bitflags r) ms) = lower_flags r whole
lower_at whole (Tree.record_of RecordKind.Tuple ms) = Step.AddrOf
lower_at whole (Tree.record_of RecordKind.Other ms) = Step.AddrOf
lower_at whole (Tree.variant_of r cs) = cond (has_payload (plain_arms cs)) Step.AddrOf (Step.EnumLower whole)

abbrev pub lift_at : Tree → Tree → Step
lift_at whole (Tree.named n t d) = lift_at whole t
lift_at whole (Tree.builtin b) = lift_builtin b
lift_at whole Tree.handle = Step.HandleFromI32 whole
lift_at whole (Tree.pointer_to t) = Step.PointerFromI32 t
lift_at whole (Tree.const_pointer_to t) = Step.ConstPointerFromI32 t
lift_at whole (Tree.list_of t) = Step.ListFromPointerLength t
lift_at whole (Tree.record_of (RecordKind.Bitflags r) ms) = lift_flags r whole
lift_at whole (Tree.record_of RecordKind.Tuple ms) = Step.Load whole
lift_at whole (Tree.record_of RecordKind.Other ms) = Step.Load whole
lift_at whole (Tree.variant_of r cs) = cond (has_payload (plain_arms cs)) (Step.Load whole) (Step.EnumLift whole)

abbrev pub lower_step : Tree → Step
lower_step t = lower_at t t

abbrev pub lift_step : Tree → Step
lift_step t = lift_at t t

-- the caller: its parameters from the i-th on
abbrev pub lower_params : ℕ → List Tree → List Event
lower_params i [] = []
lower_params i (t ∷ ts) = emit (Step.GetArg i) ∷ emit (lower_step t) ∷ lower_params (i + 1) ts

-- a get_arg for each word from the w-th on
abbrev pub get_args : ℕ → List WasmType → List Event
get_args w [] = []
get_args w (t ∷ ts) = emit (Step.GetArg w) ∷ get_args (w + 1) ts

-- the callee: the parameters whose words begin at the w-th
abbrev pub lift_params : ℕ → List Tree → List Event
lift_params w [] = []
lift_params w (t ∷ ts) =
    get_args w (param_words (plain t)) ++ (emit (lift_step t) ∷ lift_params (w + length (param_words (plain t))) ts)

abbrev pub make_spaces : ℕ → List Tree → List Event
make_spaces k [] = []
make_spaces k (t ∷ ts) = space k t ∷ emit (Step.ReturnPointerGet k) ∷ make_spaces (k + 1) ts

abbrev pub block_events : List Event → Bool → List Event
block_events es v = push ∷ (es ++ finish v ∷ [])

-- lifting a result: the caller's side
abbrev pub load_all : ℕ → List Tree → List Event
load_all k [] = []
load_all k (t ∷ ts) = emit (Step.ReturnPointerGet k) ∷ emit (Step.Load t) ∷ load_all (k + 1) ts

abbrev pub ok_lifted : Option Tree → List Event
ok_lifted None = []
ok_lifted (Some t) =
    load_all 0 (pointers_at t) ++ cond (is_tuple t) (emit (Step.TupleLift (length (pointers_at t))) ∷ []) []

abbrev pub err_lifted : Option Tree → List Event
err_lifted None = []
err_lifted (Some t) = emit Step.ReuseReturn ∷ emit (lift_step t) ∷ []

abbrev pub lift_cases : Option Tree → Option Tree → List Event
lift_cases ok err =
    block_events (ok_lifted ok) (is_some ok) ++ (block_events (err_lifted err) (is_some err) ++ emit Step.ResultLift ∷ [])

abbrev pub lift_by : Option Arms → Tree → List Event
lift_by None t = emit (lift_step t) ∷ []
lift_by (Some cs) t = lift_cases (ok_of cs) (err_of cs)

-- a function that can be lowered has at most one result
abbrev pub lift_of : List Tree → List Event
lift_of [] = []
lift_of (t ∷ ts) = lift_by (result_cases t) t

-- stored whole, it is loaded through the one pointer
abbrev pub lift_under : Abi → List Tree → List Event
lift_under Abi.Preview1 results = lift_of results
lift_under Abi.Stored results = load_all 0 (take 1 results)

abbrev pub lift_results : Function → List Event
lift_results f = lift_under f.abi f.results

-- lowering a result: the callee's side. It stores by the last pointer first; w: the number of the first pointer's word
abbrev pub store_all : ℕ → List Tree → List Event
store_all w [] = []
store_all w (t ∷ ts) = store_all (w + 1) ts ++ (emit (Step.GetArg w) ∷ emit (Step.Store t) ∷ [])

abbrev pub ok_lowered : ℕ → Option Tree → List Event
ok_lowered w None = []
ok_lowered w (Some t) =
    emit Step.VariantPayload ∷ (cond (is_tuple t) (emit (Step.TupleLower (length (pointers_at t))) ∷ []) [] ++ store_all w (pointers_at t))

abbrev pub err_lowered : Option Tree → List Event
err_lowered None = []
err_lowered (Some t) = emit Step.VariantPayload ∷ emit (lower_step t) ∷ []

abbrev pub lower_cases : Option Tree → Option Tree → ℕ → List Event
lower_cases ok err w =
    block_events (ok_lowered w ok) false ++ (block_events (err_lowered err) (is_some err) ++ emit (Step.ResultLower ok err) ∷ [])

abbrev pub lower_by : Option Arms → ℕ → Tree → List Event
lower_by None w t = emit (lower_step t) ∷ []
lower_by (Some cs) w t = lower_cases (ok_of cs) (err_of cs) w

abbrev pub lower_of : ℕ → List Tree → List Event
lower_of w [] = []
lower_of w (t ∷ ts) = lower_by (result_cases t) w t

abbrev pub lower_under : Abi → ℕ → List Tree → List Event
lower_under Abi.Preview1 w results = lower_of w results
lower_under Abi.Stored w results = store_all w (take 1 results)

abbrev pub lower_results : Function → List Event
lower_results f = lower_under f.abi (length (words_of_params f.params)) f.results

-- THE CALLER'S EVENTS, for a function of the module m
abbrev pub caller_events : List ℕ → Function → List Event
caller_events m f =
    lower_params 0 f.params
    ++ (make_spaces 0 (return_pointers f)
    ++ (emit (Step.CallWasm m f.name (signature_params f) (signature_results f))
    ∷ (lift_results f ++ emit (Step.Return (length f.results)) ∷ [])))

-- THE CALLEE'S EVENTS
abbrev pub callee_events : List ℕ → Function → List Event
callee_events m f =
    lift_params 0 f.params
    ++ (emit (Step.CallInterface m f.name f.params f.results)
    ∷ (lower_results f ++ emit (Step.Return (length (signature_results f))) ∷ []))
