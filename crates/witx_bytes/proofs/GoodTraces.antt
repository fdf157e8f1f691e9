-- The events of a function that fits its tags name types that fit theirs.
use Rattle.std.proofs.Common.{ℕ, ◌+◌, Bool, true, false, cond, Option, Some, None, is_some, List, [], ◌∷◌, ◌++◌, length, take}
use Rattle.witx_ast.specs.declared.function.Abi.{Abi}
use Rattle.witx_ast.specs.declared.types.BuiltinType.{BuiltinType}
use Rattle.witx_ast.specs.declared.types.IntRepr.{IntRepr}
use Rattle.witx_ast.specs.declared.types.RecordKind.{RecordKind}
use Rattle.witx_ast.specs.Tree.{Tree, Fields, Arms}
use Rattle.witx_ast.specs.Plain.{plain, plain_fields, plain_arms}
use Rattle.witx_ast.specs.Tags.{AllFieldsFit, AllArmsFit}
use Rattle.witx_machine.specs.declared.surface.WasmType.{WasmType}
use Rattle.witx_machine.specs.Events.{Step, Event, emit, finish}
use Rattle.witx_machine.specs.Rows.{row}
use Rattle.witx_machine.specs.Functions.{Function, has_payload, is_tuple, tuple_types, member_types, ok_of, err_of, result_cases}
use Rattle.witx_machine.specs.Signature.{param_words, or_alone, pointers_at, ok_pointers, pointers_by, pointers_of, pointers_under, return_pointers, words_of_params, signature_results}
use Rattle.witx_machine.specs.Traces.{lower_builtin, lift_builtin, lower_flags, lift_flags, lower_at, lift_at, lift_step, lower_params, get_args, lift_params, make_spaces, block_events, load_all, ok_lifted, err_lifted, lift_by, lift_under, lift_results, store_all, ok_lowered, err_lowered, lower_by, lower_under, lower_results, caller_events, callee_events}
use Rattle.witx_bytes.proofs.TakenFit.{Fit, IfGiven, GoodRow, AllGood, AllOf, good_both}

abbrev IfSome' : {A : Type 0} → (A → Type 0) → Option A → Type 0
IfSome' Q None = Unit {0}
IfSome' Q (Some x) = Q x

-- steps
either_row : (b : Bool) (x y : Step) → GoodRow (row x) → GoodRow (row y) → GoodRow (row (cond b x y))
either_row true x y h k = h
either_row false x y h k = k

lower_builtin_good : (b : BuiltinType) → GoodRow (row (lower_builtin b))
lower_builtin_good (BuiltinType.U8 c) = either_row c Step.I32FromChar8 Step.I32FromU8 tt tt
lower_builtin_good (BuiltinType.U32 p) = either_row p Step.I32FromUsize Step.I32FromU32 tt tt
lower_builtin_good b = tt

lift_builtin_good : (b : BuiltinType) → GoodRow (row (lift_builtin b))
lift_builtin_good (BuiltinType.U8 c) = either_row c Step.Char8FromI32 Step.U8FromI32 tt tt
lift_builtin_good (BuiltinType.U32 p) = either_row p Step.UsizeFromI32 Step.U32FromI32 tt tt
lift_builtin_good b = tt

lower_flags_good : (r : IntRepr) (t : Tree) → GoodRow (row (lower_flags r t))
lower_flags_good IntRepr.U8 t = tt
lower_flags_good IntRepr.U16 t = tt
lower_flags_good IntRepr.U32 t = tt
lower_flags_good IntRepr.U64 t = tt

lift_flags_good : (r : IntRepr) (t : Tree) → GoodRow (row (lift_flags r t))
lift_flags_good IntRepr.U8 t = tt
lift_flags_good IntRepr.U16 t = tt
lift_flags_good IntRepr.U32 t = tt
lift_flags_good IntRepr.U64 t = tt

lower_good : (whole t : Tree) → GoodRow (row (lower_at whole t))
lower_good whole (Tree.named n t d) = lower_good whole t
lower_good whole (Tree.builtin b) = lower_builtin_good b
lower_good whole Tree.handle = tt
lower_good whole (Tree.pointer_to t) = tt
lower_good whole (Tree.const_pointer_to t) = tt
lower_good whole (Tree.list_of t) = tt
lower_good whole (Tree.record_of (RecordKind.Bitflags r) ms) = lower_flags_good r whole
lower_good whole (Tree.record_of RecordKind.Tuple ms) = tt
lower_good whole (Tree.record_of RecordKind.Other ms) = tt
lower_good whole (Tree.variant_of r cs) = either_row (has_payload (plain_arms cs)) Step.AddrOf (Step.EnumLower whole) tt tt

lift_good : (whole t : Tree) → Fit whole → GoodRow (row (lift_at whole t))
lift_good whole (Tree.named n t d) h = lift_good whole t h
lift_good whole (Tree.builtin b) h = lift_builtin_good b
lift_good whole Tree.handle h = tt
lift_good whole (Tree.pointer_to t) h = tt
lift_good whole (Tree.const_pointer_to t) h = tt
lift_good whole (Tree.list_of t) h = tt
lift_good whole (Tree.record_of (RecordKind.Bitflags r) ms) h = lift_flags_good r whole
lift_good whole (Tree.record_of RecordKind.Tuple ms) h = h
lift_good whole (Tree.record_of RecordKind.Other ms) h = h
lift_good whole (Tree.variant_of r cs) h = either_row (has_payload (plain_arms cs)) (Step.Load whole) (Step.EnumLift whole) h tt

-- parameters and return pointers
lower_params_good : (i : ℕ) (ts : List Tree) → AllGood (lower_params i ts)
lower_params_good i [] = tt
lower_params_good i (t ∷ ts) = (tt, (lower_good t t, lower_params_good (i + 1) ts))

get_args_good : (w : ℕ) (ts : List WasmType) → AllGood (get_args w ts)
get_args_good w [] = tt
get_args_good w (t ∷ ts) = (tt, get_args_good (w + 1) ts)

lift_params_good : (w : ℕ) (ts : List Tree) → AllOf ts → AllGood (lift_params w ts)
lift_params_good w [] h = tt
lift_params_good w (t ∷ ts) h =
    good_both (get_args w (param_words (plain t))) (emit (lift_step t) ∷ lift_params (w + length (param_words (plain t))) ts) (get_args_good w (param_words (plain t)))
    (lift_good t t h.0, lift_params_good (w + length (param_words (plain t))) ts h.1)

make_spaces_good : (k : ℕ) (ts : List Tree) → AllOf ts → AllGood (make_spaces k ts)
make_spaces_good k [] h = tt
make_spaces_good k (t ∷ ts) h = (h.0, (tt, make_spaces_good (k + 1) ts h.1))

load_all_good : (k : ℕ) (ts : List Tree) → AllOf ts → AllGood (load_all k ts)
load_all_good k [] h = tt
load_all_good k (t ∷ ts) h = (tt, (h.0, load_all_good (k + 1) ts h.1))

store_all_good : (w : ℕ) (ts : List Tree) → AllGood (store_all w ts)
store_all_good w [] = tt
store_all_good w (t ∷ ts) = good_both (store_all (w + 1) ts) (emit (Step.GetArg w) ∷ emit (Step.Store t) ∷ []) (store_all_good (w + 1) ts) (tt, (tt, tt))

-- the parts of a type that fits
members_fit : (ms : Fields) → AllFieldsFit (plain_fields ms) → AllOf (member_types ms)
members_fit Fields.no_fields h = tt
members_fit (Fields.field n t d ms) h = (h.0, members_fit ms h.1)

tuple_fits : (t : Tree) → Fit t → IfSome' AllOf (tuple_types t)
tuple_fits (Tree.named n t d) h = tuple_fits t h
tuple_fits (Tree.record_of RecordKind.Tuple ms) h = members_fit ms h.1
tuple_fits (Tree.record_of RecordKind.Other ms) h = tt
tuple_fits (Tree.record_of (RecordKind.Bitflags r) ms) h = tt
tuple_fits _ h = tt

pointers_fit : (t : Tree) → Fit t → AllOf (pointers_at t)
pointers_fit t h = go (tuple_types t) (tuple_fits t h)
  where
    go : (o : Option (List Tree)) → IfSome' AllOf o → AllOf (or_alone t o)
    go None k = (h, tt)
    go (Some ts) k = k

ok_fits : (cs : Arms) → AllArmsFit (plain_arms cs) → IfGiven (ok_of cs)
ok_fits Arms.no_arms h = tt
ok_fits (Arms.bare n d cs) h = tt
ok_fits (Arms.carries n t d cs) h = h.0

err_fits : (cs : Arms) → AllArmsFit (plain_arms cs) → IfGiven (err_of cs)
err_fits Arms.no_arms h = tt
err_fits (Arms.bare n d cs) h = ok_fits cs h
err_fits (Arms.carries n t d cs) h = ok_fits cs h.1

abbrev CasesFit : Arms → Type 0
CasesFit cs = IfGiven (ok_of cs) × IfGiven (err_of cs)

cases_fit : (t : Tree) → Fit t → IfSome' CasesFit (result_cases t)
cases_fit (Tree.named n t d) h = cases_fit t h
cases_fit (Tree.variant_of r cs) h = go (has_payload (plain_arms cs))
  where
    go : (b : Bool) → IfSome' CasesFit (cond b (Some cs) None)
    go true = (ok_fits cs h.1, err_fits cs h.1)
    go false = tt
cases_fit _ h = tt

-- results
one_good : (b : Bool) (x : Step) → GoodRow (row x) → AllGood (cond b (emit x ∷ []) [])
one_good true x h = (h, tt)
one_good false x h = tt

block_good : (es : List Event) (v : Bool) → AllGood es → AllGood (block_events es v)
block_good es v h = (tt, good_both es (finish v ∷ []) h (tt, tt))

ok_lifted_good : (ok : Option Tree) → IfGiven ok → AllGood (ok_lifted ok)
ok_lifted_good None h = tt
ok_lifted_good (Some t) h =
    good_both (load_all 0 (pointers_at t)) (cond (is_tuple t) (emit (Step.TupleLift (length (pointers_at t))) ∷ []) []) (load_all_good 0 (pointers_at t) (pointers_fit t h)) (one_good (is_tuple t) (Step.TupleLift (length (pointers_at t))) tt)

err_lifted_good : (err : Option Tree) → IfGiven err → AllGood (err_lifted err)
err_lifted_good None h = tt
err_lifted_good (Some t) h = (tt, (lift_good t t h, tt))

lift_by_good : (o : Option Arms) (t : Tree) → Fit t → IfSome' CasesFit o → AllGood (lift_by o t)
lift_by_good None t h k = (lift_good t t h, tt)
lift_by_good (Some cs) t h k =
    good_both (block_events (ok_lifted (ok_of cs)) (is_some (ok_of cs))) (block_events (err_lifted (err_of cs)) (is_some (err_of cs)) ++ emit Step.ResultLift ∷ []) (block_good (ok_lifted (ok_of cs)) (is_some (ok_of cs)) (ok_lifted_good (ok_of cs) k.0))
    (good_both (block_events (err_lifted (err_of cs)) (is_some (err_of cs))) (emit Step.ResultLift ∷ []) (block_good (err_lifted (err_of cs)) (is_some (err_of cs)) (err_lifted_good (err_of cs) k.1)) (tt, tt))

first_fits : (ts : List Tree) → AllOf ts → AllOf (take 1 ts)
first_fits [] h = tt
first_fits (t ∷ ts) h = (h.0, tt)

lift_results_good : (abi : Abi) (ts : List Tree) → AllOf ts → AllGood (lift_under abi ts)
lift_results_good Abi.Preview1 [] h = tt
lift_results_good Abi.Preview1 (t ∷ ts) h = lift_by_good (result_cases t) t h.0 (cases_fit t h.0)
lift_results_good Abi.Stored ts h = load_all_good 0 (take 1 ts) (first_fits ts h)

ok_lowered_good : (w : ℕ) (ok : Option Tree) → AllGood (ok_lowered w ok)
ok_lowered_good w None = tt
ok_lowered_good w (Some t) =
    (tt, good_both (cond (is_tuple t) (emit (Step.TupleLower (length (pointers_at t))) ∷ []) []) (store_all w (pointers_at t)) (one_good (is_tuple t) (Step.TupleLower (length (pointers_at t))) tt) (store_all_good w (pointers_at t)))

err_lowered_good : (err : Option Tree) → AllGood (err_lowered err)
err_lowered_good None = tt
err_lowered_good (Some t) = (tt, (lower_good t t, tt))

lower_by_good : (o : Option Arms) (w : ℕ) (t : Tree) → IfSome' CasesFit o → AllGood (lower_by o w t)
lower_by_good None w t k = (lower_good t t, tt)
lower_by_good (Some cs) w t k =
    good_both (block_events (ok_lowered w (ok_of cs)) false) (block_events (err_lowered (err_of cs)) (is_some (err_of cs)) ++ emit (Step.ResultLower (ok_of cs) (err_of cs)) ∷ []) (block_good (ok_lowered w (ok_of cs)) false (ok_lowered_good w (ok_of cs)))
    (good_both (block_events (err_lowered (err_of cs)) (is_some (err_of cs))) (emit (Step.ResultLower (ok_of cs) (err_of cs)) ∷ []) (block_good (err_lowered (err_of cs)) (is_some (err_of cs)) (err_lowered_good (err_of cs))) (k, tt))

lower_results_good : (abi : Abi) (w : ℕ) (ts : List Tree) → AllOf ts → AllGood (lower_under abi w ts)
lower_results_good Abi.Preview1 w [] h = tt
lower_results_good Abi.Preview1 w (t ∷ ts) h = lower_by_good (result_cases t) w t (cases_fit t h.0)
lower_results_good Abi.Stored w ts h = store_all_good w (take 1 ts)

-- return pointers
all_both : (ts us : List Tree) → AllOf ts → AllOf us → AllOf (ts ++ us)
all_both [] us h k = k
all_both (t ∷ ts) us h k = (h.0, all_both ts us h.1 k)

by_fit : (o : Option Arms) → IfSome' CasesFit o → AllOf (pointers_by o)
by_fit None k = tt
by_fit (Some cs) k = go (ok_of cs) k.0
  where
    go : (ok : Option Tree) → IfGiven ok → AllOf (ok_pointers ok)
    go None h = tt
    go (Some t) h = pointers_fit t h

pointers_of_fit : (ts : List Tree) → AllOf ts → AllOf (pointers_of ts)
pointers_of_fit [] h = tt
pointers_of_fit (t ∷ ts) h = all_both (pointers_by (result_cases t)) (pointers_of ts) (by_fit (result_cases t) (cases_fit t h.0)) (pointers_of_fit ts h.1)

return_pointers_fit : (abi : Abi) (ts : List Tree) → AllOf ts → AllOf (pointers_under abi ts)
return_pointers_fit Abi.Preview1 ts h = pointers_of_fit ts h
return_pointers_fit Abi.Stored ts h = first_fits ts h

-- THE TRACES
pub caller_good : (m : List ℕ) (f : Function) → AllOf f.results → AllGood (caller_events m f)
caller_good m f h =
    good_both (lower_params 0 f.params) _ (lower_params_good 0 f.params)
    (good_both (make_spaces 0 (return_pointers f)) _ (make_spaces_good 0 (return_pointers f) (return_pointers_fit f.abi f.results h))
    (tt, good_both (lift_results f) (emit (Step.Return (length f.results)) ∷ []) (lift_results_good f.abi f.results h) (tt, tt)))

pub callee_good : (m : List ℕ) (f : Function) → AllOf f.params → AllOf f.results → AllGood (callee_events m f)
callee_good m f h k =
    good_both (lift_params 0 f.params) _ (lift_params_good 0 f.params h)
    (tt, good_both (lower_results f) (emit (Step.Return (length (signature_results f))) ∷ []) (lower_results_good f.abi (length (words_of_params f.params)) f.results k) (tt, tt))
