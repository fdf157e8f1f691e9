-- The events of a function's two sides: each of their types stands for something, where the function's do.
use Rattle.std.proofs.Common.{◌≡◌, ℕ, suc, ◌+◌, ◌≤◌, List, [], ◌∷◌, ◌++◌, length, Bool, true, false, cond, Option, Some, None, arith, lit<, length-append}
use Rattle.std.specs.Prelude.{⊤, is_some}
use Rattle.std.specs.List.{AllByRecursion}
use Rattle.std.specs.Str.{IsUtf8}
use Rattle.witx_ast.specs.declared.function.Abi.{Abi}
use Rattle.witx_ast.specs.declared.types.BuiltinType.{BuiltinType}
use Rattle.witx_ast.specs.declared.types.IntRepr.{IntRepr}
use Rattle.witx_ast.specs.declared.types.RecordKind.{RecordKind}
use Rattle.witx_ast.specs.Tree.{Tree}
use Rattle.witx_ast.specs.Plain.{Plain, plain, plain_arms}
use Rattle.witx_machine.specs.declared.surface.WasmType.{WasmType}
use Rattle.witx_machine.specs.Events.{Step, Event, emit, finish}
use Rattle.witx_machine.specs.Functions.{Function, has_payload, is_tuple}
use Rattle.witx_machine.specs.Signature.{ok_pointers, param_words, pointers_at, pointers_under, return_pointers, signature_params, signature_results, words_back, words_of_params}
use Rattle.witx_machine.specs.Lowerable.{can_be_param, can_be_err}
use Rattle.witx_machine.specs.Traces.{block_events, callee_events, caller_events, err_lifted, err_lowered, get_args, lift_at, lift_cases, lift_params, lift_results, lift_step, lift_under, load_all, lower_at, lower_builtin, lift_builtin, lower_cases, lower_params, lower_results, lower_step, lower_under, make_spaces, ok_lifted, ok_lowered, store_all}
use Rattle.witx_instructions.proofs.Sides.{err-param}
use Rattle.witx_traces.specs.Traces.{EndsBeforeError, IsWord, Types, shown as shown_in, target}
use Rattle.witx_traces.specs.LineParts.{parts}
use Rattle.witx_traces.proofs.ReadBackParts.{CanTell, PayloadStands, Stands, Tells}

-- ---- lists of events

tells-both : (types : Types) (es fs : List Event) → Tells types es → Tells types fs → Tells types (es ++ fs)
tells-both types [] fs g h = h
tells-both types (e ∷ es) fs g h = (g.0, tells-both types es fs g.1 h)

tells-if : (types : Types) (b : Bool) (e : Event) → CanTell types (parts e) → Tells types (cond b (e ∷ []) [])
tells-if types true e h = (h, tt)
tells-if types false e h = tt

block-tells : (types : Types) (es : List Event) (v : Bool) → Tells types es → Tells types (block_events es v)
block-tells types es v h = (tt, tells-both types es (finish v ∷ []) h (tt, tt))

less-word : (m n : ℕ) → m ≤ n → IsWord n → IsWord m
less-word m n l h = omega (arith, l, h)

-- ---- what is asked of a type

-- a named type stands for one
abbrev pub NameStands : Types → Tree → Type 0
NameStands types (Tree.named n t d) = Stands types.typename (Tree.named n t d)
NameStands types _ = ⊤

-- and so does what a list or a pointer is of
abbrev pub Readable : Types → Tree → Type 0
Readable types t = NameStands types t × AllByRecursion (Stands (shown_in types)) (target t)

abbrev StepTells : Types → Step → Type 0
StepTells types x = CanTell types (parts (emit x))

builtin-tells : (types : Types) (b : BuiltinType) → StepTells types (lower_builtin b) × StepTells types (lift_builtin b)
builtin-tells types BuiltinType.Char = (tt, tt)
builtin-tells types (BuiltinType.U8 true) = (tt, tt)
builtin-tells types (BuiltinType.U8 false) = (tt, tt)
builtin-tells types BuiltinType.U16 = (tt, tt)
builtin-tells types (BuiltinType.U32 true) = (tt, tt)
builtin-tells types (BuiltinType.U32 false) = (tt, tt)
builtin-tells types BuiltinType.U64 = (tt, tt)
builtin-tells types BuiltinType.S8 = (tt, tt)
builtin-tells types BuiltinType.S16 = (tt, tt)
builtin-tells types BuiltinType.S32 = (tt, tt)
builtin-tells types BuiltinType.S64 = (tt, tt)
builtin-tells types BuiltinType.F32 = (tt, tt)
builtin-tells types BuiltinType.F64 = (tt, tt)

step-if : (types : Types) (b : Bool) (x y : Step) → StepTells types x → StepTells types y → StepTells types (cond b x y)
step-if types true x y g h = g
step-if types false x y g h = h

-- under a name
lower-named : (types : Types) (whole : Tree) → Stands types.typename whole → (t : Tree) → StepTells types (lower_at whole t)
lower-named types whole h (Tree.named n t d) = lower-named types whole h t
lower-named types whole h (Tree.builtin b) = (builtin-tells types b).0
lower-named types whole h Tree.handle = h
lower-named types whole h (Tree.pointer_to t) = tt
lower-named types whole h (Tree.const_pointer_to t) = tt
lower-named types whole h (Tree.list_of t) = tt
lower-named types whole h (Tree.record_of (RecordKind.Bitflags IntRepr.U8) ms) = h
lower-named types whole h (Tree.record_of (RecordKind.Bitflags IntRepr.U16) ms) = h
lower-named types whole h (Tree.record_of (RecordKind.Bitflags IntRepr.U32) ms) = h
lower-named types whole h (Tree.record_of (RecordKind.Bitflags IntRepr.U64) ms) = h
lower-named types whole h (Tree.record_of RecordKind.Tuple ms) = tt
lower-named types whole h (Tree.record_of RecordKind.Other ms) = tt
lower-named types whole h (Tree.variant_of r cs) = step-if types (has_payload (plain_arms cs)) Step.AddrOf (Step.EnumLower whole) tt h

lift-named : (types : Types) (whole : Tree) → Stands types.typename whole → (t : Tree) → AllByRecursion (Stands (shown_in types)) (target t) → StepTells types (lift_at whole t)
lift-named types whole h (Tree.named n t d) g = lift-named types whole h t g
lift-named types whole h (Tree.builtin b) g = (builtin-tells types b).1
lift-named types whole h Tree.handle g = h
lift-named types whole h (Tree.pointer_to t) g = g.0
lift-named types whole h (Tree.const_pointer_to t) g = g.0
lift-named types whole h (Tree.list_of t) g = g.0
lift-named types whole h (Tree.record_of (RecordKind.Bitflags IntRepr.U8) ms) g = h
lift-named types whole h (Tree.record_of (RecordKind.Bitflags IntRepr.U16) ms) g = h
lift-named types whole h (Tree.record_of (RecordKind.Bitflags IntRepr.U32) ms) g = h
lift-named types whole h (Tree.record_of (RecordKind.Bitflags IntRepr.U64) ms) g = h
lift-named types whole h (Tree.record_of RecordKind.Tuple ms) g = h
lift-named types whole h (Tree.record_of RecordKind.Other ms) g = h
lift-named types whole h (Tree.variant_of r cs) g = step-if types (has_payload (plain_arms cs)) (Step.Load whole) (Step.EnumLift whole) h h

-- what a function takes
lower-tells : (types : Types) (t : Tree) → can_be_param t ≡ true → NameStands types t → StepTells types (lower_step t)
lower-tells types (Tree.named n t d) e h = lower-named types (Tree.named n t d) h t
lower-tells types (Tree.builtin b) e h = (builtin-tells types b).0
lower-tells types (Tree.pointer_to t) e h = tt
lower-tells types (Tree.const_pointer_to t) e h = tt
lower-tells types (Tree.list_of t) e h = tt
lower-tells types Tree.handle e h = absurd (cc)
lower-tells types (Tree.record_of k ms) e h = absurd (cc)
lower-tells types (Tree.variant_of r cs) e h = absurd (cc)

lift-tells : (types : Types) (t : Tree) → can_be_param t ≡ true → Readable types t → StepTells types (lift_step t)
lift-tells types (Tree.named n t d) e h = lift-named types (Tree.named n t d) h.0 t h.1
lift-tells types (Tree.builtin b) e h = (builtin-tells types b).1
lift-tells types (Tree.pointer_to t) e h = h.1.0
lift-tells types (Tree.const_pointer_to t) e h = h.1.0
lift-tells types (Tree.list_of t) e h = h.1.0
lift-tells types Tree.handle e h = absurd (cc)
lift-tells types (Tree.record_of k ms) e h = absurd (cc)
lift-tells types (Tree.variant_of r cs) e h = absurd (cc)

-- ---- parameters

abbrev pub CanBeParam : Tree → Type 0
CanBeParam t = can_be_param t ≡ true

some-word : (t : Plain) → 1 ≤ length (param_words t)
some-word (Plain.builtin b) = omega arith
some-word Plain.handle = omega arith
some-word (Plain.list_of t) = omega arith
some-word (Plain.pointer_to t) = omega arith
some-word (Plain.const_pointer_to t) = omega arith
some-word (Plain.record_of (RecordKind.Bitflags r) ms) = omega arith
some-word (Plain.record_of RecordKind.Tuple ms) = omega arith
some-word (Plain.record_of RecordKind.Other ms) = omega arith
some-word (Plain.variant_of r cs) = omega arith

more-words : (t : Tree) (ts : List Tree) → length (words_of_params (t ∷ ts)) ≡ length (param_words (plain t)) + length (words_of_params ts)
more-words t ts = length-append (param_words (plain t)) (words_of_params ts)

lower-params-tell : (types : Types) (i : ℕ) (ts : List Tree) → IsWord (i + length (words_of_params ts)) → AllByRecursion CanBeParam ts → AllByRecursion (Readable types) ts → Tells types (lower_params i ts)
lower-params-tell types i [] w c h = tt
lower-params-tell types i (t ∷ ts) w c h =
    let more = more-words t ts in
    let some = some-word (plain t) in (
      less-word i (i + length (words_of_params (t ∷ ts))) (omega arith) w,
      (
        lower-tells types t c.0 h.0.0,
        lower-params-tell types (i + 1) ts (less-word (i + 1 + length (words_of_params ts)) (i + length (words_of_params (t ∷ ts))) (omega (arith, more, some)) w) c.1 h.1,
      ),
    )

get-args-tell : (types : Types) (k : ℕ) (ws : List WasmType) → IsWord (k + length ws) → Tells types (get_args k ws)
get-args-tell types k [] w = tt
get-args-tell types k (t ∷ ws) w = (less-word k (k + suc (length ws)) (omega arith) w, get-args-tell types (k + 1) ws (less-word (k + 1 + length ws) (k + suc (length ws)) (omega arith) w))

lift-params-tell : (types : Types) (k : ℕ) (ts : List Tree) → IsWord (k + length (words_of_params ts)) → AllByRecursion CanBeParam ts → AllByRecursion (Readable types) ts → Tells types (lift_params k ts)
lift-params-tell types k [] w c h = tt
lift-params-tell types k (t ∷ ts) w c h =
    let more = more-words t ts in
    let own = param_words (plain t) in
    tells-both types (get_args k own) (emit (lift_step t) ∷ lift_params (k + length own) ts)
    (get-args-tell types k own (less-word (k + length own) (k + length (words_of_params (t ∷ ts))) (omega (arith, more)) w))
    (lift-tells types t c.0 h.0, lift-params-tell types (k + length own) ts (less-word (k + length own + length (words_of_params ts)) (k + length (words_of_params (t ∷ ts))) (omega (arith, more)) w) c.1 h.1)

-- ---- return pointers

abbrev pub AllStand : Types → List Tree → Type 0
AllStand types ts = AllByRecursion (Stands types.typename) ts

spaces-tell : (types : Types) (k : ℕ) (ts : List Tree) → IsWord (k + length ts) → AllStand types ts → Tells types (make_spaces k ts)
spaces-tell types k [] w h = tt
spaces-tell types k (t ∷ ts) w h =
    let here = less-word k (k + suc (length ts)) (omega arith) w in
    ((here, h.0), (here, spaces-tell types (k + 1) ts (less-word (k + 1 + length ts) (k + suc (length ts)) (omega arith) w) h.1))

pub load-all-tells : (types : Types) (k : ℕ) (ts : List Tree) → IsWord (k + length ts) → AllStand types ts → Tells types (load_all k ts)
load-all-tells types k [] w h = tt
load-all-tells types k (t ∷ ts) w h =
    (less-word k (k + suc (length ts)) (omega arith) w, (h.0, load-all-tells types (k + 1) ts (less-word (k + 1 + length ts) (k + suc (length ts)) (omega arith) w) h.1))

pub store-all-tells : (types : Types) (k : ℕ) (ts : List Tree) → IsWord (k + length ts) → AllStand types ts → Tells types (store_all k ts)
store-all-tells types k [] w h = tt
store-all-tells types k (t ∷ ts) w h =
    tells-both types (store_all (k + 1) ts) (emit (Step.GetArg k) ∷ emit (Step.Store t) ∷ [])
    (store-all-tells types (k + 1) ts (less-word (k + 1 + length ts) (k + suc (length ts)) (omega arith) w) h.1)
    (less-word k (k + suc (length ts)) (omega arith) w, (h.0, tt))

-- ---- results

pub step-tells : (types : Types) (t : Tree) → CanBeParam t → Readable types t → Tells types (emit (lift_step t) ∷ []) × Tells types (emit (lower_step t) ∷ [])
step-tells types t e h = ((lift-tells types t e h, tt), (lower-tells types t e h.0, tt))

abbrev pub ErrReads : Types → Option Tree → Type 0
ErrReads types None = ⊤
ErrReads types (Some t) = Readable types t

-- the payloads of a result with cases
pub record PayloadsTell (types : Types) (ok err : Option Tree) : Type 0 where
  pub pointers : AllStand types (ok_pointers ok)
  pub can : can_be_err err ≡ true
  pub reads : ErrReads types err
  pub ok-stands : PayloadStands types ok
  pub err-stands : PayloadStands types err
  pub ends : EndsBeforeError ok

ok-lifted-tells : (types : Types) (ok : Option Tree) → IsWord (length (ok_pointers ok)) → AllStand types (ok_pointers ok) → Tells types (ok_lifted ok)
ok-lifted-tells types None w h = tt
ok-lifted-tells types (Some t) w h =
    tells-both types (load_all 0 (pointers_at t)) (cond (is_tuple t) (emit (Step.TupleLift (length (pointers_at t))) ∷ []) [])
    (load-all-tells types 0 (pointers_at t) (less-word (0 + length (pointers_at t)) (length (pointers_at t)) (omega arith) w) h) (tells-if types (is_tuple t) (emit (Step.TupleLift (length (pointers_at t)))) w)

err-lifted-tells : (types : Types) (err : Option Tree) → can_be_err err ≡ true → ErrReads types err → Tells types (err_lifted err)
err-lifted-tells types None e h = tt
err-lifted-tells types (Some t) e h = (tt, (lift-tells types t (err-param t e) h, tt))

pub lift-cases-tell : (types : Types) (ok err : Option Tree) → IsWord (length (ok_pointers ok)) → PayloadsTell types ok err → Tells types (lift_cases ok err)
lift-cases-tell types ok err w h =
    tells-both types (block_events (ok_lifted ok) (is_some ok)) (block_events (err_lifted err) (is_some err) ++ emit Step.ResultLift ∷ [])
    (block-tells types (ok_lifted ok) (is_some ok) (ok-lifted-tells types ok w h.pointers))
    (tells-both types (block_events (err_lifted err) (is_some err)) (emit Step.ResultLift ∷ []) (block-tells types (err_lifted err) (is_some err) (err-lifted-tells types err h.can h.reads)) (tt, tt))

ok-lowered-tells : (types : Types) (k : ℕ) (ok : Option Tree) → IsWord (k + length (ok_pointers ok)) → AllStand types (ok_pointers ok) → Tells types (ok_lowered k ok)
ok-lowered-tells types k None w h = tt
ok-lowered-tells types k (Some t) w h =
    let count = length (pointers_at t) in (
      tt,
      tells-both types (cond (is_tuple t) (emit (Step.TupleLower count) ∷ []) []) (store_all k (pointers_at t))
          (tells-if types (is_tuple t) (emit (Step.TupleLower count)) (less-word count (k + count) (omega arith) w)) (store-all-tells types k (pointers_at t) w h),
    )

err-lowered-tells : (types : Types) (err : Option Tree) → can_be_err err ≡ true → ErrReads types err → Tells types (err_lowered err)
err-lowered-tells types None e h = tt
err-lowered-tells types (Some t) e h = (tt, (lower-tells types t (err-param t e) h.0, tt))

pub lower-cases-tell : (types : Types) (ok err : Option Tree) (k : ℕ) → IsWord (k + length (ok_pointers ok)) → PayloadsTell types ok err → Tells types (lower_cases ok err k)
lower-cases-tell types ok err k w h =
    tells-both types (block_events (ok_lowered k ok) false) (block_events (err_lowered err) (is_some err) ++ emit (Step.ResultLower ok err) ∷ [])
    (block-tells types (ok_lowered k ok) false (ok-lowered-tells types k ok w h.pointers))
    (tells-both types (block_events (err_lowered err) (is_some err)) (emit (Step.ResultLower ok err) ∷ []) (block-tells types (err_lowered err) (is_some err) (err-lowered-tells types err h.can h.reads)) ((h.ok-stands, h.err-stands, h.ends), tt))

-- ---- both sides

pub record ResultsTell (types : Types) (abi : Abi) (ts : List Tree) (k : ℕ) : Type 0 where
  pub pointers : AllStand types (pointers_under abi ts)
  pub lift : Tells types (lift_under abi ts)
  pub lower : Tells types (lower_under abi k ts)
  pub few : length ts ≤ 1
  pub back : length (words_back abi ts) ≤ 1

pub record SidesTell (types : Types) (m : List ℕ) (f : Function) : Type 0 where
  pub can : AllByRecursion CanBeParam f.params
  pub params : AllByRecursion (Readable types) f.params
  pub results : ResultsTell types f.abi f.results (length (words_of_params f.params))
  pub words : IsWord (length (words_of_params f.params) + length (return_pointers f))
  pub owner : IsUtf8 m
  pub name : IsUtf8 f.name
  pub takes : f.params ≡ types.params
  pub gives : f.results ≡ types.results

one-word : (n : ℕ) → n ≤ 1 → IsWord n
one-word n l = less-word n 1 l (lit< tt)

pub caller-tells : (types : Types) (m : List ℕ) (f : Function) → SidesTell types m f → Tells types (caller_events m f)
caller-tells types m f h =
    let all = length (words_of_params f.params) + length (return_pointers f) in
    let call = emit (Step.CallWasm m f.name (signature_params f) (signature_results f)) in
    let end = emit (Step.Return (length f.results)) ∷ [] in
    tells-both types (lower_params 0 f.params) (make_spaces 0 (return_pointers f) ++ (call ∷ (lift_results f ++ end)))
    (lower-params-tell types 0 f.params (less-word (0 + length (words_of_params f.params)) all (omega arith) h.words) h.can h.params)
    (tells-both types (make_spaces 0 (return_pointers f)) (call ∷ (lift_results f ++ end))
    (spaces-tell types 0 (return_pointers f) (less-word (0 + length (return_pointers f)) all (omega arith) h.words) h.results.pointers)
    ((h.owner, h.name), tells-both types (lift_results f) end h.results.lift (one-word (length f.results) h.results.few, tt)))

pub callee-tells : (types : Types) (m : List ℕ) (f : Function) → SidesTell types m f → Tells types (callee_events m f)
callee-tells types m f h =
    let all = length (words_of_params f.params) + length (return_pointers f) in
    let call = emit (Step.CallInterface m f.name f.params f.results) in
    let end = emit (Step.Return (length (signature_results f))) ∷ [] in
    tells-both types (lift_params 0 f.params) (call ∷ (lower_results f ++ end))
    (lift-params-tell types 0 f.params (less-word (0 + length (words_of_params f.params)) all (omega arith) h.words) h.can h.params)
    ((h.owner, h.name, h.takes, h.gives), tells-both types (lower_results f) end h.results.lower (one-word (length (signature_results f)) h.results.back, tt))
