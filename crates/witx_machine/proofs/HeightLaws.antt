-- In the two traces of a function that can be lowered each step has the operands that it takes.
use Rattle.std.proofs.Common.{◌≡◌, ◌≤◌, ◌+◌, ◌-◌, ℕ, suc, List, [], ◌∷◌, ◌++◌, Bool, true, false, ◌||◌, cond, T, Option, Some, None, is_some, is_none, option_and_then, map, length, length-append, refl, sym, ap, ◌∙◌, subst, arith, le→leb}
use Rattle.witx_ast.specs.declared.function.Abi.{Abi}
use Rattle.witx_ast.specs.declared.types.BuiltinType.{BuiltinType}
use Rattle.witx_ast.specs.declared.types.IntRepr.{IntRepr}
use Rattle.witx_ast.specs.declared.types.RecordKind.{RecordKind}
use Rattle.witx_ast.specs.Tree.{Tree, Arms, arm_list}
use Rattle.witx_ast.specs.Plain.{plain, plain_arms}
use Rattle.witx_ast.specs.Words.{is_named}
use Rattle.witx_ast.specs.Words.{is_expected}
use Rattle.witx_machine.specs.declared.surface.WasmType.{WasmType}
use Rattle.witx_machine.specs.Events.{Step, Event, emit, finish}
use Rattle.witx_machine.specs.Rows.{operands_count, results_count}
use Rattle.witx_machine.specs.Functions.{Function, has_payload, tuple_types, is_tuple, ok_of, err_of, result_cases}
use Rattle.witx_machine.specs.Signature.{param_words, words_of_params, words_of_results, words_back, or_alone, pointers_at, return_pointers, signature_params, signature_results}
use Rattle.witx_machine.specs.Lowerable.{can_return, can_be_ok, can_be_err, is_narrow, unlowerable_result, lowerable}
use Rattle.witx_machine.specs.Traces.{lower_builtin, lift_builtin, lower_at, lift_at, lower_step, lift_step, lower_params, get_args, lift_params, make_spaces, load_all, store_all, ok_lifted, err_lifted, lift_cases, lift_by, lift_under, ok_lowered, err_lowered, lower_cases, lower_by, lower_under, lower_results, lift_results, caller_events, callee_events, block_events}
use Rattle.witx_machine.proofs.Scalars.{right_true, same_types_is}
use Rattle.witx_machine.proofs.All.{params_lower, result_lowers}
use Rattle.witx_machine.proofs.Orders.{some_same}
use Rattle.witx_machine.specs.Heights.{moved, height_after, heights}

pub level-then : (a b : List Event) (n k m : ℕ) → heights a n ≡ Some k → heights b k ≡ Some m → heights (a ++ b) n ≡ Some m
level-then [] b n k m h g = subst (λ x. heights b x ≡ Some m) (sym (some_same {x = n} {y = k} h)) g
level-then (e ∷ a) b n k m h g = go (height_after e n) h (λ x h. level-then a b x k m h g)
  where
    none : None ≡ Some k → ⊥
    none e = cc

    go : (o : Option ℕ) → option_and_then (λ x. heights a x) o ≡ Some k → ((x : ℕ) → heights a x ≡ Some k → heights (a ++ b) x ≡ Some m) → option_and_then (λ x. heights (a ++ b) x) o ≡ Some m
    go None h f = absurd (none h)
    go (Some x) h f = f x h

true_is : (b : Bool) → T b → b ≡ true
true_is true h = refl
true_is false h = absurd h

moves : (takes leaves n : ℕ) → moved takes leaves (n + takes) ≡ Some (n + leaves)
moves takes leaves n =
    let le : takes ≤ n + takes = omega arith in
    let e : n + takes - takes + leaves ≡ n + leaves = omega arith in
    ap (λ b. cond b (Some (n + takes - takes + leaves)) None) (true_is _ (le→leb _ _ le)) ∙ ap Some e

-- one step, by its numbers
pub step-level : (x : Step) (takes leaves n : ℕ) → operands_count x ≡ takes → results_count x ≡ leaves → heights (emit x ∷ []) (n + takes) ≡ Some (n + leaves)
step-level x takes leaves n t l =
    ap (λ o. option_and_then (λ m. heights [] m) o) (ap (λ k. moved k (results_count x) (n + takes)) t ∙ ap (λ k. moved takes k (n + takes)) l ∙ moves takes leaves n)

finish-level : (v : Bool) (n : ℕ) → heights (finish v ∷ []) (n + cond v 1 0) ≡ Some n
finish-level v n =
    let e : n + 0 ≡ n = omega arith in
    ap (λ o. option_and_then (λ m. heights [] m) o) (moves (cond v 1 0) 0 n) ∙ ap Some e

at : (es : List Event) (n n' m m' : ℕ) → n ≡ n' → m ≡ m' → heights es n ≡ Some m → heights es n' ≡ Some m'
at es n n' m m' e f h = subst (λ n. heights es n ≡ Some m') e (h ∙ ap Some f)

builtin-counts : (b : BuiltinType)
    → (operands_count (lower_builtin b) ≡ 1) × (results_count (lower_builtin b) ≡ 1) × (operands_count (lift_builtin b) ≡ 1) × (results_count (lift_builtin b) ≡ 1)
builtin-counts (BuiltinType.U8 true) = (refl, refl, refl, refl)
builtin-counts (BuiltinType.U8 false) = (refl, refl, refl, refl)
builtin-counts (BuiltinType.U32 true) = (refl, refl, refl, refl)
builtin-counts (BuiltinType.U32 false) = (refl, refl, refl, refl)
builtin-counts BuiltinType.Char = (refl, refl, refl, refl)
builtin-counts BuiltinType.U16 = (refl, refl, refl, refl)
builtin-counts BuiltinType.U64 = (refl, refl, refl, refl)
builtin-counts BuiltinType.S8 = (refl, refl, refl, refl)
builtin-counts BuiltinType.S16 = (refl, refl, refl, refl)
builtin-counts BuiltinType.S32 = (refl, refl, refl, refl)
builtin-counts BuiltinType.S64 = (refl, refl, refl, refl)
builtin-counts BuiltinType.F32 = (refl, refl, refl, refl)
builtin-counts BuiltinType.F64 = (refl, refl, refl, refl)

-- what the step that lowers takes and leaves, then the one that lifts
step-counts : (whole t : Tree)
    → (operands_count (lower_at whole t) ≡ 1) × (results_count (lower_at whole t) ≡ length (param_words (plain t)))
    × (operands_count (lift_at whole t) ≡ length (param_words (plain t))) × (results_count (lift_at whole t) ≡ 1)
step-counts whole (Tree.named n t d) = step-counts whole t
step-counts whole (Tree.builtin b) = builtin-counts b
step-counts whole Tree.handle = (refl, refl, refl, refl)
step-counts whole (Tree.pointer_to t) = (refl, refl, refl, refl)
step-counts whole (Tree.const_pointer_to t) = (refl, refl, refl, refl)
step-counts whole (Tree.list_of t) = (refl, refl, refl, refl)
step-counts whole (Tree.record_of (RecordKind.Bitflags IntRepr.U8) ms) = (refl, refl, refl, refl)
step-counts whole (Tree.record_of (RecordKind.Bitflags IntRepr.U16) ms) = (refl, refl, refl, refl)
step-counts whole (Tree.record_of (RecordKind.Bitflags IntRepr.U32) ms) = (refl, refl, refl, refl)
step-counts whole (Tree.record_of (RecordKind.Bitflags IntRepr.U64) ms) = (refl, refl, refl, refl)
step-counts whole (Tree.record_of RecordKind.Tuple ms) = (refl, refl, refl, refl)
step-counts whole (Tree.record_of RecordKind.Other ms) = (refl, refl, refl, refl)
step-counts whole (Tree.variant_of r cs) = go (has_payload (plain_arms cs))
  where
    go : (b : Bool)
        → (operands_count (cond b Step.AddrOf (Step.EnumLower whole)) ≡ 1) × (results_count (cond b Step.AddrOf (Step.EnumLower whole)) ≡ 1)
        × (operands_count (cond b (Step.Load whole) (Step.EnumLift whole)) ≡ 1) × (results_count (cond b (Step.Load whole) (Step.EnumLift whole)) ≡ 1)
    go true = (refl, refl, refl, refl)
    go false = (refl, refl, refl, refl)

get-level : (i n : ℕ) → heights (emit (Step.GetArg i) ∷ []) n ≡ Some (n + 1)
get-level i n = let e : n + 0 ≡ n = omega arith in at (emit (Step.GetArg i) ∷ []) (n + 0) n (n + 1) (n + 1) e refl (step-level (Step.GetArg i) 0 1 n refl refl)

lower-level : (t : Tree) (n : ℕ) → heights (emit (lower_step t) ∷ []) (n + 1) ≡ Some (n + length (param_words (plain t)))
lower-level t n = let c = step-counts t t in step-level (lower_step t) 1 (length (param_words (plain t))) n c.0 c.1

lift-level : (t : Tree) (n : ℕ) → heights (emit (lift_step t) ∷ []) (n + length (param_words (plain t))) ≡ Some (n + 1)
lift-level t n = let c = step-counts t t in step-level (lift_step t) (length (param_words (plain t))) 1 n c.2 c.3

-- none more, and one more before the others
none-level : (n : ℕ) → Some n ≡ Some (n + 0)
none-level n = let e : n ≡ n + 0 = omega arith in ap Some e

one-level : {A : Type 0} (n : ℕ) (x : A) (xs : List A) → Some (n + 1 + length xs) ≡ Some (n + length (x ∷ xs))
one-level n x xs = let e : n + 1 + length xs ≡ n + length (x ∷ xs) = omega arith in ap Some e

params-level : (i n : ℕ) (ts : List Tree) → heights (lower_params i ts) n ≡ Some (n + length (words_of_params ts))
params-level i n [] = none-level n
params-level i n (t ∷ ts) =
    let ws = param_words (plain t) in
    let e : n + length ws + length (words_of_params ts) ≡ n + length (words_of_params (t ∷ ts)) = let l = length-append ws (words_of_params ts) in omega arith in
    level-then (emit (Step.GetArg i) ∷ []) (emit (lower_step t) ∷ lower_params (i + 1) ts) n (n + 1) (n + length (words_of_params (t ∷ ts))) (get-level i n) (level-then (emit (lower_step t) ∷ []) (lower_params (i + 1) ts) (n + 1) (n + length ws) (n + length (words_of_params (t ∷ ts))) (lower-level t n) (params-level (i + 1) (n + length ws) ts ∙ ap Some e))

gets-level : (w n : ℕ) (ts : List WasmType) → heights (get_args w ts) n ≡ Some (n + length ts)
gets-level w n [] = none-level n
gets-level w n (t ∷ ts) =
    level-then (emit (Step.GetArg w) ∷ []) (get_args (w + 1) ts) n (n + 1) (n + length (t ∷ ts)) (get-level w n) (gets-level (w + 1) (n + 1) ts ∙ one-level n t ts)

lifts-level : (w n : ℕ) (ts : List Tree) → heights (lift_params w ts) n ≡ Some (n + length ts)
lifts-level w n [] = none-level n
lifts-level w n (t ∷ ts) =
    let ws = param_words (plain t) in
    level-then (get_args w ws) (emit (lift_step t) ∷ lift_params (w + length ws) ts) n (n + length ws) (n + length (t ∷ ts)) (gets-level w n ws) (level-then (emit (lift_step t) ∷ []) (lift_params (w + length ws) ts) (n + length ws) (n + 1) (n + length (t ∷ ts)) (lift-level t n) (lifts-level (w + length ws) (n + 1) ts ∙ one-level n t ts))

pointer-level : (k n : ℕ) → heights (emit (Step.ReturnPointerGet k) ∷ []) n ≡ Some (n + 1)
pointer-level k n = let e : n + 0 ≡ n = omega arith in at (emit (Step.ReturnPointerGet k) ∷ []) (n + 0) n (n + 1) (n + 1) e refl (step-level (Step.ReturnPointerGet k) 0 1 n refl refl)

spaces-level : (k n : ℕ) (ts : List Tree) → heights (make_spaces k ts) n ≡ Some (n + length ts)
spaces-level k n [] = none-level n
spaces-level k n (t ∷ ts) =
    level-then (emit (Step.ReturnPointerGet k) ∷ []) (make_spaces (k + 1) ts) n (n + 1) (n + length (t ∷ ts)) (pointer-level k n) (spaces-level (k + 1) (n + 1) ts ∙ one-level n t ts)

loads-level : (k n : ℕ) (ts : List Tree) → heights (load_all k ts) n ≡ Some (n + length ts)
loads-level k n [] = none-level n
loads-level k n (t ∷ ts) =
    level-then (emit (Step.ReturnPointerGet k) ∷ []) (emit (Step.Load t) ∷ load_all (k + 1) ts) n (n + 1) (n + length (t ∷ ts)) (pointer-level k n) (level-then (emit (Step.Load t) ∷ []) (load_all (k + 1) ts) (n + 1) (n + 1) (n + length (t ∷ ts)) (step-level (Step.Load t) 1 1 n refl refl) (loads-level (k + 1) (n + 1) ts ∙ one-level n t ts))

stores-level : (w n : ℕ) (ts : List Tree) → heights (store_all w ts) (n + length ts) ≡ Some n
stores-level w n [] = let e : n + 0 ≡ n = omega arith in ap Some e
stores-level w n (t ∷ ts) =
    let e : n + 1 + length ts ≡ n + length (t ∷ ts) = omega arith in
    let two : n + 1 + 1 ≡ n + 2 = omega arith in
    let none : n + 0 ≡ n = omega arith in
    level-then (store_all (w + 1) ts) (emit (Step.GetArg w) ∷ emit (Step.Store t) ∷ []) (n + length (t ∷ ts)) (n + 1) n (at (store_all (w + 1) ts) (n + 1 + length ts) (n + length (t ∷ ts)) (n + 1) (n + 1) e refl (stores-level (w + 1) (n + 1) ts))
    (level-then (emit (Step.GetArg w) ∷ []) (emit (Step.Store t) ∷ []) (n + 1) (n + 1 + 1) n (get-level w (n + 1)) (at (emit (Step.Store t) ∷ []) (n + 2) (n + 1 + 1) (n + 0) n (sym two) none (step-level (Step.Store t) 2 0 n refl refl)))

one-pointer : (whole t : Tree) → is_tuple t ≡ false → length (or_alone whole (tuple_types t)) ≡ 1
one-pointer whole (Tree.named n t d) e = one-pointer whole t e
one-pointer whole (Tree.builtin b) e = refl
one-pointer whole Tree.handle e = refl
one-pointer whole (Tree.pointer_to t) e = refl
one-pointer whole (Tree.const_pointer_to t) e = refl
one-pointer whole (Tree.list_of t) e = refl
one-pointer whole (Tree.record_of (RecordKind.Bitflags r) ms) e = refl
one-pointer whole (Tree.record_of RecordKind.Tuple ms) e = absurd (clash e)
  where
    clash : true ≡ false → ⊥
    clash e = cc
one-pointer whole (Tree.record_of RecordKind.Other ms) e = refl
one-pointer whole (Tree.variant_of r cs) e = refl

-- from one value to its members, and back
unpack-level : (t : Tree) (n : ℕ) → heights (cond (is_tuple t) (emit (Step.TupleLower (length (pointers_at t))) ∷ []) []) (n + 1) ≡ Some (n + length (pointers_at t))
unpack-level t n = go (is_tuple t) refl
  where
    go : (b : Bool) → is_tuple t ≡ b → heights (cond b (emit (Step.TupleLower (length (pointers_at t))) ∷ []) []) (n + 1) ≡ Some (n + length (pointers_at t))
    go true e = step-level (Step.TupleLower (length (pointers_at t))) 1 (length (pointers_at t)) n refl refl
    go false e = ap (λ k. Some (n + k)) (sym (one-pointer t t e))

pack-level : (t : Tree) (n : ℕ) → heights (cond (is_tuple t) (emit (Step.TupleLift (length (pointers_at t))) ∷ []) []) (n + length (pointers_at t)) ≡ Some (n + 1)
pack-level t n = go (is_tuple t) refl
  where
    go : (b : Bool) → is_tuple t ≡ b → heights (cond b (emit (Step.TupleLift (length (pointers_at t))) ∷ []) []) (n + length (pointers_at t)) ≡ Some (n + 1)
    go true e = step-level (Step.TupleLift (length (pointers_at t))) (length (pointers_at t)) 1 n refl refl
    go false e = ap (λ k. Some (n + k)) (one-pointer t t e)

block-level : (es : List Event) (v : Bool) (n : ℕ) → heights es n ≡ Some (n + cond v 1 0) → heights (block_events es v) n ≡ Some n
block-level es v n h = level-then es (finish v ∷ []) n (n + cond v 1 0) n h (finish-level v n)

payload-level : (n : ℕ) → heights (emit Step.VariantPayload ∷ []) n ≡ Some (n + 1)
payload-level n = let e : n + 0 ≡ n = omega arith in at (emit Step.VariantPayload ∷ []) (n + 0) n (n + 1) (n + 1) e refl (step-level Step.VariantPayload 0 1 n refl refl)

ok-lowered-level : (w n : ℕ) (ok : Option Tree) → heights (ok_lowered w ok) n ≡ Some (n + 0)
ok-lowered-level w n None = let e : n ≡ n + 0 = omega arith in ap Some e
ok-lowered-level w n (Some t) =
    let e : n ≡ n + 0 = omega arith in
    let unpack = cond (is_tuple t) (emit (Step.TupleLower (length (pointers_at t))) ∷ []) [] in
    level-then (emit Step.VariantPayload ∷ []) (unpack ++ store_all w (pointers_at t)) n (n + 1) (n + 0) (payload-level n) (level-then (cond (is_tuple t) (emit (Step.TupleLower (length (pointers_at t))) ∷ []) []) (store_all w (pointers_at t)) (n + 1) (n + length (pointers_at t)) (n + 0) (unpack-level t n) (stores-level w n (pointers_at t) ∙ ap Some e))

one-i32 : (t : Tree) → T (can_be_err (Some t)) → length (param_words (plain t)) ≡ 1
one-i32 t h = ap length (same_types_is (param_words (plain t)) (WasmType.I32 ∷ []) (right_true (is_named t) _ h))

err-lowered-level : (n : ℕ) (err : Option Tree) → T (can_be_err err) → heights (err_lowered err) n ≡ Some (n + cond (is_some err) 1 0)
err-lowered-level n None h = let e : n ≡ n + 0 = omega arith in ap Some e
err-lowered-level n (Some t) h = level-then (emit Step.VariantPayload ∷ []) (emit (lower_step t) ∷ []) n (n + 1) (n + 1) (payload-level n) (lower-level t n ∙ ap (λ k. Some (n + k)) (one-i32 t h))

lower-cases-level : (ok err : Option Tree) (w : ℕ) → T (can_be_err err) → heights (lower_cases ok err w) 1 ≡ Some 1
lower-cases-level ok err w h =
    level-then (block_events (ok_lowered w ok) false) (block_events (err_lowered err) (is_some err) ++ emit (Step.ResultLower ok err) ∷ []) 1 1 1 (block-level (ok_lowered w ok) false 1 (ok-lowered-level w 1 ok))
    (level-then (block_events (err_lowered err) (is_some err)) (emit (Step.ResultLower ok err) ∷ []) 1 1 1 (block-level (err_lowered err) (is_some err) 1 (err-lowered-level 1 err h)) (step-level (Step.ResultLower ok err) 1 1 0 refl refl))

ok-lifted-level : (n : ℕ) (ok : Option Tree) → heights (ok_lifted ok) n ≡ Some (n + cond (is_some ok) 1 0)
ok-lifted-level n None = let e : n ≡ n + 0 = omega arith in ap Some e
ok-lifted-level n (Some t) = level-then (load_all 0 (pointers_at t)) (cond (is_tuple t) (emit (Step.TupleLift (length (pointers_at t))) ∷ []) []) n (n + length (pointers_at t)) (n + 1) (loads-level 0 n (pointers_at t)) (pack-level t n)

reuse-level : (n : ℕ) → heights (emit Step.ReuseReturn ∷ []) n ≡ Some (n + 1)
reuse-level n = let e : n + 0 ≡ n = omega arith in at (emit Step.ReuseReturn ∷ []) (n + 0) n (n + 1) (n + 1) e refl (step-level Step.ReuseReturn 0 1 n refl refl)

err-lifted-level : (n : ℕ) (err : Option Tree) → T (can_be_err err) → heights (err_lifted err) n ≡ Some (n + cond (is_some err) 1 0)
err-lifted-level n None h = let e : n ≡ n + 0 = omega arith in ap Some e
err-lifted-level n (Some t) h = level-then (emit Step.ReuseReturn ∷ []) (emit (lift_step t) ∷ []) n (n + 1) (n + 1) (reuse-level n) (subst (λ k. heights (emit (lift_step t) ∷ []) (n + k) ≡ Some (n + 1)) (one-i32 t h) (lift-level t n))

lift-cases-level : (ok err : Option Tree) → T (can_be_err err) → heights (lift_cases ok err) 1 ≡ Some 1
lift-cases-level ok err h =
    level-then (block_events (ok_lifted ok) (is_some ok)) (block_events (err_lifted err) (is_some err) ++ emit Step.ResultLift ∷ []) 1 1 1 (block-level (ok_lifted ok) (is_some ok) 1 (ok-lifted-level 1 ok))
    (level-then (block_events (err_lifted err) (is_some err)) (emit Step.ResultLift ∷ []) 1 1 1 (block-level (err_lifted err) (is_some err) 1 (err-lifted-level 1 err h)) (step-level Step.ResultLift 1 1 0 refl refl))

-- a result that can be lowered: by one word, or by its cases
data Sort (t : Tree) : Type 0 where
  single : result_cases t ≡ None → length (param_words (plain t)) ≡ 1 → length (words_of_results (t ∷ [])) ≡ 1 → Sort t
  cased : (cs : Arms) → result_cases t ≡ Some cs → T (can_be_err (err_of cs)) → length (words_of_results (t ∷ [])) ≡ 1 → Sort t

variant-sort : (named : Bool) (r : IntRepr) (cs : Arms) → T (can_return named (Tree.variant_of r cs)) → (b : Bool) → has_payload (plain_arms cs) ≡ b → Sort (Tree.variant_of r cs)
variant-sort named r cs h true e = cased cs (ap (λ b. cond b (Some cs) None) e) (right_true (can_be_ok (ok_of cs)) _ (right_true (has_payload (plain_arms cs) || named) _ (right_true (is_expected (arm_list cs)) _ (right_true (is_narrow r) _ h)))) refl
variant-sort named r cs h false e = single (ap (λ b. cond b (Some cs) None) e) refl refl

sort-named : (n : List ℕ) (t : Tree) (d : List ℕ) → Sort t → Sort (Tree.named n t d)
sort-named n t d (single e l r) = single e l r
sort-named n t d (cased cs e c r) = cased cs e c r

sort-of : (named : Bool) (t : Tree) → T (can_return named t) → Sort t
sort-of named (Tree.named n t d) h = sort-named n t d (sort-of true t h)
sort-of named (Tree.builtin b) h = single refl refl refl
sort-of named (Tree.pointer_to t) h = single refl refl refl
sort-of named (Tree.const_pointer_to t) h = single refl refl refl
sort-of named Tree.handle h = single refl refl refl
sort-of named (Tree.list_of t) h = absurd h
sort-of named (Tree.record_of (RecordKind.Bitflags r) ms) h = single refl refl refl
sort-of named (Tree.record_of RecordKind.Tuple ms) h = absurd h
sort-of named (Tree.record_of RecordKind.Other ms) h = absurd h
sort-of named (Tree.variant_of r cs) h = variant-sort named r cs h (has_payload (plain_arms cs)) refl

lower-result-level : (w : ℕ) (t : Tree) → Sort t → heights (lower_by (result_cases t) w t) 1 ≡ Some 1
lower-result-level w t (single e l r) = subst (λ c. heights (lower_by c w t) 1 ≡ Some 1) (sym e) (lower-level t 0 ∙ ap (λ k. Some (0 + k)) l)
lower-result-level w t (cased cs e c r) = subst (λ c. heights (lower_by c w t) 1 ≡ Some 1) (sym e) (lower-cases-level (ok_of cs) (err_of cs) w c)

lift-result-level : (t : Tree) → Sort t → heights (lift_by (result_cases t) t) 1 ≡ Some 1
lift-result-level t (single e l r) = subst (λ c. heights (lift_by c t) 1 ≡ Some 1) (sym e) (subst (λ k. heights (emit (lift_step t) ∷ []) (0 + k) ≡ Some 1) l (lift-level t 0))
lift-result-level t (cased cs e c r) = subst (λ c. heights (lift_by c t) 1 ≡ Some 1) (sym e) (lift-cases-level (ok_of cs) (err_of cs) c)

one-result : (t : Tree) → Sort t → length (words_of_results (t ∷ [])) ≡ 1
one-result t (single e l r) = r
one-result t (cased cs e c r) = r

lower-under-level : (abi : Abi) (w : ℕ) (ts : List Tree) → T (is_none (unlowerable_result abi ts)) → heights (lower_under abi w ts) (length ts) ≡ Some (length (words_back abi ts))
lower-under-level Abi.Preview1 w [] h = refl
lower-under-level Abi.Stored w [] h = refl
lower-under-level Abi.Preview1 w (t ∷ []) h = let s = sort-of false t (result_lowers Abi.Preview1 t h) in lower-result-level w t s ∙ ap Some (sym (one-result t s))
lower-under-level Abi.Stored w (t ∷ []) h = stores-level w 0 (t ∷ [])
lower-under-level abi w (t ∷ u ∷ ts) h = absurd h

lift-under-level : (abi : Abi) (ts : List Tree) → T (is_none (unlowerable_result abi ts)) → heights (lift_under abi ts) (length (words_back abi ts)) ≡ Some (length ts)
lift-under-level Abi.Preview1 [] h = refl
lift-under-level Abi.Stored [] h = refl
lift-under-level Abi.Preview1 (t ∷ []) h = let s = sort-of false t (result_lowers Abi.Preview1 t h) in subst (λ k. heights (lift_by (result_cases t) t) k ≡ Some 1) (sym (one-result t s)) (lift-result-level t s)
lift-under-level Abi.Stored (t ∷ []) h = loads-level 0 0 (t ∷ [])
lift-under-level abi (t ∷ u ∷ ts) h = absurd h

-- under Preview1 the result of a function that can be lowered has one word
pub words-count : (ts : List Tree) → T (is_none (unlowerable_result Abi.Preview1 ts)) → length (words_of_results ts) ≡ length ts
words-count [] h = refl
words-count (t ∷ []) h = one-result t (sort-of false t (result_lowers Abi.Preview1 t h))
words-count (t ∷ u ∷ ts) h = absurd h

return-level : (n : ℕ) → heights (emit (Step.Return n) ∷ []) n ≡ Some 0
return-level n =
    let e : 0 + n ≡ n = omega arith in
    let z : 0 + 0 ≡ 0 = omega arith in
    at (emit (Step.Return n) ∷ []) (0 + n) n (0 + 0) 0 e z (step-level (Step.Return n) n 0 0 refl refl)

pub length-map : {A B : Type 0} (f : A → B) (xs : List A) → length (map f xs) ≡ length xs
length-map f [] = refl
length-map f (x ∷ xs) = ap suc (length-map f xs)

pub callee-level : (m : List ℕ) (f : Function) → T (lowerable f) → heights (callee_events m f) 0 ≡ Some 0
callee-level m f h =
    let result = (params_lower f.params (unlowerable_result f.abi f.results) h).1 in
    let call = Step.CallInterface m f.name f.params f.results in
    let last = emit (Step.Return (length (signature_results f))) ∷ [] in
    let zero : 0 + length f.params ≡ length f.params = omega arith in
    let pops : 0 + length f.params ≡ length f.params = omega arith in
    let leaves : 0 + length f.results ≡ length f.results = omega arith in
    level-then (lift_params 0 f.params) (emit call ∷ (lower_results f ++ last)) 0 (length f.params) 0 (lifts-level 0 0 f.params ∙ ap Some zero)
    (level-then (emit call ∷ []) (lower_results f ++ last) (length f.params) (length f.results) 0 (at (emit call ∷ []) (0 + length f.params) (length f.params) (0 + length f.results) (length f.results) pops leaves (step-level call (length f.params) (length f.results) 0 refl refl))
    (level-then (lower_results f) last (length f.results) (length (signature_results f)) 0 (lower-under-level f.abi (length (words_of_params f.params)) f.results result) (return-level (length (signature_results f)))))

pub caller-level : (m : List ℕ) (f : Function) → T (lowerable f) → heights (caller_events m f) 0 ≡ Some 0
caller-level m f h =
    let result = (params_lower f.params (unlowerable_result f.abi f.results) h).1 in
    let ws = words_of_params f.params in
    let ps = return_pointers f in
    let call = Step.CallWasm m f.name (signature_params f) (signature_results f) in
    let all : length ws + length ps ≡ length (signature_params f) = let a = length-append ws (map (λ t. WasmType.I32) ps) in let b = length-map (λ t. WasmType.I32) ps in omega arith in
    let last = emit (Step.Return (length f.results)) ∷ [] in
    let zero : 0 + length ws ≡ length ws = omega arith in
    let pops : 0 + length (signature_params f) ≡ length (signature_params f) = omega arith in
    let leaves : 0 + length (signature_results f) ≡ length (signature_results f) = omega arith in
    level-then (lower_params 0 f.params) (make_spaces 0 ps ++ (emit call ∷ (lift_results f ++ last))) 0 (length ws) 0 (params-level 0 0 f.params ∙ ap Some zero)
    (level-then (make_spaces 0 ps) (emit call ∷ (lift_results f ++ last)) (length ws) (length (signature_params f)) 0 (spaces-level 0 (length ws) ps ∙ ap Some all)
    (level-then (emit call ∷ []) (lift_results f ++ last) (length (signature_params f)) (length (signature_results f)) 0 (at (emit call ∷ []) (0 + length (signature_params f)) (length (signature_params f)) (0 + length (signature_results f)) (length (signature_results f)) pops leaves (step-level call (length (signature_params f)) (length (signature_results f)) 0 refl refl))
    (level-then (lift_results f) last (length (signature_results f)) (length f.results) 0 (lift-under-level f.abi f.results result) (return-level (length f.results)))))
