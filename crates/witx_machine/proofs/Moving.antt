-- Each row of the machine takes its operands off the stack and leaves its results there, as the table says.
use Rattle.std.proofs.Common.{◌≡◌, ℕ, zero, suc, Bool, true, false, ◌&&◌, T, refl, sym, ap, ◌∙◌, subst, arith, Option, Some, None, is_some, is_none, slice_get, nat_eq, eqb→eq, List, [], ◌∷◌, ◌++◌, append_assoc, length, length-append, map, cond}
use Rattle.witx_ast.specs.Tree.{Tree}
use Rattle.witx_base.specs.SameBytes.{same_bytes}
use Rattle.witx_ast.specs.Same.{same_tree}
use Rattle.witx_ast.specs.Values.{Value}
use Rattle.witx_machine.specs.declared.surface.WasmType.{WasmType}
use Rattle.witx_machine.specs.Words.{Word, Scalar, same_types, when}
use Rattle.witx_machine.specs.Events.{Step, Event}
use Rattle.witx_machine.specs.Rows.{Row, row, operands_count, results_count, get_arg, addr_of, lowering, lifting, list_pointer_length, list_from_pointer_length, return_pointer_get, load, store, tuple_lift, tuple_lower, variant_payload, reuse_return, result_lower, result_lift}
use Rattle.witx_machine.specs.Functions.{Function}
use Rattle.witx_machine.specs.Signature.{signature_params, signature_results}
use Rattle.witx_machine.specs.Machine.{Domain, went, no_rule, stuck_at, if_found, goes_on, only, Item, word_item, value_item, plain_item, Block, State, Side, Inside, outside, in_lower, in_lift, is_nil, slot_word, pushed, words_off, values_off, items_off, payload_item, payload_in, block_word, lifted_payload, top_word, top_value, two_blocks, return_items, run_block, run_trace}
use Rattle.witx_machine.specs.Run.{Receiver, picked_in_order, same_trees, words_in, typed, reply_items, Call, start, caller_side, callee_side, called_with}
use Rattle.witx_machine.specs.Cells.{Memory, cells, tuple_parts, list_of_values}
use Rattle.witx_machine.specs.Moves.{Moves, KeepsToTable, RowsKeepToTable}
use Rattle.witx_machine.proofs.Runs.{Try, acts}
use Rattle.witx_machine.proofs.Scalars.{right_true, left_true, same_types_is}
use Rattle.witx_machine.proofs.HeightLaws.{length-map}

-- so it is of the state that comes of it, if one does
Then : {A : Type 0} → (A → Type 0) → Try A → Type 0
Then Q (went x) = Q x
Then Q no_rule = Unit {0}
Then Q (stuck_at p) = Unit {0}

then_went : {A : Type 0} (Q : A → Type 0) (x : A) → Q x → Then Q (went x)
unfolding Then
then_went Q x h = h

then_none : {A : Type 0} (Q : A → Type 0) → Then Q no_rule
unfolding Then
then_none Q = tt

then_is : {A : Type 0} (Q : A → Type 0) (t : Try A) (x : A) → Then Q t → t ≡ went x → Q x
unfolding Then
then_is Q t x h e = let P : Try _ → Type 0 = Then Q in subst P e h

then_found : {A B : Type 0} (Q : B → Type 0) (o : Option A) (f : A → Try B) → ((x : A) → o ≡ Some x → Then Q (f x)) → Then Q (if_found o f)
then_found Q None f h = then_none Q
then_found Q (Some x) f h = h x refl

then_next : {A B : Type 0} (Q : B → Type 0) (t : Try A) (f : A → Try B) → ((x : A) → Then Q (f x)) → Then Q (goes_on t f)
unfolding Then
then_next Q (went x) f h = h x
then_next Q no_rule f h = tt
then_next Q (stuck_at p) f h = tt

then_only : {A : Type 0} (Q : A → Type 0) (b : Bool) (t : Try A) → (T b → Then Q t) → Then Q (only b t)
then_only Q true t h = h tt
then_only Q false t h = then_none Q

module _ {V W A : Type 0} (Q : A → Type 0) where
  then_word : (stack : List (Item V W)) (f : W → List (Item V W) → Try A) → ((w : W) (rest : List (Item V W)) → stack ≡ word_item w ∷ rest → Then Q (f w rest)) → Then Q (top_word stack f)
  then_word (word_item w ∷ rest) f h = h w rest refl
  then_word (value_item v t ∷ rest) f h = then_none Q
  then_word [] f h = then_none Q

  then_value : (stack : List (Item V W)) (f : V → Option Tree → List (Item V W) → Try A) → ((v : V) (t : Option Tree) (rest : List (Item V W)) → stack ≡ value_item v t ∷ rest → Then Q (f v t rest)) → Then Q (top_value stack f)
  then_value (value_item v t ∷ rest) f h = h v t rest refl
  then_value (word_item w ∷ rest) f h = then_none Q
  then_value [] f h = then_none Q

then_blocks : {E A : Type 0} (Q : A → Type 0) (blocks : List (Block E)) (f : Block E → Block E → List (Block E) → Try A) → ((a b : Block E) (more : List (Block E)) → Then Q (f a b more)) → Then Q (two_blocks blocks f)
then_blocks Q (b ∷ a ∷ more) f h = h a b more
then_blocks Q (b ∷ []) f h = then_none Q
then_blocks Q [] f h = then_none Q

-- n items off the top
abbrev Takes : {A : Type 0} → ℕ → List A → List A → Type 0
Takes {A} n before rest = (taken : List A) × (before ≡ taken ++ rest) × (length taken ≡ n)

one_more : {A : Type 0} (n : ℕ) (x : A) (before rest : List A) → Takes n before rest → Takes (suc n) (x ∷ before) rest
one_more n x before rest (taken, e, l) = (x ∷ taken, ap (λ s. x ∷ s) e, (let k : length (x ∷ taken) ≡ suc n = omega arith in k))

nothing : {A B : Type 0} {x : A} → None ≡ Some x → B
nothing e = absurd (no e)
  where
    no : {A : Type 0} {x : A} → None ≡ Some x → ⊥
    no e = cc

rest_of : {A B : Type 0} → B → Option (A × B) → B
rest_of d None = d
rest_of d (Some r) = r.1

none_taken : {A B : Type 0} (x : A) (stack : List B) (r : A × List B) → Some (x, stack) ≡ Some r → Takes zero stack r.1
unfolding rest_of
none_taken x stack r e = ([], ap (rest_of stack) e, refl)

words_taken : {V W : Type 0} (n : ℕ) (ws : List W) (stack : List (Item V W)) (r : List W × List (Item V W)) → words_off n ws stack ≡ Some r → Takes n stack r.1
words_taken zero ws stack r e = none_taken ws stack r e
words_taken (suc n) ws (word_item w ∷ stack) r e = one_more n (word_item w) stack r.1 (words_taken n (w ∷ ws) stack r e)
words_taken (suc n) ws (value_item v t ∷ stack) r e = nothing e
words_taken (suc n) ws [] r e = nothing e

values_taken : {V W : Type 0} (n : ℕ) (vs : List V) (stack : List (Item V W)) (r : List V × List (Item V W)) → values_off n vs stack ≡ Some r → Takes n stack r.1
values_taken zero vs stack r e = none_taken vs stack r e
values_taken (suc n) vs (value_item v t ∷ stack) r e = one_more n (value_item v t) stack r.1 (values_taken n (v ∷ vs) stack r e)
values_taken (suc n) vs (word_item w ∷ stack) r e = nothing e
values_taken (suc n) vs [] r e = nothing e

items_taken : {A : Type 0} (n : ℕ) (xs stack : List A) (r : List A × List A) → items_off n xs stack ≡ Some r → Takes n stack r.1
items_taken zero xs stack r e = none_taken xs stack r e
items_taken (suc n) xs (x ∷ stack) r e = one_more n x stack r.1 (items_taken n (x ∷ xs) stack r e)
items_taken (suc n) xs [] r e = nothing e

-- items pushed lie on top
abbrev Gives : {A : Type 0} → ℕ → List A → List A → Type 0
Gives {A} n after rest = (given : List A) × (after ≡ given ++ rest) × (length given ≡ n)

pushed_given : {A : Type 0} (xs stack : List A) → Gives (length xs) (pushed xs stack) stack
pushed_given [] stack = ([], refl, refl)
pushed_given (x ∷ xs) stack =
    let r = pushed_given xs (x ∷ stack) in
    let l : length (r.0 ++ x ∷ []) ≡ length (x ∷ xs) = (let a = length-append r.0 (x ∷ []) in let b = r.2 in omega arith) in
    (r.0 ++ x ∷ [], r.1 ∙ sym (append_assoc r.0 (x ∷ []) stack), l)

moves : {A : Type 0} (n k : ℕ) (before after rest : List A) → Takes n before rest → Gives k after rest → Moves n k before after
moves n k before after rest (taken, e, l) (given, f, m) = record { taken = taken; given = given; below = rest; from = e; to = f; takes = l; leaves = m }

none_off : {A : Type 0} (stack : List A) → Takes zero stack stack
none_off stack = ([], refl, refl)

one_off : {A : Type 0} (x : A) (stack rest : List A) → stack ≡ x ∷ rest → Takes 1 stack rest
one_off x stack rest e = (x ∷ [], e, refl)

two_off : {A : Type 0} (x y : A) (stack more rest : List A) → stack ≡ x ∷ more → more ≡ y ∷ rest → Takes 2 stack rest
two_off x y stack more rest e f = (x ∷ y ∷ [], e ∙ ap (λ s. x ∷ s) f, refl)

none_on : {A : Type 0} (stack : List A) → Gives zero stack stack
none_on stack = ([], refl, refl)

one_on : {A : Type 0} (x : A) (rest : List A) → Gives 1 (x ∷ rest) rest
one_on x rest = (x ∷ [], refl, refl)

two_on : {A : Type 0} (x y : A) (rest : List A) → Gives 2 (x ∷ y ∷ rest) rest
two_on x y rest = (x ∷ y ∷ [], refl, refl)

many_on : {A : Type 0} (n : ℕ) (xs rest : List A) → length xs ≡ n → Gives n (pushed xs rest) rest
many_on n xs rest e = let r = pushed_given xs rest in (r.0, r.1, r.2 ∙ e)

module _ {V W M C : Type 0} (D : Domain V W M) (side : Side (Unit {0}) Event V W M C) where
  abbrev Moved : ℕ → ℕ → State Event V W M C → State Event V W M C → Type 0
  Moved n k s s' = Moves n k s.stack s'.stack

  -- a value falls into as many parts as were asked for
  abbrev AllParts : Type 0
  AllParts = (n : ℕ) (v : V) (vs : List V) → D.parts n v ≡ Some vs → length vs ≡ n

  abbrev WasmCallMoves : Type 0
  WasmCallMoves = (m n : List ℕ) (ps rs : List WasmType) (s : State Event V W M C) → Then (Moved (length ps) (length rs) s) (side.on_wasm m n ps rs s)

  abbrev InterfaceCallMoves : Type 0
  InterfaceCallMoves = (m n : List ℕ) (ps rs : List Tree) (s : State Event V W M C) → Then (Moved (length ps) (length rs) s) (side.on_interface m n ps rs s)

  module _ (runs : Inside V W → List Event → State Event V W M C → Try (State Event V W M C)) (inside : Inside V W) where
    abbrev RowMoves : ℕ → ℕ → Row → Type 0
    RowMoves n k r = (s : State Event V W M C) → Then (Moved n k s) (acts D side runs inside r s)

    get_arg_moves : (i : ℕ) → RowMoves 0 1 (get_arg i)
    get_arg_moves i s = then_found (Moved 0 1 s) (slice_get side.arguments i) _ (λ x h. then_went (Moved 0 1 s) _ (moves 0 1 s.stack _ s.stack (none_off s.stack) (one_on x s.stack)))

    addr_of_moves : RowMoves 1 1 addr_of
    addr_of_moves s = then_value (Moved 1 1 s) s.stack _ (λ v t rest h. then_found (Moved 1 1 s) t _ (λ t g. then_found (Moved 1 1 s) (D.put t v s.memory) _ (λ r f. then_went (Moved 1 1 s) _ (moves 1 1 s.stack _ rest (one_off _ s.stack rest h) (one_on (word_item r.0) rest)))))

    lowering_moves : (x : Scalar) → RowMoves 1 1 (lowering x)
    lowering_moves x s = then_value (Moved 1 1 s) s.stack _ (λ v t rest h. then_found (Moved 1 1 s) (D.lower x v) _ (λ w g. then_went (Moved 1 1 s) _ (moves 1 1 s.stack _ rest (one_off _ s.stack rest h) (one_on (word_item w) rest))))

    lifting_moves : (x : Scalar) → RowMoves 1 1 (lifting x)
    lifting_moves x s = then_word (Moved 1 1 s) s.stack _ (λ w rest h. then_found (Moved 1 1 s) (D.lift x w) _ (λ v g. then_went (Moved 1 1 s) _ (moves 1 1 s.stack _ rest (one_off _ s.stack rest h) (one_on (plain_item v) rest))))

    list_pointer_length_moves : RowMoves 1 2 list_pointer_length
    list_pointer_length_moves s = then_value (Moved 1 2 s) s.stack _ (λ v t rest h. then_found (Moved 1 2 s) (D.list_words v) _ (λ ws g. then_went (Moved 1 2 s) _ (moves 1 2 s.stack _ rest (one_off _ s.stack rest h) (two_on (word_item ws.1) (word_item ws.0) rest))))

    list_from_pointer_length_moves : RowMoves 2 1 list_from_pointer_length
    list_from_pointer_length_moves s = then_word (Moved 2 1 s) s.stack _ (λ l more h. then_word (Moved 2 1 s) more _ (λ a rest g. then_found (Moved 2 1 s) (D.list_value a l) _ (λ v f. then_went (Moved 2 1 s) _ (moves 2 1 s.stack _ rest (two_off _ _ s.stack more rest h g) (one_on (plain_item v) rest)))))

    return_pointer_get_moves : (k : ℕ) → RowMoves 0 1 (return_pointer_get k)
    return_pointer_get_moves k s = then_found (Moved 0 1 s) (slot_word k s.slots) _ (λ w h. then_went (Moved 0 1 s) _ (moves 0 1 s.stack _ s.stack (none_off s.stack) (one_on (word_item w) s.stack)))

    load_moves : (t : Tree) → RowMoves 1 1 (load t)
    load_moves t s = then_word (Moved 1 1 s) s.stack _ (λ a rest h. then_found (Moved 1 1 s) (D.get t a s.memory) _ (λ v g. then_went (Moved 1 1 s) _ (moves 1 1 s.stack _ rest (one_off _ s.stack rest h) (one_on (value_item v (Some t)) rest))))

    store_moves : (t : Tree) → RowMoves 2 0 (store t)
    store_moves t s = then_word (Moved 2 0 s) s.stack _ (λ a more h. then_value (Moved 2 0 s) more _ (λ v n rest g. then_found (Moved 2 0 s) (D.set t a v s.memory) _ (λ m f. then_went (Moved 2 0 s) _ (moves 2 0 s.stack _ rest (two_off _ _ s.stack more rest h g) (none_on rest)))))

    tuple_lift_moves : (n : ℕ) → RowMoves n 1 (tuple_lift n)
    tuple_lift_moves n s = then_found (Moved n 1 s) (values_off n [] s.stack) _ (λ r h. then_went (Moved n 1 s) _ (moves n 1 s.stack _ r.1 (values_taken n [] s.stack r h) (one_on (plain_item (D.tuple r.0)) r.1)))

    tuple_lower_moves : AllParts → (n : ℕ) → RowMoves 1 n (tuple_lower n)
    tuple_lower_moves all n s = then_value (Moved 1 n s) s.stack _ (λ v t rest h. then_found (Moved 1 n s) (D.parts n v) _ (λ vs g. then_went (Moved 1 n s) _ (moves 1 n s.stack _ rest (one_off _ s.stack rest h) (many_on n (map plain_item vs) rest (length-map plain_item vs ∙ all n v vs g)))))

    variant_payload_moves : RowMoves 0 1 variant_payload
    variant_payload_moves s = then_found (Moved 0 1 s) (payload_in inside) _ (λ x h. then_went (Moved 0 1 s) _ (moves 0 1 s.stack _ s.stack (none_off s.stack) (one_on x s.stack)))

    reuse_return_moves : RowMoves 0 1 reuse_return
    reuse_return_moves s = then_found (Moved 0 1 s) s.returned _ (λ w h. then_went (Moved 0 1 s) _ (moves 0 1 s.stack _ s.stack (none_off s.stack) (one_on (word_item w) s.stack)))

    result_lower_moves : (ok err : Option Tree) → RowMoves 1 1 (result_lower ok err)
    result_lower_moves ok err s =
        then_only (Moved 1 1 s) (side.has_cases ok err) _ (λ b. then_value (Moved 1 1 s) s.stack _ (λ v t rest h. then_blocks (Moved 1 1 s) s.blocks _ (λ a b more. then_found (Moved 1 1 s) (D.picks ok err v) _ (λ c g.
        then_next (Moved 1 1 s) (run_block (λ e. e) (λ e. tt) D side runs (in_lower (payload_item c.1)) (cond c.0 b a) (record s { blocks = more })) _ (λ r.
        then_found (Moved 1 1 s) (block_word D c.0 r.0) _ (λ w f. then_went (Moved 1 1 s) _ (moves 1 1 s.stack _ rest (one_off _ s.stack rest h) (one_on (word_item w) rest))))))))

    result_lift_moves : RowMoves 1 1 result_lift
    result_lift_moves s =
        then_word (Moved 1 1 s) s.stack _ (λ w rest h. then_blocks (Moved 1 1 s) s.blocks _ (λ a b more. then_found (Moved 1 1 s) (D.chooses w) _ (λ e g.
        then_next (Moved 1 1 s) (run_block (λ e. e) (λ e. tt) D side runs in_lift (cond e b a) (record s { blocks = more })) _ (λ r.
        then_found (Moved 1 1 s) (lifted_payload r.0) _ (λ p f. then_went (Moved 1 1 s) _ (moves 1 1 s.stack _ rest (one_off _ s.stack rest h) (one_on (plain_item (D.result e p)) rest)))))))

    returned_moves : (n : ℕ) (i : Inside V W) (s : State Event V W M C) → Then (Moved n 0 s) (return_items {P = Unit {0}} n i s)
    returned_moves n outside s = then_found (Moved n 0 s) (items_off n [] s.stack) _ (λ r h. then_only (Moved n 0 s) (is_some s.called && (is_nil s.blocks && is_nil r.1)) _ (λ b. then_went (Moved n 0 s) _ (moves n 0 s.stack _ r.1 (items_taken n [] s.stack r h) (none_on r.1))))
    returned_moves n (in_lower x) s = then_none (Moved n 0 s)
    returned_moves n in_lift s = then_none (Moved n 0 s)

    step_moves : AllParts → WasmCallMoves → InterfaceCallMoves → (x : Step) → RowMoves (operands_count x) (results_count x) (row x)
    step_moves all wasm interface (Step.GetArg n) = get_arg_moves n
    step_moves all wasm interface Step.AddrOf = addr_of_moves
    step_moves all wasm interface Step.I32FromChar = lowering_moves _
    step_moves all wasm interface Step.I64FromU64 = lowering_moves _
    step_moves all wasm interface Step.I64FromS64 = lowering_moves _
    step_moves all wasm interface Step.I32FromU32 = lowering_moves _
    step_moves all wasm interface Step.I32FromS32 = lowering_moves _
    step_moves all wasm interface Step.I32FromUsize = lowering_moves _
    step_moves all wasm interface Step.I32FromU16 = lowering_moves _
    step_moves all wasm interface Step.I32FromS16 = lowering_moves _
    step_moves all wasm interface Step.I32FromU8 = lowering_moves _
    step_moves all wasm interface Step.I32FromS8 = lowering_moves _
    step_moves all wasm interface Step.I32FromChar8 = lowering_moves _
    step_moves all wasm interface Step.I32FromPointer = lowering_moves _
    step_moves all wasm interface Step.I32FromConstPointer = lowering_moves _
    step_moves all wasm interface (Step.I32FromHandle t) = lowering_moves _
    step_moves all wasm interface (Step.I32FromBitflags t) = lowering_moves _
    step_moves all wasm interface (Step.I64FromBitflags t) = lowering_moves _
    step_moves all wasm interface Step.F32FromIf32 = lowering_moves _
    step_moves all wasm interface Step.F64FromIf64 = lowering_moves _
    step_moves all wasm interface Step.ListPointerLength = list_pointer_length_moves
    step_moves all wasm interface (Step.ListFromPointerLength t) = list_from_pointer_length_moves
    step_moves all wasm interface (Step.CallWasm m n ps rs) = wasm m n ps rs
    step_moves all wasm interface (Step.CallInterface m n ps rs) = interface m n ps rs
    step_moves all wasm interface Step.S8FromI32 = lifting_moves _
    step_moves all wasm interface Step.U8FromI32 = lifting_moves _
    step_moves all wasm interface Step.S16FromI32 = lifting_moves _
    step_moves all wasm interface Step.U16FromI32 = lifting_moves _
    step_moves all wasm interface Step.S32FromI32 = lifting_moves _
    step_moves all wasm interface Step.U32FromI32 = lifting_moves _
    step_moves all wasm interface Step.S64FromI64 = lifting_moves _
    step_moves all wasm interface Step.U64FromI64 = lifting_moves _
    step_moves all wasm interface Step.CharFromI32 = lifting_moves _
    step_moves all wasm interface Step.Char8FromI32 = lifting_moves _
    step_moves all wasm interface Step.UsizeFromI32 = lifting_moves _
    step_moves all wasm interface Step.If32FromF32 = lifting_moves _
    step_moves all wasm interface Step.If64FromF64 = lifting_moves _
    step_moves all wasm interface (Step.HandleFromI32 t) = lifting_moves _
    step_moves all wasm interface (Step.PointerFromI32 t) = lifting_moves _
    step_moves all wasm interface (Step.ConstPointerFromI32 t) = lifting_moves _
    step_moves all wasm interface (Step.BitflagsFromI32 t) = lifting_moves _
    step_moves all wasm interface (Step.BitflagsFromI64 t) = lifting_moves _
    step_moves all wasm interface (Step.ReturnPointerGet n) = return_pointer_get_moves n
    step_moves all wasm interface (Step.Load t) = load_moves t
    step_moves all wasm interface (Step.Store t) = store_moves t
    step_moves all wasm interface (Step.TupleLift n) = tuple_lift_moves n
    step_moves all wasm interface (Step.TupleLower n) = tuple_lower_moves all n
    step_moves all wasm interface (Step.EnumLift t) = lifting_moves _
    step_moves all wasm interface (Step.EnumLower t) = lowering_moves _
    step_moves all wasm interface Step.VariantPayload = variant_payload_moves
    step_moves all wasm interface Step.ReuseReturn = reuse_return_moves
    step_moves all wasm interface (Step.ResultLower ok err) = result_lower_moves ok err
    step_moves all wasm interface Step.ResultLift = result_lift_moves
    step_moves all wasm interface (Step.Return n) = returned_moves n inside

-- a tuple has as many members as were asked for
all_parts : (n : ℕ) (v : Value) (vs : List Value) → tuple_parts n v ≡ Some vs → length vs ≡ n
all_parts n (Value.tuple_values us) vs e = go (nat_eq n (length (list_of_values us))) refl e
  where
    members : List Value → Option (List Value) → List Value
    members d None = d
    members d (Some vs) = vs

    go : (b : Bool) → nat_eq n (length (list_of_values us)) ≡ b → when b (Some (list_of_values us)) ≡ Some vs → length vs ≡ n
    go true h e = ap length (sym (ap (members []) e)) ∙ sym (eqb→eq n (length (list_of_values us)) (subst T (sym h) tt))
    go false h e = nothing e
all_parts n _ vs e = nothing e

-- the calls of the two sides
module _ (m : List ℕ) (f : Function) where
  typed_words : (ts : List WasmType) (ws : List Word) → T (typed cells ts ws) → length ws ≡ length ts
  typed_words [] [] h = refl
  typed_words (t ∷ ts) (w ∷ ws) h = let r : length ws ≡ length ts = typed_words ts ws (right_true (cells.has_type t w) _ h) in let e : length (w ∷ ws) ≡ length (t ∷ ts) = omega arith in e
  typed_words [] (w ∷ ws) h = absurd h
  typed_words (t ∷ ts) [] h = absurd h

  same_number : (ts us : List Tree) → T (same_trees ts us) → length ts ≡ length us
  same_number [] [] h = refl
  same_number (t ∷ ts) (u ∷ us) h = let r : length ts ≡ length us = same_number ts us (right_true (same_tree t u) _ h) in let e : length (t ∷ ts) ≡ length (u ∷ us) = omega arith in e
  same_number [] (u ∷ us) h = absurd h
  same_number (t ∷ ts) [] h = absurd h

  items : List (Item Value Word) → Option (List (Item Value Word)) → List (Item Value Word)
  items d None = d
  items d (Some xs) = xs

  replies : (ts : List Tree) (reply : Option Value) (xs : List (Item Value Word)) → reply_items {W = Word} ts reply ≡ Some xs → length xs ≡ length ts
  unfolding items
  replies [] None xs e = ap length (sym (ap (items []) e))
  replies [] (Some v) xs e = nothing e
  replies (t ∷ []) (Some v) xs e = ap length (sym (ap (items []) e))
  replies (t ∷ []) None xs e = nothing e
  replies (t ∷ u ∷ ts) reply xs e = nothing e

  -- the call is the function's own
  abbrev is_own : {C : Type 0} → List ℕ → List ℕ → Bool → State Event Value Word Memory C → Bool
  is_own m' n b s = is_none s.called && (same_bytes m' m && (same_bytes n f.name && b))

  own_types : {C : Type 0} (m' n : List ℕ) (b : Bool) (s : State Event Value Word Memory C) → T (is_own m' n b s) → T b
  own_types m' n b s h = right_true (same_bytes n f.name) _ (right_true (same_bytes m' m) _ (right_true (is_none s.called) _ h))

  called_moves : (to : Receiver) (callee : List Event) (reply : Option Value) (words : List Word) (s : State Event Value Word Memory (Call Value Word Memory)) (Q : State Event Value Word Memory (Call Value Word Memory) → Type 0) → ((ws : List Word) (s' : State Event Value Word Memory (Call Value Word Memory)) → s'.stack ≡ pushed (map word_item ws) s.stack → T (typed cells (signature_results f) ws) → Q s') → Then Q (called_with (λ e. e) (λ e. tt) cells m f to tt callee reply words s)
  called_moves to callee reply words s Q h =
      then_found Q (picked_in_order to.order words) _ (λ own d.
      then_next Q (run_trace (λ e. e) (λ e. tt) cells (callee_side (λ e. e) (λ e. tt) cells to.module_name to.function reply own) tt callee (start s.memory)) _ (λ q. then_found Q (words_in q.1) _ (λ ws g. then_only Q (typed cells (signature_results f) ws) _ (λ y. then_went Q _ (h ws _ refl y)))))

  caller_call : (to : Receiver) (callee : List Event) (arguments : List Value) (reply : Option Value) → WasmCallMoves cells (caller_side (λ e. e) (λ e. tt) cells m f to tt callee arguments reply)
  caller_call to callee arguments reply m' n ps rs s =
      let Q = Moved cells (caller_side (λ e. e) (λ e. tt) cells m f to tt callee arguments reply) (length ps) (length rs) s in
      then_only Q (is_own m' n (same_types ps (signature_params f) && same_types rs (signature_results f)) s) _ (λ b. then_found Q (words_off (length ps) [] s.stack) _ (λ r h. then_only Q (typed cells ps r.0) _ (λ k. called_moves to callee reply r.0 (record s { stack = r.1 }) Q (λ ws s' e y. go b r h ws s' e y))))
    where
      go : T (is_own m' n (same_types ps (signature_params f) && same_types rs (signature_results f)) s) → (r : List Word × List (Item Value Word)) → words_off (length ps) [] s.stack ≡ Some r → (ws : List Word) (s' : State Event Value Word Memory (Call Value Word Memory)) → s'.stack ≡ pushed (map word_item ws) r.1 → T (typed cells (signature_results f) ws) → Moves (length ps) (length rs) s.stack s'.stack
      go b r h ws s' e y =
          let types = right_true (same_types ps (signature_params f)) _ (own_types m' n _ s b) in
          let number : length (map word_item ws) ≡ length rs = length-map word_item ws ∙ typed_words (signature_results f) ws y ∙ sym (ap length (same_types_is rs (signature_results f) types)) in
          let given = many_on (length rs) (map word_item ws) r.1 number in
          moves (length ps) (length rs) s.stack s'.stack r.1 (words_taken (length ps) [] s.stack r h) (given.0, e ∙ given.1, given.2)

  callee_call : (reply : Option Value) (words : List Word) → InterfaceCallMoves cells (callee_side (λ e. e) (λ e. tt) cells m f reply words)
  callee_call reply words m' n ps rs s =
      let Q = Moved cells (callee_side (λ e. e) (λ e. tt) cells m f reply words) (length ps) (length rs) s in
      then_only Q (is_own m' n (same_trees ps f.params && same_trees rs f.results) s) _ (λ b. then_found Q (values_off (length f.params) [] s.stack) _ (λ r h. then_found Q (reply_items f.results reply) _ (λ xs g. go r xs b h g)))
    where
      go : (r : List Value × List (Item Value Word)) (xs : List (Item Value Word)) → T (is_own m' n (same_trees ps f.params && same_trees rs f.results) s) → values_off (length f.params) [] s.stack ≡ Some r → reply_items {W = Word} f.results reply ≡ Some xs → Then (Moved cells (callee_side (λ e. e) (λ e. tt) cells m f reply words) (length ps) (length rs) s) (went (record s { stack = xs ++ r.1; called = Some r.0 }))
      go r xs b h g =
          let types = own_types m' n _ s b in
          let taken = values_taken (length f.params) [] s.stack r h in
          let given = replies f.results reply xs g in
          then_went (Moved cells (callee_side (λ e. e) (λ e. tt) cells m f reply words) (length ps) (length rs) s) _ (moves (length ps) (length rs) s.stack (xs ++ r.1) r.1 (taken.0, taken.1, taken.2 ∙ sym (same_number ps f.params (left_true (same_trees ps f.params) _ types))) (xs, refl, given ∙ sym (same_number rs f.results (right_true (same_trees ps f.params) _ types))))

  caller_steps : (to : Receiver) (callee : List Event) (arguments : List Value) (reply : Option Value) → KeepsToTable (caller_side (λ e. e) (λ e. tt) cells m f to tt callee arguments reply)
  caller_steps to callee arguments reply runs inside x s s' e =
      let side = caller_side (λ e. e) (λ e. tt) cells m f to tt callee arguments reply in
      then_is (Moved cells side (operands_count x) (results_count x) s) _ s' (step_moves cells side runs inside all_parts (caller_call to callee arguments reply) (λ m n ps rs s. then_none _) x s) e

  callee_steps : (reply : Option Value) (words : List Word) → KeepsToTable (callee_side (λ e. e) (λ e. tt) cells m f reply words)
  callee_steps reply words runs inside x s s' e =
      let side = callee_side (λ e. e) (λ e. tt) cells m f reply words in
      then_is (Moved cells side (operands_count x) (results_count x) s) _ s' (step_moves cells side runs inside all_parts (λ m n ps rs s. then_none _) (callee_call reply words) x s) e

pub rows_keep_to_table : RowsKeepToTable
rows_keep_to_table = (caller_steps, callee_steps)
