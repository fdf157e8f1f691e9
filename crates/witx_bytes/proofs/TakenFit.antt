-- A run of events whose types fit their tags takes addresses for such types alone.
use Rattle.std.proofs.Common.{◌≡◌, ℕ, zero, suc, Bool, true, false, cond, ◌||◌, ◌&&◌, subst, Option, Some, None, is_none, is_some, option_map, slice_get, List, [], ◌∷◌, ◌++◌, map, length}
use Rattle.witx_ast.specs.Tree.{Tree}
use Rattle.witx_ast.specs.Plain.{plain}
use Rattle.witx_ast.specs.Tags.{AllFit}
use Rattle.witx_ast.specs.Values.{Value}
use Rattle.witx_ast.specs.ValueTests.{is_value}
use Rattle.witx_machine.specs.declared.surface.WasmType.{WasmType}
use Rattle.witx_machine.specs.Words.{Word, when}
use Rattle.witx_machine.specs.Events.{Event, emit, space, push, finish}
use Rattle.witx_machine.specs.Rows.{Row, row, get_arg, addr_of, lowering, lifting, list_pointer_length, list_from_pointer_length, return_pointer_get, load, store, tuple_lift, tuple_lower, variant_payload, reuse_return, result_lower, result_lift, call_wasm, call_interface, returns}
use Rattle.witx_machine.specs.Functions.{Function, name_of, by_address}
use Rattle.witx_machine.specs.Signature.{signature_results}
use Rattle.witx_machine.specs.Machine.{Tried, went, no_rule, stuck_at, if_found, goes_on, only, Item, word_item, value_item, plain_item, Block, State, Inside, outside, in_lower, in_lift, Side, is_nil, slot_word, pushed, words_off, values_off, items_off, payload_item, payload_in, block_word, lifted_payload, top_word, top_value, two_blocks, with_stack, left_over, return_items, run_block, act, give_slot, Flow, flowing, gathering, after, set_aside, flows, gathers, play, runs_within, ended, run_trace}
use Rattle.witx_machine.specs.Run.{Receiver, Outcome, Call, argument_items, reply_items, words_in, typed, picked_in_order, start, caller_side, callee_side, calls_wasm, calls_interface, called_with, run_to}
use Rattle.witx_bytes.specs.Follow.{AreWritable}
use Rattle.witx_machine.specs.Cells.{Cell, Cells, Memory, Taken, cells, cell_given, stored, get, insert, is_i32, picked, case_picked, outcome}

abbrev pub Fit : Tree → Type 0
Fit t = AllFit (plain t)

abbrev pub IfGiven : Option Tree → Type 0
IfGiven None = Unit {0}
IfGiven (Some t) = Fit t

-- rows that name types under which values are left on the stack
abbrev pub GoodRow : Row → Type 0
GoodRow (load t) = Fit t
GoodRow (result_lower ok err) = IfGiven ok × IfGiven err
GoodRow _ = Unit {0}

abbrev pub Good : Event → Type 0
Good (emit x) = GoodRow (row x)
Good (space k t) = Fit t
Good push = Unit {0}
Good (finish v) = Unit {0}

abbrev pub AllGood : List Event → Type 0
AllGood [] = Unit {0}
AllGood (e ∷ es) = Good e × AllGood es

pub good_both : (xs ys : List Event) → AllGood xs → AllGood ys → AllGood (xs ++ ys)
good_both [] ys h k = k
good_both (x ∷ xs) ys h k = (h.0, good_both xs ys h.1 k)

abbrev pub ItemFits : Item Value Word → Type 0
ItemFits (word_item w) = Unit {0}
ItemFits (value_item v t) = IfGiven t

abbrev pub ItemsFit : List (Item Value Word) → Type 0
ItemsFit [] = Unit {0}
ItemsFit (x ∷ xs) = ItemFits x × ItemsFit xs

abbrev BlocksGood : List (Block Event) → Type 0
BlocksGood [] = Unit {0}
BlocksGood (b ∷ bs) = AllGood b.events × BlocksGood bs

abbrev PayloadFits : Option (Item Value Word) → Type 0
PayloadFits None = Unit {0}
PayloadFits (Some x) = ItemFits x

abbrev InsideFits : Inside Value Word → Type 0
InsideFits outside = Unit {0}
InsideFits in_lift = Unit {0}
InsideFits (in_lower x) = PayloadFits x

abbrev FlowGood : Flow Event → Type 0
FlowGood flowing = Unit {0}
FlowGood (gathering b d es) = AllGood es

record Fine {C : Type 0} (s : State Event Value Word Memory C) : Type 0 where
  stack : ItemsFit s.stack
  taken : AreWritable s.memory.taken
  blocks : BlocksGood s.blocks

-- so it is of what comes, if something does
abbrev IfSome' : {A : Type 0} → (A → Type 0) → Option A → Type 0
IfSome' Q None = Unit {0}
IfSome' Q (Some x) = Q x

abbrev Then : {P A : Type 0} → (A → Type 0) → Tried P A → Type 0
Then Q (went x) = Q x
Then Q no_rule = Unit {0}
Then Q (stuck_at p) = Unit {0}

then_found : {P A B : Type 0} (R : A → Type 0) (Q : B → Type 0) (o : Option A) (f : A → Tried P B) → IfSome' R o → ((x : A) → R x → Then Q (f x)) → Then Q (if_found o f)
then_found R Q None f h k = tt
then_found R Q (Some x) f h k = k x h

-- where nothing is to be known of what is found
then_any : {P A B : Type 0} (Q : B → Type 0) (o : Option A) (f : A → Tried P B) → ((x : A) → Then Q (f x)) → Then Q (if_found o f)
then_any Q None f k = tt
then_any Q (Some x) f k = k x

then_next : {P A B : Type 0} (R : A → Type 0) (Q : B → Type 0) (t : Tried P A) (f : A → Tried P B) → Then R t → ((x : A) → R x → Then Q (f x)) → Then Q (goes_on t f)
then_next R Q (went x) f h k = k x h
then_next R Q no_rule f h k = tt
then_next R Q (stuck_at p) f h k = tt

then_only : {P A : Type 0} (Q : A → Type 0) (b : Bool) (t : Tried P A) → Then Q t → Then Q (only b t)
then_only Q true t h = h
then_only Q false t h = tt

then_word : {P A : Type 0} (Q : A → Type 0) (stack : List (Item Value Word)) (f : Word → List (Item Value Word) → Tried P A) → ItemsFit stack → ((w : Word) (rest : List (Item Value Word)) → ItemsFit rest → Then Q (f w rest)) → Then Q (top_word stack f)
then_word Q (word_item w ∷ rest) f h k = k w rest h.1
then_word Q (value_item v t ∷ rest) f h k = tt
then_word Q [] f h k = tt

then_value : {P A : Type 0} (Q : A → Type 0) (stack : List (Item Value Word)) (f : Value → Option Tree → List (Item Value Word) → Tried P A) → ItemsFit stack → ((v : Value) (t : Option Tree) (rest : List (Item Value Word)) → IfGiven t → ItemsFit rest → Then Q (f v t rest)) → Then Q (top_value stack f)
then_value Q (value_item v t ∷ rest) f h k = k v t rest h.0 h.1
then_value Q (word_item w ∷ rest) f h k = tt
then_value Q [] f h k = tt

then_blocks : {P A : Type 0} (Q : A → Type 0) (blocks : List (Block Event)) (f : Block Event → Block Event → List (Block Event) → Tried P A) → BlocksGood blocks → ((a b : Block Event) (more : List (Block Event)) → AllGood a.events → AllGood b.events → BlocksGood more → Then Q (f a b more)) → Then Q (two_blocks blocks f)
then_blocks Q (b ∷ a ∷ more) f h k = k a b more h.1.0 h.0 h.1.1
then_blocks Q (b ∷ []) f h k = tt
then_blocks Q [] f h k = tt

-- stacks
pushed_fit : (xs stack : List (Item Value Word)) → ItemsFit xs → ItemsFit stack → ItemsFit (pushed xs stack)
pushed_fit [] stack h k = k
pushed_fit (x ∷ xs) stack h k = pushed_fit xs (x ∷ stack) h.1 (h.0, k)

items_both : (xs ys : List (Item Value Word)) → ItemsFit xs → ItemsFit ys → ItemsFit (xs ++ ys)
items_both [] ys h k = k
items_both (x ∷ xs) ys h k = (h.0, items_both xs ys h.1 k)

plain_items_fit : (vs : List Value) → ItemsFit (map plain_item vs)
plain_items_fit [] = tt
plain_items_fit (v ∷ vs) = (tt, plain_items_fit vs)

word_items_fit : (ws : List Word) → ItemsFit (map word_item ws)
word_items_fit [] = tt
word_items_fit (w ∷ ws) = (tt, word_items_fit ws)

item_at : (xs : List (Item Value Word)) (i : ℕ) → ItemsFit xs → IfSome' ItemFits (slice_get xs i)
item_at [] i h = tt
item_at (x ∷ xs) zero h = h.0
item_at (x ∷ xs) (suc i) h = item_at xs i h.1

words_off_fit : (n : ℕ) (ws : List Word) (stack : List (Item Value Word)) → ItemsFit stack → IfSome' (λ r. ItemsFit r.1) (words_off n ws stack)
words_off_fit zero ws stack h = h
words_off_fit (suc n) ws (word_item w ∷ stack) h = words_off_fit n (w ∷ ws) stack h.1
words_off_fit (suc n) ws (value_item v t ∷ stack) h = tt
words_off_fit (suc n) ws [] h = tt

values_off_fit : (n : ℕ) (vs : List Value) (stack : List (Item Value Word)) → ItemsFit stack → IfSome' (λ r. ItemsFit r.1) (values_off n vs stack)
values_off_fit zero vs stack h = h
values_off_fit (suc n) vs (value_item v t ∷ stack) h = values_off_fit n (v ∷ vs) stack h.1
values_off_fit (suc n) vs (word_item w ∷ stack) h = tt
values_off_fit (suc n) vs [] h = tt

items_off_fit : (n : ℕ) (xs stack : List (Item Value Word)) → ItemsFit stack → IfSome' (λ r. ItemsFit r.1) (items_off n xs stack)
items_off_fit zero xs stack h = h
items_off_fit (suc n) xs (x ∷ stack) h = items_off_fit n (x ∷ xs) stack h.1
items_off_fit (suc n) xs [] h = tt

payload_in_fits : (inside : Inside Value Word) → InsideFits inside → IfSome' ItemFits (payload_in inside)
payload_in_fits outside h = tt
payload_in_fits in_lift h = tt
payload_in_fits (in_lower None) h = tt
payload_in_fits (in_lower (Some x)) h = h

name_fits : (t : Tree) → Fit t → IfGiven (name_of t)
name_fits (Tree.named n t d) h = h
name_fits _ h = tt

-- memories
taken_more : (xs : Taken) (x : ℕ × Tree) → AreWritable xs → Fit x.1 → AreWritable (xs ++ x ∷ [])
taken_more [] x h k = (k, tt)
taken_more (y ∷ ys) x h k = (h.0, taken_more ys x h.1 k)

given_fits : (t : Tree) (v : Option Value) (cs : Cells) (fresh : List ℕ) (taken : Taken) → Fit t → AreWritable taken → IfSome' (λ r. AreWritable r.1.taken) (cell_given t v cs fresh taken)
given_fits t v cs [] taken h k = tt
given_fits t v cs (a ∷ more) taken h k = taken_more taken (a, t) k h

put_fits : (t : Tree) (v : Value) (m : Memory) → Fit t → AreWritable m.taken → IfSome' (λ r. AreWritable r.1.taken) (cells.put t v m)
put_fits t v m h k = go (by_address (plain t))
  where
    go : (b : Bool) → IfSome' (λ r. AreWritable r.1.taken) (when b (cell_given t (Some v) m.cells m.fresh m.taken))
    go true = given_fits t (Some v) m.cells m.fresh m.taken h k
    go false = tt

set_fits : (t : Tree) (w : Word) (v : Value) (m : Memory) → AreWritable m.taken → IfSome' (λ (n : Memory). AreWritable n.taken) (cells.set t w v m)
set_fits t w v m k = go (is_i32 w) (stored t v (get m.cells w.bits))
  where
    go : (b : Bool) (o : Option Cell) → IfSome' (λ (n : Memory). AreWritable n.taken) (when b (option_map (λ c. record { cells = insert m.cells w.bits c; fresh = m.fresh; taken = m.taken }) o))
    go true (Some c) = k
    go true None = tt
    go false o = tt

abbrev PickFits : Bool × Option (Value × Option Tree) → Type 0
PickFits c = PayloadFits (payload_item c.1)

picked_fits : (e : Bool) (t : Option Tree) (p : Option Value) → IfGiven t → IfSome' PickFits (picked e t p)
picked_fits e None None h = tt
picked_fits e None (Some p) h = tt
picked_fits e (Some t) None h = tt
picked_fits e (Some t) (Some p) h = go (is_value (plain t) p)
  where
    go : (b : Bool) → IfSome' PickFits (option_map (λ x. (e, x)) (when b (Some (Some (p, name_of t)))))
    go true = name_fits t h
    go false = tt

picks_fit : (ok err : Option Tree) (v : Value) → IfGiven ok → IfGiven err → IfSome' PickFits (case_picked ok err v)
picks_fit ok err (Value.case_with zero p) h k = picked_fits false ok (Some p) h
picks_fit ok err (Value.case_with (suc zero) p) h k = picked_fits true err (Some p) k
picks_fit ok err (Value.bare_case zero) h k = picked_fits false ok None h
picks_fit ok err (Value.bare_case (suc zero)) h k = picked_fits true err None k
picks_fit ok err (Value.case_with (suc (suc i)) p) h k = tt
picks_fit ok err (Value.bare_case (suc (suc i))) h k = tt
picks_fit ok err _ h k = tt

cond_good : (b : Bool) (x y : Block Event) → AllGood x.events → AllGood y.events → AllGood (cond b x y).events
cond_good true x y h k = h
cond_good false x y h k = k

left_over_fine : {C : Type 0} (b : Bool) (stack : List (Item Value Word)) (s : State Event Value Word Memory C) → Fine s → Then {P = Unit {0}} (λ r. Fine r.1) (left_over tt b stack s)
left_over_fine true (x ∷ []) s h = h
left_over_fine true (x ∷ y ∷ xs) s h = tt
left_over_fine true [] s h = tt
left_over_fine false [] s h = h
left_over_fine false (x ∷ xs) s h = tt

returned_fine : {C : Type 0} (n : ℕ) (inside : Inside Value Word) (s : State Event Value Word Memory C) → Fine s → Then {P = Unit {0}} Fine (return_items n inside s)
returned_fine n outside s h = then_found (λ r. ItemsFit r.1) Fine (items_off n [] s.stack) _ (items_off_fit n [] s.stack h.stack) (λ r k. then_only Fine (is_some s.called && (is_nil s.blocks && is_nil r.1)) _ (record { stack = k; taken = h.taken; blocks = h.blocks }))
returned_fine n (in_lower x) s h = tt
returned_fine n in_lift s h = tt

module _ {C : Type 0} (side : Side (Unit {0}) Event Value Word Memory C) (arguments : ItemsFit side.arguments)
    (wasm : (m n : List ℕ) (ps rs : List WasmType) (s : State Event Value Word Memory C) → Fine s → Then Fine (side.on_wasm m n ps rs s))
    (interface : (m n : List ℕ) (ps rs : List Tree) (s : State Event Value Word Memory C) → Fine s → Then Fine (side.on_interface m n ps rs s)) where
  abbrev Runs : Type 0
  Runs = Inside Value Word → List Event → State Event Value Word Memory C → Tried (Unit {0}) (State Event Value Word Memory C)

  abbrev RunsFine : Runs → Type 0
  RunsFine runs = (inside : Inside Value Word) (es : List Event) (s : State Event Value Word Memory C) → AllGood es → InsideFits inside → Fine s → Then Fine (runs inside es s)

  module _ (runs : Runs) (fine : RunsFine runs) where
    block_fine : (inside : Inside Value Word) (b : Block Event) (s : State Event Value Word Memory C) → InsideFits inside → AllGood b.events → Fine s → Then (λ r. Fine r.1) (run_block (λ e. e) (λ e. tt) cells side runs inside b s)
    block_fine inside b s i g h =
        then_next Fine (λ r. Fine r.1) (runs inside b.events (with_stack [] s)) _ (fine inside b.events (with_stack [] s) g i (record { stack = tt; taken = h.taken; blocks = h.blocks })) (λ x k. left_over_fine b.has_value x.stack x k)

    act_fine : (inside : Inside Value Word) → InsideFits inside → (r : Row) → GoodRow r → (s : State Event Value Word Memory C) → Fine s → Then Fine (act (λ e. e) (λ e. tt) cells side runs inside r s)
    act_fine inside i (get_arg n) g s h = then_found ItemFits Fine (slice_get side.arguments n) _ (item_at side.arguments n arguments) (λ x k. record { stack = (k, h.stack); taken = h.taken; blocks = h.blocks })
    act_fine inside i addr_of g s h =
        then_value Fine s.stack _ h.stack (λ v t rest k l.
        then_found Fit Fine t _ (given_of t k) (λ t k.
        then_found (λ r. AreWritable r.1.taken) Fine (cells.put t v s.memory) _ (put_fits t v s.memory k h.taken) (λ r n. record { stack = (tt, l); taken = n; blocks = h.blocks })))
      where
        given_of : (t : Option Tree) → IfGiven t → IfSome' Fit t
        given_of None k = tt
        given_of (Some t) k = k
    act_fine inside i (lowering x) g s h = then_value Fine s.stack _ h.stack (λ v t rest k l. then_any Fine (cells.lower x v) _ (λ w. record { stack = (tt, l); taken = h.taken; blocks = h.blocks }))
    act_fine inside i (lifting x) g s h = then_word Fine s.stack _ h.stack (λ w rest l. then_any Fine (cells.lift x w) _ (λ v. record { stack = (tt, l); taken = h.taken; blocks = h.blocks }))
    act_fine inside i list_pointer_length g s h = then_value Fine s.stack _ h.stack (λ v t rest k l. then_any Fine (cells.list_words v) _ (λ ws. record { stack = (tt, (tt, l)); taken = h.taken; blocks = h.blocks }))
    act_fine inside i list_from_pointer_length g s h =
        then_word Fine s.stack _ h.stack (λ w rest l. then_word Fine rest _ l (λ a more k. then_any Fine (cells.list_value a w) _ (λ v. record { stack = (tt, k); taken = h.taken; blocks = h.blocks })))
    act_fine inside i (return_pointer_get n) g s h = then_any Fine (slot_word n s.slots) _ (λ w. record { stack = (tt, h.stack); taken = h.taken; blocks = h.blocks })
    act_fine inside i (load t) g s h = then_word Fine s.stack _ h.stack (λ a rest l. then_any Fine (cells.get t a s.memory) _ (λ v. record { stack = (g, l); taken = h.taken; blocks = h.blocks }))
    act_fine inside i (store t) g s h =
        then_word Fine s.stack _ h.stack (λ a rest l. then_value Fine rest _ l (λ v n more k o.
        then_found (λ m. AreWritable m.taken) Fine (cells.set t a v s.memory) _ (set_fits t a v s.memory h.taken) (λ m q. record { stack = o; taken = q; blocks = h.blocks })))
    act_fine inside i (tuple_lift n) g s h = then_found (λ r. ItemsFit r.1) Fine (values_off n [] s.stack) _ (values_off_fit n [] s.stack h.stack) (λ r k. record { stack = (tt, k); taken = h.taken; blocks = h.blocks })
    act_fine inside i (tuple_lower n) g s h =
        then_value Fine s.stack _ h.stack (λ v t rest k l. then_any Fine (cells.parts n v) _ (λ vs. record { stack = pushed_fit (map plain_item vs) rest (plain_items_fit vs) l; taken = h.taken; blocks = h.blocks }))
    act_fine inside i variant_payload g s h = then_found ItemFits Fine (payload_in inside) _ (payload_in_fits inside i) (λ x k. record { stack = (k, h.stack); taken = h.taken; blocks = h.blocks })
    act_fine inside i reuse_return g s h = then_any Fine s.returned _ (λ w. record { stack = (tt, h.stack); taken = h.taken; blocks = h.blocks })
    act_fine inside i (result_lower ok err) g s h =
        then_only Fine (side.has_cases ok err) _ (then_value Fine s.stack _ h.stack (λ v t rest k l. then_blocks Fine s.blocks _ h.blocks (λ a b more ga gb gm.
        then_found PickFits Fine (cells.picks ok err v) _ (picks_fit ok err v g.0 g.1) (λ c p.
        then_next (λ r. Fine r.1) Fine (run_block (λ e. e) (λ e. tt) cells side runs (in_lower (payload_item c.1)) (cond c.0 b a) (record s { blocks = more })) _
        (block_fine (in_lower (payload_item c.1)) (cond c.0 b a) (record s { blocks = more }) p (cond_good c.0 b a gb ga) (record { stack = h.stack; taken = h.taken; blocks = gm })) (λ r q.
        then_any Fine (block_word cells c.0 r.0) _ (λ w. record { stack = (tt, l); taken = q.taken; blocks = q.blocks }))))))
    act_fine inside i result_lift g s h =
        then_word Fine s.stack _ h.stack (λ w rest l. then_blocks Fine s.blocks _ h.blocks (λ a b more ga gb gm. then_any Fine (cells.chooses w) _ (λ e.
        then_next (λ r. Fine r.1) Fine (run_block (λ e. e) (λ e. tt) cells side runs in_lift (cond e b a) (record s { blocks = more })) _
        (block_fine in_lift (cond e b a) (record s { blocks = more }) tt (cond_good e b a gb ga) (record { stack = h.stack; taken = h.taken; blocks = gm })) (λ r q.
        then_any Fine (lifted_payload r.0) _ (λ p. record { stack = (tt, l); taken = q.taken; blocks = q.blocks })))))
    act_fine inside i (call_wasm m n ps rs) g s h = wasm m n ps rs s h
    act_fine inside i (call_interface m n ps rs) g s h = interface m n ps rs s h
    act_fine inside i (returns n) g s h = returned_fine n inside s h

    after_fine : (last : Bool) (t : Tried (Unit {0}) (State Event Value Word Memory C)) (go : State Event Value Word Memory C → Tried (Unit {0}) (State Event Value Word Memory C)) → Then Fine t → ((s : State Event Value Word Memory C) → Fine s → Then Fine (go s)) → Then Fine (after tt last t go)
    after_fine last (went s) go h k = by (is_none s.answer || last)
      where
        by : (b : Bool) → Then Fine (cond b (go s) (stuck_at tt))
        by true = k s h
        by false = tt
    after_fine last no_rule go h k = tt
    after_fine last (stuck_at q) go h k = tt

    slot_fine : (k : ℕ) (t : Tree) (o : Option Word) (s : State Event Value Word Memory C) → Fit t → Fine s → (inside : Inside Value Word) → Then Fine (give_slot (λ e. e) (λ e. tt) cells side runs inside k t o s)
    slot_fine k t (Some w) s g h inside = tt
    slot_fine k t None s g h inside =
        then_found (λ r. AreWritable r.1.taken) Fine (cells.give t s.memory) _ (given_fits t None s.memory.cells s.memory.fresh s.memory.taken g h.taken) (λ r n. record { stack = h.stack; taken = n; blocks = h.blocks })

    abbrev GoFine : (Flow Event → State Event Value Word Memory C → Tried (Unit {0}) (State Event Value Word Memory C)) → Type 0
    GoFine go = (fl : Flow Event) (s : State Event Value Word Memory C) → FlowGood fl → Fine s → Then Fine (go fl s)

    flows_fine : (inside : Inside Value Word) → InsideFits inside → (x e : Event) → Good x → (last : Bool) (go : Flow Event → State Event Value Word Memory C → Tried (Unit {0}) (State Event Value Word Memory C)) → GoFine go → (s : State Event Value Word Memory C) → Fine s → Then Fine (flows (λ e. e) (λ e. tt) cells side runs inside x e last go s)
    flows_fine inside i (emit x) e g last go k s h = after_fine last (act (λ e. e) (λ e. tt) cells side runs inside (row x) s) (go flowing) (act_fine inside i (row x) g s h) (λ s h. k flowing s tt h)
    flows_fine inside i (space n t) e g last go k s h = after_fine last (give_slot (λ e. e) (λ e. tt) cells side runs inside n t (slot_word n s.slots) s) (go flowing) (slot_fine n t (slot_word n s.slots) s g h inside) (λ s h. k flowing s tt h)
    flows_fine inside i push e g last go k s h = k (gathering e 0 []) s tt h
    flows_fine inside i (finish v) e g last go k s h = tt

    gathers_fine : (x e b : Event) → Good e → (d : ℕ) (es : List Event) → AllGood es → (go : Flow Event → State Event Value Word Memory C → Tried (Unit {0}) (State Event Value Word Memory C)) → GoFine go → (s : State Event Value Word Memory C) → Fine s → Then Fine (gathers (λ e. e) (λ e. tt) cells side x e b d es go s)
    gathers_fine (emit x) e b g d es a go k s h = k (gathering b d (es ++ e ∷ [])) s (good_both es (e ∷ []) a (g, tt)) h
    gathers_fine (space n t) e b g d es a go k s h = k (gathering b d (es ++ e ∷ [])) s (good_both es (e ∷ []) a (g, tt)) h
    gathers_fine push e b g d es a go k s h = k (gathering b (suc d) (es ++ e ∷ [])) s (good_both es (e ∷ []) a (g, tt)) h
    gathers_fine (finish v) e b g zero es a go k s h = k flowing (set_aside es v e s) tt (record { stack = h.stack; taken = h.taken; blocks = (a, h.blocks) })
    gathers_fine (finish v) e b g (suc d) es a go k s h = k (gathering b d (es ++ e ∷ [])) s (good_both es (e ∷ []) a (g, tt)) h

    play_fine : (inside : Inside Value Word) → InsideFits inside → (es : List Event) → AllGood es → (fl : Flow Event) (s : State Event Value Word Memory C) → FlowGood fl → Fine s → Then Fine (play (λ e. e) (λ e. tt) cells side runs inside es fl s)
    play_fine inside i [] g flowing s f h = h
    play_fine inside i [] g (gathering b d es) s f h = tt
    play_fine inside i (e ∷ more) g flowing s f h = flows_fine inside i e e g.0 (is_nil more) (play (λ e. e) (λ e. tt) cells side runs inside more) (play_fine inside i more g.1) s h
    play_fine inside i (e ∷ more) g (gathering b d es) s f h = gathers_fine e e b g.0 d es f (play (λ e. e) (λ e. tt) cells side runs inside more) (play_fine inside i more g.1) s h

  runs_fine : (n : ℕ) → RunsFine (runs_within (λ e. e) (λ e. tt) cells side n)
  runs_fine zero inside es s g i h = tt
  runs_fine (suc n) inside es s g i h = play_fine (runs_within (λ e. e) (λ e. tt) cells side n) (runs_fine n) inside i es g flowing s tt h

  ended_fine : (c : Option C) (xs : Option (List (Item Value Word))) (s : State Event Value Word Memory C) → Fine s → Then {P = Unit {0}} (λ r. Fine r.2) (ended tt c xs s)
  ended_fine (Some c) (Some xs) s h = h
  ended_fine None xs s h = tt
  ended_fine (Some c) None s h = tt

  trace_fine : (es : List Event) (s : State Event Value Word Memory C) → AllGood es → Fine s → Then (λ r. Fine r.2) (run_trace (λ e. e) (λ e. tt) cells side tt es s)
  trace_fine es s g h =
      then_next Fine (λ r. Fine r.2) (runs_within (λ e. e) (λ e. tt) cells side (suc (length es)) outside es s) _ (runs_fine (suc (length es)) outside es s g tt h) (λ s k. ended_fine s.called s.answer s k)

started : {C : Type 0} (m : Memory) → AreWritable m.taken → Fine {C = C} (start m)
started m h = record { stack = tt; taken = h; blocks = tt }

-- the types of parameters and results
abbrev pub AllOf : List Tree → Type 0
AllOf [] = Unit {0}
AllOf (t ∷ ts) = Fit t × AllOf ts

arguments_fit : (ts : List Tree) (vs : List Value) → AllOf ts → ItemsFit (argument_items ts vs)
arguments_fit [] vs h = tt
arguments_fit (t ∷ ts) [] h = tt
arguments_fit (t ∷ ts) (v ∷ vs) h = (name_fits t h.0, arguments_fit ts vs h.1)

reply_fits : (ts : List Tree) (reply : Option Value) → AllOf ts → IfSome' ItemsFit (reply_items ts reply)
reply_fits [] None h = tt
reply_fits (t ∷ []) (Some v) h = (name_fits t h.0, tt)
reply_fits [] (Some v) h = tt
reply_fits (t ∷ []) None h = tt
reply_fits (t ∷ u ∷ ts) reply h = tt

abbrev Callee : List ℕ → Function → Option Value → List Word → Side (Unit {0}) Event Value Word Memory (List Value)
Callee m f reply words = callee_side {P = Unit {0}} (λ e. e) (λ e. tt) cells m f reply words

abbrev Caller : List ℕ → Function → Receiver → List Event → List Value → Option Value → Side (Unit {0}) Event Value Word Memory (Call Value Word Memory)
Caller m f to callee arguments reply = caller_side {P = Unit {0}} (λ e. e) (λ e. tt) cells m f to tt callee arguments reply

callee_fine : (m : List ℕ) (f : Function) (reply : Option Value) (words : List Word) (es : List Event) (memory : Memory) → AllOf f.results → AllGood es → AreWritable memory.taken → Then (λ r. Fine r.2) (run_trace (λ e. e) (λ e. tt) cells (Callee m f reply words) tt es (start memory))
callee_fine m f reply words es memory results g h =
    trace_fine (Callee m f reply words) (word_items_fit words) (λ m n ps rs s k. tt)
    (λ m' n ps rs s k. then_only Fine (calls_interface {P = Unit {0}} (λ e. e) (λ e. tt) cells m f s m' n ps rs) _ (then_found (λ r. ItemsFit r.1) Fine (values_off (length f.params) [] s.stack) _ (values_off_fit (length f.params) [] s.stack k.stack) (λ r l.
    then_found ItemsFit Fine (reply_items f.results reply) _ (reply_fits f.results reply results) (λ xs o. record { stack = items_both xs r.1 o l; taken = k.taken; blocks = k.blocks }))))
    es (start memory) g (started memory h)

handed_fine : (m : List ℕ) (f : Function) (to : Receiver) (callee : List Event) (reply : Option Value) → AllOf to.function.results → AllGood callee → (words : List Word) (s : State Event Value Word Memory (Call Value Word Memory)) → Fine s →
    Then Fine (called_with {P = Unit {0}} (λ e. e) (λ e. tt) cells m f to tt callee reply words s)
handed_fine m f to callee reply results k words s q =
    then_any Fine (picked_in_order to.order words) _ (λ own.
    then_next (λ r. Fine r.2) Fine (run_trace (λ e. e) (λ e. tt) cells (Callee to.module_name to.function reply own) tt callee (start s.memory)) _
    (callee_fine to.module_name to.function reply own callee s.memory results k q.taken) (λ r n.
    then_any Fine (words_in r.1) _ (λ ws. then_only Fine (typed cells (signature_results f) ws) _ (record { stack = pushed_fit (map word_item ws) s.stack (word_items_fit ws) q.stack; taken = n.taken; blocks = q.blocks }))))

caller_fine : (m : List ℕ) (f : Function) (to : Receiver) (caller callee : List Event) (arguments : List Value) (reply : Option Value) (memory : Memory) → AllOf f.params → AllOf to.function.results → AllGood caller → AllGood callee → AreWritable memory.taken →
    Then (λ o. AreWritable o.memory.taken) (run_to {P = Unit {0}} (λ e. e) (λ e. tt) cells m f to tt tt caller callee arguments reply memory)
caller_fine m f to caller callee arguments reply memory params results g k h =
    then_next (λ r. Fine r.2) (λ o. AreWritable o.memory.taken) (run_trace (λ e. e) (λ e. tt) cells (Caller m f to callee arguments reply) tt caller (start memory)) _
    (trace_fine (Caller m f to callee arguments reply) (arguments_fit f.params arguments params)
    (λ m' n ps rs s q. then_only Fine (calls_wasm {P = Unit {0}} (λ e. e) (λ e. tt) cells m f to s m' n ps rs) _ (then_found (λ r. ItemsFit r.1) Fine (words_off (length ps) [] s.stack) _ (words_off_fit (length ps) [] s.stack q.stack) (λ r l.
    then_only Fine (typed cells ps r.0) _ (handed_fine m f to callee reply results k r.0 (record s { stack = r.1 }) (record { stack = l; taken = q.taken; blocks = q.blocks })))))
    (λ m' n ps rs s q. tt) caller (start memory) g (started memory h))
    (λ r q. q.taken)

came : {A : Type 0} (Q : A → Type 0) (t : Tried (Unit {0}) A) (x : A) → Then Q t → outcome t ≡ Some x → Q x
came Q (went y) x h e = subst Q (some e) h
  where
    some : Some y ≡ Some x → y ≡ x
    some e = cc
came Q no_rule x h e = absurd (none e)
  where
    none : None ≡ Some x → ⊥
    none e = cc
came Q (stuck_at p) x h e = absurd (none e)
  where
    none : None ≡ Some x → ⊥
    none e = cc

-- what is taken from an empty memory fits
pub taken_fits : (m : List ℕ) (f : Function) (to : Receiver) (caller callee : List Event) (arguments : List Value) (reply : Option Value) (memory : Memory) → AllOf f.params → AllOf to.function.results → AllGood caller → AllGood callee → AreWritable memory.taken →
    (o : Outcome Value Word Memory) → outcome (run_to {P = Unit {0}} (λ e. e) (λ e. tt) cells m f to tt tt caller callee arguments reply memory) ≡ Some o → AreWritable o.memory.taken
taken_fits m f to caller callee arguments reply memory params results g k h o e =
    came (λ o. AreWritable o.memory.taken) (run_to {P = Unit {0}} (λ e. e) (λ e. tt) cells m f to tt tt caller callee arguments reply memory) o (caller_fine m f to caller callee arguments reply memory params results g k h) e
