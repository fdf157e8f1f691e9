-- A result with cases ok and err: what each of its four sorts of reply does on both sides.
use Rattle.std.proofs.Common.{◌≡◌, ℕ, zero, suc, ◌+◌, ◌≤◌, Bool, true, false, cond, T, refl, sym, ap, ◌∙◌, subst, arith, Option, Some, None, is_some, List, [], ◌∷◌, ◌++◌, map, length, length-append, drop, ◌-◌}
use Rattle.witx_ast.specs.Tree.{Tree}
use Rattle.witx_ast.specs.Plain.{plain}
use Rattle.witx_machine.specs.declared.surface.WasmType.{WasmType}
use Rattle.witx_machine.specs.Events.{Step, Event, emit}
use Rattle.witx_machine.specs.Rows.{variant_payload, tuple_lower, tuple_lift, reuse_return}
use Rattle.witx_machine.specs.Functions.{Function, is_tuple, by_address, name_of}
use Rattle.witx_machine.specs.Signature.{words_of_params, signature_results, pointers_at, ok_pointers, param_words}
use Rattle.witx_machine.specs.Traces.{lower_cases, lift_cases, ok_lowered, ok_lifted, err_lowered, err_lifted, callee_events, caller_events, store_all, load_all, lift_params, lower_results, lower_step}
use Rattle.witx_machine.specs.Shims.{Alike}
use Rattle.witx_machine.specs.Machine.{Domain, went, State, Side, Inside, outside, in_lower, in_lift, Item, word_item, value_item, plain_item, Block, if_found, pushed, payload_item, block_word, left_over, lifted_payload}
use Rattle.witx_machine.specs.Run.{Receiver, Call, Outcome, typed, result_has_cases}
use Rattle.witx_machine.specs.Passage.{Meaning, ReturnsPicked, HoldAll, HoldParts, ok_values, last_words, ParamWords}
use Rattle.witx_machine.proofs.Scalars.{left_true, right_true}
use Rattle.witx_machine.proofs.Laws.{Laws}
use Rattle.witx_machine.proofs.Alikes.{alike_back, alike_tuple, alike_pointers}
use Rattle.witx_machine.proofs.Runs.{Try, Runs, runs_none, runs_then, runs_act, plays, AreItemsOf, all_values_off}
use Rattle.witx_machine.proofs.Ways.{Way}
use Rattle.witx_machine.proofs.Params.{row_goes, StandAt, stand_back, lower_one, lift_word, typed_length, at, direct_of, passed_alike}
use Rattle.witx_machine.proofs.Callee.{stand_all, as_items}
use Rattle.witx_machine.proofs.Callee
use Rattle.witx_machine.proofs.Caller
use Rattle.witx_machine.proofs.Spaces.{PointersAt, pointer_count}
use Rattle.witx_machine.proofs.Blocks.{AllSteps, steps_append, block, sets_aside, block_ran, lowers_result, lifts_result}
use Rattle.witx_machine.proofs.Stores.{AreOf, hold_all, store_steps, load_steps, stores, loads, loads_alike, are_alike}
use Rattle.witx_machine.proofs.Whole.{room_for, Before}

pub before_zero : (n : ℕ) → 1 ≤ n → (k : ℕ) × (n ≡ suc k)
before_zero zero h = absurd (omega arith)
before_zero (suc k) h = (k, refl)

pub callee_long : (m : List ℕ) (f : Function) → 1 ≤ length (callee_events m f)
callee_long m f =
    let rest = emit (Step.CallInterface m f.name f.params f.results) ∷ (lower_results f ++ emit (Step.Return (length (signature_results f))) ∷ []) in
    let e : length (callee_events m f) ≡ length (lift_params 0 f.params) + length rest = length-append (lift_params 0 f.params) rest in
    let k : length rest ≡ suc (length (lower_results f ++ emit (Step.Return (length (signature_results f))) ∷ [])) = refl in
    omega arith

pub caller_long : (m : List ℕ) (f : Function) → 1 ≤ length (caller_events m f)
caller_long m f = let r = room_for m f in omega arith

ok_lowered_steps : (w : ℕ) (ok : Option Tree) → AllSteps (ok_lowered w ok)
ok_lowered_steps w None = tt
ok_lowered_steps w (Some t) = go (is_tuple t)
  where
    go : (b : Bool) → AllSteps (cond b (emit (Step.TupleLower (length (pointers_at t))) ∷ []) [] ++ store_all w (pointers_at t))
    go true = store_steps w (pointers_at t)
    go false = store_steps w (pointers_at t)

err_lowered_steps : (err : Option Tree) → AllSteps (err_lowered err)
err_lowered_steps None = tt
err_lowered_steps (Some t) = tt

ok_lifted_steps : (ok : Option Tree) → AllSteps (ok_lifted ok)
ok_lifted_steps None = tt
ok_lifted_steps (Some t) = steps_append (load_all 0 (pointers_at t)) _ (load_steps 0 (pointers_at t)) (go (is_tuple t))
  where
    go : (b : Bool) → AllSteps (cond b (emit (Step.TupleLift (length (pointers_at t))) ∷ []) [])
    go true = tt
    go false = tt

err_lifted_steps : (err : Option Tree) → AllSteps (err_lifted err)
err_lifted_steps None = tt
err_lifted_steps (Some t) = tt

pub last_are : {W : Type 0} (a b : List W) (n : ℕ) → n ≡ length b → last_words n (a ++ b) ≡ b
last_are {W} a b n e =
    let k : length (a ++ b) - n ≡ length a = omega (arith, length-append a b) in
    ap (λ k. drop k (a ++ b)) k ∙ dropped a b
  where
    drop_none : (b : List W) → drop 0 b ≡ b
    drop_none [] = refl
    drop_none (w ∷ b) = refl

    dropped : (a b : List W) → drop (length a) (a ++ b) ≡ b
    dropped [] b = drop_none b
    dropped (w ∷ a) b = dropped a b

plain_are : {V : Type 0} (W : Type 0) (vs : List V) → AreItemsOf (map (plain_item {W = W}) vs) vs
plain_are W [] = tt
plain_are W (v ∷ vs) = (refl, plain_are W vs)

pub items_count : {V W : Type 0} (xs : List (Item V W)) (vs : List V) → AreItemsOf xs vs → length xs ≡ length vs
items_count [] [] h = refl
items_count (value_item x t ∷ xs) (v ∷ vs) h = ap suc (items_count xs vs h.1)
items_count (word_item w ∷ xs) (v ∷ vs) h = absurd h
items_count [] (v ∷ vs) h = absurd h
items_count (value_item x t ∷ xs) [] h = absurd h
items_count (word_item w ∷ xs) [] h = absurd h

alike_count : (ts us : List Tree) → Alike ts us → length ts ≡ length us
alike_count [] [] h = refl
alike_count (t ∷ ts) (u ∷ us) h = ap suc (alike_count ts us h.1)
alike_count [] (u ∷ us) h = absurd h
alike_count (t ∷ ts) [] h = absurd h

module _ {V W M : Type 0} (D : Domain V W M) where
  -- the return pointers stand behind the words of the parameters
  pub addresses_stand : (params : List Tree) (ws addresses : List W) → T (typed D (words_of_params params) ws) → StandAt (as_items V (ws ++ addresses)) (length (words_of_params params)) (map word_item addresses)
  addresses_stand params ws addresses types =
      let at_from : 0 + length ws ≡ length (words_of_params params) = let e = typed_length D (words_of_params params) ws types in omega arith in
      subst (λ w. StandAt (as_items V (ws ++ addresses)) w (map word_item addresses)) at_from (stand_back (as_items V (ws ++ addresses)) 0 ws addresses (stand_all (map word_item (ws ++ addresses))))

module _ {V W M : Type 0} {D : Domain V W M} {J : Meaning V W M} (L : Laws D J) where
  -- an ok payload: the members of a tuple of names, or one value
  pub data Shape (t : Tree) (p : V) (vs : List V) : Type 0 where
    one : is_tuple t ≡ false → vs ≡ p ∷ [] → Shape t p vs
    many : is_tuple t ≡ true → D.parts (length (pointers_at t)) p ≡ Some vs → D.tuple vs ≡ p → Shape t p vs

  pub record OkShape (t : Tree) (p : V) : Type 0 where
    pub values : List V
    pub are : AreOf L (pointers_at t) values
    pub shape : Shape t p values

  as_many : (ts : List Tree) (vs : List V) → AreOf L ts vs → length ts ≡ length vs
  as_many [] [] h = refl
  as_many (t ∷ ts) (v ∷ vs) h = ap suc (as_many ts vs h.1)
  as_many [] (v ∷ vs) h = absurd h
  as_many (t ∷ ts) [] h = absurd h

  hold_parts : (m : M) (t : Tree) (p : V) (vs : List V) (ws : List W) → Shape t p vs → length (pointers_at t) ≡ length ws → HoldAll D J m ws vs → HoldParts D J m ws (ok_values D J (is_tuple t) (length ws) p)
  hold_parts m t p vs ws (one e is) long h = subst (λ b. HoldParts D J m ws (ok_values D J b (length ws) p)) (sym e) (subst (λ vs. HoldAll D J m ws vs) is h)
  hold_parts m t p vs ws (many e is back) long h = subst (λ b. HoldParts D J m ws (ok_values D J b (length ws) p)) (sym e) (subst (λ o. HoldParts D J m ws o) (sym (subst (λ n. D.parts n p ≡ Some vs) long is)) h)

  module _ {C : Type 0} (side : Side (Unit {0}) Event V W M C) (runs : Inside V W → List Event → State Event V W M C → Try (State Event V W M C)) (inside : Inside V W) (slots : List (ℕ × W)) (blocks : List (Block Event)) (returned : Option W) (called : Option C) where
    abbrev here : List (Item V W) → M → State Event V W M C
    here = at L side runs inside slots blocks returned called

    record Unpacked (b : Bool) (n : ℕ) (p : V) (c : Option Tree) (vs : List V) (m : M) : Type 0 where
      pub items : List (Item V W)
      pub values : AreItemsOf items vs
      pub goes : Runs (plays D side runs inside) (cond b (emit (Step.TupleLower n) ∷ []) []) (here (value_item p c ∷ []) m) (here (pushed items []) m)

    unpacked : (t : Tree) (p : V) (c : Option Tree) (vs : List V) (m : M) → Shape t p vs → Unpacked (is_tuple t) (length (pointers_at t)) p c vs m
    unpacked t p c vs m (one e is) = subst (λ b. Unpacked b (length (pointers_at t)) p c vs m) (sym e) (subst (λ vs. Unpacked false (length (pointers_at t)) p c vs m) (sym is) (record { items = value_item p c ∷ []; values = (refl, tt); goes = runs_none _ }))
    unpacked t p c vs m (many e is back) =
        let n = length (pointers_at t) in
        let step = row_goes L side runs inside slots blocks returned called (Step.TupleLower n) (tuple_lower n) (value_item p c ∷ []) (pushed (map plain_item vs) []) m m refl (ap (λ o. if_found o (λ vs. went (here (pushed (map plain_item vs) []) m))) is) in
        subst (λ b. Unpacked b n p c vs m) (sym e) (record { items = map plain_item vs; values = plain_are W vs; goes = step })

    record Packed (b : Bool) (n : ℕ) (p : V) (items : List (Item V W)) (m : M) : Type 0 where
      pub name : Option Tree
      pub goes : Runs (plays D side runs inside) (cond b (emit (Step.TupleLift n) ∷ []) []) (here (pushed items []) m) (here (value_item p name ∷ []) m)

    packed_one : (n : ℕ) (p : V) (items : List (Item V W)) (m : M) → AreItemsOf items (p ∷ []) → Packed false n p items m
    packed_one n p (value_item u c ∷ []) m h = record { name = c; goes = subst (λ p. Runs (plays D side runs inside) [] (here (value_item u c ∷ []) m) (here (value_item p c ∷ []) m)) h.0 (runs_none _) }
    packed_one n p (value_item u c ∷ value_item u' c' ∷ xs) m h = absurd h.1
    packed_one n p (value_item u c ∷ word_item w ∷ xs) m h = absurd h.1
    packed_one n p (word_item w ∷ xs) m h = absurd h
    packed_one n p [] m h = absurd h

    packed : (t : Tree) (p : V) (vs : List V) (items : List (Item V W)) (m : M) → Shape t p vs → AreOf L (pointers_at t) vs → AreItemsOf items vs → Packed (is_tuple t) (length (pointers_at t)) p items m
    packed t p vs items m (one e is) are values = subst (λ b. Packed b (length (pointers_at t)) p items m) (sym e) (packed_one _ p items m (subst (λ vs. AreItemsOf items vs) is values))
    packed t p vs items m (many e is back) are values =
        let n = length (pointers_at t) in
        let step = row_goes L side runs inside slots blocks returned called (Step.TupleLift n) (tuple_lift n) (pushed items []) (plain_item p ∷ []) m m refl (ap (λ o. if_found o (λ r. went (here (plain_item (D.tuple r.0) ∷ r.1) m))) (all_values_off items vs n (as_many _ _ are) values) ∙ ap (λ p. went (here (plain_item p ∷ []) m)) back) in
        subst (λ b. Packed b n p items m) (sym e) (record { name = None; goes = step })

  -- an ok payload of a type is one of an alike type
  shape_alike : (t u : Tree) (p : V) (vs : List V) → plain t ≡ plain u → Shape t p vs → Shape u p vs
  shape_alike t u p vs e (one b is) = one (sym (alike_tuple t u e) ∙ b) is
  shape_alike t u p vs e (many b is back) = many (sym (alike_tuple t u e) ∙ b) (subst (λ n. D.parts n p ≡ Some vs) (alike_count (pointers_at t) (pointers_at u) (alike_pointers t u e)) is) back

  -- f is called, and the receiver's function answers; vs and ws: the caller's arguments and their words, noted and own: the callee's
  module _ (m : List ℕ) (f : Function) (to : Receiver) (vs noted : List V) (ws own addresses : List W) (slots : List (ℕ × W)) (base memory : M) (v : V) where
    abbrev n : List ℕ
    n = to.module_name

    abbrev g : Function
    g = to.function

    abbrev pub words : List W
    words = own ++ addresses

    abbrev pub callee : Side (Unit {0}) Event V W M (List V)
    callee = Callee.side L n g (Some v) words

    abbrev pub caller : Side (Unit {0}) Event V W M (Call V W M)
    caller = Caller.side L m f to (callee_events n g) vs (Some v)

    abbrev callee_deep : ℕ → Inside V W → List Event → State Event V W M (List V) → Try (State Event V W M (List V))
    callee_deep = Callee.deep L n g (Some v) words

    abbrev caller_deep : ℕ → Inside V W → List Event → State Event V W M (Call V W M) → Try (State Event V W M (Call V W M))
    caller_deep = Caller.deep L m f to (callee_events n g) vs (Some v)

    -- how deep blocks may be nested in the two sides' blocks
    abbrev callee_depth : ℕ
    callee_depth = (before_zero (length (callee_events n g)) (callee_long n g)).0

    abbrev caller_depth : ℕ
    caller_depth = (before_zero (length (caller_events m f)) (caller_long m f)).0

    abbrev pub late : List (Item V W) → M → State Event V W M (List V)
    late = Callee.late L n g (Some v) words noted

    abbrev pub back : W → Call V W M → List (Item V W) → M → State Event V W M (Call V W M)
    back w call = Caller.late L m f to (callee_events n g) vs (Some v) slots (w ∷ []) call

    abbrev from : ℕ
    from = length (words_of_params g.params)

    abbrev ok_block : Option Tree → Block Event
    ok_block ok = block (ok_lowered from ok) false

    abbrev err_block : Option Tree → Block Event
    err_block err = block (err_lowered err) (is_some err)

    abbrev ok_lift : Option Tree → Block Event
    ok_lift ok = block (ok_lifted ok) (is_some ok)

    abbrev err_lift : Option Tree → Block Event
    err_lift err = block (err_lifted err) (is_some err)

    -- what a case does: the caller's types, and the callee's
    pub record CasePart (ok err ok' err' : Option Tree) : Type 0 where
      pub word : W
      pub after : M
      pub is_32 : T (D.has_type WasmType.I32 word)
      pub lowers : (c : Option Tree) → Runs (Callee.rule L n g (Some v) words (length (callee_events n g))) (lower_cases ok' err' from) (late (value_item v c ∷ []) memory) (late (word_item word ∷ []) after)
      pub lifts : (call : Call V W M) → Runs (Caller.rule L m f to (callee_events n g) vs (Some v) (length (caller_events m f))) (lift_cases ok err) (back word call (word_item word ∷ []) after) (back word call (value_item v None ∷ []) after)
      pub keeps : L.Keeps base after
      pub returns : (o : Outcome V W M) → o.call.at_return ≡ after → o.call.callee_words ≡ word ∷ [] → o.call.words ≡ ws ++ addresses → ReturnsPicked D J ok err (last_words (length (ok_pointers ok)) o.call.words) (D.picks ok err v) o

    lowers_case : (ok err : Option Tree) → T (result_has_cases g.results ok err) → (c : Option Tree) (e : Bool) (p : Option (V × Option Tree)) (stack : List (Item V W)) (after : M) (x : Option (Item V W)) (w : W) → D.picks ok err v ≡ Some (e, p) → Runs (plays D callee (callee_deep callee_depth) (in_lower (payload_item p))) (cond e (err_block err) (ok_block ok)).events (late [] memory) (late stack after) → left_over {P = Unit {0}} tt (cond e (err_block err) (ok_block ok)).has_value stack (late stack after) ≡ went (x, late stack after) → block_word D e x ≡ Some w → Runs (Callee.rule L n g (Some v) words (length (callee_events n g))) (lower_cases ok err from) (late (value_item v c ∷ []) memory) (late (word_item w ∷ []) after)
    lowers_case ok err has c e p stack after x w is ran left word =
        let k = length (callee_events n g) in
        let z = before_zero k (callee_long n g) in
        let s = late (value_item v c ∷ []) memory in
        let s1 = record s { blocks = ok_block ok ∷ [] } in
        let s2 = record s { blocks = err_block err ∷ ok_block ok ∷ [] } in
        runs_then {s' = s1} (sets_aside D callee (callee_deep k) outside (ok_lowered from ok) false s (ok_lowered_steps from ok))
        (runs_then {s' = s2} (sets_aside D callee (callee_deep k) outside (err_lowered err) (is_some err) s1 (err_lowered_steps err))
        (runs_act D callee (callee_deep k) outside (Step.ResultLower ok err) s2 (late (word_item w ∷ []) after) (lowers_result D callee (callee_deep k) outside ok err v c e p (ok_block ok) (err_block err) (late [] memory) (late stack after) x w has is (block_ran D callee k z.0 (in_lower (payload_item p)) (cond e (err_block err) (ok_block ok)).events (late [] memory) (late stack after) z.1 ran) left word) refl))

    lifts_case : (ok err : Option Tree) (w : W) (call : Call V W M) (e : Bool) (stack : List (Item V W)) (after : M) (x : Option (Item V W)) (p : Option V) → D.result e p ≡ v → D.chooses w ≡ Some e → Runs (plays D caller (caller_deep caller_depth) in_lift) (cond e (err_lift err) (ok_lift ok)).events (back w call [] after) (back w call stack after) → left_over {P = Unit {0}} tt (cond e (err_lift err) (ok_lift ok)).has_value stack (back w call stack after) ≡ went (x, back w call stack after) → lifted_payload x ≡ Some p → Runs (Caller.rule L m f to (callee_events n g) vs (Some v) (length (caller_events m f))) (lift_cases ok err) (back w call (word_item w ∷ []) after) (back w call (value_item v None ∷ []) after)
    lifts_case ok err w call e stack after x p same is ran left pays =
        let k = length (caller_events m f) in
        let z = before_zero k (caller_long m f) in
        let s = back w call (word_item w ∷ []) after in
        let s1 = record s { blocks = ok_lift ok ∷ [] } in
        let s2 = record s { blocks = err_lift err ∷ ok_lift ok ∷ [] } in
        runs_then {s' = s1} (sets_aside D caller (caller_deep k) outside (ok_lifted ok) (is_some ok) s (ok_lifted_steps ok))
        (runs_then {s' = s2} (sets_aside D caller (caller_deep k) outside (err_lifted err) (is_some err) s1 (err_lifted_steps err))
        (runs_act D caller (caller_deep k) outside Step.ResultLift s2 (back w call (value_item v None ∷ []) after) (lifts_result D caller (caller_deep k) outside w e (ok_lift ok) (err_lift err) (back w call [] after) (back w call stack after) x p is (block_ran D caller k z.0 in_lift (cond e (err_lift err) (ok_lift ok)).events (back w call [] after) (back w call stack after) z.1 ran) left pays ∙ ap (λ v. went (back w call (value_item v None ∷ []) after)) same) refl))

    module _ (b : Before L f to own addresses slots base memory) where
      pub bare_ok : (err err' : Option Tree) → T (result_has_cases g.results None err') → D.picks None err v ≡ Some (false, None) → D.picks None err' v ≡ Some (false, None) → D.result false None ≡ v → D.chooses (D.case_word false) ≡ Some false → CasePart None err None err'
      bare_ok err err' has is is' same chosen = record {
        word = D.case_word false;
        after = memory;
        is_32 = L.case_type false;
        keeps = b.keeps;
        lowers = λ c. lowers_case None err' has c false None [] memory None (D.case_word false) is' (runs_none _) refl refl;
        lifts = λ call. lifts_case None err (D.case_word false) call false [] memory None None same chosen (runs_none _) refl refl;
        returns = λ o e2 e3 e4. subst (λ c. ReturnsPicked D J None err (last_words 0 o.call.words) c o) (sym is) e3;
      }

      pub bare_err : (ok ok' : Option Tree) → T (result_has_cases g.results ok' None) → D.picks ok None v ≡ Some (true, None) → D.picks ok' None v ≡ Some (true, None) → D.result true None ≡ v → D.chooses (D.case_word true) ≡ Some true → CasePart ok None ok' None
      bare_err ok ok' has is is' same chosen = record {
        word = D.case_word true;
        after = memory;
        is_32 = L.case_type true;
        keeps = b.keeps;
        lowers = λ c. lowers_case ok' None has c true None [] memory None (D.case_word true) is' (runs_none _) refl refl;
        lifts = λ call. lifts_case ok None (D.case_word true) call true [] memory None None same chosen (runs_none _) refl refl;
        returns = λ o e2 e3 e4. subst (λ c. ReturnsPicked D J ok None (last_words (length (ok_pointers ok)) o.call.words) c o) (sym is) e3;
      }

      pub ok_part : (t u : Tree) (p : V) (err err' : Option Tree) → plain t ≡ plain u → T (result_has_cases g.results (Some u) err') → D.picks (Some t) err v ≡ Some (false, Some (p, name_of t)) → D.picks (Some u) err' v ≡ Some (false, Some (p, name_of u)) → D.result false (Some p) ≡ v → D.chooses (D.case_word false) ≡ Some false → OkShape t p → PointersAt L base memory (pointers_at t) addresses → CasePart (Some t) err (Some u) err'
      ok_part t u p err err' alike has is is' same chosen o pointers =
          let ptrs = pointers_at t in
          let own_ptrs = pointers_at u in
          let alike_ptrs = alike_pointers t u alike in
          let x = value_item p (name_of u) in
          let cr = callee_deep callee_depth in
          let inside : Inside V W = in_lower (Some x) in
          let payload = row_goes L callee cr inside [] [] None (Some noted) Step.VariantPayload variant_payload [] (x ∷ []) memory memory refl refl in
          let un = unpacked callee cr inside [] [] None (Some noted) u p (name_of u) o.values memory (shape_alike t u p o.values alike o.shape) in
          let stand = addresses_stand D g.params own addresses b.types in
          let put = stores L callee cr inside [] [] None (Some noted) base from ptrs own_ptrs alike_ptrs addresses o.values un.items [] memory b.keeps pointers (are_alike L ptrs own_ptrs o.values alike_ptrs o.are) un.values stand in
          let after = put.memory in
          let loads_own = loads_alike L after own_ptrs ptrs addresses o.values (alike_back ptrs own_ptrs alike_ptrs) put.loads in
          let kr = caller_deep caller_depth in
          let z = D.case_word false in
          let k = λ (call : Call V W M). loads L caller kr in_lift slots [] (Some z) (Some call) 0 ptrs addresses o.values [] after b.found loads_own in
          let pk = λ (call : Call V W M). packed caller kr in_lift slots [] (Some z) (Some call) t p o.values (k call).items after o.shape o.are (k call).values in
          let count = pointer_count L base memory ptrs addresses pointers in
          record {
            word = z;
            after = after;
            is_32 = L.case_type false;
            keeps = put.keeps;
            lowers = λ c. lowers_case (Some u) err' has c false (Some (p, name_of u)) [] after None z is' (runs_then payload (runs_then un.goes put.goes)) refl refl;
            lifts = λ call. lifts_case (Some t) err z call false (value_item p (pk call).name ∷ []) after (Some (value_item p (pk call).name)) (Some p) same chosen (runs_then (k call).goes (pk call).goes) refl refl;
            returns = λ o' e2 e3 e4. subst (λ c. ReturnsPicked D J (Some t) err (last_words (length ptrs) o'.call.words) c o') (sym is) (
              e3,
              subst (λ ws. HoldParts D J o'.call.at_return ws (ok_values D J (is_tuple t) (length ws) p)) (sym (ap (last_words (length ptrs)) e4 ∙ last_are ws addresses (length ptrs) count))
                  (subst (λ m. HoldParts D J m addresses (ok_values D J (is_tuple t) (length addresses) p)) (sym e2) (hold_parts after t p o.values addresses o.shape count (hold_all L after ptrs addresses o.values loads_own))),
            );
          }

      one_of : (us : List W) (ty : WasmType) → T (typed D (ty ∷ []) us) → (w : W) × (us ≡ w ∷ []) × T (D.has_type ty w)
      one_of [] ty h = absurd h
      one_of (w ∷ []) ty h = (w, refl, left_true (D.has_type ty w) _ h)
      one_of (w ∷ u ∷ us) ty h = absurd (right_true (D.has_type ty w) _ h)

      pub err_part : (t u : Tree) (p : V) (ok ok' : Option Tree) → plain t ≡ plain u → T (result_has_cases g.results ok' (Some u)) → (way : Way (name_of t) t t) (own_way : Way (name_of u) u u) → D.picks ok (Some t) v ≡ Some (true, Some (p, name_of t)) → D.picks ok' (Some u) v ≡ Some (true, Some (p, name_of u)) → D.result true (Some p) ≡ v → L.Is (plain t) p → L.Returned (plain t) p → param_words (plain t) ≡ WasmType.I32 ∷ [] → CasePart ok (Some t) ok' (Some u)
      err_part t u p ok ok' alike has way own_way is is' same val returned narrow =
          let x = value_item p (name_of u) in
          let cr = callee_deep callee_depth in
          let inside : Inside V W = in_lower (Some x) in
          let payload = row_goes L callee cr inside [] [] None (Some noted) Step.VariantPayload variant_payload [] (x ∷ []) memory memory refl refl in
          let val' = subst (λ q. L.Is q p) alike val in
          let returned' = subst (λ q. L.Returned q p) alike returned in
          let low = lower_one L callee cr inside [] [] None (Some noted) (name_of u) u u own_way p 0 [] memory val' b.room in
          let one = one_of low.words WasmType.I32 (subst (λ ts. T (typed D ts low.words)) (sym (ap param_words alike) ∙ narrow) low.types) in
          let w = one.0 in
          let after = low.memory in
          let kr = caller_deep caller_depth in
          let passed = passed_alike L after u t own_way way p low.words (sym alike) val' (record { types = low.types; carries = low.carries; passes = low.passes }) in
          let goes = subst (λ us. Runs (plays D callee cr inside) (emit (lower_step u) ∷ []) (late (x ∷ []) memory) (late (pushed (map word_item us) []) after)) one.1 low.lowers in
          let reuse = λ (call : Call V W M). row_goes L caller kr in_lift slots [] (Some w) (Some call) Step.ReuseReturn reuse_return [] (word_item w ∷ []) after after refl refl in
          let lift = λ (call : Call V W M). lift_word L caller kr in_lift slots [] (Some w) (Some call) (name_of t) t t way p low.words w [] after one.1 passed.carries in
          let chosen : D.chooses w ≡ Some true = choose (by_address (plain u)) u refl p low.words w after one.1 one.2 returned' low.passes (λ e. low.chosen e w one.1 (plain u) returned') in
          record {
            word = w;
            after = after;
            is_32 = one.2;
            keeps = L.keeps_then base memory after b.keeps low.keeps;
            lowers = λ c. lowers_case ok' (Some u) has c true (Some (p, name_of u)) (word_item w ∷ []) after (Some (word_item w)) w is' (runs_then payload goes) refl (ap (λ b. cond b (Some w) None) (is_true _ one.2));
            lifts = λ call. lifts_case ok (Some t) w call true (value_item p (lift call).0 ∷ []) after (Some (value_item p (lift call).0)) (Some p) same chosen (runs_then (reuse call) (lift call).1) refl refl;
            returns = λ o e2 e3 e4. subst (λ c. ReturnsPicked D J ok (Some t) (last_words (length (ok_pointers ok)) o.call.words) c o) (sym is)
                (subst (λ us. ParamWords D J o.call.at_return (plain t) p us) (one.1 ∙ sym e3) (subst (λ m. ParamWords D J m (plain t) p low.words) (sym e2) passed.passes));
          }
        where
          is_true : (b : Bool) → T b → b ≡ true
          is_true true h = refl
          is_true false h = absurd h

          choose : (a : Bool) (u : Tree) → by_address (plain u) ≡ a → (p : V) (us : List W) (w : W) (after : M) → us ≡ w ∷ [] → T (D.has_type WasmType.I32 w) → L.Returned (plain u) p → ParamWords D J after (plain u) p us → (by_address (plain u) ≡ true → D.chooses w ≡ Some true) → D.chooses w ≡ Some true
          choose true u e p us w after is is_32 returned h k = k e
          choose false u e p us w after is is_32 returned h k = L.error_word (plain u) p w returned is_32 (subst (λ us. J.direct (plain u) p us) is (direct_of L after (plain u) p us e h))
