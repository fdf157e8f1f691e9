-- The traces of every function that can be lowered and whose types fit their tags run well, in every domain that meets the laws.
use Rattle.std.proofs.Common.{◌≡◌, ℕ, ◌+◌, ◌^◌, Bool, true, false, cond, not, ◌&&◌, ◌||◌, T, refl, sym, ap, ◌∙◌, subst, arith, Option, Some, None, is_none, option_map, List, [], ◌∷◌, ◌++◌, append-nil, map, length, length-append, nat_le, ◌⊎◌, inl, inr}
use Rattle.std.specs.List.{position, position_from}
use Rattle.std.proofs.lemmas.Iterator.Adapters.{position_from-zero}
use Rattle.witx_ast.specs.declared.function.Abi.{Abi}
use Rattle.witx_ast.specs.declared.types.IntRepr.{IntRepr}
use Rattle.witx_ast.specs.declared.types.RecordKind.{RecordKind}
use Rattle.witx_ast.specs.Tree.{Tree, arm_list}
use Rattle.witx_ast.specs.Tree.{Fields as TreeFields, Arms as TreeArms}
use Rattle.witx_ast.specs.Plain.{Plain, plain, plain_fields, plain_arms, field_count, arm_count}
use Rattle.witx_ast.specs.Words.{is_named}
use Rattle.witx_ast.specs.Tags.{fits, arms_fit, repr_bits, node_fits}
use Rattle.witx_ast.specs.Words.{is_expected}
use Rattle.witx_machine.specs.declared.surface.WasmType.{WasmType}
use Rattle.witx_machine.specs.declared.surface.Place.{Place}
use Rattle.witx_machine.specs.Words.{Scalar, number_of, pointer, const_pointer, handle_of, flags_of, enum_of, repr_word_type, word_type}
use Rattle.witx_machine.specs.Rows.{lowering, lifting}
use Rattle.witx_machine.specs.Functions.{Function, has_payload, tuple_types, is_tuple, name_of, member_types, ok_of, err_of, result_cases}
use Rattle.witx_machine.specs.Signature.{param_words, words_of_params, result_word, before_rest, words_back, or_alone, pointers_at, pointers_by, ok_pointers, return_pointers, signature_params}
use Rattle.witx_machine.specs.Lowerable.{can_be_param, can_be_result, can_return, can_be_ok, can_be_err, is_narrow, unlowerable_result, earlier_place, lowerable}
use Rattle.witx_machine.specs.Traces.{lower_step, lift_step, lower_by, lift_by, lower_under, lift_under, caller_events, callee_events}
use Rattle.witx_machine.specs.Shims.{Alike}
use Rattle.witx_machine.specs.Machine.{Domain, went, outside, word_item, value_item, plain_item, if_found}
use Rattle.witx_machine.specs.Run.{Receiver, itself, numbers, Call, typed, cases_are, result_has_cases, same_presence}
use Rattle.witx_machine.specs.Passage.{Meaning, ReturnsBy, HoldAll, last_words}
use Rattle.witx_machine.proofs.Scalars.{left_true, right_true, both_true, same_types_is}
use Rattle.witx_machine.proofs.Laws.{Laws, AreMembers, PayloadIs, named_payload}
use Rattle.witx_machine.proofs.Alikes.{AlikeOption, alike_option_self, alike_self, alike_cases, alike_ok, alike_err, alike_words_back}
use Rattle.witx_machine.proofs.Runs.{Runs, runs_none}
use Rattle.witx_machine.proofs.Ways.{Way, OneWord, Ways, way_at, builtin_word, handle_way, pointer_way, const_pointer_way, flags_way, enum_way}
use Rattle.witx_machine.proofs.Params.{row_goes, head_same, AreArguments, PassedAll, typed_length}
use Rattle.witx_machine.proofs.Callee
use Rattle.witx_machine.proofs.Caller
use Rattle.witx_machine.proofs.Caller.{all_in_order}
use Rattle.witx_machine.proofs.Spaces.{PointersAt, pointer_count}
use Rattle.witx_machine.proofs.Stores.{AreOf, hold_all, stores, loads, loads_alike}
use Rattle.witx_machine.proofs.Cases.{addresses_stand, items_count, last_are, CasePart, OkShape, Shape, one, many, bare_ok, bare_err, ok_part, err_part}
use Rattle.witx_machine.proofs.Whole.{ResultPart, Before, Handed, IsReply, RunWell, passed_types, run_well_by_parts}

-- all of these can be parameters, and fit their tags
abbrev pub can_be_params : List Tree → Bool
can_be_params [] = true
can_be_params (t ∷ ts) = can_be_param t && can_be_params ts

abbrev pub all_fit : List Tree → Bool
all_fit [] = true
all_fit (t ∷ ts) = fits (plain t) && all_fit ts

-- parameters
param_way : (t : Tree) → T (can_be_param t) → T (fits (plain t)) → Way (name_of t) t t
param_way (Tree.named n t d) h f = way_at _ _ (Tree.named n t d) refl (λ b. refl) f
param_way (Tree.builtin k) h f = way_at _ _ (Tree.builtin k) refl (λ b. absurd b) f
param_way (Tree.pointer_to t) h f = way_at _ _ (Tree.pointer_to t) refl (λ b. absurd b) f
param_way (Tree.const_pointer_to t) h f = way_at _ _ (Tree.const_pointer_to t) refl (λ b. absurd b) f
param_way (Tree.list_of t) h f = way_at _ _ (Tree.list_of t) refl (λ b. absurd b) f
param_way Tree.handle h f = absurd h
param_way (Tree.record_of (RecordKind.Bitflags r) ms) h f = absurd h
param_way (Tree.record_of RecordKind.Tuple ms) h f = absurd h
param_way (Tree.record_of RecordKind.Other ms) h f = absurd h
param_way (Tree.variant_of r cs) h f = absurd h

pub param_ways : (ts : List Tree) → T (can_be_params ts) → T (all_fit ts) → Ways ts
param_ways [] h f = tt
param_ways (t ∷ ts) h f = (param_way t (left_true (can_be_param t) _ h) (left_true (fits (plain t)) _ f), param_ways ts (right_true (can_be_param t) _ h) (right_true (fits (plain t)) _ f))

-- an err type
err_way : (u : Tree) → T (can_be_err (Some u)) → T (fits (plain u)) → Way (name_of u) u u
err_way (Tree.named n t d) h f = way_at _ _ (Tree.named n t d) refl (λ b. refl) f
err_way (Tree.builtin k) h f = absurd h
err_way (Tree.pointer_to t) h f = absurd h
err_way (Tree.const_pointer_to t) h f = absurd h
err_way (Tree.list_of t) h f = absurd h
err_way Tree.handle h f = absurd h
err_way (Tree.record_of (RecordKind.Bitflags r) ms) h f = absurd h
err_way (Tree.record_of RecordKind.Tuple ms) h f = absurd h
err_way (Tree.record_of RecordKind.Other ms) h f = absurd h
err_way (Tree.variant_of r cs) h f = absurd h

narrow_words : (u : Tree) → T (can_be_err (Some u)) → param_words (plain u) ≡ WasmType.I32 ∷ []
narrow_words u h = same_types_is (param_words (plain u)) (WasmType.I32 ∷ []) (right_true (is_named u) _ h)

-- the types of both cases fit
ok_fits : (cs : TreeArms) (t : Tree) → T (is_expected (arm_list cs)) → err_of cs ≡ Some t → T (arms_fit (plain_arms cs)) → T (fits (plain t))
ok_fits TreeArms.no_arms t is e f = absurd is
ok_fits (TreeArms.bare a da TreeArms.no_arms) t is e f = absurd is
ok_fits (TreeArms.bare a da (TreeArms.bare b db cs)) t is e f = absurd (clash e)
  where
    clash : None ≡ Some t → ⊥
    clash e = cc
ok_fits (TreeArms.bare a da (TreeArms.carries b u db cs)) t is e f = subst (λ o. T (fits_of o)) e (left_true (fits (plain u)) _ f)
  where
    fits_of : Option Tree → Bool
    fits_of None = true
    fits_of (Some t) = fits (plain t)
ok_fits (TreeArms.carries a u da TreeArms.no_arms) t is e f = absurd is
ok_fits (TreeArms.carries a u da (TreeArms.bare b db cs)) t is e f = absurd (clash e)
  where
    clash : None ≡ Some t → ⊥
    clash e = cc
ok_fits (TreeArms.carries a u da (TreeArms.carries b x db cs)) t is e f = subst (λ o. T (fits_of o)) e (left_true (fits (plain x)) _ (right_true (fits (plain u)) _ f))
  where
    fits_of : Option Tree → Bool
    fits_of None = true
    fits_of (Some t) = fits (plain t)

-- what sort of result it is
data Sort (whole : Tree) (t : Tree) : Type 0 where
  word : (x : Scalar) → result_cases t ≡ None → OneWord whole t x → result_word (plain t) ≡ Some (word_type x) → Sort whole t
  cases : (r : IntRepr) (cs : TreeArms) → result_cases t ≡ Some cs → plain t ≡ Plain.variant_of r (plain_arms cs) → T (is_expected (arm_list cs)) → T (has_payload (plain_arms cs)) → T (can_be_err (err_of cs)) → T (arms_fit (plain_arms cs)) → result_word (plain t) ≡ Some WasmType.I32 → Sort whole t

narrow_word : (r : IntRepr) → T (is_narrow r) → Some (repr_word_type r) ≡ Some WasmType.I32
narrow_word IntRepr.U8 h = refl
narrow_word IntRepr.U16 h = refl
narrow_word IntRepr.U32 h = refl
narrow_word IntRepr.U64 h = absurd h

variant_sort : (whole : Tree) (b : Bool) (r : IntRepr) (cs : TreeArms) → plain whole ≡ Plain.variant_of r (plain_arms cs) → T (can_return b (Tree.variant_of r cs)) → T (fits (Plain.variant_of r (plain_arms cs))) → (x : Bool) → has_payload (plain_arms cs) ≡ x → Sort whole (Tree.variant_of r cs)
variant_sort whole b r cs e h f true has =
    let h1 = right_true (is_narrow r) _ h in
    let h2 = right_true (is_expected (arm_list cs)) _ h1 in
    let h3 = right_true (has_payload (plain_arms cs) || b) _ h2 in
    cases r cs (ap (λ x. cond x (Some cs) None) has) refl (left_true (is_expected (arm_list cs)) _ h1) (subst T (sym has) tt) (right_true (can_be_ok (ok_of cs)) _ h3) (right_true (node_fits (Plain.variant_of r (plain_arms cs))) _ f) (narrow_word r (left_true (is_narrow r) _ h))
variant_sort whole b r cs e h f false has = word (enum_of whole) (ap (λ x. cond x (Some cs) None) has) (enum_way whole r cs e has (left_true (nat_le (arm_count (plain_arms cs)) (2 ^ repr_bits r)) _ (left_true (node_fits (Plain.variant_of r (plain_arms cs))) _ f))) (narrow_word r (left_true (is_narrow r) _ h))

sort_named : (whole : Tree) (n : List ℕ) (t : Tree) (d : List ℕ) → Sort whole t → Sort whole (Tree.named n t d)
sort_named whole n t d (word x e o w) = word x e (record { lower = o.lower; lift = o.lift; types = o.types; direct = o.direct; lowers = o.lowers }) w
sort_named whole n t d (cases r cs e p i hp c f w) = cases r cs e p i hp c f w

sort_of : (whole : Tree) (b : Bool) (t : Tree) → plain whole ≡ plain t → T (can_return b t) → T (fits (plain t)) → Sort whole t
sort_of whole b (Tree.named n t d) e h f = sort_named whole n t d (sort_of whole true t e h f)
sort_of whole b (Tree.builtin k) e h f = word (number_of k) refl (builtin_word whole k) refl
sort_of whole b Tree.handle e h f = word (handle_of whole) refl (handle_way whole e) refl
sort_of whole b (Tree.pointer_to t) e h f = word pointer refl (pointer_way whole t) refl
sort_of whole b (Tree.const_pointer_to t) e h f = word const_pointer refl (const_pointer_way whole t) refl
sort_of whole b (Tree.list_of t) e h f = absurd h
sort_of whole b (Tree.record_of (RecordKind.Bitflags r) ms) e h f = word (flags_of (repr_word_type r) whole) refl (flags_way whole r ms e (left_true (nat_le (field_count (plain_fields ms)) (repr_bits r)) _ f)) refl
sort_of whole b (Tree.record_of RecordKind.Tuple ms) e h f = absurd h
sort_of whole b (Tree.record_of RecordKind.Other ms) e h f = absurd h
sort_of whole b (Tree.variant_of r cs) e h f = variant_sort whole b r cs e h f (has_payload (plain_arms cs)) refl

present_self : (o : Option Tree) → T (same_presence o o)
present_self None = tt
present_self (Some t) = tt

-- the cases of the result's variant are there exactly where they have types
has_own : (t : Tree) (cs : TreeArms) → result_cases t ≡ Some cs → T (cases_are (result_cases t) (ok_of cs) (err_of cs))
has_own t cs e = subst (λ c. T (cases_are c (ok_of cs) (err_of cs))) (sym e) (both_true _ _ (present_self (ok_of cs)) (present_self (err_of cs)))

-- a function that can be lowered: its parameters, and its result
no_first : (i : ℕ) (ts : List Tree) → position_from (λ t. not (can_be_param t)) i ts ≡ None → T (can_be_params ts)
no_first i [] e = tt
no_first i (t ∷ ts) e = go (can_be_param t) refl e (no_first (i + 1) ts)
  where
    some_none : Some i ≡ None → ⊥
    some_none e = cc

    go : (b : Bool) → can_be_param t ≡ b → cond (not b) (Some i) (position_from (λ t. not (can_be_param t)) (i + 1) ts) ≡ None → (position_from (λ t. not (can_be_param t)) (i + 1) ts ≡ None → T (can_be_params ts)) → T (b && can_be_params ts)
    go true is e rest = rest e
    go false is e rest = absurd (some_none e)

pub params_lower : (ps : List Tree) (result : Option Place) → T (is_none (earlier_place (position (λ t. not (can_be_param t)) ps) result)) → T (can_be_params ps) × T (is_none result)
params_lower ps result h = go (position (λ t. not (can_be_param t)) ps) refl h
  where
    go : (o : Option ℕ) → position (λ t. not (can_be_param t)) ps ≡ o → T (is_none (earlier_place o result)) → T (can_be_params ps) × T (is_none result)
    go None is h = (no_first 0 ps (sym (position_from-zero (λ t. not (can_be_param t)) ps) ∙ is), h)
    go (Some i) is h = absurd h

pub result_lowers : (abi : Abi) (t : Tree) → T (is_none (unlowerable_result abi (t ∷ []))) → T (can_be_result abi t)
result_lowers abi t h = go (can_be_result abi t) h
  where
    go : (b : Bool) → T (is_none (cond b None (Some (Place.Result 0)))) → T b
    go true h = tt
    go false h = absurd h

-- without a result nothing comes back, under either ABI
no_words_back : (abi : Abi) → words_back abi [] ≡ []
no_words_back Abi.Preview1 = refl
no_words_back Abi.Stored = refl

none_lowered : (abi : Abi) (w : ℕ) → lower_under abi w [] ≡ []
none_lowered Abi.Preview1 w = refl
none_lowered Abi.Stored w = refl

none_lifted : (abi : Abi) → lift_under abi [] ≡ []
none_lifted Abi.Preview1 = refl
none_lifted Abi.Stored = refl

module _ {V W M : Type 0} {D : Domain V W M} {J : Meaning V W M} (L : Laws D J) where
  -- an ok payload
  are_of : (ms : TreeFields) (us : List V) → AreMembers L.Is (plain_fields ms) us → AreOf L (member_types ms) us
  are_of TreeFields.no_fields [] h = tt
  are_of TreeFields.no_fields (u ∷ us) h = absurd h
  are_of (TreeFields.field n t d ms) [] h = absurd h
  are_of (TreeFields.field n t d ms) (u ∷ us) h = (h.0, are_of ms us h.1)

  counted : (ms : TreeFields) → field_count (plain_fields ms) ≡ length (member_types ms)
  counted TreeFields.no_fields = refl
  counted (TreeFields.field n t d ms) = let h = counted ms in omega arith

  ok_by : (whole t : Tree) (p : V) → L.Is (plain t) p → L.Is (plain whole) p → (vs : List V) × AreOf L (or_alone whole (tuple_types t)) vs × (((is_tuple t ≡ false) × (vs ≡ p ∷ [])) ⊎ ((is_tuple t ≡ true) × (D.parts (length (or_alone whole (tuple_types t))) p ≡ Some vs) × (D.tuple vs ≡ p)))
  ok_by whole (Tree.named n t d) p h w = ok_by whole t p h w
  ok_by whole (Tree.record_of RecordKind.Tuple ms) p h w =
      let d = L.tuple (plain_fields ms) p h in
      (d.0, are_of ms d.0 d.3, inr (refl, subst (λ n. D.parts n p ≡ Some d.0) (counted ms) d.1, d.2))
  ok_by whole (Tree.builtin k) p h w = (p ∷ [], (w, tt), inl (refl, refl))
  ok_by whole Tree.handle p h w = (p ∷ [], (w, tt), inl (refl, refl))
  ok_by whole (Tree.pointer_to t) p h w = (p ∷ [], (w, tt), inl (refl, refl))
  ok_by whole (Tree.const_pointer_to t) p h w = (p ∷ [], (w, tt), inl (refl, refl))
  ok_by whole (Tree.list_of t) p h w = (p ∷ [], (w, tt), inl (refl, refl))
  ok_by whole (Tree.record_of (RecordKind.Bitflags r) ms) p h w = (p ∷ [], (w, tt), inl (refl, refl))
  ok_by whole (Tree.record_of RecordKind.Other ms) p h w = (p ∷ [], (w, tt), inl (refl, refl))
  ok_by whole (Tree.variant_of r cs) p h w = (p ∷ [], (w, tt), inl (refl, refl))

  ok_shape : (t : Tree) (p : V) → L.Is (plain t) p → OkShape L t p
  ok_shape t p h =
      let d = ok_by t t p h h in
      record { values = d.0; are = d.1; shape = go d.0 d.2 }
    where
      go : (vs : List V) → (((is_tuple t ≡ false) × (vs ≡ p ∷ [])) ⊎ ((is_tuple t ≡ true) × (D.parts (length (pointers_at t)) p ≡ Some vs) × (D.tuple vs ≡ p))) → Shape L t p vs
      go vs (inl h) = one h.0 h.1
      go vs (inr h) = many h.0 h.1 h.2

  -- f is called and the receiver's function answers, both with these results
  module _ (m n name own_name : List ℕ) (params own_params : List Tree) (order : List ℕ) (vs noted : List V) (ws own addresses : List W) (slots : List (ℕ × W)) (base memory : M) where
    abbrev function : Abi → List Tree → Function
    function abi results = record { abi = abi; name = name; params = params; results = results }

    abbrev receiver : Abi → List Tree → Receiver
    receiver abi results = record { module_name = n; function = record { abi = abi; name = own_name; params = own_params; results = results }; order = order }

    abbrev Stands : Abi → List Tree → List Tree → Type 0
    Stands abi results own_results = Before L (function abi results) (receiver abi own_results) own addresses slots base memory

    abbrev Does : Abi → List Tree → List Tree → Option V → Type 0
    Does abi results own_results reply = ResultPart L m (function abi results) (receiver abi own_results) vs noted reply ws own addresses slots base memory

    nothing_part : (abi : Abi) (reply : Option V) → IsReply L abi [] reply → Stands abi [] [] → Does abi [] [] reply
    nothing_part abi None h b =
        let f = function abi [] in
        let to = receiver abi [] in
        let g = to.function in
        let words = own ++ addresses in
        record {
          lowered = record { items = []; given = refl; results = []; after = memory; types = subst (λ ts. T (typed D ts [])) (sym (no_words_back abi)) tt; goes = subst (λ es. Runs (Callee.rule L n g None words (length (callee_events n g))) es (Callee.late L n g None words noted [] memory) (Callee.late L n g None words noted [] memory)) (sym (none_lowered abi (length (words_of_params own_params)))) (runs_none _) };
          lifted = λ call. record { items = []; values = tt; many = refl; goes = subst (λ es. Runs (Caller.rule L m f to (callee_events n g) vs None (length (caller_events m f))) es (Caller.late L m f to (callee_events n g) vs None slots [] call [] memory) (Caller.late L m f to (callee_events n g) vs None slots [] call [] memory)) (sym (none_lifted abi)) (runs_none _) };
          keeps = b.keeps;
          returns = λ o e2 e3 e4. e3;
        }
    nothing_part abi (Some v) h b = absurd h

    word_part : (t u : Tree) (x y : Scalar) → plain t ≡ plain u → result_cases t ≡ None → result_cases u ≡ None → OneWord t t x → OneWord u u y → result_word (plain u) ≡ Some (word_type y) → (v : V) → L.Replies Abi.Preview1 t v → Stands Abi.Preview1 (t ∷ []) (u ∷ []) → Does Abi.Preview1 (t ∷ []) (u ∷ []) (Some v)
    word_part t u x y alike e e' o o' narrow v h b =
        let f = function Abi.Preview1 (t ∷ []) in
        let to = receiver Abi.Preview1 (u ∷ []) in
        let g = to.function in
        let is = L.reply_is Abi.Preview1 t v h in
        let c = L.scalar x (plain t) v o.lowers is in
        let d = L.scalar y (plain u) v o'.lowers (subst (λ q. L.Is q v) alike is) in
        let direct = subst (λ q. J.direct q v (d.0 ∷ [])) (sym alike) d.4 in
        let back_is : D.lift x d.0 ≡ Some v = subst (λ w. D.lift x w ≡ Some v) (head_same (L.direct_once (plain t) v (c.0 ∷ []) (d.0 ∷ []) c.4 direct)) c.2 in
        let words = own ++ addresses in
        let depth = length (callee_events n g) in
        let k = length (caller_events m f) in
        let w = length (words_of_params own_params) in
        let late = Callee.late L n g (Some v) words noted in
        let back = λ (call : Call V W M). Caller.late L m f to (callee_events n g) vs (Some v) slots (d.0 ∷ []) call in
        let low = row_goes L (Callee.side L n g (Some v) words) (Callee.deep L n g (Some v) words depth) outside [] [] None (Some noted) (lower_step u) (lowering y) (value_item v (name_of u) ∷ []) (word_item d.0 ∷ []) memory memory o'.lower (ap (λ r. if_found r (λ w. went (late (word_item w ∷ []) memory))) d.1) in
        let lifts = λ (call : Call V W M). row_goes L (Caller.side L m f to (callee_events n g) vs (Some v)) (Caller.deep L m f to (callee_events n g) vs (Some v) k) outside slots [] (Some d.0) (Some call) (lift_step t) (lifting x) (word_item d.0 ∷ []) (plain_item v ∷ []) memory memory o.lift (ap (λ r. if_found r (λ u. went (back call (plain_item u ∷ []) memory))) back_is) in
        record {
          lowered = record { items = value_item v (name_of u) ∷ []; given = refl; results = d.0 ∷ []; after = memory; types = subst (λ r. T (typed D (before_rest r []) (d.0 ∷ []))) (sym narrow) (both_true _ _ d.3 tt); goes = subst (λ c. Runs (Callee.rule L n g (Some v) words depth) (lower_by c w u) (late (value_item v (name_of u) ∷ []) memory) (late (word_item d.0 ∷ []) memory)) (sym e') low };
          lifted = λ call. record { items = value_item v None ∷ []; values = (refl, tt); many = refl; goes = subst (λ c. Runs (Caller.rule L m f to (callee_events n g) vs (Some v) k) (lift_by c t) (back call (word_item d.0 ∷ []) memory) (back call (value_item v None ∷ []) memory)) (sym e) (lifts call) };
          keeps = b.keeps;
          returns = λ o' e2 e3 e4. subst (λ c. ReturnsBy D J c t v o') (sym e) (subst (λ us. J.direct (plain t) v us) (sym e3) direct);
        }

    from_case : (t u : Tree) (cs ds : TreeArms) (v : V) → result_cases t ≡ Some cs → result_cases u ≡ Some ds → result_word (plain u) ≡ Some WasmType.I32 → Stands Abi.Preview1 (t ∷ []) (u ∷ []) → CasePart L m (function Abi.Preview1 (t ∷ [])) (receiver Abi.Preview1 (u ∷ [])) vs noted ws own addresses slots base memory v (ok_of cs) (err_of cs) (ok_of ds) (err_of ds) → Does Abi.Preview1 (t ∷ []) (u ∷ []) (Some v)
    from_case t u cs ds v e e' narrow b p =
        let f = function Abi.Preview1 (t ∷ []) in
        let to = receiver Abi.Preview1 (u ∷ []) in
        let g = to.function in
        let words = own ++ addresses in
        let late = Callee.late L n g (Some v) words noted in
        let back = λ (call : Call V W M). Caller.late L m f to (callee_events n g) vs (Some v) slots (p.word ∷ []) call in
        record {
          lowered = record {
            items = value_item v (name_of u) ∷ [];
            given = refl;
            results = p.word ∷ [];
            after = p.after;
            types = subst (λ r. T (typed D (before_rest r []) (p.word ∷ []))) (sym narrow) (both_true _ _ p.is_32 tt);
            goes = subst (λ c. Runs (Callee.rule L n g (Some v) words (length (callee_events n g))) (lower_by c (length (words_of_params own_params)) u) (late (value_item v (name_of u) ∷ []) memory) (late (word_item p.word ∷ []) p.after)) (sym e') (p.lowers (name_of u));
          };
          lifted = λ call. record {
            items = value_item v None ∷ [];
            values = (refl, tt);
            many = refl;
            goes = subst (λ c. Runs (Caller.rule L m f to (callee_events n g) vs (Some v) (length (caller_events m f))) (lift_by c t) (back call (word_item p.word ∷ []) p.after) (back call (value_item v None ∷ []) p.after)) (sym e) (p.lifts call);
          };
          keeps = p.keeps;
          returns = λ o e2 e3 e4. subst (λ c. ReturnsBy D J c t v o) (sym e) (p.returns o e2 e3 e4);
        }

    module _ (t u : Tree) (v : V) where
      abbrev f : Function
      f = function Abi.Preview1 (t ∷ [])

      abbrev to : Receiver
      to = receiver Abi.Preview1 (u ∷ [])

      abbrev Part : (ok err ok' err' : Option Tree) → Type 0
      Part ok err ok' err' = CasePart L m f to vs noted ws own addresses slots base memory v ok err ok' err'

      abbrev Pays : Bool → Option Tree → Option V → Type 0
      Pays e o p = PayloadIs (λ u q. L.Is u q × cond e (L.Returned u q) (Unit {0})) o p

      -- the picked case's payload
      case_part : Stands Abi.Preview1 (t ∷ []) (u ∷ []) → (ok err ok' err' : Option Tree) → AlikeOption ok ok' → AlikeOption err err' → T (result_has_cases (u ∷ []) ok' err') → PointersAt L base memory (ok_pointers ok) addresses → T (can_be_err err) → T (can_be_err err') → ((q : Tree) → err ≡ Some q → T (fits (plain q))) → ((q : Tree) → err' ≡ Some q → T (fits (plain q))) → (e : Bool) (p : Option V) → D.picks ok err v ≡ Some (e, named_payload (cond e err ok) p) → D.picks ok' err' v ≡ Some (e, named_payload (cond e err' ok') p) → D.result e p ≡ v → D.chooses (D.case_word e) ≡ Some e → Pays e (cond e err ok) p → Part ok err ok' err'
      case_part b None err None err' a c has pointers can can' fit fit' false None is is' same chosen pay = bare_ok L m f to vs noted ws own addresses slots base memory v b err err' has is is' same chosen
      case_part b (Some x) err (Some y) err' a c has pointers can can' fit fit' false (Some p) is is' same chosen pay =
          ok_part L m f to vs noted ws own addresses slots base memory v b x y p err err' a has is is' same chosen (ok_shape x p pay.0) pointers
      case_part b ok None ok' None a c has pointers can can' fit fit' true None is is' same chosen pay = bare_err L m f to vs noted ws own addresses slots base memory v b ok ok' has is is' same chosen
      case_part b ok (Some x) ok' (Some y) a c has pointers can can' fit fit' true (Some p) is is' same chosen pay =
          err_part L m f to vs noted ws own addresses slots base memory v b x y p ok ok' c has (err_way x can (fit x refl)) (err_way y can' (fit' y refl)) is is' same pay.0 pay.1 (narrow_words x can)
      case_part b None err (Some y) err' a c has pointers can can' fit fit' false p is is' same chosen pay = absurd a
      case_part b (Some x) err None err' a c has pointers can can' fit fit' false p is is' same chosen pay = absurd a
      case_part b None err None err' a c has pointers can can' fit fit' false (Some p) is is' same chosen pay = absurd pay
      case_part b (Some x) err (Some y) err' a c has pointers can can' fit fit' false None is is' same chosen pay = absurd pay
      case_part b ok None ok' (Some y) a c has pointers can can' fit fit' true p is is' same chosen pay = absurd c
      case_part b ok (Some x) ok' None a c has pointers can can' fit fit' true p is is' same chosen pay = absurd c
      case_part b ok None ok' None a c has pointers can can' fit fit' true (Some p) is is' same chosen pay = absurd pay
      case_part b ok (Some x) ok' (Some y) a c has pointers can can' fit fit' true None is is' same chosen pay = absurd pay

    result_part : (t u : Tree) → plain t ≡ plain u → Sort t t → Sort u u → (reply : Option V) → IsReply L Abi.Preview1 (t ∷ []) reply → Stands Abi.Preview1 (t ∷ []) (u ∷ []) → Does Abi.Preview1 (t ∷ []) (u ∷ []) reply
    result_part t u a s s' None h b = absurd h
    result_part t u a (word x e o n) (word y e' o' n') (Some v) h b = word_part t u x y a e e' o o' n' v h b
    result_part t u a (cases r cs e p i has can f n) (cases r' ds e' p' i' has' can' f' n') (Some v) h b =
        let d = L.cases t r cs v e p i has h in
        let arms = some_same (sym (ap (option_map plain_arms) e) ∙ alike_cases t u a ∙ ap (option_map plain_arms) e') in
        from_case t u cs ds v e e' n' b (case_part t u v b (ok_of cs) (err_of cs) (ok_of ds) (err_of ds) (alike_ok cs ds arms) (alike_err cs ds arms) (has_own u ds e') (subst (λ c. PointersAt L base memory (pointers_by c) addresses) e (subst (λ ps. PointersAt L base memory ps addresses) (append-nil (pointers_by (result_cases t))) b.pointers)) can can' (λ q is. ok_fits cs q i is f) (λ q is. ok_fits ds q i' is f') d.0 d.1 (d.5 (ok_of cs) (err_of cs) (alike_option_self (ok_of cs)) (alike_option_self (err_of cs))) (d.5 (ok_of ds) (err_of ds) (alike_ok cs ds arms) (alike_err cs ds arms)) d.2 d.3 d.4)
      where
        some_same : {A : Type 0} {x y : A} → Some x ≡ Some y → x ≡ y
        some_same {A} {x} e = ap (or_else x) e
          where
            or_else : A → Option A → A
            or_else d None = d
            or_else d (Some y) = y
    result_part t u a (word x e o n) (cases r' ds e' p' i' has' can' f' n') (Some v) h b = absurd (clash (sym (ap (option_map plain_arms) e) ∙ alike_cases t u a ∙ ap (option_map plain_arms) e'))
      where
        clash : None ≡ Some (plain_arms ds) → ⊥
        clash e = cc
    result_part t u a (cases r cs e p i has can f n) (word y e' o' n') (Some v) h b = absurd (clash (sym (ap (option_map plain_arms) e) ∙ alike_cases t u a ∙ ap (option_map plain_arms) e'))
      where
        clash : Some (plain_arms cs) ≡ None → ⊥
        clash e = cc

    -- stored whole by the callee, and loaded by the caller
    stored_part : (t u : Tree) → plain t ≡ plain u → (reply : Option V) → IsReply L Abi.Stored (t ∷ []) reply → Stands Abi.Stored (t ∷ []) (u ∷ []) → Does Abi.Stored (t ∷ []) (u ∷ []) reply
    stored_part t u a None h b = absurd h
    stored_part t u a (Some v) h b =
        let f = function Abi.Stored (t ∷ []) in
        let to = receiver Abi.Stored (u ∷ []) in
        let g = to.function in
        let words = own ++ addresses in
        let callee = Callee.side L n g (Some v) words in
        let deep = Callee.deep L n g (Some v) words (length (callee_events n g)) in
        let caller = Caller.side L m f to (callee_events n g) vs (Some v) in
        let items = value_item v (name_of u) ∷ [] in
        let stands = addresses_stand D own_params own addresses b.types in
        let put = stores L callee deep outside [] [] None (Some noted) base (length (words_of_params own_params)) (t ∷ []) (u ∷ []) (a, tt) addresses (v ∷ []) items [] memory b.keeps b.pointers (subst (λ q. L.Is q v) a (L.reply_is Abi.Stored t v h), tt) (refl, tt) stands in
        let put_own = loads_alike L put.memory (u ∷ []) (t ∷ []) addresses (v ∷ []) (sym a, tt) put.loads in
        let loaded = λ (call : Call V W M). loads L caller (Caller.deep L m f to (callee_events n g) vs (Some v) (length (caller_events m f))) outside slots [] None (Some call) 0 (t ∷ []) addresses (v ∷ []) [] put.memory b.found put_own in
        let count = pointer_count L base memory (t ∷ []) addresses b.pointers in
        record {
          lowered = record { items = items; given = refl; results = []; after = put.memory; types = tt; goes = put.goes };
          lifted = λ call. record { items = (loaded call).items; values = (loaded call).values; many = sym (items_count (loaded call).items (v ∷ []) (loaded call).values); goes = (loaded call).goes };
          keeps = put.keeps;
          returns = λ o e2 e3 e4. (e3, held o.call.at_return put.memory o.call.words addresses e2 (ap (last_words 1) e4 ∙ last_are ws addresses 1 count) (hold_all L put.memory (t ∷ []) addresses (v ∷ []) put_own));
        }
      where
        held : (m m' : M) (us at : List W) → m ≡ m' → last_words 1 us ≡ at → HoldAll D J m' at (v ∷ []) → HoldAll D J m (last_words 1 us) (v ∷ [])
        held m m' us at e w h = subst (λ m. HoldAll D J m (last_words 1 us) (v ∷ [])) (sym e) (subst (λ ws. HoldAll D J m' ws (v ∷ [])) (sym w) h)

  module _ (m n name own_name : List ℕ) (params own_params : List Tree) (order : List ℕ) (ways : Ways params) (own_ways : Ways own_params) (arranged : List V → Option (List V)) where
    abbrev HandsOn : Abi → (results own_results : List Tree) → Type 0
    HandsOn abi results own_results =
        (base : M) (vs : List V) (ws addresses : List W) → AreArguments L params vs → PassedAll L base params ways vs ws → length (return_pointers (record { abi = abi; name = name; params = params; results = results })) ≡ length addresses →
        Handed L (record { module_name = n; function = record { abi = abi; name = own_name; params = own_params; results = own_results }; order = order }) own_ways (arranged vs) base ws addresses

    pub runs_well_to : (abi : Abi) (results own_results : List Tree) → T (is_none (unlowerable_result abi results)) → T (is_none (unlowerable_result abi own_results)) → T (all_fit results) → T (all_fit own_results) → Alike results own_results → HandsOn abi results own_results →
        let f : Function = record { abi = abi; name = name; params = params; results = results } in
        let g : Function = record { abi = abi; name = own_name; params = own_params; results = own_results } in
        RunWell L m f (record { module_name = n; function = g; order = order }) arranged (caller_events m f) (callee_events n g)
    runs_well_to abi [] [] h h' k k' a hand =
        run_well_by_parts L m _ _ ways own_ways arranged (alike_words_back abi [] [] a) hand (λ vs noted reply ws own addresses slots base memory is b. nothing_part m n name own_name params own_params order vs noted ws own addresses slots base memory abi reply is b)
    runs_well_to Abi.Preview1 (t ∷ []) (u ∷ []) h h' k k' a hand =
        run_well_by_parts L m _ _ ways own_ways arranged (alike_words_back Abi.Preview1 (t ∷ []) (u ∷ []) a) hand (λ vs noted reply ws own addresses slots base memory is b. result_part m n name own_name params own_params order vs noted ws own addresses slots base memory t u a.0
        (sort_of t false t refl (result_lowers Abi.Preview1 t h) (left_true (fits (plain t)) _ k)) (sort_of u false u refl (result_lowers Abi.Preview1 u h') (left_true (fits (plain u)) _ k')) reply is b)
    runs_well_to Abi.Stored (t ∷ []) (u ∷ []) h h' k k' a hand =
        run_well_by_parts L m _ _ ways own_ways arranged (alike_words_back Abi.Stored (t ∷ []) (u ∷ []) a) hand (λ vs noted reply ws own addresses slots base memory is b. stored_part m n name own_name params own_params order vs noted ws own addresses slots base memory t u a.0 reply is b)
    runs_well_to abi (t ∷ q ∷ ts) us h h' k k' a hand = absurd h
    runs_well_to abi (t ∷ []) (u ∷ q ∷ us) h h' k k' a hand = absurd h'
    runs_well_to abi [] (u ∷ us) h h' k k' a hand = absurd a
    runs_well_to abi (t ∷ []) [] h h' k k' a hand = absurd a

  -- a plain run: the words go on as they are
  pub traces_run_well : (m : List ℕ) (f : Function) → T (lowerable f) → T (all_fit f.params) → T (all_fit f.results) → RunWell L m f (itself m f) (λ vs. Some vs) (caller_events m f) (callee_events m f)
  traces_run_well m f h k k' =
      let can = params_lower f.params (unlowerable_result f.abi f.results) h in
      let ways = param_ways f.params can.0 k in
      runs_well_to m m f.name f.name f.params f.params (numbers 0 (length (signature_params f))) ways ways (λ vs. Some vs) f.abi f.results f.results can.1 can.1 k' k' (alike_self f.results)
      (λ base vs ws addresses are passed count. record { noted = vs; own = ws; arguments = refl; handed = all_in_order (ws ++ addresses) (length (signature_params f)) (as_long (words_of_params f.params) (return_pointers f) ws addresses (typed_length D (words_of_params f.params) ws (passed_types L base f.params ways vs ws passed)) count); are = are; passed = passed })
    where
      as_long : (ts : List WasmType) (ps : List Tree) (ws addresses : List W) → length ts ≡ length ws → length ps ≡ length addresses → length (ts ++ map (λ _. WasmType.I32) ps) ≡ length (ws ++ addresses)
      as_long ts ps ws addresses e k =
          let a = length-append ts (map (λ _. WasmType.I32) ps) in
          let b = length-append ws addresses in
          let c = length_of_map ps in
          omega arith
        where
          length_of_map : (ps : List Tree) → length (map (λ _. WasmType.I32) ps) ≡ length ps
          length_of_map [] = refl
          length_of_map (p ∷ ps) = let h = length_of_map ps in omega arith
