-- The cells meet the laws, and so the two traces of a function that can be lowered are faithful.
use Rattle.std.proofs.Common.{◌≡◌, ◌≢◌, ℕ, zero, suc, ◌+◌, ◌*◌, ◌^◌, ◌%◌, ◌/◌, ◌<◌, ◌≤◌, Bool, true, false, cond, not, ◌&&◌, T, refl, sym, ap, ◌∙◌, subst, arith, Option, Some, None, option_map, option_and_then, List, [], ◌∷◌, ◌++◌, length, map, nat_eq, ltb→lt, lt→ltb, leb→le, eqb→eq, nat_le, lit<, pow-suc, pow_mono, mod-eq_of_lt, lt_of_lt_of_le, inl, inr, IsTrue}
use lib.Dec.{eqb_refl}
use Rattle.witx_ast.specs.declared.function.Abi.{Abi}
use Rattle.witx_ast.specs.declared.types.BuiltinType.{BuiltinType}
use Rattle.witx_ast.specs.declared.types.IntRepr.{IntRepr}
use Rattle.witx_ast.specs.declared.types.RecordKind.{RecordKind}
use Rattle.witx_ast.specs.Tree.{Tree, Field, arm_list}
use Rattle.witx_ast.specs.Tree.{Arms as TreeArms}
use Rattle.witx_ast.specs.Plain.{Plain, Fields, Arms, plain, plain_arms, field_count, arm_count, all_bare}
use Rattle.witx_ast.specs.Alike.{same_plain, same_builtin}
use Rattle.witx_ast.specs.Values.{Value, Values}
use Rattle.witx_ast.specs.ValueTests.{is_value, are_values, in_range, is_case_with, is_bare_case}
use Rattle.witx_ast.specs.Functions.{FunctionTree}
use Rattle.witx_ast.specs.Tags.{fits, repr_bits, types_fit, function_fits}
use Rattle.witx_ast.proofs.AlikeLaws.{alike-self, builtins-decide}
use Rattle.witx_machine.specs.declared.surface.WasmType.{WasmType}
use Rattle.witx_machine.specs.Words.{Word, i32, same_type, Scalar, number_of, pointer, const_pointer, handle_of, flags_of, enum_of, word_of, value_of, word_type, is_for, word_in, value_in, builtin_word_type, number_word, when, bits_of_flags, flags_from, repr_modulus, repr_word_type, checked_value}
use Rattle.witx_machine.specs.Functions.{Function, function_of, has_payload, by_address, ok_of, err_of}
use Rattle.witx_ast.specs.Words.{is_expected}
use Rattle.witx_machine.specs.Lowerable.{lowerable}
use Rattle.witx_machine.specs.Traces.{caller_events, callee_events}
use Rattle.witx_machine.specs.Cells.{Cell, Cells, Memory, Taken, get, insert, cell_given, loaded, stored, is_i32, list_words, list_at, list_of_values, values_of, tuple_parts, case_picked, result_value, cells, outcome}
use Rattle.witx_machine.specs.Faithful.{cell_meaning, At, IsTaken, AreFree, AreOther, direct_words, is_zero, zero_of, zero_by, zero_in, zero_under, are_arguments, is_reply, FaithfulTo, Faithful}
use Rattle.witx_machine.specs.Events.{Event}
use Rattle.witx_machine.specs.Run.{Receiver, itself, picked_in_order}
use Rattle.witx_machine.specs.Shims.{StandsIn, pass, FaithfulThrough}
use Rattle.witx_machine.proofs.Scalars.{cut_back, truth, true_of, same_type_self, same_type_is, when_true, both_true, left_true, right_true}
use Rattle.witx_machine.proofs.Alikes.{AlikeOption}
use Rattle.witx_machine.proofs.Laws.{Laws, Lowers, AreMembers, PayloadIs, named_payload}
use Rattle.witx_machine.proofs.Params.{AreArguments}
use Rattle.witx_machine.proofs.Whole.{IsReply, RunWell}
use Rattle.witx_machine.proofs.All.{all_fit, traces_run_well}
use Rattle.witx_machine.proofs.Orders.{shim_runs_well}

-- lowering by a name, as its type has it
abbrev lowered : Scalar → Value → Plain → Option Word
lowered x v p = when (is_for x p && is_value p v) (word_in p v)

abbrev lifted : Scalar → Word → Plain → Option Value
lifted x w p = when (is_for x p && same_type w.type (word_type x)) (option_and_then (checked_value p) (value_in p w.bits))

-- scalars
abbrev pub Converts : Scalar → Plain → Value → Type 0
Converts x t v = (w : Word) × (word_of x v ≡ Some w) × (value_of x w ≡ Some v) × T (same_type w.type (word_type x)) × (direct_words t v ≡ Some (w ∷ []))

same_kind_is : (k j : BuiltinType) → T (same_builtin j k) → k ≡ j
same_kind_is k j h = sym ((builtins-decide j k).0 (true_of _ h))

number_words : (k : BuiltinType) (v : Value) → T (is_value (Plain.builtin k) v) → Converts (number_of k) (Plain.builtin k) v
number_words k (Value.number j z) h =
    let e = same_kind_is k j (left_true (same_builtin j k) (in_range k z) h) in
    let range = right_true (same_builtin j k) (in_range k z) h in
    let back = cut_back k z range in
    let own : T (is_value (Plain.builtin k) (Value.number k z)) = both_true _ _ (truth ((builtins-decide k k).1 refl)) range in (
      number_word k z,
      when_true _ _ h,
      when_true _ _ (same_type_self (builtin_word_type k)) ∙ ap (λ z. when (is_value (Plain.builtin k) (Value.number k z)) (Some (Value.number k z))) back ∙ when_true _ _ own ∙ ap (λ k. Some (Value.number k z)) e,
      same_type_self (builtin_word_type k),
      refl,
    )
number_words k _ h = absurd h

-- flags
pub bit_low : (b : Bool) (x : ℕ) → nat_eq ((cond b 1 0 + 2 * x) % 2) 1 ≡ b
bit_low true x = let e : (1 + 2 * x) % 2 ≡ 1 = omega arith in ap (λ n. nat_eq n 1) e
bit_low false x = let e : (0 + 2 * x) % 2 ≡ 0 = omega arith in ap (λ n. nat_eq n 1) e

pub bit_rest : (b : Bool) (x : ℕ) → (cond b 1 0 + 2 * x) / 2 ≡ x
bit_rest true x = omega arith
bit_rest false x = omega arith

cons_both : {A : Type 0} {x y : A} {xs ys : List A} → x ≡ y → xs ≡ ys → x ∷ xs ≡ y ∷ ys
cons_both p q i = p i ∷ q i

pub flags_back : (bs : List Bool) (n : ℕ) → n ≡ length bs → flags_from n (bits_of_flags bs) ≡ bs
flags_back [] zero e = refl
flags_back [] (suc n) e = absurd (omega arith)
flags_back (b ∷ bs) zero e = absurd (omega arith)
flags_back (b ∷ bs) (suc n) e = cons_both (bit_low b (bits_of_flags bs)) (ap (flags_from n) (bit_rest b (bits_of_flags bs)) ∙ flags_back bs n (omega arith))

pub flags_below : (bs : List Bool) → bits_of_flags bs < 2 ^ length bs
flags_below [] = lit< tt
flags_below (true ∷ bs) = omega (arith, pow-suc 2 (length bs), flags_below bs)
flags_below (false ∷ bs) = omega (arith, pow-suc 2 (length bs), flags_below bs)

pub modulus_is : (r : IntRepr) → 2 ^ repr_bits r ≡ repr_modulus r
modulus_is IntRepr.U8 = refl
modulus_is IntRepr.U16 = refl
modulus_is IntRepr.U32 = refl
modulus_is IntRepr.U64 = refl

flags_are_below : (r : IntRepr) (n : ℕ) (bs : List Bool) → T (nat_le n (repr_bits r)) → length bs ≡ n → bits_of_flags bs < repr_modulus r
flags_are_below r n bs f e =
    let le : length bs ≤ repr_bits r = subst (λ n. n ≤ repr_bits r) (sym e) (leb→le _ _ f) in
    let more : 2 ^ length bs ≤ repr_modulus r = subst (λ n. 2 ^ length bs ≤ n) (modulus_is r) (pow_mono le) in
    omega (arith, flags_below bs)

flags_words : (t : Tree) (r : IntRepr) (ms : Fields) → plain t ≡ Plain.record_of (RecordKind.Bitflags r) ms → T (nat_le (field_count ms) (repr_bits r)) → (v : Value) → T (is_value (Plain.record_of (RecordKind.Bitflags r) ms) v) → Converts (flags_of (repr_word_type r) t) (Plain.record_of (RecordKind.Bitflags r) ms) v
flags_words t r ms e f (Value.flag_bits bs) h =
    let ty = repr_word_type r in
    let x = bits_of_flags bs in
    let n = field_count ms in
    let long : length bs ≡ n = eqb→eq _ _ h in
    let below : x % repr_modulus r ≡ x = mod-eq_of_lt (flags_are_below r n bs f long) in
    let lt : x % repr_modulus r < 2 ^ n = subst (λ y. y < 2 ^ n) (sym below) (subst (λ n. x < 2 ^ n) long (flags_below bs)) in
    let back : flags_from n (x % repr_modulus r) ≡ bs = ap (flags_from n) below ∙ flags_back bs n (sym long) in
    let w : Word = record { type = ty; bits = x } in (
      w,
      ap (lowered (flags_of ty t) (Value.flag_bits bs)) e ∙ when_true _ _ (both_true _ _ (same_type_self ty) h),
      ap (lifted (flags_of ty t) w) e ∙ when_true _ _ (both_true _ _ (same_type_self ty) (same_type_self ty)) ∙ ap (option_and_then (checked_value (Plain.record_of (RecordKind.Bitflags r) ms))) (when_true _ _ (lt→ltb _ _ lt) ∙ ap (λ bs. Some (Value.flag_bits bs)) back) ∙ when_true _ _ h,
      same_type_self ty,
      refl,
    )
flags_words t r ms e f _ h = absurd h

handle_words : (n : Tree) → plain n ≡ Plain.handle → (v : Value) → T (is_value Plain.handle v) → Converts (handle_of n) Plain.handle v
handle_words n e (Value.handle_number x) h =
    (i32 x, ap (lowered (handle_of n) (Value.handle_number x)) e ∙ when_true _ _ h, ap (lifted (handle_of n) (i32 x)) e ∙ when_true _ _ h, tt, refl)
handle_words n e _ h = absurd h

pointer_words : (t : Plain) (v : Value) → T (is_value (Plain.pointer_to t) v) → Converts pointer (Plain.pointer_to t) v
pointer_words t (Value.address n) h = (i32 n, when_true _ _ h, when_true _ _ h, tt, refl)
pointer_words t _ h = absurd h

const_pointer_words : (t : Plain) (v : Value) → T (is_value (Plain.const_pointer_to t) v) → Converts const_pointer (Plain.const_pointer_to t) v
const_pointer_words t (Value.const_address n) h = (i32 n, when_true _ _ h, when_true _ _ h, tt, refl)
const_pointer_words t _ h = absurd h

takes_payload : (cs : Arms) (i : ℕ) (p : Value) → T (is_case_with cs i p) → T (has_payload cs)
takes_payload Arms.no_arms i p h = absurd h
takes_payload (Arms.bare n cs) zero p h = absurd h
takes_payload (Arms.bare n cs) (suc i) p h = takes_payload cs i p h
takes_payload (Arms.carries n t cs) i p h = tt

enum_words : (n : Tree) (r : IntRepr) (cs : Arms) → plain n ≡ Plain.variant_of r cs → has_payload cs ≡ false → T (nat_le (arm_count cs) (2 ^ repr_bits r)) → (v : Value) → T (is_value (Plain.variant_of r cs) v) → Converts (enum_of n) (Plain.variant_of r cs) v
enum_words n r cs e none f (Value.enum_index i) h =
    let bare : T (all_bare cs) = left_true (all_bare cs) _ h in
    let lt = ltb→lt i (arm_count cs) (right_true (all_bare cs) _ h) in
    let below : i % repr_modulus r ≡ i = mod-eq_of_lt (lt_of_lt_of_le lt (subst (λ n. arm_count cs ≤ n) (modulus_is r) (leb→le _ _ f))) in (
      i32 i,
      ap (lowered (enum_of n) (Value.enum_index i)) e ∙ when_true _ _ (both_true _ _ bare h),
      ap (lifted (enum_of n) (i32 i)) e ∙ when_true _ _ (both_true _ _ bare tt) ∙ ap (λ j. checked_value (Plain.variant_of r cs) (Value.enum_index j)) below ∙ when_true _ _ h,
      tt,
      refl,
    )
enum_words n r cs e none f (Value.case_with i p) h = absurd (subst T none (takes_payload cs i p h))
enum_words n r cs e none f (Value.bare_case i) h = absurd (subst T none (left_true (has_payload cs) _ h))
enum_words n r cs e none f _ h = absurd h

-- along an equation of types
along : (x : Scalar) (t q : Plain) (v : Value) → t ≡ q → (T (is_value q v) → Converts x q v) → T (is_value t v) → Converts x t v
along x t q v e f h = subst (λ t. Converts x t v) (sym e) (f (subst (λ t. T (is_value t v)) e h))

pub scalar_words : (x : Scalar) (t : Plain) (v : Value) → Lowers x t → T (is_value t v) → Converts x t v
scalar_words (number_of k) t v e h = along (number_of k) t _ v e (number_words k v) h
scalar_words pointer t v e h = along pointer t _ v e.1 (pointer_words e.0 v) h
scalar_words const_pointer t v e h = along const_pointer t _ v e.1 (const_pointer_words e.0 v) h
scalar_words (handle_of n) t v e h = along (handle_of n) t _ v e.0 (handle_words n e.1 v) h
scalar_words (flags_of w n) t v e h = subst (λ w. Converts (flags_of w n) t v) (sym e.4) (along (flags_of (repr_word_type e.0) n) t _ v e.2 (flags_words n e.0 e.1 e.3 e.5 v) h)
scalar_words (enum_of n) t v e h = along (enum_of n) t _ v e.2 (enum_words n e.0 e.1 e.3 e.4 e.5 v) h

list_words_back : (t : Plain) (v : Value) → T (is_value (Plain.list_of t) v) → (a : Word) × (l : Word) × (list_words v ≡ Some (a, l)) × (when (is_i32 a && is_i32 l) (list_at a.bits l.bits) ≡ Some v) × T (same_type a.type WasmType.I32) × T (same_type l.type WasmType.I32) × (direct_words (Plain.list_of t) v ≡ Some (a ∷ l ∷ []))
list_words_back t (Value.list_at a l) h = (i32 a, i32 l, when_true _ _ h, when_true _ _ h, tt, tt, refl)
list_words_back t _ h = absurd h

-- tuples
abbrev Is : Plain → Value → Type 0
Is t v = T (is_value t v)

members_are : (ms : Fields) (us : Values) → T (are_values ms us) → (field_count ms ≡ length (list_of_values us)) × AreMembers Is ms (list_of_values us)
members_are Fields.no_fields Values.no_values h = (refl, tt)
members_are Fields.no_fields (Values.value_then u us) h = absurd h
members_are (Fields.field n t ms) Values.no_values h = absurd h
members_are (Fields.field n t ms) (Values.value_then u us) h = let r = members_are ms us (right_true (is_value t u) _ h) in (let e = r.0 in omega arith, (left_true (is_value t u) _ h, r.1))

values_again : (us : Values) → values_of (list_of_values us) ≡ us
values_again Values.no_values = refl
values_again (Values.value_then u us) = ap (Values.value_then u) (values_again us)

tuple_back : (ms : Fields) (v : Value) → T (is_value (Plain.record_of RecordKind.Tuple ms) v) → (vs : List Value) × (tuple_parts (field_count ms) v ≡ Some vs) × (Value.tuple_values (values_of vs) ≡ v) × AreMembers Is ms vs
tuple_back ms (Value.tuple_values us) h =
    let r = members_are ms us h in
    (list_of_values us, when_true _ _ (subst (λ n. T (nat_eq (field_count ms) n)) r.0 (eqb_refl (field_count ms))), ap Value.tuple_values (values_again us), r.1)
tuple_back ms _ h = absurd h

-- results: the values of a variant with payloads
data Payload (cs : Arms) : Value → Type 0 where
  carried : (i : ℕ) (p : Value) → T (is_case_with cs i p) → Payload cs (Value.case_with i p)
  alone : (i : ℕ) → T (is_bare_case cs i) → Payload cs (Value.bare_case i)

payload_of_value : (r : IntRepr) (cs : Arms) → T (has_payload cs) → (v : Value) → T (is_value (Plain.variant_of r cs) v) → Payload cs v
payload_of_value r cs h (Value.case_with i p) is = carried i p is
payload_of_value r cs h (Value.bare_case i) is = alone i (right_true (has_payload cs) _ is)
payload_of_value r cs h (Value.enum_index i) is = absurd (clash (all_bare cs) h (left_true _ _ is))
  where
    clash : (b : Bool) → T (not b) → T b → ⊥
    clash true h k = h
    clash false h k = k
payload_of_value r cs h _ is = absurd is

abbrev Returned : Plain → Value → Type 0
Returned t v = T (is_zero (direct_words t v)) → ⊥

abbrev Came : Option Tree → Option Tree → Value → Type 0
Came ok err v = (e : Bool) × (p : Option Value) × (result_value e p ≡ v) × (cells.chooses (cells.case_word e) ≡ Some e) × PayloadIs (λ u q. Is u q × cond e (Returned u q) (Unit {0})) (cond e err ok) p

-- an error's payload isn't zero
abbrev NotZero : Option Tree → Value → Type 0
NotZero err v = (p : Value) → v ≡ Value.case_with (suc zero) p → T (zero_of err p) → ⊥

came_ok : (t : Tree) (err : Option Tree) (p : Value) → T (is_value (plain t) p) → Came (Some t) err (Value.case_with zero p)
came_ok t err p h = (false, Some p, refl, refl, (h, tt))

came_err : (u : Tree) (ok : Option Tree) (p : Value) → T (is_value (plain u) p) → NotZero (Some u) (Value.case_with (suc zero) p) → Came ok (Some u) (Value.case_with (suc zero) p)
came_err u ok p h z = (true, Some p, refl, refl, (h, z p refl))

picks_own : (ok err : Option Tree) (e : Bool) (p : Option Value) → PayloadIs Is (cond e err ok) p → case_picked ok err (result_value e p) ≡ Some (e, named_payload (cond e err ok) p)
picks_own None err false None h = refl
picks_own (Some t) err false (Some p) h = ap (option_map (λ x. (false, x))) (when_true _ _ h)
picks_own ok None true None h = refl
picks_own ok (Some u) true (Some p) h = ap (option_map (λ x. (true, x))) (when_true _ _ h)
picks_own None err false (Some p) h = absurd h
picks_own (Some t) err false None h = absurd h
picks_own ok None true (Some p) h = absurd h
picks_own ok (Some u) true None h = absurd h

came : (cs : TreeArms) → T (is_expected (arm_list cs)) → T (has_payload (plain_arms cs)) → (v : Value) → Payload (plain_arms cs) v → NotZero (err_of cs) v → Came (ok_of cs) (err_of cs) v
came TreeArms.no_arms is has v p z = absurd is
came (TreeArms.bare a da TreeArms.no_arms) is has v p z = absurd is
came (TreeArms.bare a da (TreeArms.bare b db TreeArms.no_arms)) is has v p z = absurd has
came (TreeArms.bare a da (TreeArms.bare b db (TreeArms.bare c dc cs))) is has v p z = absurd is
came (TreeArms.bare a da (TreeArms.bare b db (TreeArms.carries c t dc cs))) is has v p z = absurd is
came (TreeArms.bare a da (TreeArms.carries b u db (TreeArms.bare c dc cs))) is has v p z = absurd is
came (TreeArms.bare a da (TreeArms.carries b u db (TreeArms.carries c t dc cs))) is has v p z = absurd is
came (TreeArms.carries a t da TreeArms.no_arms) is has v p z = absurd is
came (TreeArms.carries a t da (TreeArms.bare b db (TreeArms.bare c dc cs))) is has v p z = absurd is
came (TreeArms.carries a t da (TreeArms.bare b db (TreeArms.carries c u dc cs))) is has v p z = absurd is
came (TreeArms.carries a t da (TreeArms.carries b u db (TreeArms.bare c dc cs))) is has v p z = absurd is
came (TreeArms.carries a t da (TreeArms.carries b u db (TreeArms.carries c t' dc cs))) is has v p z = absurd is
came (TreeArms.bare a da (TreeArms.carries b u db TreeArms.no_arms)) is has v p z = go v p z
  where
    go : (v : Value) → Payload (plain_arms (TreeArms.bare a da (TreeArms.carries b u db TreeArms.no_arms))) v → NotZero (Some u) v → Came None (Some u) v
    go v (carried zero p h) z = absurd h
    go v (carried (suc zero) p h) z = came_err u None p h z
    go v (carried (suc (suc i)) p h) z = absurd h
    go v (alone zero h) z = (false, None, refl, refl, tt)
    go v (alone (suc zero) h) z = absurd h
    go v (alone (suc (suc i)) h) z = absurd h
came (TreeArms.carries a t da (TreeArms.bare b db TreeArms.no_arms)) is has v p z = go v p
  where
    go : (v : Value) → Payload (plain_arms (TreeArms.carries a t da (TreeArms.bare b db TreeArms.no_arms))) v → Came (Some t) None v
    go v (carried zero p h) = came_ok t None p h
    go v (carried (suc zero) p h) = absurd h
    go v (carried (suc (suc i)) p h) = absurd h
    go v (alone zero h) = absurd h
    go v (alone (suc zero) h) = (true, None, refl, refl, tt)
    go v (alone (suc (suc i)) h) = absurd h
came (TreeArms.carries a t da (TreeArms.carries b u db TreeArms.no_arms)) is has v p z = go v p z
  where
    go : (v : Value) → Payload (plain_arms (TreeArms.carries a t da (TreeArms.carries b u db TreeArms.no_arms))) v → NotZero (Some u) v → Came (Some t) (Some u) v
    go v (carried zero p h) z = came_ok t (Some u) p h
    go v (carried (suc zero) p h) z = came_err u (Some t) p h z
    go v (carried (suc (suc i)) p h) z = absurd h
    go v (alone zero h) z = absurd h
    go v (alone (suc zero) h) z = absurd h
    go v (alone (suc (suc i)) h) z = absurd h

payload_of_alike : (e : Bool) (o u : Option Tree) (p : Option Value) → AlikeOption o u → PayloadIs (λ u q. Is u q × cond e (Returned u q) (Unit {0})) o p → PayloadIs Is u p
payload_of_alike e None None None a h = tt
payload_of_alike e (Some t) (Some u) (Some p) a h = subst (λ q. Is q p) a h.0
payload_of_alike e None (Some u) p a h = absurd a
payload_of_alike e (Some t) None p a h = absurd a
payload_of_alike e None None (Some p) a h = absurd h
payload_of_alike e (Some t) (Some u) None a h = absurd h

-- the case is picked under any alike types
abbrev Picks : TreeArms → Value → Bool → Option Value → Type 0
Picks cs v e p = (ok err : Option Tree) → AlikeOption (ok_of cs) ok → AlikeOption (err_of cs) err → case_picked ok err v ≡ Some (e, named_payload (cond e err ok) p)

with_picks : (cs : TreeArms) (v : Value) → Came (ok_of cs) (err_of cs) v → (e : Bool) × (p : Option Value) × (result_value e p ≡ v) × (cells.chooses (cells.case_word e) ≡ Some e) × PayloadIs (λ u q. Is u q × cond e (Returned u q) (Unit {0})) (cond e (err_of cs) (ok_of cs)) p × Picks cs v e p
with_picks cs v c = (c.0, c.1, c.2, c.3, c.4, λ ok err a b. ap (case_picked ok err) (sym c.2) ∙ picks_own ok err c.0 c.1 (payload_of_alike c.0 (cond c.0 (err_of cs) (ok_of cs)) (cond c.0 err ok) c.1 (either c.0 ok err a b) c.4))
  where
    either : (e : Bool) (ok err : Option Tree) → AlikeOption (ok_of cs) ok → AlikeOption (err_of cs) err → AlikeOption (cond e (err_of cs) (ok_of cs)) (cond e err ok)
    either true ok err a b = b
    either false ok err a b = a

-- memories
pub not_zero : (n : ℕ) → (T (nat_eq n 0) → ⊥) → cond (nat_eq n 0) false true ≡ true
not_zero n h = go (nat_eq n 0) h
  where
    go : (b : Bool) → (T b → ⊥) → cond b false true ≡ true
    go true h = absurd (h tt)
    go false h = refl

alike_is_self : (t : Plain) → T (same_plain t t)
alike_is_self t = truth (alike-self t)

pub same_address : {a b : ℕ} → i32 a ≡ i32 b → a ≡ b
same_address e = ap (λ w. w.bits) e

pub own_cell : (cells : Cells) (a : ℕ) (c : Cell) → get (insert cells a c) a ≡ Some c
own_cell cells a c = go (nat_eq a a) (eqb_refl a)
  where
    go : (x : Bool) → T x → cond x (Some c) (get cells a) ≡ Some c
    go true h = refl
    go false h = absurd h

pub insert_other : (cells : Cells) (a b : ℕ) (c : Cell) → b ≢ a → get (insert cells a c) b ≡ get cells b
insert_other cells a b c n = go (nat_eq b a) refl
  where
    go : (x : Bool) → nat_eq b a ≡ x → cond x (Some c) (get cells b) ≡ get cells b
    go true is = absurd (n (eqb→eq b a (subst T (sym is) tt)))
    go false is = refl

none_some : {A : Type 0} {x : A} {o : Option A} → o ≡ None → o ≡ Some x → ⊥
none_some {A} {x} {o} e k = clash (sym e ∙ k)
  where
    clash : None ≡ Some x → ⊥
    clash e = cc

still_free : (cells : Cells) (a : ℕ) (c : Cell) (more : List ℕ) → AreOther a more → AreFree cells more → AreFree (insert cells a c) more
still_free cells a c [] o f = tt
still_free cells a c (b ∷ more) o f = (f.0, f.1, insert_other cells a b c (λ e. o.0 (sym e)) ∙ f.2, f.3, still_free cells a c more o.1 f.4)

taken_last : (xs : Taken) (a : ℕ) (t : Tree) → IsTaken (xs ++ (a, t) ∷ []) a
taken_last [] a t = inl refl
taken_last (x ∷ xs) a t = inr (taken_last xs a t)

taken_before : (xs : Taken) (a : ℕ) (x : ℕ × Tree) → IsTaken xs a → IsTaken (xs ++ x ∷ []) a
taken_before [] a x h = absurd h
taken_before (y ∷ xs) a x (inl e) = inl e
taken_before (y ∷ xs) a x (inr h) = inr (taken_before xs a x h)

record Keeps (m m' : Memory) : Type 0 where
  pub kept : (a : ℕ) (c : Cell) → get m.cells a ≡ Some c → get m'.cells a ≡ Some c
  pub taken : (a : ℕ) → IsTaken m.taken a → IsTaken m'.taken a

record Room (n : ℕ) (m : Memory) : Type 0 where
  pub enough : n ≤ length m.fresh
  pub free : AreFree m.cells m.fresh

abbrev New : Memory → Word → Type 0
New m = At (λ a. get m.cells a ≡ None)

keeps_got : (m m' : Memory) (t : Tree) (w : Word) (v : Value) → Keeps m m' → cells.get t w m ≡ Some v → cells.get t w m' ≡ Some v
keeps_got m m' t w v g e = go (is_i32 w) (get m.cells w.bits) refl e
  where
    none : None ≡ Some v → ⊥
    none e = cc

    go : (b : Bool) (o : Option Cell) → get m.cells w.bits ≡ o → when b (loaded t o) ≡ Some v → when b (loaded t (get m'.cells w.bits)) ≡ Some v
    go false o is e = absurd (none e)
    go true None is e = absurd (none e)
    go true (Some c) is e = ap (loaded t) (g.kept w.bits c is) ∙ e

abbrev Given : (t : Tree) (v : Option Value) (n : ℕ) (m : Memory) → Type 0
Given t v n m = (a : ℕ) × (m' : Memory) × (cell_given t v m.cells m.fresh m.taken ≡ Some (i32 a, m')) × IsTaken m'.taken a × (get m'.cells a ≡ Some (record { made_for = t; content = v })) × Keeps m m' × Room n m' × (get m.cells a ≡ None) × (0 < a)

gives : (t : Tree) (v : Option Value) (n : ℕ) (cells : Cells) (fresh : List ℕ) (taken : Taken) → suc n ≤ length fresh → AreFree cells fresh → Given t v n (record { cells = cells; fresh = fresh; taken = taken })
gives t v n cells [] taken room free = absurd (omega arith)
gives t v n cells (a ∷ more) taken room free =
    let c : Cell = record { made_for = t; content = v } in (
      a,
      record { cells = insert cells a c; fresh = more; taken = taken ++ (a, t) ∷ [] },
      refl,
      taken_last taken a t,
      own_cell cells a c,
      record { kept = λ b d e. insert_other cells a b c (λ p. none_some free.2 (subst (λ b. get cells b ≡ Some d) p e)) ∙ e; taken = λ b h. taken_before taken b (a, t) h },
      record { enough = omega arith; free = still_free cells a c more free.3 free.4 },
      free.2,
      free.0,
    )

abbrev Puts : Tree → Value → ℕ → Memory → Type 0
Puts t v n m = (w : Word) × (m' : Memory) × (cells.put t v m ≡ Some (w, m')) × cell_meaning.given m' w × cell_meaning.holds m' w v × (cells.get t w m' ≡ Some v) × T (same_type w.type WasmType.I32) × Keeps m m' × Room n m' × ((u : Plain) → Returned u v → cells.chooses w ≡ Some true)

puts : (t : Tree) (v : Value) (n : ℕ) (m : Memory) → T (by_address (plain t)) → T (is_value (plain t) v) → Room (suc n) m → Puts t v n m
puts t v n m by is room =
    let d = gives t (Some v) n m.cells m.fresh m.taken room.enough room.free in
    let a = d.0 in (
      i32 a,
      d.1,
      when_true _ _ by ∙ d.2,
      (a, refl, d.3),
      (a, refl, (record { made_for = t; content = Some v }, d.4, refl)),
      ap (loaded t) d.4 ∙ when_true _ _ (alike_is_self (plain t)),
      tt,
      record { kept = d.5.kept; taken = d.5.taken },
      d.6,
      λ u r. ap Some (not_zero a (λ z. let e = eqb→eq a 0 z in let lt = d.8 in absurd (omega arith))),
    )

abbrev Gives : Tree → ℕ → Memory → Type 0
Gives t n m = (w : Word) × (m' : Memory) × (cells.give t m ≡ Some (w, m')) × cell_meaning.given m' w × cell_meaning.made_for m' w t × T (same_type w.type WasmType.I32) × Keeps m m' × Room n m' × New m w

gives_space : (t : Tree) (n : ℕ) (m : Memory) → Room (suc n) m → Gives t n m
gives_space t n m room =
    let d = gives t None n m.cells m.fresh m.taken room.enough room.free in
    let a = d.0 in
    (i32 a, d.1, d.2, (a, refl, d.3), (a, refl, (record { made_for = t; content = None }, d.4, refl)), tt, record { kept = d.5.kept; taken = d.5.taken }, d.6, (a, refl, d.7))

abbrev Sets : Memory → Memory → Tree → Word → Value → Type 0
Sets base m t w v =
    (m' : Memory) × (cells.set t w v m ≡ Some m') × (cells.get t w m' ≡ Some v) × cell_meaning.holds m' w v × Keeps base m' ×
    ((u : Word) → cell_meaning.given m u → cell_meaning.given m' u) × ((u : Word) (q : Tree) → u ≢ w → cell_meaning.made_for m u q → cell_meaning.made_for m' u q) ×
    ((u : Word) (x : Value) → u ≢ w → cell_meaning.holds m u x → cell_meaning.holds m' u x) × ((q : Tree) (u : Word) (x : Value) → u ≢ w → cells.get q u m ≡ Some x → cells.get q u m' ≡ Some x)

sets_at : (base m : Memory) (q t : Tree) (a : ℕ) (v : Value) (c : Cell) → plain q ≡ plain t → Keeps base m → get base.cells a ≡ None → get m.cells a ≡ Some c → c.made_for ≡ q → T (is_value (plain t) v) → Sets base m t (i32 a) v
sets_at base m q t a v c same keeps none found made is =
    let alike_t : T (same_plain (plain c.made_for) (plain t)) = subst (λ q. T (same_plain q (plain t))) (sym (ap plain made ∙ same)) (alike_is_self (plain t)) in
    let new : Cell = record c { content = Some v } in
    let m' : Memory = record { cells = insert m.cells a new; fresh = m.fresh; taken = m.taken } in
    let can : stored t v (get m.cells a) ≡ Some new = ap (stored t v) found ∙ when_true _ _ (both_true _ _ alike_t is) in
    let own = own_cell m.cells a new in (
      m',
      ap (option_map (λ c. record { cells = insert m.cells a c; fresh = m.fresh; taken = m.taken })) can,
      ap (loaded t) own ∙ when_true _ _ alike_t,
      (a, refl, (new, own, refl)),
      record { kept = λ b d e. insert_other m.cells a b new (λ p. none_some none (subst (λ b. get base.cells b ≡ Some d) p e)) ∙ keeps.kept b d e; taken = keeps.taken },
      λ u g. g,
      λ u q n h. (h.0, h.1, (h.2.0, insert_other m.cells a h.0 new (λ p. n (h.1 ∙ ap i32 p)) ∙ h.2.1, h.2.2)),
      λ u x n h. (h.0, h.1, (h.2.0, insert_other m.cells a h.0 new (λ p. n (h.1 ∙ ap i32 p)) ∙ h.2.1, h.2.2)),
      λ q u x n e. elsewhere m.cells a new q u x n e,
    )
  where
    none' : (x : Value) → None ≡ Some x → ⊥
    none' x e = cc

    is_address : (u : Word) → T (is_i32 u) → u ≡ i32 u.bits
    is_address u h = ap (λ ty. record { type = ty; bits = u.bits }) (same_type_is u.type WasmType.I32 h)

    elsewhere : (cs : Cells) (a : ℕ) (new : Cell) (q : Tree) (u : Word) (x : Value) → u ≢ i32 a → when (is_i32 u) (loaded q (get cs u.bits)) ≡ Some x → when (is_i32 u) (loaded q (get (insert cs a new) u.bits)) ≡ Some x
    elsewhere cs a new q u x n e = go (is_i32 u) refl e
      where
        go : (b : Bool) → is_i32 u ≡ b → when b (loaded q (get cs u.bits)) ≡ Some x → when b (loaded q (get (insert cs a new) u.bits)) ≡ Some x
        go false is e = absurd (none' x e)
        go true is e = ap (loaded q) (insert_other cs a u.bits new (λ p. n (is_address u (subst T (sym is) tt) ∙ ap i32 p))) ∙ e

sets : (base m : Memory) (q t : Tree) (w : Word) (v : Value) → plain q ≡ plain t → Keeps base m → New base w → cell_meaning.made_for m w q → T (is_value (plain t) v) → Sets base m t w v
sets base m q t w v alike keeps new made is =
    let a = new.0 in
    let same : made.0 ≡ a = same_address (sym made.1 ∙ new.1) in
    let found : get m.cells a ≡ Some made.2.0 = subst (λ b. get m.cells b ≡ Some made.2.0) same made.2.1 in
    subst (λ w. Sets base m t w v) (sym new.1) (sets_at base m q t a v made.2.0 alike keeps new.2 found made.2.2 is)

error_word : (t : Plain) (v : Value) (w : Word) → Returned t v → T (same_type w.type WasmType.I32) → direct_words t v ≡ Some (w ∷ []) → cells.chooses w ≡ Some true
error_word t v w r is_32 e =
    when_true (is_i32 w) _ is_32 ∙ ap Some (not_zero w.bits (λ z. r (subst T (sym (ap is_zero e)) z)))

got_alike : (m : Memory) (t q : Tree) (w : Word) (v : Value) → plain t ≡ plain q → cells.get t w m ≡ Some v → cells.get q w m ≡ Some v
got_alike m t q w v e h = ap (when (is_i32 w)) (sym (same (get m.cells w.bits))) ∙ h
  where
    same : (o : Option Cell) → loaded t o ≡ loaded q o
    same None = refl
    same (Some c) = ap (λ p. when (same_plain (plain c.made_for) p) c.content) e

direct_once : (t : Plain) (v : Value) (ws us : List Word) → direct_words t v ≡ Some ws → direct_words t v ≡ Some us → ws ≡ us
direct_once t v ws us h k = ap (words_or ws) (sym h ∙ k)
  where
    words_or : List Word → Option (List Word) → List Word
    words_or d None = d
    words_or d (Some ws) = ws

pub cell_laws : Laws cells cell_meaning
cell_laws = record {
  Is = Is;
  Replies = λ abi t v. T (is_value (plain t) v) × (T (zero_under abi (t ∷ []) (Some v)) → ⊥);
  Returned = Returned;
  Room = Room;
  Keeps = Keeps;
  New = New;
  reply_is = λ abi t v h. h.0;
  scalar = scalar_words;
  list = list_words_back;
  direct_once = direct_once;
  tuple = tuple_back;
  cases = λ t r cs v e p is has h. with_picks cs v (came cs is has v (payload_of_value r (plain_arms cs) has v (subst (λ q. T (is_value q v)) p h.0)) (λ q is z. h.1 (subst (λ v. T (zero_in (t ∷ []) (Some v))) (sym is) (subst (λ c. T (zero_by c q)) (sym e) z))));
  case_type = λ e. tt;
  error_word = error_word;
  keeps_all = λ m. record { kept = λ a c e. e; taken = λ a h. h };
  keeps_then = λ m m' m'' g k. record { kept = λ a c e. k.kept a c (g.kept a c e); taken = λ a h. k.taken a (g.taken a h) };
  keeps_given = λ m m' w g h. (h.0, h.1, g.taken h.0 h.2);
  keeps_held = λ m m' w v g h. (h.0, h.1, (h.2.0, g.kept h.0 h.2.0 h.2.1, h.2.2));
  keeps_made = λ m m' w t g h. (h.0, h.1, (h.2.0, g.kept h.0 h.2.0 h.2.1, h.2.2));
  keeps_got = keeps_got;
  got_alike = got_alike;
  less_room = λ n m r. record { enough = let e = r.enough in omega arith; free = r.free };
  new_before = λ m m' w g h. (h.0, h.1, before m m' h.0 g h.2);
  new_other = λ m u w t made new e. none_some new.2 (subst (λ b. get m.cells b ≡ Some made.2.0) (same_address (sym made.1 ∙ e ∙ new.1)) made.2.1);
  put = puts;
  give = gives_space;
  set = sets;
}
  where
    before : (m m' : Memory) (a : ℕ) → Keeps m m' → get m'.cells a ≡ None → get m.cells a ≡ None
    before m m' a g none = go (get m.cells a) refl
      where
        go : (o : Option Cell) → get m.cells a ≡ o → o ≡ None
        go None e = refl
        go (Some c) e = absurd (none_some none (g.kept a c e))

-- the law as it is stated
arguments_are : (ts : List Tree) (vs : List Value) → T (are_arguments ts vs) → AreArguments cell_laws ts vs
unfolding cell_laws
arguments_are [] [] h = tt
arguments_are [] (v ∷ vs) h = absurd h
arguments_are (t ∷ ts) [] h = absurd h
arguments_are (t ∷ ts) (v ∷ vs) h = both (is_value (plain t) v) h (arguments_are ts vs)
  where
    both : (b : Bool) → T (cond b (are_arguments ts vs) false) → (T (are_arguments ts vs) → AreArguments cell_laws ts vs) → T b × AreArguments cell_laws ts vs
    both true h f = (tt, f h)
    both false h f = absurd h

reply_is : (abi : Abi) (ts : List Tree) (reply : Option Value) → T (is_reply ts reply) → (T (zero_under abi ts reply) → ⊥) → IsReply cell_laws abi ts reply
unfolding cell_laws
reply_is abi [] None h z = tt
reply_is abi [] (Some v) h z = absurd h
reply_is abi (t ∷ []) None h z = absurd h
reply_is abi (t ∷ []) (Some v) h z = (h, z)
reply_is abi (t ∷ u ∷ ts) reply h z = absurd h

types_all_fit : (ps : List Field) → T (types_fit ps) → T (all_fit (map (λ p. p.tree) ps))
types_all_fit [] h = tt
types_all_fit (p ∷ ps) h = both_true _ _ (left_true (fits (plain p.tree)) _ h) (types_all_fit ps (right_true (fits (plain p.tree)) _ h))

-- what runs well in every domain is faithful over cells
faithful_by : (m : List ℕ) (f : Function) (to : Receiver) (arranged : List Value → Option (List Value)) (caller callee : List Event) → RunWell cell_laws m f to arranged caller callee → FaithfulTo m f to arranged caller callee
unfolding cell_laws
faithful_by m f to arranged caller callee well arguments reply memory addresses are is_r nonzero free long =
    let before : Memory = record { cells = memory; fresh = addresses; taken = [] } in
    let r = well arguments reply before (arguments_are f.params arguments (truth are)) (reply_is f.abi f.results reply (truth is_r) (λ z. subst T nonzero z)) (record { enough = omega arith; free = free }) in
    (r.0, ap outcome r.1, r.2, r.3.kept)

params_fit : (f : FunctionTree) → IsTrue (function_fits f) → T (all_fit (function_of f).params)
params_fit f k = types_all_fit f.params (left_true (types_fit f.params) _ (truth k))

results_fit : (f : FunctionTree) → IsTrue (function_fits f) → T (all_fit (function_of f).results)
results_fit f k = types_all_fit f.results (right_true (types_fit f.params) _ (truth k))

pub traces_are_faithful : (m : List ℕ) (f : FunctionTree) → IsTrue (lowerable (function_of f)) → IsTrue (function_fits f) → Faithful m (function_of f) (caller_events m (function_of f)) (callee_events m (function_of f))
traces_are_faithful m f h k = faithful_by m (function_of f) (itself m (function_of f)) (λ vs. Some vs) (caller_events m (function_of f)) (callee_events m (function_of f)) (traces_run_well cell_laws m (function_of f) (truth h) (params_fit f k) (results_fit f k))

pub shims_are_faithful : (m n : List ℕ) (old new : FunctionTree) (order words : List ℕ) → IsTrue (lowerable (function_of old)) → IsTrue (lowerable (function_of new)) → IsTrue (function_fits old) → IsTrue (function_fits new) →
    StandsIn order (function_of old) (function_of new) → pass order (function_of old) ≡ Some words →
    FaithfulThrough m n (function_of old) (function_of new) order words (caller_events m (function_of old)) (callee_events n (function_of new))
shims_are_faithful m n old new order words h h' k k' in_place passes =
    faithful_by m (function_of old) (record { module_name = n; function = function_of new; order = words }) (picked_in_order order) (caller_events m (function_of old)) (callee_events n (function_of new)) (shim_runs_well cell_laws m n (function_of old) (function_of new) order words (truth h) (truth h') (params_fit old k) (results_fit old k) (params_fit new k') (results_fit new k') in_place passes)
