-- A reply is of one of the worlds.
use Rattle.std.proofs.Common.{◌≡◌, ℕ, zero, suc, ◌≤◌, Bool, true, false, cond, not, T, refl, sym, ap, subst, arith, Option, Some, None, length, nat_le, le→leb}
use Rattle.witx_ast.specs.declared.types.IntRepr.{IntRepr}
use Rattle.witx_ast.specs.declared.types.RecordKind.{RecordKind}
use Rattle.witx_ast.specs.Tree.{Tree, Arms, arm_list}
use Rattle.witx_ast.specs.Plain.{Plain, plain, plain_arms, all_bare}
use Rattle.witx_ast.specs.Values.{Value}
use Rattle.witx_ast.specs.ValueTests.{is_value, is_case_with, is_bare_case}
use Rattle.witx_ast.specs.Tags.{fits, arms_fit}
use Rattle.witx_machine.specs.Functions.{has_payload, ok_of, err_of, result_cases}
use Rattle.witx_machine.specs.Cells.{result_value}
use Rattle.witx_symbols.specs.Symbols.{Source, atom, tuple, symbol_from, parts_from}
use Rattle.witx_machine.proofs.Scalars.{left_true, right_true}
use Rattle.witx_machine.proofs.Laws.{PayloadIs}
use Rattle.witx_symbols.proofs.Denotes.{some_same}
use Rattle.witx_symbols.proofs.SymbolLaws.{none_some}

-- a type whose result has cases is a variant with a payload
pub cases_variant : (t : Tree) (cs : Arms) → result_cases t ≡ Some cs → (r : IntRepr) × (plain t ≡ Plain.variant_of r (plain_arms cs)) × T (has_payload (plain_arms cs))
cases_variant (Tree.named n t d) cs e = cases_variant t cs e
cases_variant (Tree.variant_of r ds) cs e = go (has_payload (plain_arms ds)) refl e
  where
    clash : None ≡ Some cs → ⊥
    clash e = cc

    go : (b : Bool) → has_payload (plain_arms ds) ≡ b → cond b (Some ds) None ≡ Some cs → (q : IntRepr) × (Plain.variant_of r (plain_arms ds) ≡ Plain.variant_of q (plain_arms cs)) × T (has_payload (plain_arms cs))
    go false i e = absurd (clash e)
    go true i e = (r, ap (λ cs. Plain.variant_of r (plain_arms cs)) (some_same e), subst (λ cs. T (has_payload (plain_arms cs))) (some_same e) (subst T (sym i) tt))
cases_variant (Tree.builtin b) cs e = absurd (none_some refl e)
cases_variant Tree.handle cs e = absurd (none_some refl e)
cases_variant (Tree.list_of t) cs e = absurd (none_some refl e)
cases_variant (Tree.pointer_to t) cs e = absurd (none_some refl e)
cases_variant (Tree.const_pointer_to t) cs e = absurd (none_some refl e)
cases_variant (Tree.record_of k ms) cs e = absurd (none_some refl e)

abbrev Payload : Option Tree → Option Value → Type 0
Payload = PayloadIs (λ t v. T (is_value t v))

abbrev count : Arms → ℕ
count cs = length (arm_list cs)

-- which case it is
pub data Case (cs : Arms) : Value → Type 0 where
  first : (p : Option Value) → Payload (ok_of cs) p → Case cs (result_value false p)
  second : T (nat_le 2 (count cs)) → (p : Option Value) → Payload (err_of cs) p → Case cs (result_value true p)
  later : T (nat_le 3 (count cs)) → (v : Value) → Case cs v

with_count : (cs : Arms) (i : ℕ) (p : Value) → T (is_case_with (plain_arms cs) i p) → suc i ≤ count cs
with_count Arms.no_arms i p h = absurd h
with_count (Arms.bare n d cs) zero p h = absurd h
with_count (Arms.bare n d cs) (suc i) p h = let r = with_count cs i p h in omega arith
with_count (Arms.carries n t d cs) zero p h = omega arith
with_count (Arms.carries n t d cs) (suc i) p h = let r = with_count cs i p h in omega arith

bare_count : (cs : Arms) (i : ℕ) → T (is_bare_case (plain_arms cs) i) → suc i ≤ count cs
bare_count Arms.no_arms i h = absurd h
bare_count (Arms.bare n d cs) zero h = omega arith
bare_count (Arms.bare n d cs) (suc i) h = let r = bare_count cs i h in omega arith
bare_count (Arms.carries n t d cs) zero h = absurd h
bare_count (Arms.carries n t d cs) (suc i) h = let r = bare_count cs i h in omega arith

two_at_least : (n : ℕ) → 2 ≤ n → T (nat_le 2 n)
two_at_least n h = le→leb 2 n h

three_at_least : (n i : ℕ) → suc (suc (suc i)) ≤ n → T (nat_le 3 n)
three_at_least n i h = let e : 3 ≤ n = omega arith in le→leb 3 n e

with_payload : (cs : Arms) (p : Value) → T (is_case_with (plain_arms cs) 0 p) → Payload (ok_of cs) (Some p)
with_payload Arms.no_arms p h = absurd h
with_payload (Arms.bare n d cs) p h = absurd h
with_payload (Arms.carries n t d cs) p h = h

with_error : (cs : Arms) (p : Value) → T (is_case_with (plain_arms cs) 1 p) → Payload (err_of cs) (Some p)
with_error Arms.no_arms p h = absurd h
with_error (Arms.bare n d cs) p h = with_payload cs p h
with_error (Arms.carries n t d cs) p h = with_payload cs p h

bare_payload : (cs : Arms) → T (is_bare_case (plain_arms cs) 0) → Payload (ok_of cs) None
bare_payload Arms.no_arms h = absurd h
bare_payload (Arms.bare n d cs) h = tt
bare_payload (Arms.carries n t d cs) h = absurd h

bare_error : (cs : Arms) → T (is_bare_case (plain_arms cs) 1) → Payload (err_of cs) None
bare_error Arms.no_arms h = absurd h
bare_error (Arms.bare n d cs) h = bare_payload cs h
bare_error (Arms.carries n t d cs) h = bare_payload cs h

pub case_of : (r : IntRepr) (cs : Arms) (v : Value) → T (has_payload (plain_arms cs)) → T (is_value (Plain.variant_of r (plain_arms cs)) v) → Case cs v
case_of r cs (Value.case_with zero p) has is = first (Some p) (with_payload cs p is)
case_of r cs (Value.case_with (suc zero) p) has is = second (two_at_least (count cs) (with_count cs 1 p is)) (Some p) (with_error cs p is)
case_of r cs (Value.case_with (suc (suc i)) p) has is = later (three_at_least (count cs) i (with_count cs (suc (suc i)) p is)) _
case_of r cs (Value.bare_case zero) has is = first None (bare_payload cs (right_true (has_payload (plain_arms cs)) _ is))
case_of r cs (Value.bare_case (suc zero)) has is = let h = right_true (has_payload (plain_arms cs)) _ is in second (two_at_least (count cs) (bare_count cs 1 h)) None (bare_error cs h)
case_of r cs (Value.bare_case (suc (suc i))) has is = later (three_at_least (count cs) i (bare_count cs (suc (suc i)) (right_true (has_payload (plain_arms cs)) _ is))) _
case_of r cs (Value.enum_index i) has is = absurd (clash (all_bare (plain_arms cs)) has (left_true _ _ is))
  where
    clash : (b : Bool) → T (not b) → T b → ⊥
    clash true h k = h
    clash false h k = k
case_of r cs _ has is = absurd is

-- the payload's types fit too
arm_fits : (cs : Arms) (t : Tree) → ok_of cs ≡ Some t → T (arms_fit (plain_arms cs)) → T (fits (plain t))
arm_fits Arms.no_arms t e f = absurd (none_some refl e)
arm_fits (Arms.bare n d cs) t e f = absurd (none_some refl e)
arm_fits (Arms.carries n u d cs) t e f = subst (λ t. T (fits (plain t))) (some_same e) (left_true (fits (plain u)) _ f)

pub payload_fits : (e : Bool) (cs : Arms) (t : Tree) → cond e (err_of cs) (ok_of cs) ≡ Some t → T (arms_fit (plain_arms cs)) → T (fits (plain t))
payload_fits false cs t e f = arm_fits cs t e f
payload_fits true Arms.no_arms t e f = absurd (none_some refl e)
payload_fits true (Arms.bare n d cs) t e f = arm_fits cs t e f
payload_fits true (Arms.carries n u d cs) t e f = arm_fits cs t e (right_true (fits (plain u)) _ f)

-- an atom that a type comes from is of the type
pub atom_from : (t q : Plain) (s s' : Source) → symbol_from t s ≡ atom s' q → t ≡ q
atom_from (Plain.record_of RecordKind.Tuple ms) q s s' e = absurd (clash e)
  where
    clash : tuple (parts_from ms s 0) ≡ atom s' q → ⊥
    clash e = cc
atom_from (Plain.record_of (RecordKind.Bitflags r) ms) q s s' e = atom_same e
  where
    atom_same : {t q : Plain} {s s' : Source} → atom s t ≡ atom s' q → t ≡ q
    atom_same e = cc
atom_from (Plain.record_of RecordKind.Other ms) q s s' e = cc
atom_from (Plain.builtin b) q s s' e = cc
atom_from Plain.handle q s s' e = cc
atom_from (Plain.pointer_to t) q s s' e = cc
atom_from (Plain.const_pointer_to t) q s s' e = cc
atom_from (Plain.list_of t) q s s' e = cc
atom_from (Plain.variant_of r cs) q s s' e = cc
