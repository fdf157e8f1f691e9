-- Which values of the program are values of a type.
use Rattle.std.proofs.Common.{◌≡◌, ◌≢◌, ℕ, ℤ, ◌^◌, suc, ◌+◌, ◌<◌, ◌≤◌, Bool, true, false, not, ◌&&◌, refl, sym, ap, ◌∙◌, arith, Option, Some, None, option_map, is_some, is_none, List, [], ◌∷◌, length, drop, get_or, nat_lt}
use Rattle.std.proofs.lemmas.List.{drop_all}
use Rattle.std.specs.declared.alloc.Global.{Global}
use Rattle.std.specs.declared.boxed.Box.{Box}
use Rattle.witx_ast.specs.Alike.{same_builtin}
use Rattle.witx_ast.specs.Plain.{Plain, plain, Fields, Arms, all_bare}
use Rattle.witx_ast.specs.Views.{tree_of, members_plain, cases_plain}
use Rattle.witx_ast.specs.Values as plain
use Rattle.witx_ast.specs.ValueTests.{in_range, is_value, are_values, is_case_with}
use Rattle.witx_ast.specs.declared.types.BuiltinType.{BuiltinType}
use Rattle.witx_ast.specs.declared.types.Case.{Case}
use Rattle.witx_ast.specs.declared.types.IntRepr.{IntRepr}
use Rattle.witx_ast.specs.declared.types.RecordMember.{RecordMember}
use Rattle.witx_ast.specs.declared.types.TypeRef.{TypeRef}
use Rattle.witx_ast.proofs.Parts.{members-drop, members-end, record-plain, variant-plain, count-members, count-cases, cases-bare, cases-carries, cases-end}
use Rattle.witx_ast.proofs.Trees.{tree_rules}
use Rattle.witx_ast.proofs.ValueLaws.{case-with-decides}
use Rattle.witx_bytes.specs.Payloads.{is_case}
use Rattle.witx_bytes.specs.Seen.{seen, seen_in, values_seen}
use Rattle.witx_bytes.specs.declared.value.Value.{Value}
use Rattle.witx_bytes.specs.declared.value.Value.TheVariants as value
use Rattle.witx_bytes.proofs.Members.{ms_from, vs_from, vs_more}
use Rattle.witx_bytes.proofs.Parts.{not_builtin, not_handle, not_pointer, not_const, not_list, not_flags, not_tuple, not_record, not_variant}
use Rattle.witx_bytes.proofs.Payloads.{case_payload, no_case}
use Rattle.witx_bytes.proofs.ReadBack.{with-payload}
use Rattle.witx_bytes.proofs.Seen.{seen_rules, seen-Num, seen-Handle, seen-Pointer, seen-ConstPointer, seen-List, seen-Enum, seen-Bare, seen-With}

and-false : (b : Bool) → b && false ≡ false
and-false true = refl
and-false false = refl

-- handles, addresses and lengths are below 2^32
pub handle_value : (v : Value) (n : ℕ) → v ≡ value.Handle n → is_value Plain.handle (seen v) ≡ nat_lt n (2 ^ 32)
handle_value v n e = ap (is_value Plain.handle) (ap seen e ∙ seen-Handle n)

pub pointer_value : (t : Plain) (v : Value) (n : ℕ) → v ≡ value.Pointer n → is_value (Plain.pointer_to t) (seen v) ≡ nat_lt n (2 ^ 32)
pointer_value t v n e = ap (is_value (Plain.pointer_to t)) (ap seen e ∙ seen-Pointer n)

pub const_value : (t : Plain) (v : Value) (n : ℕ) → v ≡ value.ConstPointer n → is_value (Plain.const_pointer_to t) (seen v) ≡ nat_lt n (2 ^ 32)
const_value t v n e = ap (is_value (Plain.const_pointer_to t)) (ap seen e ∙ seen-ConstPointer n)

pub list_value : (t : Plain) (v : Value) (a l : ℕ) → v ≡ value.List a l → is_value (Plain.list_of t) (seen v) ≡ nat_lt a (2 ^ 32) && nat_lt l (2 ^ 32)
list_value t v a l e = ap (is_value (Plain.list_of t)) (ap seen e ∙ seen-List a l)

-- a number of the kind
pub number_value : (b k : BuiltinType) (n : ℤ) (v : Value) → v ≡ value.Num k n → same_builtin k b ≡ true → in_range b n ≡ is_value (Plain.builtin b) (seen v)
number_value b k n v e same = sym (ap (is_value (Plain.builtin b)) (ap seen e ∙ seen-Num k n) ∙ ap (λ s. s && in_range b n) same)

-- a case, with its payload or without
pub case_value : (r : IntRepr) (cs : Arms) (v : Value) (i : ℕ) (o : Option (Box Value Global)) → v ≡ value.Case i o → is_value (Plain.variant_of r cs) (seen v) ≡ not (all_bare cs) && is_case cs i (option_map seen_in o)
case_value r cs v i None e = ap (is_value (Plain.variant_of r cs)) (ap seen e ∙ seen-Bare i)
case_value r cs v i (Some u) e = ap (is_value (Plain.variant_of r cs)) (ap seen e ∙ seen-With i u) ∙ go (is_case_with cs i (seen u.value)) refl
  where
    go : (b : Bool) → is_case_with cs i (seen u.value) ≡ b → is_case_with cs i (seen u.value) ≡ not (all_bare cs) && is_case_with cs i (seen u.value)
    go true e = ap (λ b. not b && is_case_with cs i (seen u.value)) (sym (with-payload cs i (seen u.value) ((case-with-decides cs i (seen u.value)).0 e)))
    go false e = e ∙ sym (and-false (not (all_bare cs))) ∙ ap (λ b. not (all_bare cs) && b) (sym e)

pub enum_value : (r : IntRepr) (cs : List Case) (v : Value) (i : ℕ) → v ≡ value.Enum i → is_value (Plain.variant_of r (cases_plain cs)) (seen v) ≡ all_bare (cases_plain cs) && nat_lt i (length cs)
enum_value r cs v i e = ap (is_value (Plain.variant_of r (cases_plain cs))) (ap seen e ∙ seen-Enum i) ∙ ap (λ n. all_bare (cases_plain cs) && nat_lt i n) (count-cases cs)

-- the values from an index on decide
abbrev pub ValuesFrom : List RecordMember → List Value → ℕ → Type 0
ValuesFrom ms vs i = are_values (ms_from ms i) (vs_from vs i) ≡ are_values (members_plain ms) (values_seen vs)

values_step : (ms : List RecordMember) (vs : List Value) (i : ℕ) (d : RecordMember) (v : Value) → i < length ms → d ≡ get_or ms i d → i < length vs → v ≡ get_or vs i v → are_values (ms_from ms i) (vs_from vs i) ≡ is_value (plain (tree_of d.tref)) (seen v) && are_values (ms_from ms (i + 1)) (vs_from vs (i + 1))
values_step ms vs i d v l p u q = ap (λ ms. are_values ms (vs_from vs i)) (members-drop ms i d l p) ∙ ap (are_values (Fields.field d.name (plain (tree_of d.tref)) (ms_from ms (i + 1)))) (vs_more vs i v u q)

pub values_refused : (ms : List RecordMember) (vs : List Value) (i : ℕ) (d : RecordMember) (v : Value) → i < length ms → d ≡ get_or ms i d → i < length vs → v ≡ get_or vs i v → ValuesFrom ms vs i → is_value (plain (tree_of d.tref)) (seen v) ≡ false → are_values (members_plain ms) (values_seen vs) ≡ false
values_refused ms vs i d v l p u q h e = sym h ∙ values_step ms vs i d v l p u q ∙ ap (λ b. b && are_values (ms_from ms (i + 1)) (vs_from vs (i + 1))) e

pub values_passed : (ms : List RecordMember) (vs : List Value) (i : ℕ) (d : RecordMember) (v : Value) → i < length ms → d ≡ get_or ms i d → i < length vs → v ≡ get_or vs i v → ValuesFrom ms vs i → is_value (plain (tree_of d.tref)) (seen v) ≡ true → ValuesFrom ms vs (i + 1)
values_passed ms vs i d v l p u q h e = ap (λ b. b && are_values (ms_from ms (i + 1)) (vs_from vs (i + 1))) (sym e) ∙ sym (values_step ms vs i d v l p u q) ∙ h

member_head : (m : RecordMember) (ms : List RecordMember) → members_plain (m ∷ ms) ≡ Fields.field m.name (plain (tree_of m.tref)) (members_plain ms)
member_head m ms = members-drop (m ∷ ms) 0 m (omega arith) refl

pub values_done : (ms : List RecordMember) (vs : List Value) (i : ℕ) → length ms ≤ i → length ms ≡ length vs → ValuesFrom ms vs i → are_values (members_plain ms) (values_seen vs) ≡ true
values_done ms vs i l e h = sym h ∙ ap (λ ms. are_values ms (vs_from vs i)) (members-end ms i l) ∙ ap (λ vs. are_values Fields.no_fields (values_seen vs)) (drop_all i vs (omega (arith, l, e)))

pub values_uneven : (ms : List RecordMember) (vs : List Value) → length ms ≢ length vs → are_values (members_plain ms) (values_seen vs) ≡ false
values_uneven [] [] n = absurd (n refl)
values_uneven [] (v ∷ vs) n = refl
values_uneven (m ∷ ms) [] n = ap (λ ms. are_values ms (values_seen [])) (member_head m ms)
values_uneven (m ∷ ms) (v ∷ vs) n =
    let rest = values_uneven ms vs (λ e. n (ap suc e)) in
    ap (λ ms. are_values ms (values_seen (v ∷ vs))) (member_head m ms) ∙ ap (λ b. is_value (plain (tree_of m.tref)) (seen v) && b) rest ∙ and-false (is_value (plain (tree_of m.tref)) (seen v))

-- the cases from an index on decide
abbrev pub BareFrom : List Case → ℕ → Type 0
BareFrom cs i = all_bare (cases_plain (drop i cs)) ≡ all_bare (cases_plain cs)

bare_step : (cs : List Case) (i : ℕ) (c : Case) (o : Option TypeRef) → c.tref ≡ o → i < length cs → c ≡ get_or cs i c → all_bare (cases_plain (drop i cs)) ≡ is_none o && all_bare (cases_plain (drop (i + 1) cs))
bare_step cs i c None e l p = ap all_bare (cases-bare cs i c l p e)
bare_step cs i c (Some t) e l p = ap all_bare (cases-carries cs i c t l p e)

none_or_some : (o : Option TypeRef) → is_none o ≡ not (is_some o)
none_or_some None = refl
none_or_some (Some t) = refl

pub bare_refused : (cs : List Case) (i : ℕ) (c : Case) → i < length cs → c ≡ get_or cs i c → BareFrom cs i → is_some c.tref ≡ true → all_bare (cases_plain cs) ≡ false
bare_refused cs i c l p h e = sym h ∙ bare_step cs i c c.tref refl l p ∙ ap (λ b. b && all_bare (cases_plain (drop (i + 1) cs))) (none_or_some c.tref ∙ ap not e)

pub bare_passed : (cs : List Case) (i : ℕ) (c : Case) → i < length cs → c ≡ get_or cs i c → BareFrom cs i → is_some c.tref ≡ false → BareFrom cs (i + 1)
bare_passed cs i c l p h e = ap (λ b. b && all_bare (cases_plain (drop (i + 1) cs))) (sym (none_or_some c.tref ∙ ap not e)) ∙ sym (bare_step cs i c c.tref refl l p) ∙ h

pub bare_done : (cs : List Case) (i : ℕ) → length cs ≤ i → BareFrom cs i → all_bare (cases_plain cs) ≡ true
bare_done cs i l h = sym h ∙ ap all_bare (cases-end cs i l)

-- no case beyond those that the program has
pub no_payload : (cs : List Case) (i : ℕ) (o : Option plain.Value) → length cs ≤ i → is_case (cases_plain cs) i o ≡ false
no_payload cs i o l = no_case (cases_plain cs) i o (omega (arith, l, count-cases cs))

pub ruleset member_rules = (tree_rules, record-plain, variant-plain)

pub ruleset value_rules = (seen_rules, count-members, count-cases, case_value, enum_value, not_builtin, not_handle, not_pointer, not_const, not_list, not_flags, not_tuple, not_record, not_variant)

pub ruleset loop_rules = (values_refused, values_passed, values_done, values_uneven, bare_refused, bare_passed, bare_done, case_payload, no_payload)
