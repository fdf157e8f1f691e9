-- What loops over members, cases and words have written, with what is still to come, is the whole.
use Rattle.std.proofs.Common.{◌≡◌, ℕ, ◌+◌, ◌<◌, ◌≤◌, List, [], ◌∷◌, ◌++◌, true, false, length, get_or, map, drop, refl, sym, ap, ◌∙◌, append-nil}
use Rattle.std.specs.Prelude.{Option, Some, None, option_map}
use Rattle.std.proofs.lemmas.List.{drop_more, drop_all}
use Rattle.witx_ast.proofs.Trees.{tree_rules, tree-Case, tree-RecordMember, tree-VariantDatatype}
use Rattle.witx_ast.specs.declared.types.Case.{Case}
use Rattle.witx_ast.specs.declared.types.IntRepr.{IntRepr}
use Rattle.witx_ast.specs.declared.types.RecordMember.{RecordMember}
use Rattle.witx_ast.specs.declared.types.Variant.{Variant, out-Variant}
use Rattle.witx_ast.specs.Tree.{Tree, Arms, Arm, Fields, arm, arm_list, arms_of, fields_of}
use Rattle.witx_ast.specs.Views.{case_arm, member_field, tree_of, variant_tree}
use Rattle.witx_ast.specs.Words.{all_arms_bare}
use Rattle.witx_machine.specs.declared.surface.WasmType.{WasmType}
use Rattle.witx_header.specs.CTypes.{members_text, member_text, c_payload_text, payloads_text, c_repr_word, tagged_text, type_text}
use Rattle.witx_header.specs.Headers.{param_text, params_from}
use Rattle.witx_header.specs.Typedefs.{body_text, case_line, case_lines, case_payload, flag_line, flag_lines, margin, member_lines, c_part_lines, payload_lines, tagged_body, value_lines}
use Rattle.witx_header.proofs.Appending.{joined, next-of, none-left}

-- ---- members

abbrev pub fields_from : List RecordMember → ℕ → Fields
fields_from xs i = fields_of (map member_field (drop i xs))

pub next-fields : (xs : List RecordMember) (i : ℕ) (m : RecordMember) → i < length xs → m ≡ get_or xs i m
    → fields_from xs i ≡ Fields.field m.name (tree_of m.tref) m.docs (fields_from xs (i + 1))
next-fields xs i m l p =
    ap fields_of (next-of member_field xs i m l p) ∙ ap (λ f. Fields.field f.called f.tree f.comment (fields_from xs (i + 1))) (tree-RecordMember m)

pub no-fields : (xs : List RecordMember) (i : ℕ) → length xs ≤ i → fields_from xs i ≡ Fields.no_fields
no-fields xs i l = ap fields_of (none-left member_field xs i l)

pub next-part : (xs : List RecordMember) (i : ℕ) (m : RecordMember) (done now total : List ℕ) → i < length xs → m ≡ get_or xs i m
    → now ≡ done ++ member_text (type_text (tree_of m.tref)) m.name
    → done ++ members_text (fields_from xs i) ≡ total → now ++ members_text (fields_from xs (i + 1)) ≡ total
next-part xs i m done now total l p w e =
    joined done now (member_text (type_text (tree_of m.tref)) m.name) (members_text (fields_from xs (i + 1))) total w
    (ap (λ f. done ++ members_text f) (sym (next-fields xs i m l p)) ∙ e)

pub all-parts : (xs : List RecordMember) (i : ℕ) (done total : List ℕ) → length xs ≤ i → done ++ members_text (fields_from xs i) ≡ total → done ≡ total
all-parts xs i done total l e = sym (append-nil done) ∙ ap (λ f. done ++ members_text f) (sym (no-fields xs i l)) ∙ e

pub next-member : (xs : List RecordMember) (i : ℕ) (m : RecordMember) (done now total : List ℕ) → i < length xs → m ≡ get_or xs i m
    → now ≡ done ++ c_part_lines margin (type_text (tree_of m.tref)) m.name m.docs
    → done ++ member_lines (fields_from xs i) ≡ total → now ++ member_lines (fields_from xs (i + 1)) ≡ total
next-member xs i m done now total l p w e =
    joined done now (c_part_lines margin (type_text (tree_of m.tref)) m.name m.docs) (member_lines (fields_from xs (i + 1))) total w
    (ap (λ f. done ++ member_lines f) (sym (next-fields xs i m l p)) ∙ e)

pub all-members : (xs : List RecordMember) (i : ℕ) (done total : List ℕ) → length xs ≤ i → done ++ member_lines (fields_from xs i) ≡ total → done ≡ total
all-members xs i done total l e = sym (append-nil done) ∙ ap (λ f. done ++ member_lines f) (sym (no-fields xs i l)) ∙ e

pub next-flag : (type : List ℕ) (repr : IntRepr) (xs : List RecordMember) (i : ℕ) (m : RecordMember) (done now total : List ℕ) → i < length xs → m ≡ get_or xs i m
    → now ≡ done ++ flag_line type repr i m.name m.docs
    → done ++ flag_lines type repr i (fields_from xs i) ≡ total → now ++ flag_lines type repr (i + 1) (fields_from xs (i + 1)) ≡ total
next-flag type repr xs i m done now total l p w e =
    joined done now (flag_line type repr i m.name m.docs) (flag_lines type repr (i + 1) (fields_from xs (i + 1))) total w
    (ap (λ f. done ++ flag_lines type repr i f) (sym (next-fields xs i m l p)) ∙ e)

pub all-flags : (type : List ℕ) (repr : IntRepr) (xs : List RecordMember) (i : ℕ) (done total : List ℕ) → length xs ≤ i
    → done ++ flag_lines type repr i (fields_from xs i) ≡ total → done ≡ total
all-flags type repr xs i done total l e = sym (append-nil done) ∙ ap (λ f. done ++ flag_lines type repr i f) (sym (no-fields xs i l)) ∙ e

-- ---- cases

abbrev pub arms_from : List Case → ℕ → Arms
arms_from xs i = arms_of (map case_arm (drop i xs))

pub next-arms : (xs : List Case) (i : ℕ) (c : Case) → i < length xs → c ≡ get_or xs i c
    → arms_from xs i ≡ arm c.name (option_map tree_of c.tref) c.docs (arms_from xs (i + 1))
next-arms xs i c l p =
    ap arms_of (next-of case_arm xs i c l p) ∙ ap (λ a. arm a.called a.payload a.comment (arms_from xs (i + 1))) (tree-Case c)

pub no-arms : (xs : List Case) (i : ℕ) → length xs ≤ i → arms_from xs i ≡ Arms.no_arms
no-arms xs i l = ap arms_of (none-left case_arm xs i l)

payload-first : (name docs : List ℕ) (o : Option Tree) (cs : Arms) → payloads_text (arm name o docs cs) ≡ c_payload_text name o ++ payloads_text cs
payload-first name docs None cs = refl
payload-first name docs (Some t) cs = refl

pub next-payload : (xs : List Case) (i : ℕ) (c : Case) (done now total : List ℕ) → i < length xs → c ≡ get_or xs i c
    → now ≡ done ++ c_payload_text c.name (option_map tree_of c.tref)
    → done ++ payloads_text (arms_from xs i) ≡ total → now ++ payloads_text (arms_from xs (i + 1)) ≡ total
next-payload xs i c done now total l p w e =
    joined done now (c_payload_text c.name (option_map tree_of c.tref)) (payloads_text (arms_from xs (i + 1))) total w
    (ap (λ t. done ++ t) (sym (ap payloads_text (next-arms xs i c l p) ∙ payload-first c.name c.docs (option_map tree_of c.tref) (arms_from xs (i + 1)))) ∙ e)

pub all-payloads : (xs : List Case) (i : ℕ) (done total : List ℕ) → length xs ≤ i → done ++ payloads_text (arms_from xs i) ≡ total → done ≡ total
all-payloads xs i done total l e = sym (append-nil done) ∙ ap (λ f. done ++ payloads_text f) (sym (no-arms xs i l)) ∙ e

lines-first : (name docs : List ℕ) (o : Option Tree) (cs : Arms) → payload_lines (arm name o docs cs) ≡ case_payload name o docs ++ payload_lines cs
lines-first name docs None cs = refl
lines-first name docs (Some t) cs = refl

pub next-case_payload : (xs : List Case) (i : ℕ) (c : Case) (done now total : List ℕ) → i < length xs → c ≡ get_or xs i c
    → now ≡ done ++ case_payload c.name (option_map tree_of c.tref) c.docs
    → done ++ payload_lines (arms_from xs i) ≡ total → now ++ payload_lines (arms_from xs (i + 1)) ≡ total
next-case_payload xs i c done now total l p w e =
    joined done now (case_payload c.name (option_map tree_of c.tref) c.docs) (payload_lines (arms_from xs (i + 1))) total w
    (ap (λ t. done ++ t) (sym (ap payload_lines (next-arms xs i c l p) ∙ lines-first c.name c.docs (option_map tree_of c.tref) (arms_from xs (i + 1)))) ∙ e)

pub all-case_payloads : (xs : List Case) (i : ℕ) (done total : List ℕ) → length xs ≤ i → done ++ payload_lines (arms_from xs i) ≡ total → done ≡ total
all-case_payloads xs i done total l e = sym (append-nil done) ∙ ap (λ f. done ++ payload_lines f) (sym (no-arms xs i l)) ∙ e

pub next-case : (type : List ℕ) (repr : IntRepr) (xs : List Case) (i : ℕ) (c : Case) (done now total : List ℕ) → i < length xs → c ≡ get_or xs i c
    → now ≡ done ++ case_line type repr i c.name c.docs
    → done ++ case_lines type repr i (map case_arm (drop i xs)) ≡ total → now ++ case_lines type repr (i + 1) (map case_arm (drop (i + 1) xs)) ≡ total
next-case type repr xs i c done now total l p w e =
    joined done now (case_line type repr i c.name c.docs) (case_lines type repr (i + 1) (map case_arm (drop (i + 1) xs))) total w
    (ap (λ t. done ++ t) (sym (ap (case_lines type repr i) (next-of case_arm xs i c l p)
    ∙ ap (λ a. case_line type repr i a.called a.comment ++ case_lines type repr (i + 1) (map case_arm (drop (i + 1) xs))) (tree-Case c))) ∙ e)

pub all-cases : (type : List ℕ) (repr : IntRepr) (xs : List Case) (i : ℕ) (done total : List ℕ) → length xs ≤ i
    → done ++ case_lines type repr i (map case_arm (drop i xs)) ≡ total → done ≡ total
all-cases type repr xs i done total l e = sym (append-nil done) ∙ ap (λ t. done ++ case_lines type repr i t) (sym (none-left case_arm xs i l)) ∙ e

-- the cases of a list, listed again
pub arms-listed : (xs : List Arm) → arm_list (arms_of xs) ≡ xs
arms-listed [] = refl
arms-listed (a ∷ more) = one-listed a.called a.comment a.payload (arms_of more) ∙ ap (λ rest. a ∷ rest) (arms-listed more)
  where
    one-listed : (name docs : List ℕ) (o : Option Tree) (cs : Arms) → arm_list (arm name o docs cs) ≡ (record { called = name; payload = o; comment = docs }) ∷ arm_list cs
    one-listed name docs None cs = refl
    one-listed name docs (Some t) cs = refl

-- ---- a variant, by whether no case has a payload

pub bare-text : (v : Variant) → all_arms_bare (map case_arm (out-Variant v).cases) ≡ true → type_text (variant_tree v) ≡ c_repr_word (out-Variant v).tag_repr
bare-text v h = rw (tree-VariantDatatype v, arms-listed (map case_arm (out-Variant v).cases), h) refl

pub tagged-text : (v : Variant) → all_arms_bare (map case_arm (out-Variant v).cases) ≡ false
    → type_text (variant_tree v) ≡ tagged_text (c_repr_word (out-Variant v).tag_repr) (payloads_text (arms_of (map case_arm (out-Variant v).cases)))
tagged-text v h = rw (tree-VariantDatatype v, arms-listed (map case_arm (out-Variant v).cases), h) refl

pub bare-body : (name : List ℕ) (v : Variant) → all_arms_bare (map case_arm (out-Variant v).cases) ≡ true → body_text name (variant_tree v) ≡ c_repr_word (out-Variant v).tag_repr
bare-body name v h = rw (tree-VariantDatatype v, arms-listed (map case_arm (out-Variant v).cases), h) refl

pub tagged-body : (name : List ℕ) (v : Variant) → all_arms_bare (map case_arm (out-Variant v).cases) ≡ false
    → body_text name (variant_tree v) ≡ tagged_body name (c_repr_word (out-Variant v).tag_repr) (arms_of (map case_arm (out-Variant v).cases))
tagged-body name v h = rw (tree-VariantDatatype v, arms-listed (map case_arm (out-Variant v).cases), h) refl

pub variant-values : (name : List ℕ) (v : Variant) → value_lines name (variant_tree v) ≡ case_lines name (out-Variant v).tag_repr 0 (map case_arm (out-Variant v).cases)
variant-values name v = rw (tree-VariantDatatype v, arms-listed (map case_arm (out-Variant v).cases)) refl

-- nothing was written
pub nothing-more : (text : List ℕ) → text ≡ text ++ []
nothing-more text = sym (append-nil text)

pub ruleset typing_rules = (tree_rules, next-part, all-parts, next-member, all-members, next-flag, all-flags, next-payload, all-payloads, next-case_payload, all-case_payloads, next-case, all-cases, bare-text, tagged-text, bare-body, tagged-body, variant-values, nothing-more)

-- ---- words

pub next-param : (xs : List WasmType) (i : ℕ) (w : WasmType) (done now total : List ℕ) → i < length xs → w ≡ get_or xs i w → now ≡ done ++ param_text i w
    → done ++ params_from i (drop i xs) ≡ total → now ++ params_from (i + 1) (drop (i + 1) xs) ≡ total
next-param xs i w done now total l p q e =
    joined done now (param_text i w) (params_from (i + 1) (drop (i + 1) xs)) total q
    (ap (λ ws. done ++ params_from i ws) (sym (drop_more xs i w l ∙ ap (λ y. y ∷ drop (i + 1) xs) (sym p))) ∙ e)

pub all-params : (xs : List WasmType) (i : ℕ) (done total : List ℕ) → length xs ≤ i → done ++ params_from i (drop i xs) ≡ total → done ≡ total
all-params xs i done total l e = sym (append-nil done) ∙ ap (λ ws. done ++ params_from i ws) (sym (drop_all i xs l)) ∙ e

pub ruleset param_rules = (next-param, all-params)
