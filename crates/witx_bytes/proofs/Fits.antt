-- Members and cases, one after the other: which fit their tags.
use Rattle.std.proofs.Common.{◌≡◌, ℕ, ◌+◌, ◌<◌, ◌≤◌, true, false, ◌&&◌, refl, sym, ap, ◌∙◌, List, length, drop, get_or, Option, Some, None}
use Rattle.witx_ast.specs.Plain.{plain}
use Rattle.witx_ast.specs.Views.{tree_of, members_plain, cases_plain}
use Rattle.witx_ast.specs.Tags.{fits, fields_fit, arms_fit}
use Rattle.witx_ast.specs.declared.types.RecordMember.{RecordMember}
use Rattle.witx_ast.specs.declared.types.Case.{Case}
use Rattle.witx_ast.specs.declared.types.TypeRef.{TypeRef}
use Rattle.witx_ast.proofs.Trees.{tree_rules}
use Rattle.witx_ast.proofs.Parts.{members-drop, members-end, cases-bare, cases-carries, cases-end, record-plain, variant-plain, count-members, count-cases}
use Rattle.witx_bytes.specs.Payloads.{payload_fits, payload_type_fits}

-- those from an index on
abbrev pub MembersFrom : List RecordMember → ℕ → Type 0
MembersFrom xs i = fields_fit (members_plain (drop i xs)) ≡ fields_fit (members_plain xs)

abbrev pub CasesFrom : List Case → ℕ → Type 0
CasesFrom xs i = arms_fit (cases_plain (drop i xs)) ≡ arms_fit (cases_plain xs)

pub member_refused : (xs : List RecordMember) (i : ℕ) (m : RecordMember) → i < length xs → m ≡ get_or xs i m → MembersFrom xs i → fits (plain (tree_of m.tref)) ≡ false → fields_fit (members_plain xs) ≡ false
member_refused xs i m l p h e = sym h ∙ ap fields_fit (members-drop xs i m l p) ∙ ap (λ b. b && fields_fit (members_plain (drop (i + 1) xs))) e

pub member_passed : (xs : List RecordMember) (i : ℕ) (m : RecordMember) → i < length xs → m ≡ get_or xs i m → MembersFrom xs i → fits (plain (tree_of m.tref)) ≡ true → MembersFrom xs (i + 1)
member_passed xs i m l p h e = ap (λ b. b && fields_fit (members_plain (drop (i + 1) xs))) (sym e) ∙ ap fields_fit (sym (members-drop xs i m l p)) ∙ h

pub members_passed : (xs : List RecordMember) (i : ℕ) → length xs ≤ i → MembersFrom xs i → fields_fit (members_plain xs) ≡ true
members_passed xs i l h = sym h ∙ ap fields_fit (members-end xs i l)

-- one more case
case-fits : (xs : List Case) (i : ℕ) (c : Case) (o : Option TypeRef) → c.tref ≡ o → i < length xs → c ≡ get_or xs i c → arms_fit (cases_plain (drop i xs)) ≡ payload_type_fits o && arms_fit (cases_plain (drop (i + 1) xs))
case-fits xs i c None e l p = ap arms_fit (cases-bare xs i c l p e)
case-fits xs i c (Some t) e l p = ap arms_fit (cases-carries xs i c t l p e)

pub case_refused : (xs : List Case) (i : ℕ) (c : Case) → i < length xs → c ≡ get_or xs i c → CasesFrom xs i → payload_fits c ≡ false → arms_fit (cases_plain xs) ≡ false
case_refused xs i c l p h e = sym h ∙ case-fits xs i c c.tref refl l p ∙ ap (λ b. b && arms_fit (cases_plain (drop (i + 1) xs))) e

pub case_passed : (xs : List Case) (i : ℕ) (c : Case) → i < length xs → c ≡ get_or xs i c → CasesFrom xs i → payload_fits c ≡ true → CasesFrom xs (i + 1)
case_passed xs i c l p h e = ap (λ b. b && arms_fit (cases_plain (drop (i + 1) xs))) (sym e) ∙ sym (case-fits xs i c c.tref refl l p) ∙ h

pub cases_passed : (xs : List Case) (i : ℕ) → length xs ≤ i → CasesFrom xs i → arms_fit (cases_plain xs) ≡ true
cases_passed xs i l h = sym h ∙ ap arms_fit (cases-end xs i l)

pub ruleset fit_rules = (tree_rules, record-plain, variant-plain, count-members, count-cases, member_refused, member_passed, members_passed, case_refused, case_passed, cases_passed)
