-- A loop over members or cases: what is left before an item is that item and what is left after it.
use Rattle.std.specs.Prelude.{◌≡◌, ℕ, ◌+◌, ◌≤◌, ◌<◌, List, [], ◌∷◌, length, drop, Some, None}
use Rattle.std.proofs.Common.{get_or, refl, add-one, ◌∙◌, map}
use Rattle.std.proofs.lemmas.List.{drop_more, drop_all}
use Rattle.witx_ast.specs.Plain.{Plain, plain, plain_arms, Fields, Arms, field_count, arm_count}
use Rattle.witx_ast.specs.Views.{tree_of, record_tree, variant_tree, case_arm, members_plain, cases_plain}
use Rattle.witx_ast.proofs.Trees.{tree-RecordMember, tree-Case, tree-RecordDatatype, tree-VariantDatatype}
use Rattle.witx_ast.specs.declared.types.RecordMember.{RecordMember}
use Rattle.witx_ast.specs.declared.types.Case.{Case}
use Rattle.witx_ast.specs.declared.types.TypeRef.{TypeRef}
use Rattle.witx_ast.specs.declared.types.RecordDatatype.{RecordDatatype, out-RecordDatatype}
use Rattle.witx_ast.specs.declared.types.Variant.{Variant, out-Variant}
use Rattle.std.specs.Prelude.{Option}
use Rattle.witx_ast.specs.Tree.{Tree, Arm, arm, arms_of}

pub members-drop : (xs : List RecordMember) (i : ℕ) (m : RecordMember) → i < length xs → m ≡ get_or xs i m
    → members_plain (drop i xs) ≡ Fields.field m.name (plain (tree_of m.tref)) (members_plain (drop (i + 1) xs))
members-drop xs i m l p = rw (drop_more xs i m l, ← p, tree-RecordMember m) refl

pub members-end : (xs : List RecordMember) (i : ℕ) → length xs ≤ i → members_plain (drop i xs) ≡ Fields.no_fields
members-end xs i l = rw (drop_all i xs l) refl

pub cases-bare : (xs : List Case) (i : ℕ) (c : Case) → i < length xs → c ≡ get_or xs i c → c.tref ≡ None
    → cases_plain (drop i xs) ≡ Arms.bare c.name (cases_plain (drop (i + 1) xs))
cases-bare xs i c l p h = rw (drop_more xs i c l, ← p, tree-Case c, h) refl

pub cases-carries : (xs : List Case) (i : ℕ) (c : Case) (t : TypeRef) → i < length xs → c ≡ get_or xs i c → c.tref ≡ Some t
    → cases_plain (drop i xs) ≡ Arms.carries c.name (plain (tree_of t)) (cases_plain (drop (i + 1) xs))
cases-carries xs i c t l p h = rw (drop_more xs i c l, ← p, tree-Case c, h) refl

pub cases-end : (xs : List Case) (i : ℕ) → length xs ≤ i → cases_plain (drop i xs) ≡ Arms.no_arms
cases-end xs i l = rw (drop_all i xs l) refl

pub record-plain : (r : RecordDatatype) → plain (record_tree r) ≡ Plain.record_of (out-RecordDatatype r).kind (members_plain (out-RecordDatatype r).members)
record-plain r = rw (tree-RecordDatatype r) refl

pub variant-plain : (v : Variant) → plain (variant_tree v) ≡ Plain.variant_of (out-Variant v).tag_repr (cases_plain (out-Variant v).cases)
variant-plain v = rw (tree-VariantDatatype v) refl

pub count-members : (ms : List RecordMember) → field_count (members_plain ms) ≡ length ms
count-members [] = refl
count-members (m ∷ ms) = rw (count-members ms) (add-one (length ms))

pub count-arm : (name docs : List ℕ) (o : Option Tree) (cs : List Arm) (n : ℕ) → arm_count (plain_arms (arms_of cs)) ≡ n
    → arm_count (plain_arms (arm name o docs (arms_of cs))) ≡ n + 1
count-arm name docs None cs n e = rw e refl
count-arm name docs (Some t) cs n e = rw e refl

pub count-cases : (cs : List Case) → arm_count (cases_plain cs) ≡ length cs
count-cases [] = refl
count-cases (c ∷ cs) = count-arm _ _ (case_arm c).payload (map case_arm cs) (length cs) (count-cases cs) ∙ add-one (length cs)

pub ruleset part_rules = (members-drop, members-end, cases-bare, cases-carries, cases-end, record-plain, variant-plain, count-members, count-cases)
