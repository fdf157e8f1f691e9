-- One more member, or one more case: its node stands before those of the others, and so do its numbers.
use Rattle.std.specs.Prelude.{◌≡◌, ℕ, zero, suc, ◌+◌, ◌*◌, ◌≤◌, ◌<◌, List, [], ◌∷◌, ◌++◌, Bool, true, false, length, drop, map, Option, Some, None, codes}
use Rattle.std.proofs.Common.{arith, get_or, refl, sym, ap, ◌∙◌}
use Rattle.std.proofs.lemmas.List.{drop_more, drop_all}
use Rattle.witx_ast.specs.declared.types.RecordKind.{RecordKind}
use Rattle.witx_ast.specs.declared.types.Case.{Case}
use Rattle.witx_ast.specs.declared.types.Variant.{Variant, out-Variant}
use Rattle.witx_ast.specs.declared.types.IntRepr.{IntRepr}
use Rattle.witx_ast.specs.Plain.{variant_of, plain_arms}
use Rattle.witx_ast.specs.Words.{is_bool_arms, all_arms_bare}
use Rattle.witx_ast.proofs.ResultLaws.{arms-listed}
use Rattle.witx_layout.specs.Numbers.{size_of, align_of, repr_size}
use Rattle.witx_ast.specs.Tree.{Tree, Arms, Arm, arm, arms_of}
use Rattle.witx_ast.specs.Views.{tree_of, variant_tree, member_field, case_arm}
use Rattle.witx_ast.proofs.Trees.{tree_rules, tree-RecordMember, tree-Case, tree-RecordDatatype, tree-VariantDatatype}
use Rattle.witx_layout.specs.declared.members.RecordMemberLayout.{RecordMemberLayout}
use Rattle.witx_layout.specs.Nodes.{type_nodes, field_nodes, arm_nodes}
use Rattle.witx_markdown.specs.declared.heading.MdHeading.{MdHeading}
use Rattle.witx_markdown.specs.declared.branch.Branch.{Branch}
use Rattle.witx_markdown.specs.Forests.{no_nodes, node, followed_by, sprouted}
use Rattle.witx_docs.specs.Parts.{section, type_parts, member_node, case_node, case_nodes, placed_fields, placed_nodes, payload_node, variant_layout, layout_nodes}
use Rattle.witx_docs.specs.LaidOut.{too_large, laid_out, members_laid_out, cases_laid_out, case_laid_out, payload_laid_out, payload_numbers}
use Rattle.witx_docs.proofs.Grown.{grown_rules, sprouted-followed, sprouted-none}
use Rattle.witx_docs.proofs.Judging.{judging_rules, next-fits, next-large, large-none}
use Rattle.witx_docs.proofs.PartNames.{name_steps}

placed-drop : (h : MdHeading) (id : Option (List ℕ)) (kind : RecordKind) (ls : List RecordMemberLayout) (i : ℕ) (l : RecordMemberLayout) → i < length ls → l ≡ get_or ls i l
    → placed_nodes h id kind (drop i ls) ≡ followed_by (member_node h id kind (member_field l.member.now) l.offset) (placed_nodes h id kind (drop (i + 1) ls))
placed-drop h id kind ls i l s p = rw (drop_more ls i l s, ← p) refl

pub next-member : (b : Branch) (p : ℕ) (all : Branch) (h : MdHeading) (id : Option (List ℕ)) (kind : RecordKind) (ls : List RecordMemberLayout) (i : ℕ) (l : RecordMemberLayout)
    → i < length ls → l ≡ get_or ls i l → sprouted b p (placed_nodes h id kind (drop i ls)) ≡ all
    → sprouted (sprouted b p (member_node h id kind (member_field l.member.now) l.offset)) p (placed_nodes h id kind (drop (i + 1) ls)) ≡ all
next-member b p all h id kind ls i l s q e =
    sprouted-followed b p (member_node h id kind (member_field l.member.now) l.offset) (placed_nodes h id kind (drop (i + 1) ls)) ∙ rw (placed-drop h id kind ls i l s q) at e

pub all-members : (b : Branch) (p : ℕ) (all : Branch) (h : MdHeading) (id : Option (List ℕ)) (kind : RecordKind) (ls : List RecordMemberLayout) (i : ℕ)
    → length ls ≤ i → sprouted b p (placed_nodes h id kind (drop i ls)) ≡ all → b ≡ all
all-members b p all h id kind ls i s e = sym (sprouted-none b p) ∙ rw (drop_all i ls s) at e

numbers-drop : (ls : List RecordMemberLayout) (i : ℕ) (l : RecordMemberLayout) → i < length ls → l ≡ get_or ls i l
    → members_laid_out (placed_fields (drop i ls)) ≡ laid_out (tree_of l.member.now.tref) ++ members_laid_out (placed_fields (drop (i + 1) ls))
numbers-drop ls i l s p = rw (drop_more ls i l s, ← p, tree-RecordMember l.member.now) refl

pub next-number-fits : (all : Bool) (ls : List RecordMemberLayout) (i : ℕ) (l : RecordMemberLayout) → i < length ls → l ≡ get_or ls i l
    → too_large (members_laid_out (placed_fields (drop i ls))) ≡ all → too_large (laid_out (tree_of l.member.now.tref)) ≡ false
    → too_large (members_laid_out (placed_fields (drop (i + 1) ls))) ≡ all
next-number-fits all ls i l s p e h = next-fits (laid_out (tree_of l.member.now.tref)) (members_laid_out (placed_fields (drop (i + 1) ls))) all (rw (numbers-drop ls i l s p) at e) h

pub next-number-large : (all : Bool) (ls : List RecordMemberLayout) (i : ℕ) (l : RecordMemberLayout) → i < length ls → l ≡ get_or ls i l
    → too_large (members_laid_out (placed_fields (drop i ls))) ≡ all → too_large (laid_out (tree_of l.member.now.tref)) ≡ true → all ≡ true
next-number-large all ls i l s p e h = next-large (laid_out (tree_of l.member.now.tref)) (members_laid_out (placed_fields (drop (i + 1) ls))) all (rw (numbers-drop ls i l s p) at e) h

pub all-numbers-fit : (all : Bool) (ls : List RecordMemberLayout) (i : ℕ) → length ls ≤ i → too_large (members_laid_out (placed_fields (drop i ls))) ≡ all → all ≡ false
all-numbers-fit all ls i s e = sym (rw (drop_all i ls s) at e) ∙ large-none

-- how many nodes a payload has
abbrev pub payload_nodes : Option Tree → ℕ
payload_nodes None = 0
payload_nodes (Some t) = type_nodes t

-- cases
case-first : (h : MdHeading) (id : Option (List ℕ)) (name docs : List ℕ) (o : Option Tree) (cs : Arms)
    → case_nodes h id (arm name o docs cs) ≡ followed_by (payload_node h id name docs o) (case_nodes h id cs)
case-first h id name docs None cs = refl
case-first h id name docs (Some t) cs = refl

numbers-first : (name docs : List ℕ) (o : Option Tree) (cs : Arms) → cases_laid_out (arm name o docs cs) ≡ payload_laid_out o ++ cases_laid_out cs
numbers-first name docs None cs = refl
numbers-first name docs (Some t) cs = refl

pub next-case : (b : Branch) (p : ℕ) (all : Branch) (h : MdHeading) (id : Option (List ℕ)) (cs : List Case) (i : ℕ) (c : Case)
    → i < length cs → c ≡ get_or cs i c → sprouted b p (case_nodes h id (arms_of (map case_arm (drop i cs)))) ≡ all
    → sprouted (sprouted b p (case_node h id (case_arm c))) p (case_nodes h id (arms_of (map case_arm (drop (i + 1) cs)))) ≡ all
next-case b p all h id cs i c s q e =
    sprouted-followed b p (case_node h id (case_arm c)) (case_nodes h id (arms_of (map case_arm (drop (i + 1) cs))))
    ∙ rw (drop_more cs i c s, ← q, case-first h id (case_arm c).called (case_arm c).comment (case_arm c).payload (arms_of (map case_arm (drop (i + 1) cs)))) at e

pub all-cases : (b : Branch) (p : ℕ) (all : Branch) (h : MdHeading) (id : Option (List ℕ)) (cs : List Case) (i : ℕ)
    → length cs ≤ i → sprouted b p (case_nodes h id (arms_of (map case_arm (drop i cs)))) ≡ all → b ≡ all
all-cases b p all h id cs i s e = sym (sprouted-none b p) ∙ rw (drop_all i cs s) at e

case-numbers : (cs : List Case) (i : ℕ) (c : Case) → i < length cs → c ≡ get_or cs i c
    → cases_laid_out (arms_of (map case_arm (drop i cs))) ≡ case_laid_out (case_arm c) ++ cases_laid_out (arms_of (map case_arm (drop (i + 1) cs)))
case-numbers cs i c s q = rw (drop_more cs i c s, ← q, numbers-first (case_arm c).called (case_arm c).comment (case_arm c).payload (arms_of (map case_arm (drop (i + 1) cs)))) refl

pub next-case-fits : (all : Bool) (cs : List Case) (i : ℕ) (c : Case) → i < length cs → c ≡ get_or cs i c
    → too_large (cases_laid_out (arms_of (map case_arm (drop i cs)))) ≡ all → too_large (case_laid_out (case_arm c)) ≡ false
    → too_large (cases_laid_out (arms_of (map case_arm (drop (i + 1) cs)))) ≡ all
next-case-fits all cs i c s q e h = next-fits (case_laid_out (case_arm c)) (cases_laid_out (arms_of (map case_arm (drop (i + 1) cs)))) all (rw (case-numbers cs i c s q) at e) h

pub next-case-large : (all : Bool) (cs : List Case) (i : ℕ) (c : Case) → i < length cs → c ≡ get_or cs i c
    → too_large (cases_laid_out (arms_of (map case_arm (drop i cs)))) ≡ all → too_large (case_laid_out (case_arm c)) ≡ true → all ≡ true
next-case-large all cs i c s q e h = next-large (case_laid_out (case_arm c)) (cases_laid_out (arms_of (map case_arm (drop (i + 1) cs)))) all (rw (case-numbers cs i c s q) at e) h

pub all-cases-fit : (all : Bool) (cs : List Case) (i : ℕ) → length cs ≤ i → too_large (cases_laid_out (arms_of (map case_arm (drop i cs)))) ≡ all → all ≡ false
all-cases-fit all cs i s e = sym (rw (drop_all i cs s) at e) ∙ large-none

arm-at : (name docs : List ℕ) (o : Option Tree) (cs : Arms) → payload_nodes o + arm_nodes cs ≤ arm_nodes (arm name o docs cs)
arm-at name docs None cs = omega arith
arm-at name docs (Some t) cs = omega arith

payload-few : (cs : List Case) (i : ℕ) (c : Case) → i < length cs → c ≡ get_or cs i c → payload_nodes (case_arm c).payload ≤ arm_nodes (arms_of (map case_arm cs))
payload-few [] i c l p = absurd (omega arith)
payload-few (d ∷ cs) zero c l p =
    let e : payload_nodes (case_arm c).payload ≡ payload_nodes (case_arm d).payload = ap (λ x. payload_nodes (case_arm x).payload) p in
    omega (arith, e, arm-at (case_arm d).called (case_arm d).comment (case_arm d).payload (arms_of (map case_arm cs)))
payload-few (d ∷ cs) (suc i) c l p =
    omega (arith, payload-few cs i c (omega arith) p, arm-at (case_arm d).called (case_arm d).comment (case_arm d).payload (arms_of (map case_arm cs)))

pub case-few : (cs : List Case) (i : ℕ) (c : Case) → i < length cs → c ≡ get_or cs i c
    → 8 * payload_nodes (case_arm c).payload + 7 < 8 * arm_nodes (arms_of (map case_arm cs)) + 8
case-few cs i c l p = omega (arith, payload-few cs i c l p)

type-few : (ls : List RecordMemberLayout) (i : ℕ) (l : RecordMemberLayout) → i < length ls → l ≡ get_or ls i l
    → type_nodes (tree_of l.member.now.tref) ≤ field_nodes (placed_fields ls)
type-few [] i l s p = absurd (omega arith)
type-few (k ∷ ls) zero l s p =
    let e : type_nodes (tree_of l.member.now.tref) ≡ type_nodes (member_field k.member.now).tree =
    ap (λ m. type_nodes m.tree) (sym (tree-RecordMember l.member.now)) ∙ ap (λ x. type_nodes (member_field x.member.now).tree) p in
    omega (arith, e)
type-few (k ∷ ls) (suc i) l s p = omega (arith, type-few ls i l (omega arith) p)

pub member-few : (ls : List RecordMemberLayout) (i : ℕ) (l : RecordMemberLayout) → i < length ls → l ≡ get_or ls i l
    → 8 * type_nodes (tree_of l.member.now.tref) + 7 < 8 * field_nodes (placed_fields ls) + 8
member-few ls i l s p = omega (arith, type-few ls i l s p)

-- a variant, from its cases
pub bare-layout : (h : MdHeading) (r : IntRepr) (cs : List Arm) → all_arms_bare cs ≡ true → variant_layout h r (arms_of cs) ≡ no_nodes
bare-layout h r cs e = rw (arms-listed cs, e) refl

pub shown-layout : (h : MdHeading) (r : IntRepr) (cs : List Arm) → all_arms_bare cs ≡ false
    → variant_layout h r (arms_of cs) ≡ layout_nodes h (size_of (variant_of r (plain_arms (arms_of cs)))) (align_of (variant_of r (plain_arms (arms_of cs)))) (repr_size r)
shown-layout h r cs e = rw (arms-listed cs, e) refl

pub bare-numbers : (r : IntRepr) (cs : List Arm) → all_arms_bare cs ≡ true → payload_numbers r (arms_of cs) ≡ []
bare-numbers r cs e = rw (arms-listed cs, e) refl

pub shown-numbers : (r : IntRepr) (cs : List Arm) → all_arms_bare cs ≡ false → payload_numbers r (arms_of cs) ≡ size_of (variant_of r (plain_arms (arms_of cs))) ∷ []
shown-numbers r cs e = rw (arms-listed cs, e) refl

pub bool-parts : (h : MdHeading) (id : Option (List ℕ)) (v : Variant) → is_bool_arms (map case_arm (out-Variant v).cases) ≡ true → type_parts h id (variant_tree v) ≡ no_nodes
bool-parts h id v e = rw (tree-VariantDatatype v, arms-listed (map case_arm (out-Variant v).cases), e) refl

pub variant-parts : (h : MdHeading) (id : Option (List ℕ)) (v : Variant) → is_bool_arms (map case_arm (out-Variant v).cases) ≡ false
    → type_parts h id (variant_tree v) ≡ followed_by (variant_layout h (out-Variant v).tag_repr (arms_of (map case_arm (out-Variant v).cases)))
    (node (section h (codes "Variant cases")) no_nodes (case_nodes h id (arms_of (map case_arm (out-Variant v).cases))))
variant-parts h id v e = rw (tree-VariantDatatype v, arms-listed (map case_arm (out-Variant v).cases), e) refl

pub bool-numbers : (v : Variant) → is_bool_arms (map case_arm (out-Variant v).cases) ≡ true → laid_out (variant_tree v) ≡ []
bool-numbers v e = rw (tree-VariantDatatype v, arms-listed (map case_arm (out-Variant v).cases), e) refl

pub variant-all-numbers : (v : Variant) → is_bool_arms (map case_arm (out-Variant v).cases) ≡ false
    → laid_out (variant_tree v) ≡ payload_numbers (out-Variant v).tag_repr (arms_of (map case_arm (out-Variant v).cases)) ++ cases_laid_out (arms_of (map case_arm (out-Variant v).cases))
variant-all-numbers v e = rw (tree-VariantDatatype v, arms-listed (map case_arm (out-Variant v).cases), e) refl

pub ruleset part_rules = (name_steps, tree_rules, bool-parts, variant-parts, bool-numbers, variant-all-numbers, grown_rules, judging_rules, next-member, all-members, next-number-fits, next-number-large, all-numbers-fit, next-case, all-cases, next-case-fits, next-case-large, all-cases-fit)
