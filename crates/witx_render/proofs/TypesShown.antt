-- The expressions of types, from those of their members and cases.
use Rattle.std.specs.Prelude.{◌≡◌, ℕ, ◌≤◌, Bool, true, false, List, [], ◌∷◌, ◌++◌, length, drop, map, Option, None, Some, option_map, codes}
use Rattle.std.proofs.Common.{refl, sym, ap, ◌∙◌}
use Rattle.witx_ast.specs.Tree.{Tree, Field, Fields, Arm, Arms, arm, fields_of, arms_of, arm_list}
use Rattle.witx_ast.specs.Words.{all_arms_bare, is_bool_arms}
use Rattle.witx_ast.specs.Views.{tree_of, record_tree, variant_tree, member_field, case_arm}
use Rattle.witx_ast.specs.declared.types.RecordDatatype.{RecordDatatype, out-RecordDatatype}
use Rattle.witx_ast.specs.declared.types.RecordMember.{RecordMember}
use Rattle.witx_ast.specs.declared.types.RecordKind.{RecordKind}
use Rattle.witx_ast.specs.declared.types.Variant.{Variant, out-Variant}
use Rattle.witx_ast.specs.declared.types.Case.{Case}
use Rattle.witx_ast.specs.declared.types.IntRepr.{IntRepr}
use Rattle.witx_ast.proofs.Trees.{tree-RecordMember, tree-RecordDatatype, tree-Case, tree-VariantDatatype}
use Rattle.witx_ast.proofs.TreeKinds.{kind_rules}
use Rattle.witx_ast.proofs.ResultLaws.{arms-listed}
use Rattle.witx_render.specs.declared.expression.SExpr as code
use Rattle.witx_render.specs.Expressions.{SExpr, vec, word, SExprs, nil, ◌▹◌, exprs_of, with_docs}
use Rattle.witx_render.specs.ExpressionViews.{expr_view, exprs_view}
use Rattle.witx_render.specs.TypeExpressions.{type_expr, record_expr, member_expr, member_exprs, variant_expr, case_expr, case_exprs, have_no_payload}
use Rattle.witx_render.specs.Lists.{record_words, member_item, variant_words, case_item, payload_exprs}
use Rattle.witx_render.proofs.ItemsBuilt.{next-shown, all-shown}

-- ---- records

members_listed : (kind : RecordKind) (ms : List Field) → member_exprs kind (fields_of ms) ≡ exprs_of (map (member_item kind) ms)
members_listed kind [] = refl
members_listed kind (m ∷ ms) = ap (λ (l : SExprs). member_item kind m ▹ l) (members_listed kind ms)

pub record-shown : (r : RecordDatatype)
    → type_expr (record_tree r) ≡ record_expr (out-RecordDatatype r).kind (exprs_of (map (member_item (out-RecordDatatype r).kind) (map member_field (out-RecordDatatype r).members)))
record-shown r =
    ap type_expr (tree-RecordDatatype r)
    ∙ ap (record_expr (out-RecordDatatype r).kind) (members_listed (out-RecordDatatype r).kind (map member_field (out-RecordDatatype r).members))

record_built : (kind : RecordKind) (ms : List SExpr) → vec (exprs_of (record_words kind ++ ms)) ≡ record_expr kind (exprs_of ms)
record_built RecordKind.Tuple ms = refl
record_built (RecordKind.Bitflags r) ms = refl
record_built RecordKind.Other ms = refl

pub members-built : (kind : RecordKind) (xs : List RecordMember) (i : ℕ) (items : List code.SExpr) → length xs ≤ i
    → map expr_view items ++ map (member_item kind) (map member_field (drop i xs)) ≡ record_words kind ++ map (member_item kind) (map member_field xs)
    → vec (exprs_view items) ≡ record_expr kind (exprs_of (map (member_item kind) (map member_field xs)))
members-built kind xs i items l e =
    ap (λ k. vec (exprs_of k)) (all-shown (member_item kind) member_field xs i (map expr_view items) _ l e)
    ∙ record_built kind (map (member_item kind) (map member_field xs))

pub member-shown : (kind : RecordKind) (m : RecordMember)
    → with_docs m.docs (member_expr kind m.name (type_expr (tree_of m.tref))) ≡ member_item kind (member_field m)
member-shown kind m = sym (ap (member_item kind) (tree-RecordMember m))

-- ---- variants

arms_shown : (bare : Bool) (a : Arm) (cs : Arms) → case_exprs bare (arm a.called a.payload a.comment cs) ≡ case_item bare a ▹ case_exprs bare cs
arms_shown bare a cs = by_payload a.payload
  where
    by_payload : (p : Option Tree) → case_exprs bare (arm a.called p a.comment cs) ≡ with_docs a.comment (case_expr bare a.called (payload_exprs p)) ▹ case_exprs bare cs
    by_payload None = refl
    by_payload (Some t) = refl

cases_listed : (bare : Bool) (cs : List Arm) → case_exprs bare (arms_of cs) ≡ exprs_of (map (case_item bare) cs)
cases_listed bare [] = refl
cases_listed bare (c ∷ cs) = arms_shown bare c (arms_of cs) ∙ ap (λ (l : SExprs). case_item bare c ▹ l) (cases_listed bare cs)

variant_listed : (r : IntRepr) (cs : List Arm)
    → type_expr (Tree.variant_of r (arms_of cs)) ≡ variant_expr (is_bool_arms cs) (all_arms_bare cs) r (exprs_of (map (case_item (all_arms_bare cs)) cs))
variant_listed r cs =
    ap (λ k. variant_expr (is_bool_arms k) (all_arms_bare k) r (case_exprs (all_arms_bare k) (arms_of cs))) (arms-listed cs)
    ∙ ap (variant_expr (is_bool_arms cs) (all_arms_bare cs) r) (cases_listed (all_arms_bare cs) cs)

pub variant-shown : (v : Variant)
    → type_expr (variant_tree v) ≡ variant_expr (is_bool_arms (map case_arm (out-Variant v).cases)) (all_arms_bare (map case_arm (out-Variant v).cases)) (out-Variant v).tag_repr
    (exprs_of (map (case_item (all_arms_bare (map case_arm (out-Variant v).cases))) (map case_arm (out-Variant v).cases)))
variant-shown v = ap type_expr (tree-VariantDatatype v) ∙ variant_listed (out-Variant v).tag_repr (map case_arm (out-Variant v).cases)

pub bool-shown : (v : Variant) → is_bool_arms (map case_arm (out-Variant v).cases) ≡ true → type_expr (variant_tree v) ≡ word (codes "bool")
bool-shown v e =
    let cs = map case_arm (out-Variant v).cases in
    variant-shown v ∙ ap (λ b. variant_expr b (all_arms_bare cs) (out-Variant v).tag_repr (exprs_of (map (case_item (all_arms_bare cs)) cs))) e

pub cases-shown : (v : Variant) → is_bool_arms (map case_arm (out-Variant v).cases) ≡ false
    → type_expr (variant_tree v) ≡ variant_expr false (all_arms_bare (map case_arm (out-Variant v).cases)) (out-Variant v).tag_repr
    (exprs_of (map (case_item (all_arms_bare (map case_arm (out-Variant v).cases))) (map case_arm (out-Variant v).cases)))
cases-shown v e =
    let cs = map case_arm (out-Variant v).cases in
    variant-shown v ∙ ap (λ b. variant_expr b (all_arms_bare cs) (out-Variant v).tag_repr (exprs_of (map (case_item (all_arms_bare cs)) cs))) e

variant_built : (bare : Bool) (r : IntRepr) (cs : List SExpr) → vec (exprs_of (variant_words bare r ++ cs)) ≡ variant_expr false bare r (exprs_of cs)
variant_built true r cs = refl
variant_built false r cs = refl

pub cases-built : (bare : Bool) (r : IntRepr) (xs : List Case) (i : ℕ) (items : List code.SExpr) → length xs ≤ i
    → map expr_view items ++ map (case_item bare) (map case_arm (drop i xs)) ≡ variant_words bare r ++ map (case_item bare) (map case_arm xs)
    → vec (exprs_view items) ≡ variant_expr false bare r (exprs_of (map (case_item bare) (map case_arm xs)))
cases-built bare r xs i items l e =
    ap (λ k. vec (exprs_of k)) (all-shown (case_item bare) case_arm xs i (map expr_view items) _ l e)
    ∙ variant_built bare r (map (case_item bare) (map case_arm xs))

pub case-shown : (bare : Bool) (c : Case)
    → with_docs c.docs (case_expr bare c.name (payload_exprs (option_map tree_of c.tref))) ≡ case_item bare (case_arm c)
case-shown bare c = sym (ap (case_item bare) (tree-Case c))

pub ruleset shown_rules = (kind_rules, record-shown, members-built, member-shown, bool-shown, cases-shown, cases-built, case-shown, next-shown)
