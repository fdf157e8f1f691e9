-- The text of a type, from the texts of its parts.
use Rattle.std.specs.Prelude.{◌≡◌, ℕ, ◌+◌, ◌≤◌, ◌<◌, List, [], ◌∷◌, ◌++◌, Bool, true, false, length, drop, map, option_map, Option, Some, None, is_some, codes, if◌then◌else◌}
use Rattle.std.proofs.Common.{get_or, refl, ap, sym, subst, ◌∙◌, append_assoc, append-nil}
use Rattle.std.proofs.lemmas.List.{drop_more, drop_all}
use Rattle.witx_ast.specs.Tree.{Tree, Arms, arm, fields_of, arms_of}
use Rattle.witx_ast.specs.Views.{tree_of, variant_tree, member_field, case_arm}
use Rattle.witx_ast.specs.TypeNames.{type_text, comma_joined, member_texts, payload_texts, payload_text}
use Rattle.witx_ast.specs.Words.{is_expected, is_bool_arms}
use Rattle.witx_ast.proofs.ResultLaws.{arms-listed}
use Rattle.witx_ast.specs.declared.types.Case.{Case}
use Rattle.witx_ast.specs.declared.types.Variant.{Variant, out-Variant}
use Rattle.witx_ast.proofs.Trees.{tree-RecordMember, tree-Case, tree-VariantDatatype}
use Rattle.witx_ast.proofs.TreeKinds.{kind_rules}
use Rattle.witx_ast.specs.declared.types.RecordMember.{RecordMember}

-- texts with commas, the first of them with none before it if it is the first of all
abbrev pub joined_after : Bool → List (List ℕ) → List ℕ
joined_after first [] = []
joined_after true (x ∷ xs) = x ++ joined_after false xs
joined_after false (x ∷ xs) = codes ", " ++ (x ++ joined_after false xs)

pub joined-start : (xs : List (List ℕ)) → joined_after true xs ≡ comma_joined xs
joined-start [] = refl
joined-start (x ∷ []) = append-nil x
joined-start (x ∷ y ∷ ys) = ap (λ r. x ++ (codes ", " ++ r)) (joined-start (y ∷ ys))

-- what the loop writes for all
pub joined-init : (before : List ℕ) (xs : List (List ℕ)) → before ++ joined_after true xs ≡ before ++ comma_joined xs
joined-init before xs = ap (λ r. before ++ r) (joined-start xs)

joined-more : (first : Bool) (before x : List ℕ) (xs : List (List ℕ)) (n : List ℕ) → before ++ joined_after first (x ∷ xs) ≡ n
    → (before ++ ((if first then [] else codes ", ") ++ x)) ++ joined_after false xs ≡ n
joined-more true before x xs n e = append_assoc before x (joined_after false xs) ∙ e
joined-more false before x xs n e = append_assoc before (codes ", " ++ x) (joined_after false xs) ∙ e

texts-drop : (xs : List RecordMember) (i : ℕ) (a : RecordMember) → i < length xs → a ≡ get_or xs i a
    → member_texts (fields_of (map member_field (drop i xs))) ≡ type_text (tree_of a.tref) ∷ member_texts (fields_of (map member_field (drop (i + 1) xs)))
texts-drop xs i a l p =
    ap (λ ys. member_texts (fields_of (map member_field ys))) (drop_more xs i a l ∙ ap (λ y. y ∷ drop (i + 1) xs) (sym p))
    ∙ ap (λ f. type_text f.tree ∷ member_texts (fields_of (map member_field (drop (i + 1) xs)))) (tree-RecordMember a)

pub next-name : (xs : List RecordMember) (i : ℕ) (a : RecordMember) (first : Bool) (before n : List ℕ) → i < length xs → a ≡ get_or xs i a
    → before ++ joined_after first (member_texts (fields_of (map member_field (drop i xs)))) ≡ n
    → (before ++ ((if first then [] else codes ", ") ++ type_text (tree_of a.tref))) ++ joined_after false (member_texts (fields_of (map member_field (drop (i + 1) xs)))) ≡ n
next-name xs i a first before n l p e =
    joined-more first before (type_text (tree_of a.tref)) (member_texts (fields_of (map member_field (drop (i + 1) xs)))) n
    (subst (λ ts. before ++ joined_after first ts ≡ n) (texts-drop xs i a l p) e)

pub all-names : (xs : List RecordMember) (i : ℕ) (first : Bool) (before n : List ℕ) → length xs ≤ i
    → before ++ joined_after first (member_texts (fields_of (map member_field (drop i xs)))) ≡ n → before ++ [] ≡ n
all-names xs i first before n l e = rw (drop_all i xs l) at e

-- one more payload
pub payload-first : (name docs : List ℕ) (o : Option Tree) (cs : Arms) → payload_texts (arm name o docs cs) ≡ payload_text o ∷ payload_texts cs
payload-first name docs None cs = refl
payload-first name docs (Some t) cs = refl

pub next-payload : (xs : List Case) (i : ℕ) (a : Case) (first : Bool) (before n : List ℕ) → i < length xs → a ≡ get_or xs i a
    → before ++ joined_after first (payload_texts (arms_of (map case_arm (drop i xs)))) ≡ n
    → (before ++ ((if first then [] else codes ", ") ++ payload_text (option_map tree_of a.tref))) ++ joined_after false (payload_texts (arms_of (map case_arm (drop (i + 1) xs)))) ≡ n
next-payload xs i a first before n l p e =
    joined-more first before (payload_text (option_map tree_of a.tref)) (payload_texts (arms_of (map case_arm (drop (i + 1) xs)))) n
    (rw (drop_more xs i a l, ← p, tree-Case a, payload-first a.name a.docs (option_map tree_of a.tref) (arms_of (map case_arm (drop (i + 1) xs)))) at e)

pub all-payloads : (xs : List Case) (i : ℕ) (first : Bool) (before n : List ℕ) → length xs ≤ i
    → before ++ joined_after first (payload_texts (arms_of (map case_arm (drop i xs)))) ≡ n → before ++ [] ≡ n
all-payloads xs i first before n l e = rw (drop_all i xs l) at e

-- the name of a variant, from its cases
pub result-name : (v : Variant) → is_expected (map case_arm (out-Variant v).cases) ≡ true
    → type_text (variant_tree v) ≡ codes "Result<" ++ comma_joined (payload_texts (arms_of (map case_arm (out-Variant v).cases))) ++ codes ">"
result-name v h = rw (tree-VariantDatatype v, arms-listed (map case_arm (out-Variant v).cases), h) refl

pub bool-name : (v : Variant) → is_expected (map case_arm (out-Variant v).cases) ≡ false → is_bool_arms (map case_arm (out-Variant v).cases) ≡ true
    → type_text (variant_tree v) ≡ codes "bool"
bool-name v h k = rw (tree-VariantDatatype v, arms-listed (map case_arm (out-Variant v).cases), h, k) refl

pub variant-name : (v : Variant) → is_expected (map case_arm (out-Variant v).cases) ≡ false → is_bool_arms (map case_arm (out-Variant v).cases) ≡ false
    → type_text (variant_tree v) ≡ codes "Variant"
variant-name v h k = rw (tree-VariantDatatype v, arms-listed (map case_arm (out-Variant v).cases), h, k) refl

pub some-map : {A B : Type 0} (f : A → B) (o : Option A) (p : Option B) → option_map f o ≡ p → is_some o ≡ is_some p
some-map f None p e = rw (← e) refl
some-map f (Some x) p e = rw (← e) refl

pub ruleset name_rules = (kind_rules, joined-init, next-name, all-names, next-payload, all-payloads, result-name, bool-name, variant-name, some-map)
