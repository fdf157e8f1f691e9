-- What a loop has passed has no misfit, so the first misfit of what is left is the first of all.
use Rattle.std.specs.Prelude.{◌≡◌, ℕ, ◌+◌, ◌≤◌, ◌<◌, List, [], ◌∷◌, ◌++◌, length, drop, map, Option, Some, None, Ok, Err}
use Rattle.std.proofs.Common.{get_or, refl, sym, ◌∙◌, append-nil}
use Rattle.std.proofs.lemmas.List.{drop_more, drop_all}
use Rattle.witx_ast.specs.Tree.{fields_of, arms_of}
use Rattle.witx_ast.specs.Views.{tree_of, record_tree, variant_tree, member_field, case_arm}
use Rattle.witx_ast.specs.Functions.{param_field}
use Rattle.witx_ast.specs.Items.{ItemTree, import_of, func_of, item_tree}
use Rattle.witx_ast.specs.Definitions.{definition_tree}
use Rattle.witx_ast.proofs.Trees.{tree_rules, tree-RecordMember, tree-Case, tree-RecordDatatype, tree-VariantDatatype}
use Rattle.witx_ast.proofs.Parts.{count-members, count-cases}
use Rattle.witx_ast.specs.declared.types.RecordMember.{RecordMember}
use Rattle.witx_ast.specs.declared.types.Case.{Case}
use Rattle.witx_ast.specs.declared.types.TypeRef.{TypeRef}
use Rattle.witx_ast.specs.declared.types.RecordDatatype.{RecordDatatype, out-RecordDatatype}
use Rattle.witx_ast.specs.declared.types.Variant.{Variant, out-Variant}
use Rattle.witx_ast.specs.declared.function.InterfaceFuncParam.{InterfaceFuncParam}
use Rattle.witx_ast.specs.declared.module.ModuleDefinition.{ModuleDefinition}
use Rattle.witx_ast.specs.declared.definition.Definition.{Definition}
use Rattle.witx_layout.specs.declared.tags.TooMany.{TooMany}
use Rattle.witx_ast.specs.Misfits.{Excess, Misfit, beyond, flags_beyond, most_cases, misfits, field_misfits, arm_misfits, params_misfits, item_misfits, definition_misfits, first_here, first_misfit_from}
use Rattle.witx_layout.specs.Refusals.{type_refusal, tag_refusal}

-- what has passed has no misfit
pub passed : (xs : List Excess) (u : Unit {0}) → type_refusal xs ≡ Ok u → xs ≡ []
passed [] u h = refl
passed (x ∷ xs) u h = cc

pub passed-then : (xs ys : List Excess) (u : Unit {0}) → type_refusal xs ≡ Ok u → type_refusal (xs ++ ys) ≡ type_refusal ys
passed-then xs ys u h = rw (passed xs u h) refl

pub refused : (xs ys : List Excess) (m : TooMany) → type_refusal xs ≡ Err m → type_refusal (xs ++ ys) ≡ Err m
refused [] ys m h = cc
refused (x ∷ xs) ys m h = h

passed-rest : (xs ys all : List Excess) (u : Unit {0}) → type_refusal xs ≡ Ok u → xs ++ ys ≡ all → ys ≡ all
passed-rest xs ys all u h e = rw (passed xs u h) at e

refused-all : (xs ys all : List Excess) (m : TooMany) → type_refusal xs ≡ Err m → xs ++ ys ≡ all → type_refusal all ≡ Err m
refused-all xs ys all m h e = rw (← e) (refused xs ys m h)

-- members
abbrev pub left_members : List RecordMember → ℕ → List Excess
left_members xs i = field_misfits (fields_of (map member_field (drop i xs)))

members-drop : (xs : List RecordMember) (i : ℕ) (m : RecordMember) → i < length xs → m ≡ get_or xs i m
    → left_members xs i ≡ misfits (tree_of m.tref) ++ left_members xs (i + 1)
members-drop xs i m l p = rw (drop_more xs i m l, ← p, tree-RecordMember m) refl

pub member-passed : (xs : List RecordMember) (i : ℕ) (m : RecordMember) (all : List Excess) (u : Unit {0}) → i < length xs → m ≡ get_or xs i m
    → type_refusal (misfits (tree_of m.tref)) ≡ Ok u → left_members xs i ≡ all → left_members xs (i + 1) ≡ all
member-passed xs i m all u l p h e = passed-rest (misfits (tree_of m.tref)) (left_members xs (i + 1)) all u h (sym (members-drop xs i m l p) ∙ e)

pub member-refused : (xs : List RecordMember) (i : ℕ) (m : RecordMember) (all : List Excess) (x : TooMany) → i < length xs → m ≡ get_or xs i m
    → type_refusal (misfits (tree_of m.tref)) ≡ Err x → left_members xs i ≡ all → type_refusal all ≡ Err x
member-refused xs i m all x l p h e = refused-all (misfits (tree_of m.tref)) (left_members xs (i + 1)) all x h (sym (members-drop xs i m l p) ∙ e)

pub members-passed : (xs : List RecordMember) (i : ℕ) (all : List Excess) → length xs ≤ i → left_members xs i ≡ all → type_refusal all ≡ Ok tt
members-passed xs i all l e = rw (← e, drop_all i xs l) refl

-- cases
abbrev pub left_cases : List Case → ℕ → List Excess
left_cases xs i = arm_misfits (arms_of (map case_arm (drop i xs)))

pub case-bare : (xs : List Case) (i : ℕ) (c : Case) (all : List Excess) → i < length xs → c ≡ get_or xs i c → c.tref ≡ None
    → left_cases xs i ≡ all → left_cases xs (i + 1) ≡ all
case-bare xs i c all l p h e = rw (drop_more xs i c l, ← p, tree-Case c, h) at e

cases-drop : (xs : List Case) (i : ℕ) (c : Case) (t : TypeRef) → i < length xs → c ≡ get_or xs i c → c.tref ≡ Some t
    → left_cases xs i ≡ misfits (tree_of t) ++ left_cases xs (i + 1)
cases-drop xs i c t l p h = rw (drop_more xs i c l, ← p, tree-Case c, h) refl

pub case-passed : (xs : List Case) (i : ℕ) (c : Case) (t : TypeRef) (all : List Excess) (u : Unit {0}) → i < length xs → c ≡ get_or xs i c → c.tref ≡ Some t
    → type_refusal (misfits (tree_of t)) ≡ Ok u → left_cases xs i ≡ all → left_cases xs (i + 1) ≡ all
case-passed xs i c t all u l p s h e = passed-rest (misfits (tree_of t)) (left_cases xs (i + 1)) all u h (sym (cases-drop xs i c t l p s) ∙ e)

pub case-refused : (xs : List Case) (i : ℕ) (c : Case) (t : TypeRef) (all : List Excess) (x : TooMany) → i < length xs → c ≡ get_or xs i c → c.tref ≡ Some t
    → type_refusal (misfits (tree_of t)) ≡ Err x → left_cases xs i ≡ all → type_refusal all ≡ Err x
case-refused xs i c t all x l p s h e = refused-all (misfits (tree_of t)) (left_cases xs (i + 1)) all x h (sym (cases-drop xs i c t l p s) ∙ e)

pub cases-passed : (xs : List Case) (i : ℕ) (all : List Excess) → length xs ≤ i → left_cases xs i ≡ all → type_refusal all ≡ Ok tt
cases-passed xs i all l e = rw (← e, drop_all i xs l) refl

-- parameters
abbrev pub left_params : List InterfaceFuncParam → ℕ → List Excess
left_params xs i = params_misfits (map param_field (drop i xs))

params-drop : (xs : List InterfaceFuncParam) (i : ℕ) (m : InterfaceFuncParam) → i < length xs → m ≡ get_or xs i m
    → left_params xs i ≡ misfits (tree_of m.tref) ++ left_params xs (i + 1)
params-drop xs i m l p = rw (drop_more xs i m l, ← p) refl

pub param-passed : (xs : List InterfaceFuncParam) (i : ℕ) (m : InterfaceFuncParam) (all : List Excess) (u : Unit {0}) → i < length xs → m ≡ get_or xs i m
    → type_refusal (misfits (tree_of m.tref)) ≡ Ok u → left_params xs i ≡ all → left_params xs (i + 1) ≡ all
param-passed xs i m all u l p h e = passed-rest (misfits (tree_of m.tref)) (left_params xs (i + 1)) all u h (sym (params-drop xs i m l p) ∙ e)

pub param-refused : (xs : List InterfaceFuncParam) (i : ℕ) (m : InterfaceFuncParam) (all : List Excess) (x : TooMany) → i < length xs → m ≡ get_or xs i m
    → type_refusal (misfits (tree_of m.tref)) ≡ Err x → left_params xs i ≡ all → type_refusal all ≡ Err x
param-refused xs i m all x l p h e = refused-all (misfits (tree_of m.tref)) (left_params xs (i + 1)) all x h (sym (params-drop xs i m l p) ∙ e)

pub params-passed : (xs : List InterfaceFuncParam) (i : ℕ) (all : List Excess) → length xs ≤ i → left_params xs i ≡ all → type_refusal all ≡ Ok tt
params-passed xs i all l e = rw (← e, drop_all i xs l) refl

-- what a module has
abbrev pub left_items : List ModuleDefinition → ℕ → List Excess
left_items xs i = item_misfits (map item_tree (drop i xs))

item-first : (item : ItemTree) (items : List ItemTree) → item_misfits (item ∷ items) ≡ item_misfits (item ∷ []) ++ item_misfits items
item-first (import_of i) items = refl
item-first (func_of f) items = rw append-nil refl

items-drop : (xs : List ModuleDefinition) (i : ℕ) (m : ModuleDefinition) → i < length xs → m ≡ get_or xs i m
    → left_items xs i ≡ item_misfits (item_tree m ∷ []) ++ left_items xs (i + 1)
items-drop xs i m l p = rw (drop_more xs i m l, ← p) (item-first (item_tree m) (map item_tree (drop (i + 1) xs)))

pub item-passed : (xs : List ModuleDefinition) (i : ℕ) (m : ModuleDefinition) (all : List Excess) (u : Unit {0}) → i < length xs → m ≡ get_or xs i m
    → type_refusal (item_misfits (item_tree m ∷ [])) ≡ Ok u → left_items xs i ≡ all → left_items xs (i + 1) ≡ all
item-passed xs i m all u l p h e = passed-rest (item_misfits (item_tree m ∷ [])) (left_items xs (i + 1)) all u h (sym (items-drop xs i m l p) ∙ e)

pub item-refused : (xs : List ModuleDefinition) (i : ℕ) (m : ModuleDefinition) (all : List Excess) (x : TooMany) → i < length xs → m ≡ get_or xs i m
    → type_refusal (item_misfits (item_tree m ∷ [])) ≡ Err x → left_items xs i ≡ all → type_refusal all ≡ Err x
item-refused xs i m all x l p h e = refused-all (item_misfits (item_tree m ∷ [])) (left_items xs (i + 1)) all x h (sym (items-drop xs i m l p) ∙ e)

pub items-passed : (xs : List ModuleDefinition) (i : ℕ) (all : List Excess) → length xs ≤ i → left_items xs i ≡ all → type_refusal all ≡ Ok tt
items-passed xs i all l e = rw (← e, drop_all i xs l) refl

-- one function: its parameters, then its results
pub params-refused : (ps rs : List Excess) (m : TooMany) → type_refusal ps ≡ Err m → type_refusal (ps ++ rs ++ []) ≡ Err m
params-refused ps rs m h = refused (ps ++ rs) [] m (refused ps rs m h)

pub results-told : (ps rs : List Excess) (u : Unit {0}) → type_refusal ps ≡ Ok u → type_refusal (ps ++ rs ++ []) ≡ type_refusal rs
results-told ps rs u h = rw append-nil (passed-then ps rs u h)

-- definitions, numbered from one on
abbrev pub left_definitions : List Definition → ℕ → Option Misfit
left_definitions xs i = first_misfit_from i (map definition_tree (drop i xs))

definitions-drop : (xs : List Definition) (i : ℕ) (d : Definition) → i < length xs → d ≡ get_or xs i d
    → left_definitions xs i ≡ first_here i (definition_misfits (definition_tree d)) (left_definitions xs (i + 1))
definitions-drop xs i d l p = rw (drop_more xs i d l, ← p) refl

here-passed : (i : ℕ) (xs : List Excess) (later : Option Misfit) (u : Unit {0}) → type_refusal xs ≡ Ok u → first_here i xs later ≡ later
here-passed i xs later u h = rw (passed xs u h) refl

here-refused : (i : ℕ) (xs : List Excess) (later : Option Misfit) (x : TooMany) → type_refusal xs ≡ Err x
    → tag_refusal (first_here i xs later) ≡ Err (record { definition = i; count = x.count; most = x.most })
here-refused i [] later x h = cc
here-refused i (y ∷ xs) later x h = let e : record { count = y.count; most = y.most } ≡ x = cc in rw (← e) refl

pub definition-passed : (xs : List Definition) (i : ℕ) (d : Definition) (all : Option Misfit) (u : Unit {0}) → i < length xs → d ≡ get_or xs i d
    → type_refusal (definition_misfits (definition_tree d)) ≡ Ok u → left_definitions xs i ≡ all → left_definitions xs (i + 1) ≡ all
definition-passed xs i d all u l p h e =
    sym (here-passed i (definition_misfits (definition_tree d)) (left_definitions xs (i + 1)) u h) ∙ sym (definitions-drop xs i d l p) ∙ e

pub definition-refused : (xs : List Definition) (i : ℕ) (d : Definition) (all : Option Misfit) (x : TooMany) → i < length xs → d ≡ get_or xs i d
    → type_refusal (definition_misfits (definition_tree d)) ≡ Err x → left_definitions xs i ≡ all
    → tag_refusal all ≡ Err (record { definition = i; count = x.count; most = x.most })
definition-refused xs i d all x l p h e =
    rw (← e, definitions-drop xs i d l p) (here-refused i (definition_misfits (definition_tree d)) (left_definitions xs (i + 1)) x h)

pub definitions-passed : (xs : List Definition) (i : ℕ) (all : Option Misfit) → length xs ≤ i → left_definitions xs i ≡ all → tag_refusal all ≡ Ok tt
definitions-passed xs i all l e = rw (← e, drop_all i xs l) refl

-- the misfits of one type, from its counts and its parts
pub record-misfits : (r : RecordDatatype) → misfits (record_tree r)
    ≡ flags_beyond (out-RecordDatatype r).kind (length (out-RecordDatatype r).members) ++ field_misfits (fields_of (map member_field (out-RecordDatatype r).members))
record-misfits r = rw (tree-RecordDatatype r, ← count-members (out-RecordDatatype r).members) refl

pub variant-misfits : (v : Variant) → misfits (variant_tree v)
    ≡ beyond (most_cases (out-Variant v).tag_repr) (length (out-Variant v).cases) ++ arm_misfits (arms_of (map case_arm (out-Variant v).cases))
variant-misfits v = rw (tree-VariantDatatype v, ← count-cases (out-Variant v).cases) refl

pub ruleset misfit_rules = (tree_rules, record-misfits, variant-misfits, passed-then, refused, params-refused, results-told, member-passed, member-refused, members-passed, case-bare, case-passed, case-refused, cases-passed, param-passed, param-refused, params-passed, item-passed, item-refused, items-passed)

pub ruleset document_rules = (definition-passed, definition-refused, definitions-passed)
