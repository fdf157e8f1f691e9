-- The reason that is told of a result, from the parts of its type.
use Rattle.std.specs.Prelude.{◌≡◌, ℕ, ◌+◌, ◌≤◌, ◌<◌, List, [], ◌∷◌, length, Bool, true, false, ◌&&◌, Option, Some, None, map}
use Rattle.std.proofs.Common.{get_or, drop, refl, arith}
use Rattle.std.proofs.lemmas.List.{drop_more, drop_all}
use Rattle.witx_ast.specs.declared.function.Abi.{Abi}
use Rattle.witx_ast.specs.declared.function.InterfaceFuncParam.{InterfaceFuncParam}
use Rattle.witx_ast.specs.declared.types.RecordMember.{RecordMember}
use Rattle.witx_ast.specs.declared.types.RecordDatatype.{RecordDatatype, out-RecordDatatype}
use Rattle.witx_ast.specs.declared.types.RecordKind.{RecordKind}
use Rattle.witx_ast.specs.declared.types.Variant.{Variant, out-Variant}
use Rattle.witx_ast.specs.Tree.{Tree, Arm, Arms, arm, arms_of, arm_list, fields_of}
use Rattle.witx_ast.specs.Views.{tree_of, record_tree, variant_tree, member_field, case_arm}
use Rattle.witx_ast.specs.Functions.{param_field}
use Rattle.witx_ast.specs.Words.{is_named, expected_payloads}
use Rattle.witx_ast.specs.Results.{more_than_one, invalid_return, all_named, members_named, payloads_reason, type_reason, result_reason, results_reason}
use Rattle.witx_ast.proofs.Trees.{tree-RecordDatatype, tree-VariantDatatype, tree-RecordMember}
use Rattle.witx_ast.proofs.TreeKinds.{kind_rules}

pub results-none : (abi : Abi) (xs : List InterfaceFuncParam) → length xs ≡ 0 → results_reason abi (map param_field xs) ≡ None
results-none abi [] l = refl
results-none abi (x ∷ xs) l = absurd (omega arith)

pub results-one : (abi : Abi) (xs : List InterfaceFuncParam) (p : InterfaceFuncParam) → length xs ≤ 1 → 0 < length xs → p ≡ get_or xs 0 p
    → results_reason abi (map param_field xs) ≡ result_reason abi (tree_of p.tref)
results-one abi [] p l k e = absurd (omega arith)
results-one abi (x ∷ []) p l k e = rw e refl
results-one abi (x ∷ y ∷ xs) p l k e = absurd (omega arith)

pub results-more : (abi : Abi) (xs : List InterfaceFuncParam) → 1 < length xs → results_reason abi (map param_field xs) ≡ Some more_than_one
results-more abi [] l = absurd (omega arith)
results-more abi (x ∷ []) l = absurd (omega arith)
results-more abi (x ∷ y ∷ xs) l = refl

-- the list of the cases is the one that they were read from
pub arm-first : (name docs : List ℕ) (o : Option Tree) (cs : Arms) → arm_list (arm name o docs cs) ≡ record { called = name; payload = o; comment = docs } ∷ arm_list cs
arm-first name docs None cs = refl
arm-first name docs (Some t) cs = refl

pub arms-listed : (cs : List Arm) → arm_list (arms_of cs) ≡ cs
arms-listed [] = refl
arms-listed (c ∷ cs) = rw (arm-first c.called c.comment c.payload (arms_of cs), arms-listed cs) refl

pub variant-reason : (v : Variant) → type_reason (variant_tree v) ≡ payloads_reason (expected_payloads (map case_arm (out-Variant v).cases))
variant-reason v = rw (tree-VariantDatatype v, arms-listed (map case_arm (out-Variant v).cases)) refl

pub variant-invalid : (v : Variant) → expected_payloads (map case_arm (out-Variant v).cases) ≡ None → type_reason (variant_tree v) ≡ Some invalid_return
variant-invalid v e = rw (variant-reason v, e) refl

pub variant-payloads : (v : Variant) (o e : Option Tree) → expected_payloads (map case_arm (out-Variant v).cases) ≡ Some (o, e) → type_reason (variant_tree v) ≡ payloads_reason (Some (o, e))
variant-payloads v o e h = rw (variant-reason v, h) refl

pub tuple-named : (r : RecordDatatype) (itself : Bool) → (out-RecordDatatype r).kind ≡ RecordKind.Tuple
    → members_named (record_tree r) itself ≡ all_named (fields_of (map member_field (out-RecordDatatype r).members))
tuple-named r itself e = rw (tree-RecordDatatype r, e) refl

pub named-drop : (xs : List RecordMember) (i : ℕ) (m : RecordMember) → i < length xs → m ≡ get_or xs i m
    → all_named (fields_of (map member_field (drop i xs))) ≡ is_named (tree_of m.tref) && all_named (fields_of (map member_field (drop (i + 1) xs)))
named-drop xs i m l p = rw (drop_more xs i m l, ← p, tree-RecordMember m) refl

pub named-yes : (xs : List RecordMember) (i : ℕ) (m : RecordMember) → i < length xs → m ≡ get_or xs i m → is_named (tree_of m.tref) ≡ true
    → all_named (fields_of (map member_field (drop i xs))) ≡ all_named (fields_of (map member_field (drop (i + 1) xs)))
named-yes xs i m l p h = rw (named-drop xs i m l p, h) refl

pub named-no : (xs : List RecordMember) (i : ℕ) (m : RecordMember) → i < length xs → m ≡ get_or xs i m → is_named (tree_of m.tref) ≡ false
    → all_named (fields_of (map member_field (drop i xs))) ≡ false
named-no xs i m l p h = rw (named-drop xs i m l p, h) refl

pub named-end : (xs : List RecordMember) (i : ℕ) → length xs ≤ i → all_named (fields_of (map member_field (drop i xs))) ≡ true
named-end xs i l = rw (drop_all i xs l) refl

pub ruleset result_rules = (kind_rules, results-none, results-one, results-more, variant-invalid, variant-payloads, tuple-named, named-yes, named-no, named-end)
