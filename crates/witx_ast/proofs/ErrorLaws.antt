-- The error types, definition by definition and item by item.
use Rattle.std.specs.Prelude.{◌≡◌, ℕ, ◌+◌, ◌≤◌, ◌<◌, List, [], ◌∷◌, ◌++◌, length, Bool, true, false, cond, ◌||◌, Option, Some, None, map}
use Rattle.std.proofs.Common.{get_or, drop, refl, arith, ◌∙◌, sym, ap, append_assoc, append-nil}
use Rattle.std.proofs.lemmas.List.{drop_more, drop_all}
use Rattle.std.proofs.lemmas.List.{map-append}
use Rattle.std.proofs.lemmas.List.Folds.{list_any-append}
use Rattle.std.proofs.Math.Bool.{or-true, or-false}
use Rattle.std.specs.List.{list_any}
use Rattle.witx_ast.specs.Same.{same_tree}
use Rattle.witx_ast.specs.SameLaws.{tree_equivalence, same-to}
use Rattle.witx_ast.specs.declared.function.InterfaceFunc.{InterfaceFunc}
use Rattle.witx_ast.specs.declared.function.InterfaceFuncParam.{InterfaceFuncParam}
use Rattle.witx_ast.specs.declared.module.ModuleImport.{ModuleImport}
use Rattle.witx_ast.specs.declared.module.ModuleDefinition.{ModuleDefinition}
use Rattle.witx_ast.specs.declared.module.ModuleDefinition.TheVariants as item
use Rattle.witx_ast.specs.declared.definition.Definition.{Definition}
use Rattle.witx_ast.specs.declared.types.TypeRef.{TypeRef}
use Rattle.std.specs.declared.alloc.Global.{Global}
use Rattle.std.specs.declared.rc.Rc.{Rc}
use Rattle.std.specs.HashSet.{HashSet, IsEmpty, Updates}
use Rattle.witx_ast.specs.Seen.{TellsTypes, and_type, and_types}
use Rattle.witx_ast.specs.declared.types.Variant.{Variant, out-Variant}
use Rattle.witx_ast.specs.Tree.{Tree, behind}
use Rattle.witx_ast.specs.Views.{tree_of, variant_tree, case_arm}
use Rattle.witx_ast.specs.Functions.{param_field, func_tree}
use Rattle.witx_ast.specs.Items.{item_tree}
use Rattle.witx_ast.specs.Definitions.{DefinitionTree, definition_tree}
use Rattle.witx_ast.specs.Words.{expected_payloads}
use Rattle.witx_ast.specs.ErrorTypes.{payload_of_err, type_error, results_error, function_error, item_errors, definition_errors, all_errors, new_types_after, error_types_of}
use Rattle.witx_ast.proofs.Trees.{tree-VariantDatatype}
use Rattle.witx_ast.proofs.TreeKinds.{kind_rules}
use Rattle.witx_ast.proofs.ResultLaws.{arms-listed}

pub errors-one : (xs : List InterfaceFuncParam) (p : InterfaceFuncParam) → length xs ≡ 1 → p ≡ get_or xs 0 p
    → results_error (map param_field xs) ≡ type_error (behind (tree_of p.tref))
errors-one [] p l e = absurd (omega arith)
errors-one (x ∷ []) p l e = rw e refl
errors-one (x ∷ y ∷ xs) p l e = absurd (omega arith)

pub errors-not-one : (xs : List InterfaceFuncParam) → (length xs ≡ 1 → ⊥) → results_error (map param_field xs) ≡ None
errors-not-one [] l = refl
errors-not-one (x ∷ []) l = absurd (l refl)
errors-not-one (x ∷ y ∷ xs) l = refl

pub variant-error : (v : Variant) (p : Option (Option Tree × Option Tree)) → expected_payloads (map case_arm (out-Variant v).cases) ≡ p → type_error (variant_tree v) ≡ payload_of_err p
variant-error v p e = rw (tree-VariantDatatype v, arms-listed (map case_arm (out-Variant v).cases), e) refl

-- a list after a list
pub once-append : (kept xs ys : List Tree) → and_types kept (xs ++ ys) ≡ and_types (and_types kept xs) ys
once-append kept [] ys = refl
once-append kept (x ∷ xs) ys = once-append (and_type kept x) xs ys

-- an item that is an import adds nothing; a function adds its error type, if it has one
pub items-import : (xs : List ModuleDefinition) (i : ℕ) (d : ModuleDefinition) (m : Rc ModuleImport Global) → i < length xs → d ≡ get_or xs i d → d ≡ item.Import m
    → item_errors (map item_tree (drop i xs)) ≡ item_errors (map item_tree (drop (i + 1) xs))
items-import xs i d m l p e = rw (drop_more xs i d l, ← p, e) refl

pub items-none : (xs : List ModuleDefinition) (i : ℕ) (d : ModuleDefinition) (f : Rc InterfaceFunc Global) → i < length xs → d ≡ get_or xs i d → d ≡ item.Func f
    → function_error (func_tree f.value) ≡ None → item_errors (map item_tree (drop i xs)) ≡ item_errors (map item_tree (drop (i + 1) xs))
items-none xs i d f l p e h = rw (drop_more xs i d l, ← p, e, h) refl

pub items-some : (xs : List ModuleDefinition) (i : ℕ) (d : ModuleDefinition) (f : Rc InterfaceFunc Global) (t : Tree) → i < length xs → d ≡ get_or xs i d → d ≡ item.Func f
    → function_error (func_tree f.value) ≡ Some t → item_errors (map item_tree (drop i xs)) ≡ t ∷ item_errors (map item_tree (drop (i + 1) xs))
items-some xs i d f t l p e h = rw (drop_more xs i d l, ← p, e, h) refl

pub items-end : (xs : List ModuleDefinition) (i : ℕ) → length xs ≤ i → item_errors (map item_tree (drop i xs)) ≡ []
items-end xs i l = rw (drop_all i xs l) refl

-- of definitions only modules add
pub definitions-next : (xs : List Definition) (i : ℕ) (d : Definition) → i < length xs → d ≡ get_or xs i d
    → all_errors (map definition_tree (drop i xs)) ≡ definition_errors (definition_tree d) ++ all_errors (map definition_tree (drop (i + 1) xs))
definitions-next xs i d l p = rw (drop_more xs i d l, ← p) refl

pub definitions-end : (xs : List Definition) (i : ℕ) → length xs ≤ i → all_errors (map definition_tree (drop i xs)) ≡ []
definitions-end xs i l = rw (drop_all i xs l) refl

-- the loops: what is kept so far, with what is left, makes the whole
pub once-import : (kept whole : List Tree) (xs : List ModuleDefinition) (i : ℕ) (d : ModuleDefinition) (m : Rc ModuleImport Global) → i < length xs → d ≡ get_or xs i d → d ≡ item.Import m
    → and_types kept (item_errors (map item_tree (drop i xs))) ≡ whole → and_types kept (item_errors (map item_tree (drop (i + 1) xs))) ≡ whole
once-import kept whole xs i d m l p e h = rw (items-import xs i d m l p e) at h

pub once-none : (kept whole : List Tree) (xs : List ModuleDefinition) (i : ℕ) (d : ModuleDefinition) (f : Rc InterfaceFunc Global) → i < length xs → d ≡ get_or xs i d → d ≡ item.Func f
    → function_error (func_tree f.value) ≡ None
    → and_types kept (item_errors (map item_tree (drop i xs))) ≡ whole → and_types kept (item_errors (map item_tree (drop (i + 1) xs))) ≡ whole
once-none kept whole xs i d f l p e n h = rw (items-none xs i d f l p e n) at h

pub once-some : (kept whole : List Tree) (xs : List ModuleDefinition) (i : ℕ) (d : ModuleDefinition) (f : Rc InterfaceFunc Global) (t : Tree) → i < length xs → d ≡ get_or xs i d → d ≡ item.Func f
    → function_error (func_tree f.value) ≡ Some t
    → and_types kept (item_errors (map item_tree (drop i xs))) ≡ whole → and_types (and_type kept t) (item_errors (map item_tree (drop (i + 1) xs))) ≡ whole
once-some kept whole xs i d f t l p e n h = rw (items-some xs i d f t l p e n) at h

pub once-definition : (kept whole : List Tree) (xs : List Definition) (i : ℕ) (d : Definition) → i < length xs → d ≡ get_or xs i d
    → and_types kept (all_errors (map definition_tree (drop i xs))) ≡ whole
    → and_types (and_types kept (definition_errors (definition_tree d))) (all_errors (map definition_tree (drop (i + 1) xs))) ≡ whole
once-definition kept whole xs i d l p e =
    let k = rw (definitions-next xs i d l p) at e in
    sym (once-append kept (definition_errors (definition_tree d)) (all_errors (map definition_tree (drop (i + 1) xs)))) ∙ k

-- what is taken, one after the other, is what stands nowhere before
any-more : (t x : Tree) (xs : List Tree) → list_any (same_tree t) (xs ++ x ∷ []) ≡ list_any (same_tree t) xs || same_tree t x
any-more t x xs = list_any-append (same_tree t) xs (x ∷ []) ∙ ap (λ b. list_any (same_tree t) xs || b) (or-false (same_tree t x))

-- an element that is there already
still-told : (x t : Tree) (before : List Tree) (b : Bool) → list_any (same_tree x) before ≡ true → same_tree t x ≡ b
    → list_any (same_tree t) before ≡ list_any (same_tree t) before || b
still-told x t before true h e = rw (same-to t x e, h) refl
still-told x t before false h e = sym (or-false (list_any (same_tree t) before))

taken-one : (kept before : List Tree) (x : Tree) (b : Bool) → ((t : Tree) → list_any (same_tree t) kept ≡ list_any (same_tree t) before)
    → list_any (same_tree x) before ≡ b → (t : Tree) → list_any (same_tree t) (cond b kept (kept ++ x ∷ [])) ≡ list_any (same_tree t) (before ++ x ∷ [])
taken-one kept before x true told h t = told t ∙ still-told x t before (same_tree t x) h refl ∙ sym (any-more t x before)
taken-one kept before x false told h t = any-more t x kept ∙ ap (λ b. b || same_tree t x) (told t) ∙ sym (any-more t x before)

taken-by : (kept before rest : List Tree) (x : Tree) (xs : List Tree) (b : Bool) → ((t : Tree) → list_any (same_tree t) kept ≡ list_any (same_tree t) before)
    → list_any (same_tree x) before ≡ b
    → ((now : List Tree) → ((t : Tree) → list_any (same_tree t) now ≡ list_any (same_tree t) (before ++ x ∷ [])) → and_types now xs ≡ now ++ rest)
    → and_types (cond b kept (kept ++ x ∷ [])) xs ≡ kept ++ cond b rest (x ∷ rest)
taken-by kept before rest x xs true told h more = more kept (taken-one kept before x true told h)
taken-by kept before rest x xs false told h more = more (kept ++ x ∷ []) (taken-one kept before x false told h) ∙ append_assoc kept (x ∷ []) rest

pub taken-new : (kept before xs : List Tree) → ((t : Tree) → list_any (same_tree t) kept ≡ list_any (same_tree t) before)
    → and_types kept xs ≡ kept ++ new_types_after before xs
taken-new kept before [] told = sym (append-nil kept)
taken-new kept before (x ∷ xs) told =
    rw (told x) (taken-by kept before (new_types_after (before ++ x ∷ []) xs) x xs (list_any (same_tree x) before) told refl (λ now t. taken-new now (before ++ x ∷ []) xs t))

pub taken-once : (ds : List DefinitionTree) → and_types [] (all_errors ds) ≡ error_types_of ds
taken-once ds = taken-new [] [] (all_errors ds) (λ t. refl)

-- the set after one more, and the list after one more
pub none-told : {S : Type 0} (seen : HashSet TypeRef S) → IsEmpty seen → TellsTypes seen []
none-told seen e t = rw e refl

pub one-any : {X : Type 0} (p : X → Bool) (x : X) (xs : List X) (b s : Bool) → s ≡ list_any p xs → b ≡ p x → cond b true s ≡ list_any p (xs ++ x ∷ [])
one-any p x xs true s h k = rw (list_any-append p xs (x ∷ []), ← k) (sym (or-true (list_any p xs)))
one-any p x xs false s h k = rw (list_any-append p xs (x ∷ []), ← k, h) (sym (or-false (list_any p xs)))

pub told-more : {S : Type 0} (seen after : HashSet TypeRef S) (kept now : List TypeRef) (k c e : TypeRef) → TellsTypes seen kept
    → Updates (λ a b. same_tree (tree_of a) (tree_of b)) seen after k true → tree_of k ≡ tree_of e → tree_of c ≡ tree_of e → now ≡ kept ++ c ∷ [] → TellsTypes after now
told-more seen after kept now k c e told updates p q n t =
    let alike : same_tree (tree_of k) (tree_of t) ≡ same_tree (tree_of t) (tree_of c) = tree_equivalence.symm (tree_of k) (tree_of t) ∙ ap (same_tree (tree_of t)) (p ∙ sym q) in
    rw (n, map-append tree_of kept (c ∷ [])) (updates.0 t ∙ one-any (same_tree (tree_of t)) (tree_of c) (map tree_of kept) _ _ (told t) alike)

pub ruleset error_rules = (kind_rules, errors-one, errors-not-one, variant-error, once-import, once-none, once-some, once-definition, items-end, definitions-end, none-told, taken-once)
