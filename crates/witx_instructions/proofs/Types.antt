-- What is read off a type behind its names is what is read off the type.
use Rattle.std.proofs.Common.{◌≡◌, ℕ, List, [], ◌∷◌, Bool, true, false, not, ◌&&◌, Option, Some, None, is_some, map, slice_get, refl, sym, ap, ◌∙◌, cond}
use Rattle.witx_ast.specs.Tree.{Tree, Arm, Arms, arm, arms_of, fields_of, behind}
use Rattle.witx_ast.specs.Plain.{plain, plain_arms, all_bare}
use Rattle.witx_ast.specs.Words.{all_arms_bare, is_bare}
use Rattle.witx_ast.specs.Views.{tree_of, datatype_tree, case_arm, member_field, variant_tree}
use Rattle.witx_ast.proofs.Trees.{tree-RecordMember, tree-VariantDatatype}
use Rattle.witx_ast.proofs.TreeKinds.{plain-behind}
use Rattle.witx_ast.specs.declared.types.Datatype.{Datatype}
use Rattle.witx_ast.specs.declared.types.RecordMember.{RecordMember}
use Rattle.witx_ast.specs.declared.types.Case.{Case}
use Rattle.witx_ast.specs.declared.types.Variant.{Variant, out-Variant}
use Rattle.witx_machine.specs.Functions.{tuple_types, is_tuple, member_types, ok_of, err_of, result_cases}
use Rattle.witx_instructions.specs.Views.{variant_arms}

pub plain-at : (t : Tree) (d : Datatype) → datatype_tree d ≡ behind t → plain t ≡ plain (datatype_tree d)
plain-at t d e = sym (plain-behind t) ∙ ap plain (sym e)

-- what looks through names is of a type what it is of the type behind them
pub seen-behind : {A : Type 0} (f : Tree → A) → ((n : List ℕ) (t : Tree) (d : List ℕ) → f (Tree.named n t d) ≡ f t) → (t : Tree) → f t ≡ f (behind t)
seen-behind f h (Tree.named n t d) = h n t d ∙ seen-behind f h t
seen-behind f h (Tree.builtin b) = refl
seen-behind f h Tree.handle = refl
seen-behind f h (Tree.list_of t) = refl
seen-behind f h (Tree.pointer_to t) = refl
seen-behind f h (Tree.const_pointer_to t) = refl
seen-behind f h (Tree.record_of k ms) = refl
seen-behind f h (Tree.variant_of r cs) = refl

cases-behind : (t : Tree) → result_cases t ≡ result_cases (behind t)
cases-behind t = seen-behind result_cases (λ n t d. refl) t

pub cases-at : (t : Tree) (d : Datatype) → datatype_tree d ≡ behind t → result_cases t ≡ result_cases (datatype_tree d)
cases-at t d e = cases-behind t ∙ ap result_cases (sym e)

bare-arm : (n d : List ℕ) (o : Option Tree) (cs : Arms) (b : Bool) → all_bare (plain_arms cs) ≡ b → all_bare (plain_arms (arm n o d cs)) ≡ is_bare o && b
bare-arm n d None cs b e = e
bare-arm n d (Some t) cs b e = refl

pub bare-arms : (cs : List Arm) → all_bare (plain_arms (arms_of cs)) ≡ all_arms_bare cs
bare-arms [] = refl
bare-arms (c ∷ cs) = bare-arm c.called c.comment c.payload (arms_of cs) (all_arms_bare cs) (bare-arms cs)

-- the variant of a result, where it has a payload and where it has none
pub cases-variant : (v : Variant) → result_cases (variant_tree v) ≡ cond (not (all_arms_bare (map case_arm (out-Variant v).cases))) (Some (variant_arms v)) None
cases-variant v = rw (tree-VariantDatatype v, bare-arms (map case_arm (out-Variant v).cases)) refl

pub cases-with : (v : Variant) → all_arms_bare (map case_arm (out-Variant v).cases) ≡ false → result_cases (variant_tree v) ≡ Some (variant_arms v)
cases-with v e = rw (cases-variant v, e) refl

pub cases-without : (v : Variant) → all_arms_bare (map case_arm (out-Variant v).cases) ≡ true → result_cases (variant_tree v) ≡ None
cases-without v e = rw (cases-variant v, e) refl

ok-arm : (n d : List ℕ) (o : Option Tree) (cs : Arms) → ok_of (arm n o d cs) ≡ o
ok-arm n d None cs = refl
ok-arm n d (Some t) cs = refl

err-arm : (n d : List ℕ) (o : Option Tree) (cs : Arms) → err_of (arm n o d cs) ≡ ok_of cs
err-arm n d None cs = refl
err-arm n d (Some t) cs = refl

pub ok-first : (xs : List Case) (c : Case) → slice_get xs 0 ≡ Some c → ok_of (arms_of (map case_arm xs)) ≡ (case_arm c).payload
ok-first [] c e = absurd (clash e)
  where
    clash : None ≡ Some c → ⊥
    clash e = cc
ok-first (x ∷ xs) c e =
    let same : x ≡ c = cc in
    ok-arm (case_arm x).called (case_arm x).comment (case_arm x).payload (arms_of (map case_arm xs)) ∙ ap (λ x. (case_arm x).payload) same

pub ok-none : (xs : List Case) → slice_get xs 0 ≡ None → ok_of (arms_of (map case_arm xs)) ≡ None
ok-none [] e = refl
ok-none (x ∷ xs) e = absurd (clash e)
  where
    clash : Some x ≡ None → ⊥
    clash e = cc

pub err-second : (xs : List Case) (c : Case) → slice_get xs 1 ≡ Some c → err_of (arms_of (map case_arm xs)) ≡ (case_arm c).payload
err-second [] c e = absurd (clash e)
  where
    clash : None ≡ Some c → ⊥
    clash e = cc
err-second (x ∷ xs) c e = err-arm (case_arm x).called (case_arm x).comment (case_arm x).payload (arms_of (map case_arm xs)) ∙ ok-first xs c e

pub err-none : (xs : List Case) → slice_get xs 1 ≡ None → err_of (arms_of (map case_arm xs)) ≡ None
err-none [] e = refl
err-none (x ∷ xs) e = err-arm (case_arm x).called (case_arm x).comment (case_arm x).payload (arms_of (map case_arm xs)) ∙ ok-none xs e

pub tuples-behind : (t : Tree) → tuple_types t ≡ tuple_types (behind t)
tuples-behind t = seen-behind tuple_types (λ n t d. refl) t

pub tuples-at : (t : Tree) (d : Datatype) → datatype_tree d ≡ behind t → tuple_types t ≡ tuple_types (datatype_tree d)
tuples-at t d e = tuples-behind t ∙ ap tuple_types (sym e)

pub tuple-at : (t : Tree) (d : Datatype) → datatype_tree d ≡ behind t → is_tuple t ≡ is_tuple (datatype_tree d)
tuple-at t d e = ap is_some (tuples-at t d e)

pub members-are : (ms : List RecordMember) → member_types (fields_of (map member_field ms)) ≡ map (λ m. tree_of m.tref) ms
members-are [] = refl
members-are (m ∷ ms) = rw (tree-RecordMember m, members-are ms) refl

pub ruleset type_rules = (tuples-at, members-are, plain-at, tuple-at, cases-at, cases-with, cases-without, ok-first, ok-none, err-second, err-none)
