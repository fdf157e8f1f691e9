-- Which functions can be lowered, read off the program's types.
use Rattle.std.proofs.Common.{◌≡◌, ◌<◌, ◌≤◌, ◌+◌, ℕ, List, [], ◌∷◌, Bool, true, false, not, ◌&&◌, ◌||◌, Option, Some, None, is_some, map, length, drop, get_or, suc, refl, sym, ap, ◌∙◌, cond, arith}
use Rattle.std.specs.List.{position, prefix_len}
use Rattle.std.proofs.lemmas.List.{drop_more}
use Rattle.witx_ast.specs.Tree.{Tree, Arm, arms_of, arm_list, behind}
use Rattle.witx_ast.specs.Plain.{plain_arms}
use Rattle.witx_ast.specs.Words.{all_arms_bare, is_named, is_expected, expected_payloads}
use Rattle.witx_ast.specs.Views.{tree_of, datatype_tree, variant_tree, case_arm}
use Rattle.witx_ast.proofs.Trees.{tree-VariantDatatype}
use Rattle.witx_ast.proofs.ResultLaws.{arms-listed}
use Rattle.witx_ast.specs.declared.function.Abi.{Abi}
use Rattle.witx_ast.specs.declared.types.Datatype.{Datatype}
use Rattle.witx_ast.specs.declared.types.RecordMember.{RecordMember}
use Rattle.witx_ast.specs.declared.types.Variant.{Variant, out-Variant}
use Rattle.witx_ast.specs.declared.function.InterfaceFuncParam.{InterfaceFuncParam}
use Rattle.witx_machine.specs.Functions.{has_payload}
use Rattle.witx_machine.specs.Lowerable.{can_be_param, can_be_result, can_return, earlier_place, unlowerable_result, none_or_names, members_are_named, all_names}
use Rattle.witx_machine.specs.declared.surface.Place.{Place}
use Rattle.witx_instructions.specs.Views.{variant_arms, param_types}
use Rattle.witx_instructions.proofs.Types.{bare-arms, members-are, tuples-at}

pub prefix-map : {A B : Type 0} (p : B → Bool) (f : A → B) (xs : List A) → prefix_len p (map f xs) ≡ prefix_len (λ x. p (f x)) xs
prefix-map p f [] = refl
prefix-map p f (x ∷ xs) = ap (λ n. cond (p (f x)) (1 + n) 0) (prefix-map p f xs)

pub length-map : {A B : Type 0} (f : A → B) (xs : List A) → length (map f xs) ≡ length xs
length-map f [] = refl
length-map f (x ∷ xs) = ap suc (length-map f xs)

-- the first parameter that fails is found by its type
pub position-types : (ps : List InterfaceFuncParam) → position (λ t. not (can_be_param t)) (param_types ps) ≡ position (λ p. not (can_be_param (tree_of p.tref))) ps
position-types ps = rw (prefix-map (λ t. not (not (can_be_param t))) (λ p. tree_of p.tref) ps, length-map (λ p. tree_of p.tref) ps) refl

pub first-found : (ps : List InterfaceFuncParam) (i : ℕ) (r : Option Place) → position (λ p. not (can_be_param (tree_of p.tref))) ps ≡ Some i → earlier_place (position (λ t. not (can_be_param t)) (param_types ps)) r ≡ Some (Place.Param i)
first-found ps i r e = rw (position-types ps, e) refl

pub first-missing : (ps : List InterfaceFuncParam) (r : Option Place) → position (λ p. not (can_be_param (tree_of p.tref))) ps ≡ None → earlier_place (position (λ t. not (can_be_param t)) (param_types ps)) r ≡ r
first-missing ps r e = rw (position-types ps, e) refl

pub result-none : (abi : Abi) (xs : List InterfaceFuncParam) → length xs < 1 → unlowerable_result abi (param_types xs) ≡ None
result-none abi [] l = refl
result-none abi (x ∷ xs) l = absurd (omega arith)

pub result-good : (abi : Abi) (xs : List InterfaceFuncParam) (x : InterfaceFuncParam) → 1 ≤ length xs → length xs < 2 → x ≡ get_or xs 0 x → can_be_result abi (tree_of x.tref) ≡ true → unlowerable_result abi (param_types xs) ≡ None
result-good abi [] x l m p e = absurd (omega arith)
result-good abi (y ∷ []) x l m p e = rw (← p, e) refl
result-good abi (y ∷ z ∷ xs) x l m p e = absurd (omega arith)

pub result-bad : (abi : Abi) (xs : List InterfaceFuncParam) (x : InterfaceFuncParam) → 1 ≤ length xs → length xs < 2 → x ≡ get_or xs 0 x → can_be_result abi (tree_of x.tref) ≡ false → unlowerable_result abi (param_types xs) ≡ Some (Place.Result 0)
result-bad abi [] x l m p e = absurd (omega arith)
result-bad abi (y ∷ []) x l m p e = rw (← p, e) refl
result-bad abi (y ∷ z ∷ xs) x l m p e = absurd (omega arith)

pub result-many : (abi : Abi) (xs : List InterfaceFuncParam) → 2 ≤ length xs → unlowerable_result abi (param_types xs) ≡ Some (Place.Result 1)
result-many abi [] l = absurd (omega arith)
result-many abi (x ∷ []) l = absurd (omega arith)
result-many abi (x ∷ y ∷ xs) l = refl

return-behind : (b : Bool) (t : Tree) → can_return b t ≡ can_return (b || is_named t) (behind t)
return-behind true (Tree.named n t d) = return-behind true t ∙ refl
return-behind false (Tree.named n t d) = return-behind true t ∙ refl
return-behind true (Tree.builtin b) = refl
return-behind false (Tree.builtin b) = refl
return-behind true Tree.handle = refl
return-behind false Tree.handle = refl
return-behind true (Tree.list_of t) = refl
return-behind false (Tree.list_of t) = refl
return-behind true (Tree.pointer_to t) = refl
return-behind false (Tree.pointer_to t) = refl
return-behind true (Tree.const_pointer_to t) = refl
return-behind false (Tree.const_pointer_to t) = refl
return-behind true (Tree.record_of k ms) = refl
return-behind false (Tree.record_of k ms) = refl
return-behind true (Tree.variant_of r cs) = refl
return-behind false (Tree.variant_of r cs) = refl

pub result-at : (t : Tree) (d : Datatype) → datatype_tree d ≡ behind t → can_be_result Abi.Preview1 t ≡ can_return (is_named t) (datatype_tree d)
result-at t d e = return-behind false t ∙ ap (can_return (is_named t)) (sym e)

pub members-at : (t : Tree) (d : Datatype) → datatype_tree d ≡ behind t → members_are_named t ≡ members_are_named (datatype_tree d)
members-at t d e = ap none_or_names (tuples-at t d e)

pub expected-is : (cs : List Arm) → is_expected (arm_list (arms_of cs)) ≡ is_some (expected_payloads cs)
expected-is cs = ap is_expected (arms-listed cs)

pub payload-is : (v : Variant) → has_payload (plain_arms (variant_arms v)) ≡ not (all_arms_bare (map case_arm (out-Variant v).cases))
payload-is v = ap not (bare-arms (map case_arm (out-Variant v).cases))

pub variant-is : (v : Variant) → variant_tree v ≡ Tree.variant_of (out-Variant v).tag_repr (variant_arms v)
variant-is v = tree-VariantDatatype v

-- a loop over members: what is left before an item is that item and what is left after it
pub names-drop : (xs : List RecordMember) (i : ℕ) (m : RecordMember) → i < length xs → m ≡ get_or xs i m → all_names (map (λ m. tree_of m.tref) (drop i xs)) ≡ is_named (tree_of m.tref) && all_names (map (λ m. tree_of m.tref) (drop (i + 1) xs))
names-drop xs i m l p = rw (drop_more xs i m l, ← p) refl

pub ruleset lowerable_rules = (first-found, first-missing, result-none, result-good, result-bad, result-many, result-at, members-at, members-are, expected-is, payload-is, variant-is, names-drop)
