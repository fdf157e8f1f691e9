-- The derived comparisons say whether the trees are the same.
use Rattle.std.specs.Prelude.{◌≡◌, ℕ, true, List, [], ◌∷◌, Bool, false, ◌&&◌, map, Option, None, Some, option_map}
use Rattle.std.proofs.Common.{arith, refl, sym}
use Rattle.std.specs.Cmp.Lexicographic.{pointwise}
use Rattle.witx_ast.specs.Tree.{Tree, named, Arms, no_arms, arm, fields_of, arms_of}
use Rattle.witx_ast.specs.Views.{tree_of, datatype_tree, named_tree, member_field, case_arm}
use Rattle.witx_base.specs.SameBytes.{same_bytes}
use Rattle.witx_ast.specs.Same.{same_tree, same_fields, same_arms}
use Rattle.witx_ast.proofs.TreeKinds.{form_tree, form-is}
use Rattle.witx_ast.proofs.Trees.{tree-Name, tree-Value, tree-NamedType, tree-RecordMember, tree-Case}
use Rattle.witx_ast.specs.declared.types.Datatype.{Datatype, Record, Variant, Handle, List as ListOf, Pointer, ConstPointer, Builtin}
use Rattle.witx_ast.specs.declared.types.NamedType.{NamedType}
use Rattle.witx_ast.specs.declared.types.RecordMember.{RecordMember}
use Rattle.witx_ast.specs.declared.types.Case.{Case}
use Rattle.witx_ast.specs.declared.types.RecordDatatype.{out-RecordDatatype}
use Rattle.witx_ast.specs.declared.types.Variant.{out-Variant}
use Rattle.witx_ast.specs.contracts.types.DatatypePartialEq.TheImpl as datatypes
use Rattle.witx_ast.specs.contracts.types.NamedTypePartialEq.TheImpl as names
use Rattle.witx_ast.specs.contracts.types.RecordMemberPartialEq.TheImpl as members
use Rattle.witx_ast.specs.contracts.types.CasePartialEq.TheImpl as cases
use Rattle.witx_ast.specs.SameLaws.{same-decides}
use Rattle.std.specs.Prelude.{IsTrue}
use Rattle.witx_ast.specs.contracts.types.TypeRefPartialEq.TheImpl as trefs
use Rattle.std.specs.Option.{option_eq}
use Rattle.witx_ast.specs.declared.types.TypeRef.{TypeRef}

pub rows-same : (xs ys : List RecordMember) → pointwise members.ghosts.eq xs ys ≡ same_fields (fields_of (map member_field xs)) (fields_of (map member_field ys))
rows-same [] [] = refl
rows-same [] (y ∷ ys) = refl
rows-same (x ∷ xs) [] = refl
rows-same (x ∷ xs) (y ∷ ys) = rw (tree-RecordMember x, tree-RecordMember y, ← rows-same xs ys) refl

pub and-false : (a r : Bool) → a && false && r ≡ false
and-false true r = refl
and-false false r = refl

pub arm-same : (n m d e : List ℕ) (a b : Option TypeRef) (cs ds : Arms) (rest : Bool) → rest ≡ same_arms cs ds
    → same_bytes n m && (option_eq trefs.ghosts.eq a b && same_bytes d e) && rest ≡ same_arms (arm n (option_map tree_of a) d cs) (arm m (option_map tree_of b) e ds)
arm-same n m d e None None cs ds rest h = rw h refl
arm-same n m d e None (Some u) cs ds rest h = and-false (same_bytes n m) rest
arm-same n m d e (Some t) None cs ds rest h = and-false (same_bytes n m) rest
arm-same n m d e (Some t) (Some u) cs ds rest h = rw h refl

pub arm-none : (n d : List ℕ) (a : Option Tree) (cs : Arms) → same_arms (arm n a d cs) no_arms ≡ false
arm-none n d None cs = refl
arm-none n d (Some t) cs = refl

pub none-arm : (n d : List ℕ) (a : Option Tree) (cs : Arms) → same_arms no_arms (arm n a d cs) ≡ false
none-arm n d None cs = refl
none-arm n d (Some t) cs = refl

pub arms-same : (xs ys : List Case) → pointwise cases.ghosts.eq xs ys ≡ same_arms (arms_of (map case_arm xs)) (arms_of (map case_arm ys))
arms-same [] [] = refl
arms-same [] (y ∷ ys) = sym (none-arm _ _ _ _)
arms-same (x ∷ xs) [] = sym (arm-none _ _ _ _)
arms-same (x ∷ xs) (y ∷ ys) = rw (tree-Case x, tree-Case y) (arm-same _ _ _ _ x.tref y.tref _ _ _ (arms-same xs ys))

pub named-same : (m n : NamedType) → names.ghosts.eq m n ≡ same_tree (named_tree m) (named_tree n)
named-same m n = rw (tree-NamedType m, tree-NamedType n) refl

pub past : (a b c : Bool) → (a && b) ≡ true → (a && (c && b)) ≡ c
past true true true h = refl
past true true false h = refl
past true false c h = grind arith
past false b c h = grind arith

pub apart : (a b c : Bool) → (a && b) ≡ false → (a && (c && b)) ≡ false
apart true true c h = grind arith
apart true false true h = refl
apart true false false h = refl
apart false b c h = refl

-- names that are called alike are the same where what they stand for is
pub names-past : (m n : NamedType) → (same_bytes m.name n.name && same_bytes m.docs n.docs) ≡ true
    → same_tree (named_tree m) (named_tree n) ≡ same_tree (tree_of m.tref) (tree_of n.tref)
names-past m n h = rw (tree-NamedType m, tree-NamedType n) (past (same_bytes m.name n.name) (same_bytes m.docs n.docs) (same_tree (tree_of m.tref) (tree_of n.tref)) h)

pub names-apart : (m n : NamedType) → (same_bytes m.name n.name && same_bytes m.docs n.docs) ≡ false
    → same_tree (named_tree m) (named_tree n) ≡ false
names-apart m n h = rw (tree-NamedType m, tree-NamedType n) (apart (same_bytes m.name n.name) (same_bytes m.docs n.docs) (same_tree (tree_of m.tref) (tree_of n.tref)) h)

forms-same : (d e : Datatype) → datatypes.ghosts.eq d e ≡ same_tree (form_tree d) (form_tree e)
forms-same (Record r) (Record s) = rw (← rows-same (out-RecordDatatype r).members (out-RecordDatatype s).members) refl
forms-same (Variant v) (Variant w) = rw (← arms-same (out-Variant v).cases (out-Variant w).cases) refl
forms-same (Handle h) (Handle g) = refl
forms-same (ListOf t) (ListOf u) = refl
forms-same (Pointer t) (Pointer u) = refl
forms-same (ConstPointer t) (ConstPointer u) = refl
forms-same (Builtin b) (Builtin c) = refl
forms-same _ _ = refl

pub datatype-same : (d e : Datatype) → datatypes.ghosts.eq d e ≡ same_tree (datatype_tree d) (datatype_tree e)
datatype-same d e = rw (form-is d, form-is e) (forms-same d e)

-- a name is no form
name-form : (name : List ℕ) (t : Tree) (docs : List ℕ) (d : Datatype) → same_tree (named name t docs) (form_tree d) ≡ false
name-form name t docs (Record r) = refl
name-form name t docs _ = refl

form-name : (name : List ℕ) (t : Tree) (docs : List ℕ) (d : Datatype) → same_tree (form_tree d) (named name t docs) ≡ false
form-name name t docs (Record r) = refl
form-name name t docs _ = refl

pub name-value : (n : NamedType) (d : Datatype) → same_tree (named_tree n) (datatype_tree d) ≡ false
name-value n d = rw (tree-NamedType n, form-is d) (name-form n.name (tree_of n.tref) n.docs d)

pub value-name : (n : NamedType) (d : Datatype) → same_tree (datatype_tree d) (named_tree n) ≡ false
value-name n d = rw (tree-NamedType n, form-is d) (form-name n.name (tree_of n.tref) n.docs d)

pub trefs-decide : (b : Bool) (x y : TypeRef) → b ≡ same_tree (tree_of x) (tree_of y) → (IsTrue b → tree_of x ≡ tree_of y) × (tree_of x ≡ tree_of y → IsTrue b)
trefs-decide b x y e = same-decides b (tree_of x) (tree_of y) e

pub ruleset same_rules = (tree-Name, tree-Value, names-past, names-apart, datatype-same, name-value, value-name)
