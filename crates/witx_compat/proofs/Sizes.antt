-- How many types there are to a plain one: it falls at each step down.
use Rattle.std.specs.Prelude.{◌≡◌, ℕ, zero, suc, ◌+◌, ◌≤◌, ◌<◌, List, [], ◌∷◌, length, drop, Option, Some, None}
use Rattle.std.proofs.Common.{refl, arith, get_or}
use Rattle.witx_ast.specs.Plain.{Plain, Fields, Arms, plain, plain_arms}
use Rattle.witx_ast.specs.Tree.{Tree, arm}
use Rattle.witx_ast.specs.Tree as arms
use Rattle.witx_ast.specs.Views.{tree_of, datatype_tree, record_tree, variant_tree, members_plain, cases_plain, case_arm}
use Rattle.witx_ast.specs.declared.types.Datatype.{Datatype}
use Rattle.witx_ast.specs.declared.types.Datatype.TheVariants as datatype
use Rattle.witx_ast.specs.declared.types.TypeRef.{TypeRef}
use Rattle.witx_ast.specs.declared.types.Case.{Case}
use Rattle.witx_ast.specs.declared.types.RecordMember.{RecordMember}
use Rattle.witx_ast.specs.declared.types.RecordDatatype.{RecordDatatype, out-RecordDatatype}
use Rattle.witx_ast.specs.declared.types.Variant.{Variant, out-Variant}
use Rattle.witx_ast.proofs.Parts.{members-drop, cases-carries, record-plain, variant-plain}
use Rattle.witx_ast.proofs.Trees.{tree-Record, tree-Variant, tree-List, tree-Pointer, tree-ConstPointer}

abbrev mutual
  pub size : Plain → ℕ
  size (Plain.builtin b) = 1
  size Plain.handle = 1
  size (Plain.list_of t) = size t + 1
  size (Plain.pointer_to t) = size t + 1
  size (Plain.const_pointer_to t) = size t + 1
  size (Plain.record_of kind ms) = member_sizes ms + 1
  size (Plain.variant_of tag cs) = payload_sizes cs + 1

  pub member_sizes : Fields → ℕ
  member_sizes Fields.no_fields = 0
  member_sizes (Fields.field name t ms) = size t + member_sizes ms

  pub payload_sizes : Arms → ℕ
  payload_sizes Arms.no_arms = 0
  payload_sizes (Arms.bare name cs) = payload_sizes cs
  payload_sizes (Arms.carries name t cs) = size t + payload_sizes cs

pub size-record : (d : Datatype) (r : RecordDatatype) → d ≡ datatype.Record r → size (plain (datatype_tree d)) ≡ size (plain (record_tree r))
size-record d r e = rw (e, tree-Record r) refl

pub size-variant : (d : Datatype) (v : Variant) → d ≡ datatype.Variant v → size (plain (datatype_tree d)) ≡ size (plain (variant_tree v))
size-variant d v e = rw (e, tree-Variant v) refl

pub size-list : (d : Datatype) (t : TypeRef) → d ≡ datatype.List t → size (plain (datatype_tree d)) ≡ size (plain (tree_of t)) + 1
size-list d t e = rw (e, tree-List t) refl

pub size-pointer : (d : Datatype) (t : TypeRef) → d ≡ datatype.Pointer t → size (plain (datatype_tree d)) ≡ size (plain (tree_of t)) + 1
size-pointer d t e = rw (e, tree-Pointer t) refl

pub size-const-pointer : (d : Datatype) (t : TypeRef) → d ≡ datatype.ConstPointer t → size (plain (datatype_tree d)) ≡ size (plain (tree_of t)) + 1
size-const-pointer d t e = rw (e, tree-ConstPointer t) refl

-- members

members-left : (xs : List RecordMember) (i : ℕ) → member_sizes (members_plain (drop i xs)) ≤ member_sizes (members_plain xs)
members-left xs zero = omega arith
members-left [] (suc i) = omega arith
members-left (x ∷ xs) (suc i) = let h = members-left xs i in omega (arith, h)

pub member-size : (r : RecordDatatype) (xs : List RecordMember) (i : ℕ) (m : RecordMember) → xs ≡ (out-RecordDatatype r).members → i < length xs → m ≡ get_or xs i m
    → size (plain (tree_of m.tref)) + 1 ≤ size (plain (record_tree r))
member-size r xs i m e l p =
    let left = members-left xs i in
    let step : member_sizes (members_plain (drop i xs)) ≡ size (plain (tree_of m.tref)) + member_sizes (members_plain (drop (i + 1) xs)) = rw (members-drop xs i m l p) refl in
    let whole : size (plain (record_tree r)) ≡ member_sizes (members_plain xs) + 1 = rw (record-plain r, ← e) refl in
    omega (arith, left, step, whole)

-- payloads

arm-left : (name docs : List ℕ) (o : Option Tree) (cs : arms.Arms) (n : ℕ) → n ≤ payload_sizes (plain_arms cs) → n ≤ payload_sizes (plain_arms (arm name o docs cs))
arm-left name docs None cs n h = h
arm-left name docs (Some t) cs n h = omega (arith, h)

payloads-left : (xs : List Case) (i : ℕ) → payload_sizes (cases_plain (drop i xs)) ≤ payload_sizes (cases_plain xs)
payloads-left xs zero = omega arith
payloads-left [] (suc i) = omega arith
payloads-left (x ∷ xs) (suc i) = arm-left _ _ (case_arm x).payload _ _ (payloads-left xs i)

pub payload-size : (v : Variant) (xs : List Case) (i : ℕ) (c : Case) (t : TypeRef) → xs ≡ (out-Variant v).cases → i < length xs → c ≡ get_or xs i c → c.tref ≡ Some t
    → size (plain (tree_of t)) + 1 ≤ size (plain (variant_tree v))
payload-size v xs i c t e l p h =
    let left = payloads-left xs i in
    let step : payload_sizes (cases_plain (drop i xs)) ≡ size (plain (tree_of t)) + payload_sizes (cases_plain (drop (i + 1) xs)) = rw (cases-carries xs i c t l p h) refl in
    let whole : size (plain (variant_tree v)) ≡ payload_sizes (cases_plain xs) + 1 = rw (variant-plain v, ← e) refl in
    omega (arith, left, step, whole)
