-- What is still to be gone through, as types are taken apart.
use Rattle.std.proofs.Common.{◌≡◌, ℕ, ◌+◌, ◌<◌, ◌≤◌, List, [], ◌∷◌, ◌++◌, map, length, drop, get_or, Option, Some, None, option_map, refl, sym, ap, ◌∙◌, arith, rules}
use Rattle.std.proofs.lemmas.List.{drop_more, drop_all}
use Rattle.std.specs.declared.alloc.Global.{Global}
use Rattle.std.specs.declared.rc.Rc.{Rc}
use Rattle.witx_ast.specs.Tree.{Tree, Fields, Arms, arms_of, arm}
use Rattle.witx_ast.specs.Views.{tree_of, datatype_tree, case_arm}
use Rattle.witx_ast.specs.declared.function.InterfaceFuncParam.{InterfaceFuncParam}
use Rattle.witx_ast.specs.declared.types.Case.{Case}
use Rattle.witx_ast.specs.declared.types.Datatype.{Datatype}
use Rattle.witx_ast.specs.declared.types.Datatype.TheVariants as datatype
use Rattle.witx_ast.specs.declared.types.BuiltinType.{BuiltinType}
use Rattle.witx_ast.specs.declared.types.HandleDatatype.{HandleDatatype}
use Rattle.witx_ast.specs.declared.types.NamedType.{NamedType}
use Rattle.witx_ast.specs.declared.types.RecordDatatype.{RecordDatatype, out-RecordDatatype}
use Rattle.witx_ast.specs.declared.types.RecordMember.{RecordMember}
use Rattle.witx_ast.specs.declared.types.TypeRef.{TypeRef}
use Rattle.witx_ast.specs.declared.types.TypeRef.TheVariants as tref
use Rattle.witx_ast.specs.declared.types.Variant.{Variant, out-Variant}
use Rattle.witx_ast.proofs.Trees.{tree_rules, tree-Name, tree-Value, tree-NamedType, tree-Record, tree-Variant, tree-Handle, tree-List, tree-Pointer, tree-ConstPointer, tree-Builtin, tree-RecordDatatype, tree-VariantDatatype, tree-RecordMember, tree-Case}
use Rattle.witx_extent.specs.declared.parts.Waiting.{Waiting}
use Rattle.witx_extent.specs.Extents.{extent, fields_extent, arms_extent, params_extent}
use Rattle.witx_extent.specs.Waiting.{waiting_extent, own_extent, members_extent, payloads_extent, payload_extent, case_extent, waiting_arm_count}

waiting-append : (xs ys : List Waiting) → waiting_extent (xs ++ ys) ≡ waiting_extent xs + waiting_extent ys
waiting-append [] ys = omega arith
waiting-append (x ∷ xs) ys = let e = waiting-append xs ys in omega (arith, e)

-- one more, behind the others
pub one-more : (xs ys : List Waiting) (x : Waiting) → ys ≡ xs ++ x ∷ [] → waiting_extent ys ≡ waiting_extent xs + extent (tree_of x.tref.now)
one-more xs ys x h = let a : waiting_extent ys ≡ waiting_extent xs + (extent (tree_of x.tref.now) + 0) = ap waiting_extent h ∙ waiting-append xs (x ∷ []) in omega (arith, a)

-- what a type is beside its parts
pub own-name : (t : TypeRef) (n : Rc NamedType Global) → t ≡ tref.Name n → own_extent (tree_of t) ≡ 1
own-name t n e = rw (e, tree-Name n, tree-NamedType n.value) refl

pub own-value : (t : TypeRef) (d : Rc Datatype Global) → t ≡ tref.Value d → own_extent (tree_of t) ≡ own_extent (datatype_tree d.value)
own-value t d e = rw (e, tree-Value d) refl

all-arms : (cs : List Case) → waiting_arm_count (arms_of (map case_arm cs)) ≡ length cs
all-arms [] = refl
all-arms (c ∷ cs) = rw (tree-Case c) (by c.tref (all-arms cs))
  where
    by : (o : Option TypeRef) → waiting_arm_count (arms_of (map case_arm cs)) ≡ length cs → waiting_arm_count (arm c.name (option_map tree_of o) c.docs (arms_of (map case_arm cs))) ≡ length (c ∷ cs)
    by None e = omega (arith, e)
    by (Some t) e = omega (arith, e)

pub own-variant : (d : Datatype) (v : Variant) → d ≡ datatype.Variant v → own_extent (datatype_tree d) ≡ length (out-Variant v).cases + 1
own-variant d v e = rw (e, tree-Variant v, tree-VariantDatatype v) (let a = all-arms (out-Variant v).cases in omega (arith, a))

pub own-some : (t : Tree) → 1 ≤ own_extent t
own-some (Tree.named name t docs) = omega arith
own-some (Tree.builtin b) = omega arith
own-some Tree.handle = omega arith
own-some (Tree.list_of t) = omega arith
own-some (Tree.pointer_to t) = omega arith
own-some (Tree.const_pointer_to t) = omega arith
own-some (Tree.record_of kind ms) = omega arith
own-some (Tree.variant_of repr cs) = omega arith

-- a type with its parts
pub name-parts : (n o : ℕ) (t : TypeRef) (m : Rc NamedType Global) → t ≡ tref.Name m → n ≡ o + extent (tree_of m.value.tref) → n + own_extent (tree_of t) ≡ o + extent (tree_of t)
name-parts n o t m e h = rw (e, tree-Name m, tree-NamedType m.value) (omega (arith, h))

pub value-parts : (n o : ℕ) (t : TypeRef) (d : Rc Datatype Global) → t ≡ tref.Value d → n + own_extent (datatype_tree d.value) ≡ o + extent (datatype_tree d.value) → n + own_extent (tree_of t) ≡ o + extent (tree_of t)
value-parts n o t d e h = rw (e, tree-Value d) h

pub record-parts : (n o : ℕ) (d : Datatype) (r : RecordDatatype) → d ≡ datatype.Record r → n ≡ o + members_extent (out-RecordDatatype r).members → n + own_extent (datatype_tree d) ≡ o + extent (datatype_tree d)
record-parts n o d r e h = rw (e, tree-Record r, tree-RecordDatatype r) (omega (arith, h))

all-cases : (cs : Arms) → arms_extent cs ≡ waiting_arm_count cs + payload_extent cs
all-cases Arms.no_arms = omega arith
all-cases (Arms.bare name docs cs) = let e = all-cases cs in omega (arith, e)
all-cases (Arms.carries name t docs cs) = let e = all-cases cs in omega (arith, e)

pub variant-parts : (n o : ℕ) (d : Datatype) (v : Variant) → d ≡ datatype.Variant v → n ≡ o + payloads_extent (out-Variant v).cases → n + own_extent (datatype_tree d) ≡ o + extent (datatype_tree d)
variant-parts n o d v e h = rw (e, tree-Variant v, tree-VariantDatatype v) (let a = all-cases (arms_of (map case_arm (out-Variant v).cases)) in omega (arith, h, a))

pub list-parts : (n o : ℕ) (d : Datatype) (t : TypeRef) → d ≡ datatype.List t → n ≡ o + extent (tree_of t) → n + own_extent (datatype_tree d) ≡ o + extent (datatype_tree d)
list-parts n o d t e h = rw (e, tree-List t) (omega (arith, h))

pub pointer-parts : (n o : ℕ) (d : Datatype) (t : TypeRef) → d ≡ datatype.Pointer t → n ≡ o + extent (tree_of t) → n + own_extent (datatype_tree d) ≡ o + extent (datatype_tree d)
pointer-parts n o d t e h = rw (e, tree-Pointer t) (omega (arith, h))

pub const-pointer-parts : (n o : ℕ) (d : Datatype) (t : TypeRef) → d ≡ datatype.ConstPointer t → n ≡ o + extent (tree_of t) → n + own_extent (datatype_tree d) ≡ o + extent (datatype_tree d)
const-pointer-parts n o d t e h = rw (e, tree-ConstPointer t) (omega (arith, h))

-- one member, and one payload, after the other
pub next-member : (n o all : ℕ) (ms : List RecordMember) (i : ℕ) (m : RecordMember) → i < length ms → m ≡ get_or ms i m → n ≡ o + extent (tree_of m.tref)
    → o + members_extent (drop i ms) ≡ all → n + members_extent (drop (i + 1) ms) ≡ all
next-member n o all ms i m l e h k = let q = rw (drop_more ms i m l, ← e, tree-RecordMember m) at k in omega (arith, h, q)

pub all-members : (n all : ℕ) (ms : List RecordMember) (i : ℕ) → length ms ≤ i → n + members_extent (drop i ms) ≡ all → n ≡ all
all-members n all ms i l k = let q = rw (drop_all i ms l) at k in omega (arith, q)

case-first : (c : Case) (cs : List Case) → payloads_extent (c ∷ cs) ≡ case_extent c + payloads_extent cs
case-first c cs = rw (tree-Case c) (by c.tref)
  where
    by : (o : Option TypeRef) → payload_extent (arm c.name (option_map tree_of o) c.docs (arms_of (map case_arm cs)))
        ≡ payload_extent (arm c.name (option_map tree_of o) c.docs Arms.no_arms) + payloads_extent cs
    by None = omega arith
    by (Some t) = omega arith

pub next-case : (n o all : ℕ) (cs : List Case) (i : ℕ) (c : Case) → i < length cs → c ≡ get_or cs i c → n ≡ o + case_extent c
    → o + payloads_extent (drop i cs) ≡ all → n + payloads_extent (drop (i + 1) cs) ≡ all
next-case n o all cs i c l e h k =
    let f = case-first c (drop (i + 1) cs) in
    let q = rw (drop_more cs i c l, ← e) at k in
    omega (arith, h, q, f)

pub all-payloads : (n all : ℕ) (cs : List Case) (i : ℕ) → length cs ≤ i → n + payloads_extent (drop i cs) ≡ all → n ≡ all
all-payloads n all cs i l k = let q = rw (drop_all i cs l) at k in omega (arith, q)

pub carried : (n o : ℕ) (c : Case) (t : TypeRef) → c.tref ≡ Some t → n ≡ o + extent (tree_of t) → n ≡ o + case_extent c
carried n o c t e h = rw (tree-Case c, e) (omega (arith, h))

pub bare : (n : ℕ) (c : Case) → c.tref ≡ None → n ≡ n + case_extent c
bare n c e = rw (tree-Case c, e) (omega arith)

-- one is taken
pub taken : (left now whole start : ℕ) (all rest new : List Waiting) (x : Waiting) → all ≡ rest ++ x ∷ [] → now + own_extent (tree_of x.tref.now) ≡ left
    → waiting_extent new + own_extent (tree_of x.tref.now) ≡ waiting_extent rest + extent (tree_of x.tref.now)
    → left + whole ≡ start + waiting_extent all → now + whole ≡ start + waiting_extent new
taken left now whole start all rest new x e h k s = let a = one-more rest all x e in omega (arith, h, k, s, a)

-- one parameter after the other
pub next-param : (left now all start : ℕ) (ps : List InterfaceFuncParam) (i : ℕ) (p : InterfaceFuncParam) → i < length ps → p ≡ get_or ps i p
    → now + extent (tree_of p.tref) ≡ left → left + all ≡ start + params_extent (drop i ps) → now + all ≡ start + params_extent (drop (i + 1) ps)
next-param left now all start ps i p l e h k = let q = rw (drop_more ps i p l, ← e) at k in omega (arith, h, q)

pub all-params : (left all start : ℕ) (ps : List InterfaceFuncParam) (i : ℕ) → length ps ≤ i → left + all ≡ start + params_extent (drop i ps) → left + all ≡ start
all-params left all start ps i l k = let q = rw (drop_all i ps l) at k in omega (arith, q)

pub fewer : (left now : ℕ) (x : Waiting) → now + own_extent (tree_of x.tref.now) ≡ left → now < left
fewer left now x h = let a = own-some (tree_of x.tref.now) in omega (arith, h, a)

pub ruleset extent_rules = (tree_rules, one-more, own-name, own-value, own-variant, name-parts, value-parts, record-parts, variant-parts, list-parts, pointer-parts, const-pointer-parts, next-member, all-members, next-case, all-payloads, carried, bare, taken, fewer, next-param, all-params)
