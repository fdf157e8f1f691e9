-- One more member, or one more case, in a pass that looks names up in a table: what is known of those left, and how
-- many steps are taken.
use Rattle.std.specs.Prelude.{◌≡◌, ℕ, ◌+◌, ◌≤◌, ◌<◌, List, length, drop, map, Some, None}
use Rattle.std.proofs.Common.{arith, get_or, refl}
use Rattle.std.proofs.lemmas.List.{drop_more}
use Rattle.witx_ast.specs.Tree.{Tree, fields_of, arms_of}
use Rattle.witx_ast.specs.Views.{tree_of, record_tree, variant_tree, datatype_tree, member_field, case_arm}
use Rattle.witx_ast.proofs.Trees.{tree-Record, tree-Variant, tree-Value, tree-RecordMember, tree-Case, tree-RecordDatatype, tree-VariantDatatype}
use Rattle.witx_ast.specs.declared.types.RecordMember.{RecordMember}
use Rattle.witx_ast.specs.declared.types.Case.{Case}
use Rattle.witx_ast.specs.declared.types.TypeRef.{TypeRef}
use Rattle.witx_ast.specs.declared.types.TypeRef.TheVariants as tref
use Rattle.witx_ast.specs.declared.types.Datatype.{Datatype}
use Rattle.witx_ast.specs.declared.types.Datatype.TheVariants as datatype
use Rattle.std.specs.declared.alloc.Global.{Global}
use Rattle.std.specs.declared.rc.Rc.{Rc}
use Rattle.witx_ast.specs.declared.types.RecordDatatype.{RecordDatatype, out-RecordDatatype}
use Rattle.witx_ast.specs.declared.types.Variant.{Variant, out-Variant}
use Rattle.witx_layout.specs.declared.layout.SizeAlign.{SizeAlign}
use Rattle.witx_layout.specs.Nodes.{type_nodes, field_nodes, arm_nodes}
use Rattle.witx_layout.specs.Known.{Knows, KnowsFields, KnowsArms}
use Rattle.witx_layout.proofs.Onward.{layout_rules}

-- a type is a node at least
pub some-nodes : (t : Tree) → 1 ≤ type_nodes t
some-nodes (Tree.named name t docs) = omega arith
some-nodes _ = omega arith

pub record-known : (table : List (List ℕ × SizeAlign)) (r : RecordDatatype) → Knows table (record_tree r) → KnowsFields table (fields_of (map member_field (out-RecordDatatype r).members))
record-known table r h = rw (tree-RecordDatatype r) at h

pub variant-known : (table : List (List ℕ × SizeAlign)) (v : Variant) → Knows table (variant_tree v) → KnowsArms table (arms_of (map case_arm (out-Variant v).cases))
variant-known table v h = rw (tree-VariantDatatype v) at h

pub record-nodes : (r : RecordDatatype) → type_nodes (record_tree r) ≡ field_nodes (fields_of (map member_field (out-RecordDatatype r).members)) + 1
record-nodes r = rw (tree-RecordDatatype r) refl

pub variant-nodes : (v : Variant) → type_nodes (variant_tree v) ≡ arm_nodes (arms_of (map case_arm (out-Variant v).cases)) + 1
variant-nodes v = rw (tree-VariantDatatype v) refl

pub in-record : (table : List (List ℕ × SizeAlign)) (d : Datatype) (r : RecordDatatype) → d ≡ datatype.Record r → Knows table (datatype_tree d) → Knows table (record_tree r)
in-record table d r e h = rw (e, tree-Record r) at h

pub in-variant : (table : List (List ℕ × SizeAlign)) (d : Datatype) (v : Variant) → d ≡ datatype.Variant v → Knows table (datatype_tree d) → Knows table (variant_tree v)
in-variant table d v e h = rw (e, tree-Variant v) at h

pub in-value : (table : List (List ℕ × SizeAlign)) (t : TypeRef) (d : Rc Datatype Global) → t ≡ tref.Value d → Knows table (tree_of t) → Knows table (datatype_tree d.value)
in-value table t d e h = rw (e, tree-Value d) at h

pub in-record-nodes : (d : Datatype) (r : RecordDatatype) → d ≡ datatype.Record r → type_nodes (datatype_tree d) ≡ type_nodes (record_tree r)
in-record-nodes d r e = rw (e, tree-Record r) refl

pub in-variant-nodes : (d : Datatype) (v : Variant) → d ≡ datatype.Variant v → type_nodes (datatype_tree d) ≡ type_nodes (variant_tree v)
in-variant-nodes d v e = rw (e, tree-Variant v) refl

pub in-value-nodes : (t : TypeRef) (d : Rc Datatype Global) → t ≡ tref.Value d → type_nodes (tree_of t) ≡ type_nodes (datatype_tree d.value)
in-value-nodes t d e = rw (e, tree-Value d) refl

-- members
abbrev pub left_nodes : List RecordMember → ℕ → ℕ
left_nodes xs i = field_nodes (fields_of (map member_field (drop i xs)))

abbrev pub LeftKnown : List (List ℕ × SizeAlign) → List RecordMember → ℕ → Type 0
LeftKnown table xs i = KnowsFields table (fields_of (map member_field (drop i xs)))

nodes-drop : (xs : List RecordMember) (i : ℕ) (m : RecordMember) → i < length xs → m ≡ get_or xs i m
    → left_nodes xs i ≡ type_nodes (tree_of m.tref) + left_nodes xs (i + 1)
nodes-drop xs i m l p = rw (drop_more xs i m l, ← p, tree-RecordMember m) refl

known-drop : (table : List (List ℕ × SizeAlign)) (xs : List RecordMember) (i : ℕ) (m : RecordMember) → i < length xs → m ≡ get_or xs i m
    → LeftKnown table xs i → Knows table (tree_of m.tref) × LeftKnown table xs (i + 1)
known-drop table xs i m l p h = rw (drop_more xs i m l, ← p, tree-RecordMember m) at h

pub member-known : (table : List (List ℕ × SizeAlign)) (xs : List RecordMember) (i : ℕ) (m : RecordMember) → i < length xs → m ≡ get_or xs i m
    → LeftKnown table xs i → Knows table (tree_of m.tref)
member-known table xs i m l p h = (known-drop table xs i m l p h).0

pub members-known : (table : List (List ℕ × SizeAlign)) (xs : List RecordMember) (i : ℕ) (m : RecordMember) → i < length xs → m ≡ get_or xs i m
    → LeftKnown table xs i → LeftKnown table xs (i + 1)
members-known table xs i m l p h = (known-drop table xs i m l p h).1

pub next-nodes : (xs : List RecordMember) (i : ℕ) (m : RecordMember) (s r n : ℕ) → i < length xs → m ≡ get_or xs i m
    → s + left_nodes xs i ≤ n → r ≤ s + type_nodes (tree_of m.tref) → r + left_nodes xs (i + 1) ≤ n
next-nodes xs i m s r n l p h k = omega (arith, h, k, nodes-drop xs i m l p)

pub within-nodes : (xs : List RecordMember) (i : ℕ) (m : RecordMember) (s r n : ℕ) → i < length xs → m ≡ get_or xs i m
    → s + left_nodes xs i ≤ n → r ≤ s + type_nodes (tree_of m.tref) → r ≤ n
within-nodes xs i m s r n l p h k = omega (arith, next-nodes xs i m s r n l p h k)

-- a member has no more nodes than all
pub member-nodes : (xs : List RecordMember) (i : ℕ) (m : RecordMember) (n : ℕ) → i < length xs → m ≡ get_or xs i m → left_nodes xs i ≤ n → type_nodes (tree_of m.tref) ≤ n
member-nodes xs i m n l p h = omega (arith, h, nodes-drop xs i m l p)

pub fewer-nodes : (xs : List RecordMember) (i : ℕ) (m : RecordMember) (n : ℕ) → i < length xs → m ≡ get_or xs i m → left_nodes xs i ≤ n → left_nodes xs (i + 1) ≤ n
fewer-nodes xs i m n l p h = omega (arith, h, nodes-drop xs i m l p)

-- cases
abbrev pub left_arm_nodes : List Case → ℕ → ℕ
left_arm_nodes xs i = arm_nodes (arms_of (map case_arm (drop i xs)))

abbrev pub LeftArmsKnown : List (List ℕ × SizeAlign) → List Case → ℕ → Type 0
LeftArmsKnown table xs i = KnowsArms table (arms_of (map case_arm (drop i xs)))

bare-drop : (xs : List Case) (i : ℕ) (c : Case) → i < length xs → c ≡ get_or xs i c → c.tref ≡ None → left_arm_nodes xs i ≡ left_arm_nodes xs (i + 1)
bare-drop xs i c l p h = rw (drop_more xs i c l, ← p, tree-Case c, h) refl

carries-drop : (xs : List Case) (i : ℕ) (c : Case) (t : TypeRef) → i < length xs → c ≡ get_or xs i c → c.tref ≡ Some t
    → left_arm_nodes xs i ≡ type_nodes (tree_of t) + left_arm_nodes xs (i + 1)
carries-drop xs i c t l p h = rw (drop_more xs i c l, ← p, tree-Case c, h) refl

pub bare-nodes : (xs : List Case) (i : ℕ) (c : Case) (s n : ℕ) → i < length xs → c ≡ get_or xs i c → c.tref ≡ None
    → s + left_arm_nodes xs i ≤ n → s + left_arm_nodes xs (i + 1) ≤ n
bare-nodes xs i c s n l p h k = rw (bare-drop xs i c l p h) at k

pub carries-nodes : (xs : List Case) (i : ℕ) (c : Case) (t : TypeRef) (s r n : ℕ) → i < length xs → c ≡ get_or xs i c → c.tref ≡ Some t
    → s + left_arm_nodes xs i ≤ n → r ≤ s + type_nodes (tree_of t) → r + left_arm_nodes xs (i + 1) ≤ n
carries-nodes xs i c t s r n l p e h k = omega (arith, h, k, carries-drop xs i c t l p e)

pub within-arm-nodes : (xs : List Case) (i : ℕ) (c : Case) (t : TypeRef) (s r n : ℕ) → i < length xs → c ≡ get_or xs i c → c.tref ≡ Some t
    → s + left_arm_nodes xs i ≤ n → r ≤ s + type_nodes (tree_of t) → r ≤ n
within-arm-nodes xs i c t s r n l p e h k = omega (arith, carries-nodes xs i c t s r n l p e h k)

pub payload-nodes : (xs : List Case) (i : ℕ) (c : Case) (t : TypeRef) (n : ℕ) → i < length xs → c ≡ get_or xs i c → c.tref ≡ Some t → left_arm_nodes xs i ≤ n → type_nodes (tree_of t) ≤ n
payload-nodes xs i c t n l p e h = omega (arith, h, carries-drop xs i c t l p e)

pub fewer-arm-nodes : (xs : List Case) (i : ℕ) (c : Case) (t : TypeRef) (n : ℕ) → i < length xs → c ≡ get_or xs i c → c.tref ≡ Some t → left_arm_nodes xs i ≤ n → left_arm_nodes xs (i + 1) ≤ n
fewer-arm-nodes xs i c t n l p e h = omega (arith, h, carries-drop xs i c t l p e)

pub same-arm-nodes : (xs : List Case) (i : ℕ) (c : Case) (n : ℕ) → i < length xs → c ≡ get_or xs i c → c.tref ≡ None → left_arm_nodes xs i ≤ n → left_arm_nodes xs (i + 1) ≤ n
same-arm-nodes xs i c n l p e h = omega (arith, h, bare-drop xs i c l p e)

pub bare-known : (table : List (List ℕ × SizeAlign)) (xs : List Case) (i : ℕ) (c : Case) → i < length xs → c ≡ get_or xs i c → c.tref ≡ None
    → LeftArmsKnown table xs i → LeftArmsKnown table xs (i + 1)
bare-known table xs i c l p h k = rw (drop_more xs i c l, ← p, tree-Case c, h) at k

carries-both : (table : List (List ℕ × SizeAlign)) (xs : List Case) (i : ℕ) (c : Case) (t : TypeRef) → i < length xs → c ≡ get_or xs i c → c.tref ≡ Some t
    → LeftArmsKnown table xs i → Knows table (tree_of t) × LeftArmsKnown table xs (i + 1)
carries-both table xs i c t l p h k = rw (drop_more xs i c l, ← p, tree-Case c, h) at k

pub payload-known : (table : List (List ℕ × SizeAlign)) (xs : List Case) (i : ℕ) (c : Case) (t : TypeRef) → i < length xs → c ≡ get_or xs i c → c.tref ≡ Some t
    → LeftArmsKnown table xs i → Knows table (tree_of t)
payload-known table xs i c t l p h k = (carries-both table xs i c t l p h k).0

pub payloads-known : (table : List (List ℕ × SizeAlign)) (xs : List Case) (i : ℕ) (c : Case) (t : TypeRef) → i < length xs → c ≡ get_or xs i c → c.tref ≡ Some t
    → LeftArmsKnown table xs i → LeftArmsKnown table xs (i + 1)
payloads-known table xs i c t l p h k = (carries-both table xs i c t l p h k).1

pub ruleset node_rules = (layout_rules, some-nodes, record-known, variant-known, record-nodes, variant-nodes, member-known, members-known, next-nodes, within-nodes, bare-nodes, carries-nodes, within-arm-nodes, bare-known, payload-known, payloads-known)
