-- What is known of the names in a type is known of those in its parts, one member or one case after the other.
use Rattle.std.specs.Prelude.{◌≡◌, ℕ, ◌+◌, ◌≤◌, ◌<◌, List, [], ◌∷◌, ◌++◌, length, drop, map, Some, None}
use Rattle.std.proofs.Common.{get_or, append_assoc, append-nil, sym, ◌∙◌}
use Rattle.std.specs.declared.alloc.Global.{Global}
use Rattle.std.specs.declared.rc.Rc.{Rc}
use Rattle.witx_ast.specs.Tree.{fields_of, arms_of}
use Rattle.witx_ast.specs.Plain.{plain}
use Rattle.witx_ast.specs.Views.{tree_of, named_tree, record_tree, variant_tree, datatype_tree, member_field, case_arm, members_plain}
use Rattle.witx_ast.proofs.Trees.{tree-Name}
use Rattle.witx_ast.proofs.Parts.{members-drop, members-end}
use Rattle.witx_ast.specs.declared.types.NamedType.{NamedType}
use Rattle.witx_ast.specs.declared.types.RecordMember.{RecordMember}
use Rattle.witx_ast.specs.declared.types.Case.{Case}
use Rattle.witx_ast.specs.declared.types.TypeRef.{TypeRef}
use Rattle.witx_ast.specs.declared.types.TypeRef.TheVariants as tref
use Rattle.witx_ast.specs.declared.types.Datatype.{Datatype}
use Rattle.witx_ast.specs.declared.types.Datatype.TheVariants as datatype
use Rattle.witx_ast.specs.declared.types.RecordDatatype.{RecordDatatype, out-RecordDatatype}
use Rattle.witx_ast.specs.declared.types.Variant.{Variant, out-Variant}
use Rattle.witx_layout.specs.Numbers.{align_to, align_of, size_of, offsets}
use Rattle.witx_layout.proofs.Nodes.{node_rules, record-known, variant-known, in-record, in-variant, in-value, member-known, members-known, payload-known, payloads-known, bare-known}
use Rattle.witx_markdown.specs.declared.named_layouts.NamedLayouts.{NamedLayouts}
use Rattle.witx_markdown.specs.declared.named_layouts.NamedLayouts.TheVariants as layouts
use Rattle.witx_markdown.specs.NamesKnown.{NamesKnown, FieldNamesKnown, ArmNamesKnown}

pub name-in : (names : NamedLayouts) (t : TypeRef) (n : Rc NamedType Global) → t ≡ tref.Name n → NamesKnown names (tree_of t) → NamesKnown names (named_tree n.value)
name-in names t n e h = rw (e, tree-Name n) at h

pub value-in : (names : NamedLayouts) (t : TypeRef) (d : Rc Datatype Global) → t ≡ tref.Value d → NamesKnown names (tree_of t) → NamesKnown names (datatype_tree d.value)
value-in (layouts.Kept table) t d e h = in-value table.now t d e h
value-in layouts.LookedThrough t d e h = tt

pub record-in : (names : NamedLayouts) (d : Datatype) (r : RecordDatatype) → d ≡ datatype.Record r → NamesKnown names (datatype_tree d) → NamesKnown names (record_tree r)
record-in (layouts.Kept table) d r e h = in-record table.now d r e h
record-in layouts.LookedThrough d r e h = tt

pub variant-in : (names : NamedLayouts) (d : Datatype) (v : Variant) → d ≡ datatype.Variant v → NamesKnown names (datatype_tree d) → NamesKnown names (variant_tree v)
variant-in (layouts.Kept table) d v e h = in-variant table.now d v e h
variant-in layouts.LookedThrough d v e h = tt

pub members-in : (names : NamedLayouts) (r : RecordDatatype) → NamesKnown names (record_tree r) → FieldNamesKnown names (fields_of (map member_field (out-RecordDatatype r).members))
members-in (layouts.Kept table) r h = record-known table.now r h
members-in layouts.LookedThrough r h = tt

pub cases-in : (names : NamedLayouts) (v : Variant) → NamesKnown names (variant_tree v) → ArmNamesKnown names (arms_of (map case_arm (out-Variant v).cases))
cases-in (layouts.Kept table) v h = variant-known table.now v h
cases-in layouts.LookedThrough v h = tt

-- what is known of the members, and of the cases, from one on
abbrev pub LeftNamesKnown : NamedLayouts → List RecordMember → ℕ → Type 0
LeftNamesKnown names xs i = FieldNamesKnown names (fields_of (map member_field (drop i xs)))

abbrev pub LeftCasesKnown : NamedLayouts → List Case → ℕ → Type 0
LeftCasesKnown names xs i = ArmNamesKnown names (arms_of (map case_arm (drop i xs)))

pub member-in : (names : NamedLayouts) (xs : List RecordMember) (i : ℕ) (m : RecordMember) → i < length xs → m ≡ get_or xs i m
    → LeftNamesKnown names xs i → NamesKnown names (tree_of m.tref)
member-in (layouts.Kept table) xs i m l p h = member-known table.now xs i m l p h
member-in layouts.LookedThrough xs i m l p h = tt

pub members-left : (names : NamedLayouts) (xs : List RecordMember) (i : ℕ) (m : RecordMember) → i < length xs → m ≡ get_or xs i m
    → LeftNamesKnown names xs i → LeftNamesKnown names xs (i + 1)
members-left (layouts.Kept table) xs i m l p h = members-known table.now xs i m l p h
members-left layouts.LookedThrough xs i m l p h = tt

pub payload-in : (names : NamedLayouts) (xs : List Case) (i : ℕ) (c : Case) (t : TypeRef) → i < length xs → c ≡ get_or xs i c → c.tref ≡ Some t
    → LeftCasesKnown names xs i → NamesKnown names (tree_of t)
payload-in (layouts.Kept table) xs i c t l p e h = payload-known table.now xs i c t l p e h
payload-in layouts.LookedThrough xs i c t l p e h = tt

pub cases-left : (names : NamedLayouts) (xs : List Case) (i : ℕ) (c : Case) (t : TypeRef) → i < length xs → c ≡ get_or xs i c → c.tref ≡ Some t
    → LeftCasesKnown names xs i → LeftCasesKnown names xs (i + 1)
cases-left (layouts.Kept table) xs i c t l p e h = payloads-known table.now xs i c t l p e h
cases-left layouts.LookedThrough xs i c t l p e h = tt

pub bare-left : (names : NamedLayouts) (xs : List Case) (i : ℕ) (c : Case) → i < length xs → c ≡ get_or xs i c → c.tref ≡ None
    → LeftCasesKnown names xs i → LeftCasesKnown names xs (i + 1)
bare-left (layouts.Kept table) xs i c l p e h = bare-known table.now xs i c l p e h
bare-left layouts.LookedThrough xs i c l p e h = tt

-- one more member is placed
pub next-placed : (xs : List RecordMember) (i : ℕ) (m : RecordMember) (o : ℕ) (before all : List ℕ) → i < length xs → m ≡ get_or xs i m
    → before ++ offsets o (members_plain (drop i xs)) ≡ all
    → (before ++ align_to o (align_of (plain (tree_of m.tref))) ∷ [])
    ++ offsets (align_to o (align_of (plain (tree_of m.tref))) + size_of (plain (tree_of m.tref))) (members_plain (drop (i + 1) xs)) ≡ all
next-placed xs i m o before all l p e =
    let h = rw (members-drop xs i m l p) at e in append_assoc before _ _ ∙ h

pub all-placed : (xs : List RecordMember) (i o : ℕ) (before all : List ℕ) → length xs ≤ i → before ++ offsets o (members_plain (drop i xs)) ≡ all → before ≡ all
all-placed xs i o before all l e = sym (append-nil before) ∙ rw (members-end xs i l) at e

pub ruleset layout_steps = (node_rules, name-in, members-in, cases-in, member-in, members-left, payload-in, cases-left, bare-left, all-placed)
