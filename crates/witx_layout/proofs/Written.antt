-- The lines of a type's parts: one more member, and the lines of a record behind names.
use Rattle.std.specs.Prelude.{◌≡◌, ℕ, zero, suc, ◌+◌, ◌≤◌, ◌<◌, ◌^◌, List, [], ◌++◌, length, drop, map, Any}
use Rattle.std.proofs.Common.{arith, get_or, refl, sym, ◌∙◌, append_assoc, append-nil}
use Rattle.std.proofs.lemmas.List.{drop_more, drop_all}
use Rattle.witx_ast.specs.Tree.{behind}
use Rattle.witx_ast.specs.Plain.{plain, Fields}
use Rattle.witx_ast.specs.Views.{tree_of, datatype_tree, named_tree, members_plain}
use Rattle.witx_ast.proofs.Trees.{tree-RecordMember, tree-NamedType}
use Rattle.witx_ast.proofs.TreeKinds.{plain-behind}
use Rattle.witx_ast.specs.declared.types.Datatype.{Datatype}
use Rattle.witx_ast.specs.declared.types.NamedType.{NamedType}
use Rattle.witx_layout.specs.declared.members.RecordMemberLayout.{RecordMemberLayout}
use Rattle.witx_layout.specs.Numbers.{align_to, align_of, size_of, offsets, members_end}
use Rattle.witx_layout.specs.LayoutsText.{field_line, field_lines, part_lines}
use Rattle.witx_layout.proofs.Onward.{layout_rules, offset_rules, end-above}

-- the lines of members that are placed already
abbrev pub placed_lines : List RecordMemberLayout → List ℕ
placed_lines ls = field_lines (members_plain (map (λ m. m.member.now) ls)) (map (λ m. m.offset) ls)

placed-drop : (ls : List RecordMemberLayout) (i : ℕ) (l : RecordMemberLayout) → i < length ls → l ≡ get_or ls i l
    → placed_lines (drop i ls) ≡ field_line l.member.now.name l.offset ++ placed_lines (drop (i + 1) ls)
placed-drop ls i l h p = rw (drop_more ls i l h, ← p, tree-RecordMember l.member.now) refl

pub next-line : (ls : List RecordMemberLayout) (i : ℕ) (l : RecordMemberLayout) (text all : List ℕ) → i < length ls → l ≡ get_or ls i l
    → text ++ placed_lines (drop i ls) ≡ all
    → (text ++ field_line l.member.now.name l.offset) ++ placed_lines (drop (i + 1) ls) ≡ all
next-line ls i l text all h p e = let g = rw (placed-drop ls i l h p) at e in rw append_assoc g

pub all-lines : (ls : List RecordMemberLayout) (i : ℕ) (text all : List ℕ) → length ls ≤ i
    → text ++ placed_lines (drop i ls) ≡ all → text ≡ all
all-lines ls i text all h e = sym (append-nil text) ∙ rw (drop_all i ls h) at e

pub ruleset field_rules = (next-line, all-lines)

-- an offset isn't behind the end of all members
offset-within : (o : ℕ) (ms : Fields) (k d : ℕ) → k < length (offsets o ms) → get_or (offsets o ms) k d ≤ members_end o ms
offset-within o Fields.no_fields k d h = absurd (omega arith)
offset-within o (Fields.field name t ms) zero d h = omega (arith, end-above (align_to o (align_of t) + size_of t) ms)
offset-within o (Fields.field name t ms) (suc k) d h = offset-within (align_to o (align_of t) + size_of t) ms k d (omega arith)

pub any-within : (ms : Fields) → Any (λ o. 2 ^ 64 ≤ o) (offsets 0 ms) → 2 ^ 64 ≤ members_end 0 ms
any-within ms (k, x, l, e, h) = omega (arith, offset-within 0 ms k x l)

-- a type without parts has no lines
pub no-lines : (text : List ℕ) → text ≡ text ++ []
no-lines text = sym (append-nil text)

-- what stands behind a typename's names has its plain tree
pub named-behind : (n : NamedType) (d : Datatype) → datatype_tree d ≡ behind (tree_of n.tref) → plain (datatype_tree d) ≡ plain (named_tree n)
named-behind n d e = rw (e, plain-behind, tree-NamedType n) refl

pub lines-behind : (before line : List ℕ) (n : NamedType) (d : Datatype) → datatype_tree d ≡ behind (tree_of n.tref)
    → (before ++ line) ++ part_lines (plain (datatype_tree d)) ≡ before ++ (line ++ part_lines (plain (named_tree n)))
lines-behind before line n d e = rw (named-behind n d e) (append_assoc before line (part_lines (plain (named_tree n))))

pub ruleset line_rules = (layout_rules, offset_rules, any-within, no-lines)
