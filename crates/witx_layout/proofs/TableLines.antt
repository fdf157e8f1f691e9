-- The lines of a type's parts, written in a pass that looks names up in a table.
use Rattle.std.specs.Prelude.{◌≡◌, ℕ, ◌+◌, ◌≤◌, ◌<◌, List, ◌++◌, length, drop, Some}
use Rattle.std.proofs.Common.{arith, get_or, refl, sym, ◌∙◌, append_assoc, append-nil}
use Rattle.witx_base.specs.Found.{found}
use Rattle.witx_ast.specs.Plain.{Plain, plain, Arms}
use Rattle.witx_ast.specs.Views.{tree_of, named_tree, variant_tree, members_plain, cases_plain}
use Rattle.witx_ast.proofs.Trees.{tree-NamedType}
use Rattle.witx_ast.proofs.Parts.{members-drop, members-end, variant-plain}
use Rattle.witx_ast.specs.declared.types.IntRepr.{IntRepr}
use Rattle.witx_ast.specs.declared.types.NamedType.{NamedType}
use Rattle.witx_ast.specs.declared.types.RecordMember.{RecordMember}
use Rattle.witx_ast.specs.declared.types.Variant.{Variant, out-Variant}
use Rattle.witx_layout.specs.Numbers.{align_to, align_of, size_of, payload_offset, payloads_size, offsets}
use Rattle.witx_layout.specs.LayoutsText.{field_line, field_lines, part_lines}
use Rattle.witx_layout.specs.Known.{HasLines}
use Rattle.witx_layout.proofs.Onward.{above}
use Rattle.witx_layout.proofs.Nodes.{node_rules}
use Rattle.witx_layout.proofs.Written.{no-lines}

pub lines-found : (lines : List (List ℕ × List ℕ)) (n : NamedType) → HasLines lines (named_tree n) → found lines n.name ≡ Some (part_lines (plain (tree_of n.tref)))
lines-found lines n h = rw (tree-NamedType n) at h

pub named-lines : (n : NamedType) → part_lines (plain (named_tree n)) ≡ part_lines (plain (tree_of n.tref))
named-lines n = rw (tree-NamedType n) refl

-- one more member
pub next-field : (xs : List RecordMember) (i : ℕ) (m : RecordMember) (o : ℕ) (text all : List ℕ) → i < length xs → m ≡ get_or xs i m
    → text ++ field_lines (members_plain (drop i xs)) (offsets o (members_plain (drop i xs))) ≡ all
    → (text ++ field_line m.name (align_to o (align_of (plain (tree_of m.tref)))))
    ++ field_lines (members_plain (drop (i + 1) xs)) (offsets (align_to o (align_of (plain (tree_of m.tref))) + size_of (plain (tree_of m.tref))) (members_plain (drop (i + 1) xs))) ≡ all
next-field xs i m o text all l p e =
    let h = rw (members-drop xs i m l p) at e in append_assoc text _ _ ∙ h

pub all-fields : (xs : List RecordMember) (i o : ℕ) (text all : List ℕ) → length xs ≤ i
    → text ++ field_lines (members_plain (drop i xs)) (offsets o (members_plain (drop i xs))) ≡ all → text ≡ all
all-fields xs i o text all l e = sym (append-nil text) ∙ rw (members-end xs i l) at e

-- the parts of a variant are within it
parts-within : (repr : IntRepr) (cs : Arms) → payload_offset repr cs + payloads_size cs ≤ size_of (Plain.variant_of repr cs)
parts-within repr cs = above (payload_offset repr cs + payloads_size cs) (align_of (Plain.variant_of repr cs))

pub offset-within : (v : Variant) → payload_offset (out-Variant v).tag_repr (cases_plain (out-Variant v).cases) ≤ size_of (plain (variant_tree v))
offset-within v = rw (variant-plain v) (omega (arith, parts-within (out-Variant v).tag_repr (cases_plain (out-Variant v).cases)))

pub payloads-within : (v : Variant) → payloads_size (cases_plain (out-Variant v).cases) ≤ size_of (plain (variant_tree v))
payloads-within v = rw (variant-plain v) (omega (arith, parts-within (out-Variant v).tag_repr (cases_plain (out-Variant v).cases)))

pub ruleset line_rules = (node_rules, no-lines, lines-found, named-lines, all-fields, offset-within, payloads-within)
