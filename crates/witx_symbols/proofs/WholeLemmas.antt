-- How the members of two types are compared, item by item, and when none of them has an atom.
use Rattle.std.proofs.Common.{◌≡◌, ℕ, ◌+◌, ◌<◌, ◌≤◌, Bool, true, false, not, ◌&&◌, List, [], ◌∷◌, drop, length, get_or, refl, sym, ap, ◌∙◌, arith, Some, None}
use Rattle.std.specs.Cmp.Lexicographic.{pointwise}
use Rattle.std.proofs.lemmas.List.{drop_more, drop_all}
use Rattle.witx_ast.specs.declared.types.RecordKind.{RecordKind}
use Rattle.witx_ast.specs.declared.types.RecordMember.{RecordMember}
use Rattle.witx_ast.specs.declared.types.Variant.{Variant}
use Rattle.witx_ast.specs.Alike.{same_plain}
use Rattle.witx_ast.specs.Plain.{Plain, Fields, plain}
use Rattle.witx_ast.specs.Views.{tree_of, variant_tree, members_plain}
use Rattle.witx_ast.specs.Words.{is_tuple_kind}
use Rattle.witx_ast.proofs.Trees.{tree-RecordMember, tree-VariantDatatype}
use Rattle.witx_symbols.specs.Typing.{is_tuple_type, tuple_fields}
use Rattle.witx_symbols.specs.Wholes.{same_whole, same_wholes, has_no_atom, have_no_atom}
use Rattle.witx_symbols.proofs.AlikeTypes.{plain-of-behind}
use Rattle.witx_symbols.proofs.SymbolReads.{symbol_rules}
use Rattle.witx_symbols.proofs.TupleLemmas.{tuple_rules, tuple-kind, other-kind, tuple-type, other-type}

pub whole-tuple : (k : RecordKind) (ms : Fields) (u : Plain) → is_tuple_kind k ≡ true → same_whole (Plain.record_of k ms) u ≡ same_whole (Plain.record_of RecordKind.Tuple ms) u
whole-tuple k ms u e = ap (λ k. same_whole (Plain.record_of k ms) u) (tuple-kind k e)

pub whole-record : (k : RecordKind) (ms : Fields) (u : Plain) → is_tuple_kind k ≡ false →
    same_whole (Plain.record_of k ms) u ≡ not (is_tuple_type u) && same_plain (Plain.record_of k ms) u
whole-record k ms u e = other-kind (λ k. same_whole (Plain.record_of k ms) u ≡ not (is_tuple_type u) && same_plain (Plain.record_of k ms) u) (λ r. refl) refl k e

pub whole-both : (ms ns : Fields) (u : Plain) → Some ns ≡ tuple_fields u → same_whole (Plain.record_of RecordKind.Tuple ms) u ≡ same_wholes ms ns
whole-both ms ns u e = ap (same_whole (Plain.record_of RecordKind.Tuple ms)) (tuple-type u ns e)

pub whole-one : (ms : Fields) (u : Plain) → None ≡ tuple_fields u → same_whole (Plain.record_of RecordKind.Tuple ms) u ≡ false
whole-one ms u e = other-type (λ u. same_whole (Plain.record_of RecordKind.Tuple ms) u ≡ false) (λ r ns. refl) (λ ns. refl) (λ b. refl) refl (λ u. refl) (λ u. refl) (λ u. refl) (λ r cs. refl) u e

abbrev pub whole_same : RecordMember → RecordMember → Bool
whole_same x y = same_whole (plain (tree_of x.tref)) (plain (tree_of y.tref))

pub wholes-pairs : (a b : List RecordMember) → same_wholes (members_plain a) (members_plain b) ≡ pointwise whole_same a b
wholes-pairs [] [] = refl
wholes-pairs [] (y ∷ b) = refl
wholes-pairs (x ∷ a) [] = refl
wholes-pairs (x ∷ a) (y ∷ b) = rw (tree-RecordMember x, tree-RecordMember y) (ap (λ t. whole_same x y && t) (wholes-pairs a b))

-- types without atoms
pub bare-tuple : (k : RecordKind) (ms : Fields) → is_tuple_kind k ≡ true → has_no_atom (Plain.record_of k ms) ≡ have_no_atom ms
bare-tuple k ms e = ap (λ k. has_no_atom (Plain.record_of k ms)) (tuple-kind k e)

pub bare-record : (k : RecordKind) (ms : Fields) → is_tuple_kind k ≡ false → has_no_atom (Plain.record_of k ms) ≡ false
bare-record k ms e = other-kind (λ k. has_no_atom (Plain.record_of k ms) ≡ false) (λ r. refl) refl k e

from_first : {A : Type 0} (xs : List A) → drop 0 xs ≡ xs
from_first [] = refl
from_first (x ∷ xs) = refl

abbrev pub left_bare : List RecordMember → ℕ → Bool
left_bare ms i = have_no_atom (members_plain (drop i ms))

abbrev pub one_bare : RecordMember → Bool
one_bare m = has_no_atom (plain (tree_of m.tref))

bare-step : (ms : List RecordMember) (i : ℕ) (m : RecordMember) → i < length ms → m ≡ get_or ms i m → left_bare ms i ≡ one_bare m && left_bare ms (i + 1)
bare-step ms i m l p = rw (drop_more ms i m l, ← p, tree-RecordMember m) refl

pub bare-left : (ms : List RecordMember) (i : ℕ) (m : RecordMember) (all : Bool) → i < length ms → m ≡ get_or ms i m → one_bare m ≡ true → left_bare ms i ≡ all → left_bare ms (i + 1) ≡ all
bare-left ms i m all l p s h = sym (ap (λ t. t && left_bare ms (i + 1)) s) ∙ sym (bare-step ms i m l p) ∙ h

pub bare-refused : (ms : List RecordMember) (i : ℕ) (m : RecordMember) (t : Bool) → i < length ms → m ≡ get_or ms i m → t ≡ one_bare m → t ≡ false → left_bare ms i ≡ left_bare ms 0 → false ≡ have_no_atom (members_plain ms)
bare-refused ms i m t l p s n h =
    sym (ap (λ t. t && left_bare ms (i + 1)) (sym s ∙ n)) ∙ sym (bare-step ms i m l p) ∙ h ∙ ap (λ xs. have_no_atom (members_plain xs)) (from_first ms)

pub bare-done : (ms : List RecordMember) (i : ℕ) (all : Bool) → length ms ≤ i → left_bare ms i ≡ all → true ≡ all
bare-done ms i all l h = sym (rw (drop_all i ms l) refl) ∙ h

pub ruleset whole_rules = (tuple_rules, symbol_rules, plain-of-behind, whole-tuple, whole-record, tree-VariantDatatype, whole-both, whole-one, wholes-pairs, bare-tuple, bare-record, bare-left, bare-done)
