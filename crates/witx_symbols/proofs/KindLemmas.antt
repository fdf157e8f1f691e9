-- What kind a type is of, and which conversions it has.
use Rattle.std.proofs.Common.{◌≡◌, ℕ, Bool, true, false, ◌&&◌, refl, sym, ap, ◌∙◌, List, [], ◌∷◌, map, Option, Some, None}
use Rattle.witx_ast.specs.declared.types.RecordKind.{RecordKind}
use Rattle.witx_ast.specs.declared.types.Variant.{Variant, out-Variant}
use Rattle.witx_ast.specs.Tree.{Tree, Arm, Arms, arm, arms_of}
use Rattle.witx_ast.specs.Plain.{Plain, Fields, plain, plain_arms, all_bare}
use Rattle.witx_ast.specs.Alike.{same_plain}
use Rattle.witx_ast.specs.Words.{all_arms_bare, is_bare}
use Rattle.witx_ast.specs.Views.{case_arm, variant_tree}
use Rattle.witx_ast.proofs.TreeKinds.{kind_rules as tree_kind_rules}
use Rattle.witx_ast.proofs.Trees.{tree-VariantDatatype}
use Rattle.witx_machine.specs.declared.surface.WasmType.{WasmType}
use Rattle.witx_machine.specs.Words.{Scalar, number_of, pointer, const_pointer, handle_of, flags_of, enum_of, is_for}
use Rattle.witx_symbols.specs.Symbolic.{has_kind, converts}
use Rattle.witx_symbols.specs.Symbols.{Source, symbol_from}
use Rattle.witx_symbols.specs.Typing.{is_pointer_type, is_const_pointer_type, is_handle_type, is_flags_type, is_enum_type}
use Rattle.witx_symbols.proofs.AlikeTypes.{plain-of-behind}
use Rattle.witx_symbols.proofs.EachType.{each-type}
use Rattle.witx_symbols.proofs.SymbolReads.{symbol_rules}

pub kind-pointer : (t : Plain) → has_kind pointer t ≡ is_pointer_type t
kind-pointer t = each-type (λ t. has_kind pointer t ≡ is_pointer_type t) (λ ms. refl) (λ r ms. refl) (λ ms. refl) (λ b. refl) refl (λ t. refl) (λ t. refl) (λ t. refl) (λ r cs. refl) t

pub kind-const-pointer : (t : Plain) → has_kind const_pointer t ≡ is_const_pointer_type t
kind-const-pointer t = each-type (λ t. has_kind const_pointer t ≡ is_const_pointer_type t) (λ ms. refl) (λ r ms. refl) (λ ms. refl) (λ b. refl) refl (λ t. refl) (λ t. refl) (λ t. refl) (λ r cs. refl) t

pub for-handle : (n : Tree) (t : Plain) → is_for (handle_of n) t ≡ is_handle_type t
for-handle n t = each-type (λ t. is_for (handle_of n) t ≡ is_handle_type t) (λ ms. refl) (λ r ms. refl) (λ ms. refl) (λ b. refl) refl (λ t. refl) (λ t. refl) (λ t. refl) (λ r cs. refl) t

pub for-flags : (w : WasmType) (n : Tree) (t : Plain) → is_for (flags_of w n) t ≡ is_flags_type w t
for-flags w n t = each-type (λ t. is_for (flags_of w n) t ≡ is_flags_type w t) (λ ms. refl) (λ r ms. refl) (λ ms. refl) (λ b. refl) refl (λ t. refl) (λ t. refl) (λ t. refl) (λ r cs. refl) t

pub for-enum : (n : Tree) (t : Plain) → is_for (enum_of n) t ≡ is_enum_type t
for-enum n t = each-type (λ t. is_for (enum_of n) t ≡ is_enum_type t) (λ ms. refl) (λ r ms. refl) (λ ms. refl) (λ b. refl) refl (λ t. refl) (λ t. refl) (λ t. refl) (λ r cs. refl) t

-- a named type that is of a kind, and a type alike to it
pub kind-handle : (n : Tree) (t : Plain) → has_kind (handle_of n) t ≡ is_handle_type (plain n) && same_plain t (plain n)
kind-handle n t = ap (λ b. b && same_plain t (plain n)) (for-handle n (plain n))

pub kind-flags : (w : WasmType) (n : Tree) (t : Plain) → has_kind (flags_of w n) t ≡ is_flags_type w (plain n) && same_plain t (plain n)
kind-flags w n t = ap (λ b. b && same_plain t (plain n)) (for-flags w n (plain n))

pub kind-enum : (n : Tree) (t : Plain) → has_kind (enum_of n) t ≡ is_enum_type (plain n) && same_plain t (plain n)
kind-enum n t = ap (λ b. b && same_plain t (plain n)) (for-enum n (plain n))

-- no tuple has a conversion, so that the symbol of a type has those of the type
and_false : (b : Bool) → b && false ≡ false
and_false true = refl
and_false false = refl

tuple-kind : (x : Scalar) (ms : Fields) → false ≡ has_kind x (Plain.record_of RecordKind.Tuple ms)
tuple-kind (number_of b) ms = refl
tuple-kind pointer ms = refl
tuple-kind const_pointer ms = refl
tuple-kind (handle_of n) ms = sym (kind-handle n (Plain.record_of RecordKind.Tuple ms) ∙ each-type (λ t. is_handle_type t && same_plain (Plain.record_of RecordKind.Tuple ms) t ≡ false)
    (λ ns. refl) (λ r ns. refl) (λ ns. refl) (λ b. refl) refl (λ t. refl) (λ t. refl) (λ t. refl) (λ r cs. refl) (plain n))
tuple-kind (flags_of w n) ms = sym (kind-flags w n (Plain.record_of RecordKind.Tuple ms) ∙ each-type (λ t. is_flags_type w t && same_plain (Plain.record_of RecordKind.Tuple ms) t ≡ false)
    (λ ns. refl) (λ r ns. and_false (is_flags_type w (Plain.record_of (RecordKind.Bitflags r) ns))) (λ ns. refl) (λ b. refl) refl (λ t. refl) (λ t. refl) (λ t. refl) (λ r cs. refl) (plain n))
tuple-kind (enum_of n) ms = sym (kind-enum n (Plain.record_of RecordKind.Tuple ms) ∙ each-type (λ t. is_enum_type t && same_plain (Plain.record_of RecordKind.Tuple ms) t ≡ false)
    (λ ns. refl) (λ r ns. refl) (λ ns. refl) (λ b. refl) refl (λ t. refl) (λ t. refl) (λ t. refl) (λ r cs. and_false (is_enum_type (Plain.variant_of r cs))) (plain n))

pub from-converts : (x : Scalar) (t : Plain) (s : Source) → converts x (symbol_from t s) ≡ has_kind x t
from-converts x t s = each-type (λ t. converts x (symbol_from t s) ≡ has_kind x t) (tuple-kind x) (λ r ms. refl) (λ ms. refl) (λ b. refl) refl (λ t. refl) (λ t. refl) (λ t. refl) (λ r cs. refl) t

bare-arm : (n d : List ℕ) (o : Option Tree) (cs : Arms) (b : Bool) → all_bare (plain_arms cs) ≡ b → all_bare (plain_arms (arm n o d cs)) ≡ is_bare o && b
bare-arm n d None cs b e = e
bare-arm n d (Some t) cs b e = refl

bare-arms : (cs : List Arm) → all_bare (plain_arms (arms_of cs)) ≡ all_arms_bare cs
bare-arms [] = refl
bare-arms (c ∷ cs) = bare-arm c.called c.comment c.payload (arms_of cs) (all_arms_bare cs) (bare-arms cs)

pub variant-enum : (v : Variant) → is_enum_type (plain (variant_tree v)) ≡ all_arms_bare (map case_arm (out-Variant v).cases)
variant-enum v = rw (tree-VariantDatatype v) (bare-arms (map case_arm (out-Variant v).cases))

pub ruleset kind_rules = (symbol_rules, tree_kind_rules, plain-of-behind, variant-enum, kind-pointer, kind-const-pointer, kind-handle, kind-flags, kind-enum, from-converts)
