-- The definitions at small types, computed.
use Rattle.std.specs.Prelude.{◌≡◌, ℕ, zero, suc, List, [], ◌∷◌, ◌++◌, false, codes, Ok, Err}
use Rattle.std.proofs.Common.{refl}
use Rattle.std.specs.Fmt.{digits}
use Rattle.witx_ast.specs.declared.types.BuiltinType.{BuiltinType}
use Rattle.witx_ast.specs.declared.types.IntRepr.{IntRepr}
use Rattle.witx_ast.specs.declared.types.RecordKind.{RecordKind}
use Rattle.witx_ast.specs.Tree as tree
use Rattle.witx_ast.specs.Tree.{Tree}
use Rattle.witx_ast.specs.Plain.{Plain, Fields, Arms}
use Rattle.witx_ast.specs.Definitions.{typename_of}
use Rattle.witx_layout.specs.Numbers.{align_to, size_of, align_of, payload_offset, part_offsets}
use Rattle.witx_layout.specs.LayoutsText.{layouts_text}
use Rattle.witx_ast.specs.Misfits.{first_misfit}
use Rattle.witx_layout.specs.Refusals.{tag_refusal}

rounded : align_to 0 8 ∷ align_to 1 8 ∷ align_to 2 1 ∷ align_to 5 2 ∷ align_to 5 4 ∷ [] ≡ 0 ∷ 8 ∷ 2 ∷ 6 ∷ 8 ∷ []
rounded = refl

abbrev u8 : Plain
u8 = Plain.builtin (BuiltinType.U8 false)

abbrev u16 : Plain
u16 = Plain.builtin BuiltinType.U16

abbrev u32 : Plain
u32 = Plain.builtin (BuiltinType.U32 false)

abbrev u64 : Plain
u64 = Plain.builtin BuiltinType.U64

abbrev fields : List Plain → Fields
fields [] = Fields.no_fields
fields (t ∷ ts) = Fields.field (codes "m") t (fields ts)

abbrev arms : List Plain → Arms
arms [] = Arms.no_arms
arms (t ∷ ts) = Arms.carries (codes "c") t (arms ts)

abbrev record_type : List Plain → Plain
record_type ts = Plain.record_of RecordKind.Other (fields ts)

abbrev tuple_type : List Plain → Plain
tuple_type ts = Plain.record_of RecordKind.Tuple (fields ts)

-- a record of an enum on u32, two u64 and flags on u16
abbrev clock : Plain
clock = record_type (Plain.variant_of IntRepr.U32 (Arms.bare (codes "c") Arms.no_arms) ∷ u64 ∷ u64 ∷ Plain.record_of (RecordKind.Bitflags IntRepr.U16) Fields.no_fields ∷ [])

clock-numbers : (size_of clock ∷ align_of clock ∷ part_offsets clock) ≡ 32 ∷ 8 ∷ 0 ∷ 8 ∷ 16 ∷ 24 ∷ []
clock-numbers = refl

-- a variant of a clock and twice a handle, and a record that ends in it
abbrev event : Plain
event = Plain.variant_of IntRepr.U8 (arms (clock ∷ record_type (Plain.handle ∷ []) ∷ record_type (Plain.handle ∷ []) ∷ []))

event-numbers : (size_of event ∷ align_of event ∷ part_offsets event) ≡ 40 ∷ 8 ∷ 8 ∷ []
event-numbers = refl

subscription : (size_of (record_type (u64 ∷ event ∷ [])) ∷ align_of (record_type (u64 ∷ event ∷ [])) ∷ []) ≡ 48 ∷ 8 ∷ []
subscription = refl

-- a payload behind a narrow tag
narrow-tag : (size_of (Plain.variant_of IntRepr.U8 (arms (record_type (u32 ∷ []) ∷ []))) ∷ payload_offset IntRepr.U8 (arms (record_type (u32 ∷ []) ∷ [])) ∷ []) ≡ 8 ∷ 4 ∷ []
narrow-tag = refl

abbrev bytes : Plain
bytes = record_type (u8 ∷ u8 ∷ u8 ∷ u8 ∷ u8 ∷ [])

-- the size is a multiple of the alignment, also where the greatest payload isn't the most aligned
uneven : (size_of (Plain.variant_of IntRepr.U8 (arms (bytes ∷ u32 ∷ []))) ∷ align_of (Plain.variant_of IntRepr.U8 (arms (bytes ∷ u32 ∷ []))) ∷ []) ≡ 12 ∷ 4 ∷ []
uneven = refl

mixed : (size_of (record_type (u8 ∷ u32 ∷ u16 ∷ [])) ∷ align_of (record_type (u8 ∷ u32 ∷ u16 ∷ [])) ∷ part_offsets (record_type (u8 ∷ u32 ∷ u16 ∷ []))) ≡ 12 ∷ 4 ∷ 0 ∷ 4 ∷ 8 ∷ []
mixed = refl

-- without members, and without cases
empty-tuple : (size_of (tuple_type []) ∷ align_of (tuple_type []) ∷ []) ≡ 0 ∷ 1 ∷ []
empty-tuple = refl

empty-variant : (size_of (Plain.variant_of IntRepr.U64 Arms.no_arms) ∷ align_of (Plain.variant_of IntRepr.U64 Arms.no_arms) ∷ []) ≡ 8 ∷ 8 ∷ []
empty-variant = refl

-- pairs of pairs of a u64
abbrev doubled : ℕ → Plain
doubled zero = u64
doubled (suc n) = tuple_type (doubled n ∷ doubled n ∷ [])

ten-doublings : (size_of (doubled 10) ∷ align_of (doubled 10) ∷ []) ≡ 8192 ∷ 8 ∷ []
ten-doublings = refl

-- so many members, or cases, by name
abbrev members : ℕ → tree.Fields
members zero = tree.no_fields
members (suc n) = tree.field (codes "m") (Tree.builtin (BuiltinType.U8 false)) [] (members n)

abbrev cases : ℕ → tree.Arms
cases zero = tree.no_arms
cases (suc n) = tree.bare (codes "c") [] (cases n)

flags-fit : tag_refusal (first_misfit (typename_of (codes "f") (Tree.record_of (RecordKind.Bitflags IntRepr.U32) (members 32)) [] ∷ [])) ≡ Ok tt
flags-fit = refl

flags-misfit : tag_refusal (first_misfit (typename_of (codes "f") (Tree.record_of (RecordKind.Bitflags IntRepr.U32) (members 33)) [] ∷ [])) ≡ Err (record { definition = 0; count = 33; most = 32 })
flags-misfit = refl

cases-fit : tag_refusal (first_misfit (typename_of (codes "e") (Tree.variant_of IntRepr.U8 (cases 256)) [] ∷ [])) ≡ Ok tt
cases-fit = refl

cases-misfit : tag_refusal (first_misfit (typename_of (codes "e") (Tree.variant_of IntRepr.U8 (cases 257)) [] ∷ [])) ≡ Err (record { definition = 0; count = 257; most = 256 })
cases-misfit = refl

-- a target of a list is entered, a name isn't looked through
entered : tag_refusal (first_misfit (typename_of (codes "n") (Tree.named (codes "f") (Tree.record_of (RecordKind.Bitflags IntRepr.U64) (members 65)) []) []
    ∷ typename_of (codes "l") (Tree.list_of (Tree.record_of (RecordKind.Bitflags IntRepr.U64) (members 65))) [] ∷ [])) ≡ Err (record { definition = 1; count = 65; most = 64 })
entered = refl

-- a name is looked through, and a variant shows its tag and its payload
shown : layouts_text (typename_of (codes "v") (Tree.named (codes "w") (Tree.variant_of IntRepr.U8 (tree.carries (codes "x") (Tree.builtin (BuiltinType.U32 false)) [] tree.no_arms)) []) [] ∷ [])
    ≡ codes "typename v size 8 align 4" ++ 10 ∷ [] ++ codes "  tag 1 payload 4" ++ 10 ∷ []
unfolding digits
shown = refl
