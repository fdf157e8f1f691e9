-- Which documents are plain, by computation.
use Rattle.std.proofs.Common.{◌≡◌, ℕ, true, false, List, [], ◌∷◌, refl}
use Rattle.std.specs.Prelude.{codes}
use Rattle.witx_base.specs.Texts.{same_text}
use Rattle.witx_ast.specs.declared.types.IntRepr.{IntRepr}
use Rattle.witx_ast.specs.Tree.{Tree, Arms}
use Rattle.witx_ast.specs.Definitions.{DefinitionTree, typename_of}
use Rattle.witx_read_back.specs.Plain.{IsPlain, PlainType}

abbrev bools : IntRepr → Tree
bools r = Tree.variant_of r (Arms.bare (codes "false") [] (Arms.bare (codes "true") [] Arms.no_arms))

other_width : IntRepr.U8 ≡ IntRepr.U32 → ⊥
other_width e = cc

-- an enum of `$false $true` with the tag u8 prints `bool`, and isn't plain
bools_of_a_byte : (docs : List ℕ) → IsPlain (typename_of (codes "b") (bools IntRepr.U8) docs ∷ []) → ⊥
unfolding same_text
bools_of_a_byte docs p = other_width p.types.0.0

-- with the tag u32 it may stand anywhere
bools_anywhere : PlainType false (bools IntRepr.U32)
unfolding same_text
bools_anywhere = (refl, tt)

no_name : false ≡ true → ⊥
no_name e = cc

-- an enum may not stand inside a type
no_enum_inside : PlainType false (Tree.list_of (Tree.variant_of IntRepr.U8 (Arms.bare (codes "a") [] Arms.no_arms))) → ⊥
no_enum_inside p = no_name p.0.0
