use Rattle.std.proofs.Common.{◌+◌, length, arith, refl, inl, inr}
use Rattle.std.specs.List.{flat_map}
use Rattle.witx_lex.specs.Pieces.{spelling}
use Rattle.witx_lex.proofs.Total.{pieces_or_fault}
use Rattle.witx_lex.proofs.laws.a_text_has_pieces_or_a_fault.Goals as goal

pub returns : goal.returns
returns c text =
    elim (pieces_or_fault (length text) 0 text (omega arith) (omega arith)) [
      | inl all ↦ inl (all.pieces, all.stand)
      | inr f ↦ inr (f.kind, length (flat_map spelling f.pieces) + f.place, (f.pieces, f.rest, f.place, f.stand, f.is, refl))
    ]
