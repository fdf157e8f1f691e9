use Rattle.std.proofs.Common.{refl, sym, arith, ap, subst, ◌∙◌}
use Rattle.std.proofs.lemmas.Str.{IsCharBoundary-after_ascii}
use Rattle.witx_lex.specs.BlockScan.{block_len}
use Rattle.witx_lex.specs.Pieces.{block}
use Rattle.witx_lex.proofs.Texts.{within_from_byte}
use Rattle.witx_lex.specs.Reads.{ReadsPiece}
use Rattle.witx_lex.proofs.Found.{found_block, no_block, block_boundary}
use Rattle.witx_lex.proofs.comment.read_block.Goals as goal

pub range_from-inside-requires : goal.range_from-inside-requires
range_from-inside-requires c _ =
    IsCharBoundary-after_ascii c.args.text.now 1 c.utf8.text (within_from_byte c.args.text.now 1 (omega arith)) (omega arith)

pub range-requires-clause-end_boundary : goal.range-requires-clause-end_boundary
range-requires-clause-end_boundary c = block_boundary c.range_from-inside.result.now c.in-Some.len (sym c.in-Some.is ∙ c.block_len.ensures ∙ ap (block_len 0) c.as_bytes.ensures.value)

pub returns-in-Some : goal.returns-in-Some
returns-in-Some c n le =
    let h = found_block n c.args.text.now c.range_from-inside.result.now c.as_bytes.result.now c.range.result.now c.in-Some.len c.requires.first c.requires.second le c.range_from-inside.ensures.value c.as_bytes.ensures.value (sym c.in-Some.is ∙ c.block_len.ensures) c.range.ensures.value in
    record { piece = block c.range.result.now; stands = h.0; len = h.1; sees = refl }

pub returns-in-None : goal.returns-in-None
returns-in-None c n le =
    subst (ReadsPiece n c.args.text.now) (sym c.fault.ensures)
    (no_block n c.args.text.now c.range_from-inside.result.now c.as_bytes.result.now c.requires.first c.requires.second c.range_from-inside.ensures.value c.as_bytes.ensures.value (sym c.in-None.is ∙ c.block_len.ensures))
