use Rattle.std.proofs.Common.{refl, sym, arith, ap, subst, ◌∙◌}
use Rattle.std.proofs.lemmas.Bool.Decides.{nat_tests}
use Rattle.std.proofs.lemmas.Str.{IsCharBoundary-after_ascii}
use Rattle.std.specs.List.{prefix_len}
use Rattle.std.specs.Str.{IsCharBoundary}
use Rattle.witx_lex.specs.Characters.{is_line_byte}
use Rattle.witx_lex.specs.Pieces.{line}
use Rattle.witx_lex.proofs.Texts.{within_from_byte, IsCharBoundary-wide_run}
use Rattle.witx_lex.proofs.Found.{found_line}
use Rattle.witx_lex.proofs.comment.read_line.Goals as goal

pub range_from-inside-requires : goal.range_from-inside-requires
range_from-inside-requires c _ =
    IsCharBoundary-after_ascii c.args.text.now 1 c.utf8.text (within_from_byte c.args.text.now 1 (omega arith)) (omega arith)

pub range-requires-clause-end_boundary : goal.range-requires-clause-end_boundary
range-requires-clause-end_boundary c =
    let inside = c.range_from-inside.result.now in
    subst (IsCharBoundary inside) (ap (prefix_len is_line_byte) (sym c.as_bytes.ensures.value) ∙ sym c.line_len-len.ensures.len) (IsCharBoundary-wide_run is_line_byte inside (λ b e. grind (arith, nat_tests)))

pub returns : goal.returns
returns c n le =
    let h = found_line n c.args.text.now c.range_from-inside.result.now c.as_bytes.result.now c.range.result.now c.line_len-len.result c.requires.first c.requires.second le c.range_from-inside.ensures.value c.as_bytes.ensures.value c.line_len-len.ensures.len c.range.ensures.value in
    record { piece = line c.range.result.now; stands = h.0; len = h.1; sees = refl }
