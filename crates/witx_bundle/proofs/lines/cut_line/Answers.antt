use Rattle.std.proofs.Common.{arith, sym}
use Rattle.std.proofs.lemmas.Str.{IsCharBoundary-before_ascii, IsCharBoundary-after_ascii}
use Rattle.witx_bundle.proofs.LineSteps.{first-feed, cut-line, cut-spelled, no-feed}
use Rattle.witx_bundle.proofs.lines.cut_line.Goals as goal

pub returns-in_err-at-clause-lines : goal.returns-in_err-at-clause-lines
returns-in_err-at-clause-lines c = rw c.from_residual.ensures (no-feed _ (sym c.in_err-at.ensures))

pub range-requires-clause-end_boundary : goal.range-requires-clause-end_boundary
range-requires-clause-end_boundary c =
    let first = first-feed _ _ (sym c.in_ok-at.ensures) in
    IsCharBoundary-before_ascii _ _ first.inside (omega (arith, first.feed))

pub range_from-requires : goal.range_from-requires
range_from-requires c =
    let first = first-feed _ _ (sym c.in_ok-at.ensures) in
    λ _. IsCharBoundary-after_ascii _ _ c.utf8.text first.inside (omega (arith, first.feed))

pub returns-clause-lines : goal.returns-clause-lines
returns-clause-lines c = cut-line _ _ _ _ (sym c.in_ok-at.ensures) c.range.ensures.value c.range_from.ensures.value

pub returns-clause-spelled : goal.returns-clause-spelled
returns-clause-spelled c = cut-spelled _ _ _ _ (sym c.in_ok-at.ensures) c.range.ensures.value c.range_from.ensures.value
