use Rattle.std.proofs.Common.{rules, ◌∷◌, [], sym, ◌∙◌, append-nil, arith}
use Rattle.witx_bundle.specs.Bundles.{lines_of}
use Rattle.witx_bundle.proofs.Fronts.{passed-none, passed-line, stops, ends, shorter}
use Rattle.witx_bundle.proofs.lines.front_len.Goals as goal

pub loop-line-init : goal.loop-line-init
loop-line-init c = (search rules, omega arith, passed-none c.args.text.now)

pub loop-line-preserved : goal.loop-line-preserved
loop-line-preserved c = (
  search rules,
  omega (arith, shorter c.loop-line.rest.now c.in-Some.line.now c.in-Some.more.now c.in-Some.ensures.spelled, c.loop-line.invariant.1),
  passed-line c.args.text.now c.loop-line.rest.now c.in-Some.line.now c.in-Some.more.now c.loop-line.invariant.2 c.in-Some.ensures.spelled c.in-Some.ensures.lines (sym c.is_header.ensures ∙ c.if-is_header.false),
)

pub returns-then-is_header : goal.returns-then-is_header
returns-then-is_header c =
    stops c.args.text.now c.loop-line.rest.now c.in-Some.line.now (10 ∷ c.in-Some.more.now) (lines_of c.in-Some.more.now) _ c.loop-line.invariant.2 c.in-Some.ensures.spelled c.in-Some.ensures.lines
    (sym c.is_header.ensures ∙ c.if-is_header.true) (omega (arith, c.loop-line.invariant.1))

pub returns-then-is_header-2 : goal.returns-then-is_header-2
returns-then-is_header-2 c =
    stops c.args.text.now c.loop-line.rest.now c.loop-line.rest.now [] [] _ c.loop-line.invariant.2 (sym (append-nil c.loop-line.rest.now)) c.in_default.ensures.lines
    (sym c.is_header-2.ensures ∙ c.if-is_header-2.true) (omega (arith, c.loop-line.invariant.1))

pub returns-else-is_header-2 : goal.returns-else-is_header-2
returns-else-is_header-2 c = ends c.args.text.now c.loop-line.rest.now c.loop-line.invariant.2 c.in_default.ensures.lines (sym c.is_header-2.ensures ∙ c.if-is_header-2.false)
