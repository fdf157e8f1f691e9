use Rattle.std.proofs.Common.{ap, ◌∙◌, arith}
use Rattle.std.specs.Char.{digit_value}
use Rattle.witx_lex.specs.Characters.{scalar_value}
use Rattle.witx_lex.proofs.Scalars.{past_digit, past_other, too_large}
use Rattle.witx_lex.proofs.escape.scalar.Goals as goal
use Rattle.witx_lex.proofs.escape.scalar.Goals.{in-Some+else-code-gt1114111, in_default}

pub returns-then-code-gt1114111 : goal.returns-then-code-gt1114111
returns-then-code-gt1114111 c =
    let l = c.digits in
    let h = c.in-Some.ensures.value in
    let byte = c.from.ensures in
    too_large c.args.digits.now l.byte-index l.code (scalar_value c.args.digits.now) c.digits-test.true
    (omega (arith, ap digit_value byte, h.0)) l.invariant.1 (omega (arith, ap digit_value byte, h.1, c.if-code-gt1114111.true))

pub digits-preserved : goal.digits-preserved
digits-preserved c =
    let ds = c.args.digits.now in
    let l = c.digits in
    let byte = ap digit_value c.from.ensures in
    elim c.match-to_digit.branch [
      | in-Some+else-code-gt1114111 w ↦ (
        omega (arith, w.code-is, w.if-code-gt1114111.false),
        past_digit 16 ds l.byte-index l.code c.match-to_digit.code (scalar_value ds) c.digits-test.true (omega (arith, byte, w.in-Some.ensures.value.0))
            (w.code-is ∙ omega (arith, byte, w.in-Some.ensures.value.1)) l.invariant.1,
      )
      | in_default w ↦ (
        omega (arith, w.code-is, l.invariant.0),
        past_other 16 ds l.byte-index l.code c.match-to_digit.code (scalar_value ds) _ c.from.ensures c.digits-test.true w.in_default.ensures.value w.code-is l.invariant.1,
      )
    ]
