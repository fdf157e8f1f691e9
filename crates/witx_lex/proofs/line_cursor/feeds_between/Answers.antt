use Rattle.std.proofs.Common.{◌≡◌, ℕ, ap, arith}
use Rattle.witx_lex.proofs.LinePlaces.{feeds, same_line}
use Rattle.witx_lex.proofs.line_cursor.feeds_between.Goals as goal

pub returns-clause-lines : goal.returns-clause-lines
returns-clause-lines c =
    let e : c.loop-index.index ≡ c.args.end = omega arith in
    omega (arith, c.loop-index.invariant.0, ap (λ (n : ℕ). feeds c.args.bytes.now n) e)

pub returns-clause-column : goal.returns-clause-column
returns-clause-column c z =
    let e : c.loop-index.index ≡ c.args.end = omega arith in
    same_line c.args.bytes.now c.args.at c.args.end c.requires.before c.requires.within (omega (arith, z, c.loop-index.invariant.0, ap (λ (n : ℕ). feeds c.args.bytes.now n) e))
