use Rattle.std.proofs.Common.{arith, rules}
use Rattle.std.specs.Str.{IsCharBoundary}
use Rattle.std.proofs.lemmas.Str.{IsCharBoundary-after_ascii}
use Rattle.witx_lex.proofs.run.run_token.Goals as goal

pub range_from-requires : goal.range_from-requires
range_from-requires c =
    let behind : IsCharBoundary c.args.run.now 1 = IsCharBoundary-after_ascii c.args.run.now 0 c.utf8.run c.requires (omega (arith, c.byte_at-first.ensures, c.if-first-eq36.true)) in
    search rules

pub range_from-requires-then-run-gt1 : goal.range_from-requires-then-run-gt1
range_from-requires-then-run-gt1 c =
    let behind : IsCharBoundary c.args.run.now 1 = IsCharBoundary-after_ascii c.args.run.now 0 c.utf8.run c.requires (omega (arith, c.byte_at-first.ensures, c.if-first-eq64.true)) in
    search rules
