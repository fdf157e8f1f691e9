use Rattle.std.proofs.Common.{ℕ, List, length, get_or, ap, arith}
use Rattle.std.proofs.lemmas.Str.{IsCharBoundary-after_ascii}
use Rattle.witx_syntax.proofs.leaf.name_behind.Goals as goal

pub range_from-requires : goal.range_from-requires
range_from-requires c _ =
    let e = c.requires.1 in
    IsCharBoundary-after_ascii c.args.spelling.now 0 c.utf8.spelling (omega (arith, ap (λ (t : List ℕ). length t) e)) (omega (arith, ap (λ (t : List ℕ). get_or t 0 0) e))
