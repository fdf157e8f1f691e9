use Rattle.std.proofs.Common.{◌≡◌, ℕ, IfSome, subst, rules}
use Rattle.witx_symbols.specs.declared.symbol.Symbol.TheVariants as symbol
use Rattle.witx_symbols.proofs.LettingGo.{left-shallow, joined-shallow, payload-smaller, rest-smaller}
use Rattle.witx_symbols.proofs.symbol.Symbol.+drop.Goals as goal
use Rattle.witx_symbols.proofs.symbol.Symbol.+drop.Goals.{in-Some-left, in_default}

pub drop-requires-in-Ok : goal.drop-requires-in-Ok
drop-requires-in-Ok t c κs =
    let shallow = left-shallow c.loop-self.self c.in-Tuple.parts c.without_last-rest.result.0 c.in-Ok.more c.joined-all.result.0 c.joined-all.result.1 c.in-Some-last.last c.in-Tuple.is (search rules) (search rules) c.joined-all.ensures in
    search (rules, shallow)

pub loop-self-preserved-in-Ok : goal.loop-self-preserved-in-Ok
loop-self-preserved-in-Ok t c =
    let shallow = joined-shallow c.loop-self.self c.in-Tuple.parts c.without_last-rest.result.0 c.in-Ok.more c.joined-all.result.0 c.joined-all.result.1 c.in-Some-last.last c.in-Tuple.is (search rules) (search rules) c.joined-all.ensures in
    search (rules, shallow)

pub loop-self-smaller : goal.loop-self-smaller
loop-self-smaller t c =
    let made = subst (λ left. IfSome left (λ payload. (i : ℕ) × (c.in-Some-into_inner.inner ≡ symbol.Made i payload))) c.in-Err-Some.field-0-is c.in-Err-Some.ensures.payload in
    elim c.match-left.branch [
      | in-Some-left w ↦ search (rules, rest-smaller c.loop-self.self c.in-Tuple.parts c.without_last-rest.result.0 c.in-Some-last.last c.in-Tuple.is (search rules))
      | in_default w ↦ search (rules, payload-smaller c.loop-self.self c.in-Tuple.parts c.without_last-rest.result.0 c.with_last-all.result.0 c.in-Some-last.last c.in-Err-Some.payload made.0 c.in-Tuple.is (search rules) (search (rules, made.1)) (search rules))
    ]
