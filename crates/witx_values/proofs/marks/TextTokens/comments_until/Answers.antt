use Rattle.std.proofs.Common.{◌≡◌, ◌+◌, ◌-◌, ℕ, length, take, ap, arith, ◌∙◌}
use Rattle.witx_values.specs.TextTokens.{comments_before}
use Rattle.witx_values.proofs.Held.{count_at}
use Rattle.witx_values.proofs.marks.TextTokens.comments_until.Goals as goal

pub returns-else-at-eq0 : goal.returns-else-at-eq0
returns-else-at-eq0 g c ls h =
    let this : c.args.at - 1 + 1 ≡ c.args.at = omega arith in
    count_at c.args.self.now ls h (c.args.at - 1) c.index.result.now (omega arith) c.index.ensures
    ∙ ap (λ (n : ℕ). length (comments_before (take n ls))) this
