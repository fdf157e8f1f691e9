use Rattle.std.proofs.Common.{◌∙◌, ℕ, List, ap}
use Rattle.witx_bundle.specs.Bundles.{given, lines_of}
use Rattle.witx_bundle.proofs.lines.split_front.Goals as goal

pub returns-clause-front : goal.returns-clause-front
returns-clause-front c = c.split_at.ensures.front ∙ c.front_len.ensures.before

pub returns-clause-behind : goal.returns-clause-behind
returns-clause-behind c = ap (λ (t : List ℕ). given (lines_of t)) c.split_at.ensures.back ∙ c.front_len.ensures.behind
