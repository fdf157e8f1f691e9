use Rattle.std.proofs.Common.{◌+◌, ℕ, List, ap, arith, drop, take, ◌∙◌}
use Rattle.witx_base.specs.Fronts.{number_of_eight}
use Rattle.witx_base.proofs.FrontOrder.{spelt-from}
use Rattle.witx_base.proofs.spelling.ShortText.number_from.Goals as goal

pub returns : goal.returns
returns c =
    let at = c.args.at in
    let zeros = c.self.invariant.zeros in
    omega (
      arith,
      c.from_be_bytes.ensures,
      spelt-from at (take c.self.inside.len c.self.inside.bytes),
      zeros at,
      zeros (at + 1),
      zeros (at + 2),
      zeros (at + 3),
      zeros (at + 4),
      zeros (at + 5),
      zeros (at + 6),
      zeros (at + 7),
    )
    ∙ ap (λ (xs : List ℕ). number_of_eight (drop at xs)) c.self.view_is
