use Rattle.std.proofs.Common.{◌∙◌, sym}
use Rattle.witx_compat.proofs.Steps.{misplaced-variant}
use Rattle.witx_compat.proofs.representable.VariantRepresentable.representable.Goals as goal

pub returns-then-not-are_placed-clause-exact : goal.returns-then-not-are_placed-clause-exact
returns-then-not-are_placed-clause-exact c = misplaced-variant c.args.self.now c.args.by.now (sym c.are_placed.ensures ∙ c.if-not-are_placed.true)
