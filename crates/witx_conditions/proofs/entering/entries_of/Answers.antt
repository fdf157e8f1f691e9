use Rattle.std.proofs.Common.{rules}
use Rattle.witx_conditions.specs.Making.{StandsTwice}
use Rattle.witx_conditions.proofs.Making.{fits-none, fits-twice}
use Rattle.witx_conditions.proofs.entering.entries_of.Goals as goal

pub loop-definition-init : goal.loop-definition-init
loop-definition-init g c =
    record { fits = fits-none g.D.Defined.name_of g.D.Defined.tree g.D.Defined.view c.args.definitions.now c.new-entries.result c.new-entries.ensures }

pub returns-then-not-branch-clause-twice : goal.returns-then-not-branch-clause-twice
returns-then-not-branch-clause-twice g c =
    let twice : StandsTwice g.D.Defined.name_of g.D.Defined.tree (g.D.Defined.view c.definition-item.result) c.loop-definition.entries = search rules in
    λ e s. fits-twice g.D.Defined.name_of g.D.Defined.tree g.D.Defined.view c.args.definitions.now c.loop-definition.definition-index
    c.definition-item.result c.loop-definition.entries (search rules) c.definition-item.is c.loop-definition.invariant.fits twice s
