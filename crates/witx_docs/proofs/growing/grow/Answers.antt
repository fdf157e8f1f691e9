use Rattle.std.proofs.Common.{length}
use Rattle.witx_docs.proofs.Generated.{branch-fits, branch-grown}
use Rattle.witx_docs.proofs.growing.grow.Goals as goal

pub graft-requires : goal.graft-requires
graft-requires g c = branch-fits (length c.args.tree.now.contents) c.args.node _ c.in_ok-branch.branch c.requires c.in_ok-branch.ensures.branch

pub returns-clause-nodes : goal.returns-clause-nodes
returns-clause-nodes g c = branch-grown c.args.tree.now c.graft.new.tree c.args.node _ c.in_ok-branch.branch c.in_ok-branch.ensures.branch c.in_ok-graft.ensures.nodes
