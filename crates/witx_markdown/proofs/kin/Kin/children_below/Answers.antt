use Rattle.std.proofs.Common.{◌∙◌}
use Rattle.witx_markdown.proofs.Descent.{levels-found, nodes-within}
use Rattle.witx_markdown.proofs.kin.Kin.children_below.Goals as goal

pub children_of_each-requires : goal.children_of_each-requires
children_of_each-requires c = rw (c.as_slice.ensures, c.in_ok-nodes.ensures.order) (nodes-within c.args.self.now c.args.node c.requires)

pub returns : goal.returns
returns c =
    c.in_ok-numbers.ensures ∙ rw (c.as_slice.ensures, c.in_ok-nodes.ensures.order) (levels-found c.args.self.now c.args.node c.in_ok-nodes.ensures.tree)
