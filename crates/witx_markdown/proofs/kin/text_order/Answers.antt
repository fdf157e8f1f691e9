use Rattle.witx_markdown.proofs.Descent.{nodes-within}
use Rattle.witx_markdown.proofs.kin.text_order.Goals as goal

pub returns-clause-within : goal.returns-clause-within
returns-clause-within c = rw (c.in_ok-nodes.ensures.order, c.in_ok-kin.ensures) (nodes-within c.args.parents.now 0 c.requires.root)
