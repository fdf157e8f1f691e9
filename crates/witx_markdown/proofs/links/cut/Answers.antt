use Rattle.witx_markdown.proofs.Linking.{cut-piece}
use Rattle.witx_markdown.proofs.links.cut.Goals as goal

pub returns : goal.returns
returns c = cut-piece _ _ c.split_once.ensures.cases
