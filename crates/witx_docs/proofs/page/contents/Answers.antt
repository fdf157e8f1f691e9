use Rattle.std.proofs.Common.{◌∙◌, ap}
use Rattle.witx_docs.proofs.Grown.{sprouted-contents}
use Rattle.witx_docs.proofs.page.contents.Goals as goal

pub returns-clause-contents : goal.returns-clause-contents
returns-clause-contents c = ap (λ b. b.contents) c.in_ok-put_document.ensures.nodes ∙ rw (c.new-branch.ensures, c.new_header.ensures) (sprouted-contents _ _ _)
