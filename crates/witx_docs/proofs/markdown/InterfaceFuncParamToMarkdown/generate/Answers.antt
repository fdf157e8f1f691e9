use Rattle.witx_markdown.specs.Contents.{content_with_docs}
use Rattle.witx_docs.proofs.Generated.{then-shown}
use Rattle.witx_docs.proofs.markdown.InterfaceFuncParamToMarkdown.generate.Goals as goal

pub returns-clause-nodes : goal.returns-clause-nodes
returns-clause-nodes c =
    then-shown c.args.tree.now c.generate.new.tree c.args.node _ c.content_mut.result.now c.set_docs.new.self _ (λ x. content_with_docs x c.args.self.now.docs) c.requires
    c.in_ok-generate.ensures.nodes c.content_mut.ensures.value (rw c.in_ok-docs.ensures at c.set_docs.ensures)
