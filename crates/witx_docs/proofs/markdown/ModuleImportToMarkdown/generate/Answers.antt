use Rattle.witx_docs.proofs.Generated.{shown-alone}
use Rattle.witx_docs.proofs.markdown.ModuleImportToMarkdown.generate.Goals as goal

pub returns-clause-nodes : goal.returns-clause-nodes
returns-clause-nodes c =
    rw (c.set_title.ensures, c.content_mut.ensures.value, c.in_ok-title.ensures) (shown-alone c.args.tree.now c.args.node _)
