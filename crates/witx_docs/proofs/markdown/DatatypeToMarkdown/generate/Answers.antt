use Rattle.witx_ast.specs.Views.{datatype_tree}
use Rattle.witx_markdown.specs.Contents.{with_type}
use Rattle.witx_docs.specs.Parts.{type_shown}
use Rattle.witx_docs.proofs.Generated.{then-shown}
use Rattle.witx_docs.proofs.markdown.DatatypeToMarkdown.generate.Goals as goal

pub returns-clause-nodes : goal.returns-clause-nodes
returns-clause-nodes c =
    then-shown c.args.tree.now c.grow.new.tree c.args.node _ c.content_mut.result.now c.set_type.new.content _ (λ x. with_type x (type_shown (datatype_tree c.args.self.now))) c.requires
    c.in_ok-grow.ensures.nodes c.content_mut.ensures.value (rw c.in_ok-ty.ensures at c.set_type.ensures)
