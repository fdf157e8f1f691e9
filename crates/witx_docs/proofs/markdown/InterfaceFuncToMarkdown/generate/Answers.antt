use Rattle.std.proofs.Common.{◌≡◌}
use Rattle.witx_ast.specs.Functions.{func_tree}
use Rattle.witx_markdown.specs.Contents.{content_id, with_signature}
use Rattle.witx_docs.specs.Parts.{function_parts, inputs_of, outputs_of}
use Rattle.witx_markdown.specs.Trees.{content_at, heading_below}
use Rattle.witx_docs.proofs.Generated.{then-shown}
use Rattle.witx_docs.proofs.markdown.InterfaceFuncToMarkdown.generate.Goals as goal

pub returns-clause-nodes : goal.returns-clause-nodes
returns-clause-nodes c =
    let before = content_at c.args.tree.now.contents c.args.node in
    let told : c.set_signature.new.content ≡ with_signature c.content_mut.result.now (inputs_of (func_tree c.args.self.now).params) (outputs_of (func_tree c.args.self.now).results) =
    rw (c.in_ok-inputs.ensures, c.in_ok-outputs.ensures, c.as_slice.ensures, c.as_slice-2.ensures) at c.set_signature.ensures in
    then-shown c.args.tree.now c.grow.new.tree c.args.node before c.content_mut.result.now c.set_signature.new.content
    (function_parts (heading_below c.args.tree.now c.args.node) (content_id before) (func_tree c.args.self.now))
    (λ x. with_signature x (inputs_of (func_tree c.args.self.now).params) (outputs_of (func_tree c.args.self.now).results)) c.requires c.in_ok-grow.ensures.nodes
    c.content_mut.ensures.value told
