use Rattle.std.proofs.Common.{◌∙◌, ap, map}
use Rattle.witx_ast.specs.Definitions.{definition_tree}
use Rattle.witx_docs.specs.Pages.{page_contents}
use Rattle.witx_docs.proofs.PageTrees.{text-of-page, missing-of-page}
use Rattle.witx_docs.proofs.page.page_of.Goals as goal

pub returns-clause-text : goal.returns-clause-text
returns-clause-text c = c.in_ok-page.ensures.text ∙ text-of-page c.as_slice-2.result.now (map definition_tree c.args.document.now.definitions)
    (c.as_slice-2.ensures ∙ c.in_ok-contents.ensures.contents ∙ ap (λ ds. page_contents (map definition_tree ds)) (c.as_slice.ensures ∙ c.definitions.ensures))

pub returns-clause-missing : goal.returns-clause-missing
returns-clause-missing c = c.in_ok-page.ensures.missing ∙ missing-of-page c.as_slice-2.result.now (map definition_tree c.args.document.now.definitions)
    (c.as_slice-2.ensures ∙ c.in_ok-contents.ensures.contents ∙ ap (λ ds. page_contents (map definition_tree ds)) (c.as_slice.ensures ∙ c.definitions.ensures))
