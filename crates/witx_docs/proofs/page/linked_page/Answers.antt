use Rattle.std.proofs.Common.{◌∙◌}
use Rattle.std.specs.Map.{keys_of}
use Rattle.witx_markdown.specs.Links.{ids}
use Rattle.witx_docs.proofs.Paging.{text-same, missing-links-same}
use Rattle.witx_docs.proofs.page.linked_page.Goals as goal

pub returns-clause-text : goal.returns-clause-text
returns-clause-text c =
    c.from_string.ensures ∙ c.in_ok-put_contents.ensures.text
    ∙ rw c.new-out.ensures.bytes (text-same (keys_of c.in_ok-known.known) (ids c.args.contents.now) c.args.contents.now c.in_ok-known.ensures)

pub returns-clause-missing : goal.returns-clause-missing
returns-clause-missing c =
    c.in_ok-put_contents.ensures.missing ∙ rw c.new-missing_links.ensures
    (missing-links-same (keys_of c.in_ok-known.known) (ids c.args.contents.now) c.args.contents.now c.in_ok-known.ensures)
