use Rattle.std.proofs.Common.{arith, string_bytes}
use Rattle.std.specs.Map.{keys_of}
use Rattle.witx_markdown.specs.Contents.{content_text}
use Rattle.witx_markdown.specs.Links.{with_links, missing_in}
use Rattle.witx_docs.proofs.Paging.{next-flat, all-flat}
use Rattle.witx_docs.proofs.page.put_contents.Goals as goal

pub loop-content-preserved : goal.loop-content-preserved
loop-content-preserved c = record {
  text = rw c.in_ok-put_linked_content.ensures.text (next-flat (λ x. content_text (with_links (keys_of c.args.known.now) x)) c.args.contents.now c.loop-content.content-index
      c.content-item.result (string_bytes c.loop-content.out) _ c.loop-content-test.true c.content-item.is c.loop-content.invariant.text);
  missing = rw c.in_ok-put_linked_content.ensures.missing (next-flat (missing_in (keys_of c.args.known.now)) c.args.contents.now c.loop-content.content-index
      c.content-item.result c.loop-content.missing_links _ c.loop-content-test.true c.content-item.is c.loop-content.invariant.missing);
}

pub returns-clause-text : goal.returns-clause-text
returns-clause-text c = all-flat (λ x. content_text (with_links (keys_of c.args.known.now) x)) c.args.contents.now c.loop-content.content-index
    (string_bytes c.loop-content.out) _ (omega arith) c.loop-content.invariant.text

pub returns-clause-missing : goal.returns-clause-missing
returns-clause-missing c = all-flat (missing_in (keys_of c.args.known.now)) c.args.contents.now c.loop-content.content-index
    c.loop-content.missing_links _ (omega arith) c.loop-content.invariant.missing
