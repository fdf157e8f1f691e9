use Rattle.std.proofs.Common.{rules, string_bytes}
use Rattle.std.specs.Map.{keys_of}
use Rattle.witx_markdown.proofs.Linking.{next-text, next-missing}
use Rattle.witx_markdown.proofs.links.put_linked.Goals as goal

pub loop-before-preserved : goal.loop-before-preserved
loop-before-preserved c = (
  search rules,
  rw (c.in_ok-put_link.ensures.text, c.in_ok-put.ensures)
      (next-text (keys_of c.args.known.now) c.loop-before.rest.now c.in-Some.before.now c.in-Some.link.now c.in-Some.behind.now (string_bytes c.loop-before.out) _
      c.in-Some.ensures c.loop-before.invariant.1),
  rw c.in_ok-put_link.ensures.missing
      (next-missing (keys_of c.args.known.now) c.loop-before.rest.now c.in-Some.before.now c.in-Some.link.now c.in-Some.behind.now c.loop-before.missing_links _
      c.in-Some.ensures c.loop-before.invariant.2),
)

pub returns-clause-missing : goal.returns-clause-missing
returns-clause-missing c = search rules

pub returns-clause-text : goal.returns-clause-text
returns-clause-text c = search rules
