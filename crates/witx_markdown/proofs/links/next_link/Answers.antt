use Rattle.witx_markdown.proofs.Linking.{unclosed}
use Rattle.witx_markdown.proofs.links.next_link.Goals as goal

pub returns-in_default-cut : goal.returns-in_default-cut
returns-in_default-cut c = λ known. unclosed c.args.text.now c.in-Some.before.now c.in-Some.behind.now known c.in-Some.ensures c.in_default-cut.ensures
