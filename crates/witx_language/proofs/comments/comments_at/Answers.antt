use Rattle.std.proofs.Common.{sym, ◌∙◌}
use Rattle.witx_language.proofs.Held.{comments_are}
use Rattle.witx_language.proofs.comments.comments_at.Goals as goal

pub returns : goal.returns
returns c = c.in_ok-comments.ensures c.requires.0 c.requires.1 ∙ sym (comments_are c.args.tokens.now c.requires.0 c.args.at c.requires.1)
