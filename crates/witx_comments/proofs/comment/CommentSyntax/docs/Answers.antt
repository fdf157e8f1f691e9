use Rattle.std.proofs.Common.{sym, ◌∙◌}
use Rattle.witx_comments.proofs.Bare.{bare}
use Rattle.witx_comments.proofs.comment.CommentSyntax.docs.Goals as goal

pub returns-then-is_empty : goal.returns-then-is_empty
returns-then-is_empty c = c.from_string.ensures ∙ (c.new.ensures.bytes ∙ sym (bare c.args.self.now (sym c.is_empty.ensures ∙ c.if-is_empty.true)))
