-- Comments as contracts see them: the texts behind their `;;`.
use Rattle.std.specs.Prelude.{ℕ, List, map}
use Rattle.witx_comments.specs.declared.comment.CommentSyntax.{CommentSyntax}

-- the texts of comments
abbrev pub Comments : Type 0
Comments = List (List ℕ)

abbrev pub comments_view : CommentSyntax → Comments
comments_view c = map (λ t. t.now) c.comments
