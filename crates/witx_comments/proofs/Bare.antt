-- Items without comments: their documentation is empty.
use Rattle.std.proofs.Common.{◌≡◌, ℕ, List, [], ◌∷◌, ◌==◌, true, refl, ◌∙◌, length, arith, eqb-true}
use Rattle.std.proofs.lemmas.List.{length-map}
use Rattle.witx_comments.specs.Comments.{comments_view}
use Rattle.witx_comments.specs.Documentation.{documentation_of, text_of_lines}
use Rattle.witx_comments.specs.declared.comment.CommentSyntax.{CommentSyntax}

nothing-said : (comments : List (List ℕ)) → length comments ≡ 0 → documentation_of comments ≡ []
unfolding documentation_of text_of_lines
nothing-said [] e = refl
nothing-said (comment ∷ more) e = absurd (omega (arith, e))

pub bare : (noted : CommentSyntax) → (length noted.comments == 0) ≡ true → documentation_of (comments_view noted) ≡ []
bare noted e = nothing-said (comments_view noted) (length-map noted.comments (λ t. t.now) ∙ eqb-true (length noted.comments) 0 e)
