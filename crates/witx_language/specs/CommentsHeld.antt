-- The comments before a token, read off the marks of a text's tokens.
use Rattle.std.specs.Prelude.{ℕ, ◌+◌, List, ◌∷◌, map, slice_index, slice_range}
use Rattle.witx_lex.specs.Views.{texts_view}
use Rattle.witx_values.specs.declared.marks.TextTokens.{TextTokens}

-- how many comments stand before the start of the text, and before the end of each token
abbrev pub comment_counts : {K : Type 0} → TextTokens K → List ℕ
comment_counts held = 0 ∷ map (λ m. m.comments) held.marks.items

-- the comments before the token with the number: those from the end of the token before it up to its own end; behind the last token there are none
abbrev pub comments_held : {K : Type 0} → TextTokens K → ℕ → List (List ℕ)
comments_held held at = slice_range (texts_view held.comments.items) (slice_index (comment_counts held) at) (slice_index (comment_counts held) (at + 1))
