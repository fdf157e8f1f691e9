-- Which bytes of the text a token is: those at its span, without the $ of an identifier and the @ of an annotation.
use Rattle.std.specs.Prelude.{◌≡◌, ℕ, ◌≤◌, List, [], ◌∷◌, slice_range, length}
use Rattle.std.specs.List.{flat_map}
use Rattle.witx_lex.specs.Characters.{dollar, left_paren, right_paren, at_sign}
use Rattle.witx_lex.specs.Pieces.{Part, quoted, spelling, IsPiece, part_value}
use Rattle.witx_lex.specs.Tokens.{Token, left, right, id, word, annot, int, quoted as quoted_token, Lexed}

-- the bytes spell the token; those of a string are decoded, part by part
abbrev pub SpellsToken : List ℕ → Token → Type 0
SpellsToken bytes left = bytes ≡ left_paren ∷ []
SpellsToken bytes right = bytes ≡ right_paren ∷ []
SpellsToken bytes (id t) = bytes ≡ dollar ∷ t
SpellsToken bytes (annot t) = bytes ≡ at_sign ∷ t
SpellsToken bytes (word t) = bytes ≡ t
SpellsToken bytes (int t) = bytes ≡ t
SpellsToken bytes (quoted_token t) = (ps : List Part) × IsPiece (quoted ps) × (bytes ≡ spelling (quoted ps)) × (t ≡ flat_map part_value ps)

-- the token stands in the text where its span says
pub record StandsAt (text : List ℕ) (l : Lexed) : Type 0 where
  pub ordered : l.start ≤ l.end
  pub inside : l.end ≤ length text
  pub spelled : SpellsToken (slice_range text l.start l.end) l.token
