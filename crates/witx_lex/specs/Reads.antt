-- What the reader of a comment or a string answers: the piece at the front of the text, or the fault there.
use Rattle.std.specs.Prelude.{◌≡◌, ℕ, List, length, drop, Result, Err, MatchResult}
use Rattle.witx_lex.specs.declared.error.LexError.{LexError}
use Rattle.witx_lex.specs.declared.error.LexError.TheVariants.{Bad}
use Rattle.witx_lex.specs.declared.error.LexKind.{LexKind}
use Rattle.witx_lex.specs.declared.piece.Seen as code
use Rattle.witx_lex.specs.declared.piece.Seen.TheVariants as variant
use Rattle.witx_lex.specs.declared.piece.Read as code_read
use Rattle.witx_lex.specs.Pieces.{Piece, spelling, Stands}
use Rattle.witx_lex.specs.Faults.{IsFaultAt, IfBad}
use Rattle.witx_lex.specs.Meaning.{Seen, comment, token, piece_seen}
use Rattle.witx_lex.specs.Tokens.{quoted}

abbrev pub seen_view : code.Seen → Seen
seen_view (variant.Comment s) = comment s.now
seen_view (variant.Quoted t) = token (quoted t)

-- the result is this fault
abbrev pub IsBad : {X : Type 0} → Result X LexError → LexKind → ℕ → Type 0
IsBad r kind k = r ≡ Err (Bad (record { kind = kind; at = k }))

-- a piece of the text was read at its front, with n parentheses open before it
pub record FoundPiece (n : ℕ) (text : List ℕ) (r : code_read.Read) : Type 0 where
  pub piece : Piece
  pub stands : Stands n piece text (drop r.len text)
  pub len : r.len ≡ length (spelling piece)
  pub sees : seen_view r.seen ≡ piece_seen piece

-- a piece was read, or none stands there
abbrev pub ReadsPiece : ℕ → List ℕ → Result code_read.Read LexError → Type 0
ReadsPiece n text r = MatchResult r (FoundPiece n text) (λ e. IfBad e (λ f. IsFaultAt n text f.kind f.at))
