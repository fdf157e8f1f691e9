-- The tokens of a text: those that its pieces stand for, each with its place and the comments before it.
use Rattle.std.specs.Prelude.{◌≡◌, ℕ, ◌+◌, Bool, ◌&&◌, ◌||◌, ◌==◌, if◌then◌else◌, List, [], ◌∷◌, ◌++◌, length, drop, slice_index, nat_lt}
use Rattle.std.specs.List.{flat_map}
use Rattle.witx_lex.specs.Characters.{dollar, plus, at_sign, are_digits}
use Rattle.witx_lex.specs.Pieces.{Piece, blank, line, block, opening, closing, run, quoted, spelling, part_value, ArePieces}
use Rattle.witx_lex.specs.Tokens.{Token, left, right, id, word, annot, int, quoted as quoted_token, Lexed}

-- the run without a + in front
abbrev pub unsigned : List ℕ → List ℕ
unsigned [] = []
unsigned (b ∷ bs) = if b == plus then bs else b ∷ bs

-- decimal digits, or 0x and hexadecimal digits
abbrev pub is_number : List ℕ → Bool
is_number r = are_digits 10 r || ((slice_index r 0 == 48 && slice_index r 1 == 120) && are_digits 16 (drop 2 r))

-- an optional + and a number
abbrev pub is_int : List ℕ → Bool
is_int r = is_number (unsigned r)

-- the token that a run of name characters is
abbrev pub run_token : List ℕ → Token
run_token r =
    if slice_index r 0 == dollar then id (drop 1 r)
    else if slice_index r 0 == at_sign && nat_lt 1 (length r) then annot (drop 1 r)
    else if is_int r then int r
    else word r

-- what a piece is to a reader of tokens
pub data Seen : Type 0 where
  nothing : Seen
  comment : List ℕ → Seen
  token : Token → Seen

abbrev pub piece_seen : Piece → Seen
piece_seen (blank b) = nothing
piece_seen (line t) = comment t
piece_seen (block t) = comment t
piece_seen opening = token left
piece_seen closing = token right
piece_seen (run r) = token (run_token r)
piece_seen (quoted ps) = token (quoted_token (flat_map part_value ps))

-- What was seen from the offset at up to the offset end, with these comments before it, goes to the tokens:
-- a comment to the comments before the next token, and a token, with the comments before it, to the front.
abbrev pub with_seen : Seen → ℕ → ℕ → List (List ℕ) → (List (List ℕ) → List Lexed) → List Lexed
with_seen nothing at end comments more = more comments
with_seen (comment t) at end comments more = more (comments ++ t ∷ [])
with_seen (token t) at end comments more = record { token = t; start = at; end = end; comments = comments } ∷ more []

-- the tokens of pieces of which the first stands at the offset, behind these comments
abbrev pub tokens_from : ℕ → List (List ℕ) → List Piece → List Lexed
tokens_from at comments [] = []
tokens_from at comments (p ∷ ps) =
    with_seen (piece_seen p) at (at + length (spelling p)) comments (λ cs. tokens_from (at + length (spelling p)) cs ps)

abbrev pub tokens_of : List Piece → List Lexed
tokens_of ps = tokens_from 0 [] ps

-- these are the tokens of the text
abbrev pub HasTokens : List ℕ → List Lexed → Type 0
HasTokens text tokens = (ps : List Piece) × ArePieces ps text × (tokens ≡ tokens_of ps)
