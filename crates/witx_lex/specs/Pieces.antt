-- The pieces of a text: it is cut into blanks, comments and tokens, which together spell it exactly.
-- Stated of the whole text: how each piece is spelled, what each may hold, and what may follow it.
use Rattle.std.specs.Prelude.{◌≡◌, ◌≢◌, ℕ, ◌+◌, ◌-◌, ◌≤◌, Bool, false, ◌&&◌, ◌==◌, is_some, unwrap_or, IsTrue, List, [], ◌∷◌, ◌++◌, ◌⊎◌}
use Rattle.std.specs.List.{list_all, flat_map}
use Rattle.std.specs.Char.{is_digit, encode_utf8}
use Rattle.std.specs.Str.{IsUtf8}
use Rattle.std.specs.Str.Parse.{digits_value}
use Rattle.witx_lex.specs.declared.cut.TheConstants.{MOST_OPEN}
use Rattle.witx_lex.specs.Blocks.{IsBlockText}
use Rattle.witx_lex.specs.Characters.{line_feed, quote, dollar, left_paren, right_paren, semicolon, backslash, is_blank, is_name_character, is_line_byte, is_raw, letter_value, is_unicode_scalar, are_digits, scalar_value, begins}

-- ---- spellings

-- what stands between the quotes of a string, part by part
pub data Part : Type 0 where
  raw : ℕ → Part  -- a byte that stands for itself
  letter : ℕ → Part  -- a backslash and one of t n r " ' \
  two_digits : ℕ → ℕ → Part  -- a backslash and two hexadecimal digits, for a byte
  scalar : List ℕ → Part  -- a backslash, u and braces round hexadecimal digits, for a character

pub data Piece : Type 0 where
  blank : ℕ → Piece
  line : List ℕ → Piece  -- ;; and a comment up to the end of its line
  block : List ℕ → Piece  -- a comment between (; and ;)
  opening : Piece  -- (
  closing : Piece  -- )
  run : List ℕ → Piece  -- a longest run of name characters
  quoted : List Part → Piece  -- a string

abbrev pub part_spelling : Part → List ℕ
part_spelling (raw b) = b ∷ []
part_spelling (letter c) = backslash ∷ c ∷ []
part_spelling (two_digits high low) = backslash ∷ high ∷ low ∷ []
part_spelling (scalar ds) = backslash ∷ 117 ∷ 123 ∷ (ds ++ 125 ∷ [])

abbrev pub spelling : Piece → List ℕ
spelling (blank b) = b ∷ []
spelling (line t) = semicolon ∷ semicolon ∷ t
spelling (block t) = left_paren ∷ semicolon ∷ (t ++ semicolon ∷ right_paren ∷ [])
spelling opening = left_paren ∷ []
spelling closing = right_paren ∷ []
spelling (run r) = r
spelling (quoted ps) = quote ∷ (flat_map part_spelling ps ++ quote ∷ [])

-- ---- what each may hold

abbrev pub is_part : Part → Bool
is_part (raw b) = is_raw b
is_part (letter c) = is_some (letter_value c)
is_part (two_digits high low) = is_digit high 16 && is_digit low 16
is_part (scalar ds) = are_digits 16 ds && is_unicode_scalar (scalar_value ds)

-- the bytes that a part stands for
abbrev pub part_value : Part → List ℕ
part_value (raw b) = b ∷ []
part_value (letter c) = unwrap_or (letter_value c) 0 ∷ []
part_value (two_digits high low) = digits_value 16 (high ∷ low ∷ []) ∷ []
part_value (scalar ds) = encode_utf8 (scalar_value ds)

abbrev pub IsPiece : Piece → Type 0
IsPiece (blank b) = IsTrue (is_blank b)
IsPiece (line t) = IsTrue (list_all is_line_byte t)
IsPiece (block t) = IsBlockText t
IsPiece opening = Unit {0}
IsPiece closing = Unit {0}
IsPiece (run r) = (r ≢ []) × IsTrue (list_all is_name_character r) × (r ≢ dollar ∷ [])
IsPiece (quoted ps) = IsTrue (list_all is_part ps) × IsUtf8 (flat_map part_value ps)

-- ---- what may follow each

-- A line comment ends before a line feed or at the end; a ( has no ; behind it, and a run no name character.
abbrev pub IsEnded : Piece → List ℕ → Type 0
IsEnded (blank b) rest = Unit {0}
IsEnded (line t) rest = (rest ≡ []) ⊎ IsTrue (begins (λ b. b == line_feed) rest)
IsEnded (block t) rest = Unit {0}
IsEnded opening rest = begins (λ b. b == semicolon) rest ≡ false
IsEnded closing rest = Unit {0}
IsEnded (run r) rest = begins is_name_character rest ≡ false
IsEnded (quoted ps) rest = Unit {0}

-- ---- how deep they nest

-- the most parentheses that may be open
abbrev pub most_open : ℕ
most_open = MOST_OPEN

-- how many parentheses are open after a piece, of n before it; a ) where none is open changes nothing
abbrev pub open_after : ℕ → Piece → ℕ
open_after n opening = n + 1
open_after n closing = n - 1
open_after n (blank b) = n
open_after n (line t) = n
open_after n (block t) = n
open_after n (run r) = n
open_after n (quoted ps) = n

abbrev pub open_after_all : ℕ → List Piece → ℕ
open_after_all n [] = n
open_after_all n (p ∷ ps) = open_after_all (open_after n p) ps

-- ---- pieces of a text

-- the piece stands at the front of the text, of which the rest follows, with n parentheses open before it
pub record Stands (n : ℕ) (p : Piece) (text rest : List ℕ) : Type 0 where
  pub piece : IsPiece p
  pub spelled : text ≡ spelling p ++ rest
  pub ended : IsEnded p rest
  pub depth : open_after n p ≤ most_open

-- these pieces stand one after the other at the front of the text, of which the rest follows
abbrev pub Stand : ℕ → List Piece → List ℕ → List ℕ → Type 0
Stand n [] text rest = text ≡ rest
Stand n (p ∷ ps) text rest = (next : List ℕ) × Stands n p text next × Stand (open_after n p) ps next rest

-- these are the pieces of the text
abbrev pub ArePieces : List Piece → List ℕ → Type 0
ArePieces ps text = Stand 0 ps text []
