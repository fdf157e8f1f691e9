-- The lexical fault of a text: the first place at which no piece can stand, with its kind.
-- Pieces stand up to that place; in a string the first offending character from the left decides.
use Rattle.std.specs.Prelude.{◌≡◌, ℕ, ◌+◌, ◌≤◌, false, not, ◌||◌, ◌==◌, IsTrue, List, [], ◌∷◌, ◌++◌, length, drop}
use Rattle.std.specs.List.{list_all, flat_map}
use Rattle.std.specs.Str.{IsUtf8}
use Rattle.witx_lex.specs.declared.error.LexKind.{LexKind}
use Rattle.witx_lex.specs.declared.error.LexKind.TheVariants.{UnexpectedCharacter, UnterminatedComment, UnterminatedString, BadEscape, BadCharacter, NotUtf8, EmptyId, TooDeep}
use Rattle.witx_lex.specs.declared.error.LexError.{LexError}
use Rattle.witx_lex.specs.declared.error.LexError.TheVariants.{Bad, OutOfMemory}
use Rattle.witx_lex.specs.declared.error.LexFault.{LexFault}
use Rattle.witx_lex.specs.Blocks.{HasNoEnd}
use Rattle.witx_lex.specs.Characters.{quote, dollar, left_paren, right_paren, semicolon, backslash, is_blank, is_name_character, is_control, begins}
use Rattle.witx_lex.specs.Pieces.{Piece, spelling, Part, is_part, part_spelling, part_value, most_open, open_after_all, Stand}

-- these parts of a string stand at the front of the text, of which the rest follows
abbrev pub StringParts : List Part → List ℕ → List ℕ → Type 0
StringParts ps text rest = IsTrue (list_all is_part ps) × (text ≡ flat_map part_spelling ps ++ rest)

-- no part of a string stands at the front of the text
abbrev pub NoPart : List ℕ → Type 0
NoPart text = (p : Part) (rest : List ℕ) → IsTrue (is_part p) → text ≡ part_spelling p ++ rest → ⊥

-- how far behind the start of a string the place is to which these parts lead
abbrev pub parts_length : List Part → ℕ
parts_length ps = 1 + length (flat_map part_spelling ps)

-- The fault of a text at whose front no piece can stand, and how far in it is, with n parentheses open before it.
abbrev pub IsFaultAt : ℕ → List ℕ → LexKind → ℕ → Type 0
IsFaultAt n [] kind k = ⊥
-- a character that begins no piece, or a single ;
IsFaultAt n (b ∷ bs) UnexpectedCharacter k = (k ≡ 0)
    × IsTrue (not (is_blank b || is_name_character b || b == left_paren || b == right_paren || b == quote))
    × (b ≡ semicolon → begins (λ c. c == semicolon) bs ≡ false)
-- a lone $
IsFaultAt n (b ∷ bs) EmptyId k = (k ≡ 0) × (b ≡ dollar) × (begins is_name_character bs ≡ false)
-- a ( that begins no comment, with as many open as may be
IsFaultAt n (b ∷ bs) TooDeep k = (k ≡ 0) × (b ≡ left_paren) × (begins (λ c. c == semicolon) bs ≡ false) × (most_open ≤ n)
-- (; without its ;)
IsFaultAt n (b ∷ bs) UnterminatedComment k = (k ≡ 0) × (b ≡ left_paren) × IsTrue (begins (λ c. c == semicolon) bs) × HasNoEnd (drop 1 bs)
-- parts up to the end of the text
IsFaultAt n (b ∷ bs) UnterminatedString k = (k ≡ 0) × (b ≡ quote) × (ps : List Part) × StringParts ps bs []
-- parts, and then a backslash that begins no part; the place is the backslash
IsFaultAt n (b ∷ bs) BadEscape k = (b ≡ quote) × (ps : List Part) × (rest : List ℕ) × StringParts ps bs (backslash ∷ rest)
    × NoPart (backslash ∷ rest) × (k ≡ parts_length ps)
-- parts, and then a control character; the place is that character
IsFaultAt n (b ∷ bs) BadCharacter k = (b ≡ quote) × (ps : List Part) × (c : ℕ) × (rest : List ℕ) × StringParts ps bs (c ∷ rest)
    × IsTrue (is_control c) × (k ≡ parts_length ps)
-- parts up to the closing quote, whose bytes together are not UTF-8
IsFaultAt n (b ∷ bs) NotUtf8 k = (k ≡ 0) × (b ≡ quote) × (ps : List Part) × (rest : List ℕ) × StringParts ps bs (quote ∷ rest)
    × (IsUtf8 (flat_map part_value ps) → ⊥)

-- the fault of the text: pieces stand up to a place at which no piece can
abbrev pub IsFault : List ℕ → LexKind → ℕ → Type 0
IsFault text kind at = (ps : List Piece) × (rest : List ℕ) × (k : ℕ) × Stand 0 ps text rest
    × IsFaultAt (open_after_all 0 ps) rest kind k × (at ≡ length (flat_map spelling ps) + k)

-- the text has this fault
abbrev pub HasFault : List ℕ → LexFault → Type 0
HasFault text f = IsFault text f.kind f.at

-- the claim holds of the fault, if the error is one
abbrev pub IfBad : LexError → (LexFault → Type 0) → Type 0
IfBad (Bad f) P = P f
IfBad OutOfMemory P = Unit {0}
