-- The definitions on small texts, computed.
use Rattle.std.proofs.Common.{◌≡◌, ℕ, Bool, true, false, not, ◌||◌, ◌&&◌, ◌==◌, List, [], ◌∷◌, Some, None, refl}
use Rattle.std.specs.Prelude.{nat_le, codes, if◌then◌else◌}
use Rattle.std.specs.List.{list_all, flat_map, list_any}
use Rattle.std.specs.Char.{encode_utf8}
use Rattle.witx_lex.specs.Characters.{is_blank, is_name_character, is_unicode_scalar, scalar_value}
use Rattle.witx_lex.specs.Pieces.{raw, letter, two_digits, scalar, is_part, part_value, Piece, blank, line, block, opening, closing, run, spelling, most_open}
use Rattle.witx_lex.specs.BlockScan.{block_len}
use Rattle.witx_lex.specs.Blocks.{empty, byte, nested, IsBlockText, HasNoEnd}
use Rattle.witx_lex.specs.Tokens.{left, right, id, word, annot, int}
use Rattle.witx_lex.specs.Meaning.{run_token, tokens_of}
use Rattle.witx_lex.specs.Places.{line_number_at, column_at}
use Rattle.witx_lex.proofs.Blocks.{no_end}
use Rattle.witx_lex.proofs.Tables.{below}

-- ---- the classes, as the table lists them

abbrev signs : List ℕ
signs = codes "!#$%&'*+-./:<=>?@\\^_`|~"

abbrev is_letter_or_digit : ℕ → Bool
is_letter_or_digit b = (nat_le 97 b && nat_le b 122) || (nat_le 65 b && nat_le b 90) || (nat_le 48 b && nat_le b 57)

name_characters : list_all (λ b. if is_name_character b then is_letter_or_digit b || list_any (λ c. c == b) signs else not (is_letter_or_digit b || list_any (λ c. c == b) signs)) (below 256) ≡ true
name_characters = refl

blanks : list_all (λ b. if is_blank b then list_any (λ c. c == b) (codes " \t\n\r") else not (list_any (λ c. c == b) (codes " \t\n\r"))) (below 256) ≡ true
blanks = refl

-- ---- runs

an_identifier : run_token (codes "$a$b") ≡ id (codes "a$b")
an_identifier = refl

an_annotation : run_token (codes "@witx") ≡ annot (codes "witx")
an_annotation = refl

a_lone_at : run_token (codes "@") ≡ word (codes "@")
a_lone_at = refl

integers : (run_token (codes "1_000") ≡ int (codes "1_000")) × (run_token (codes "+7") ≡ int (codes "+7")) × (run_token (codes "0xf_F") ≡ int (codes "0xf_F")) × (run_token (codes "+0x1f") ≡ int (codes "+0x1f"))
integers = (refl, refl, refl, refl)

words : (run_token (codes "-5") ≡ word (codes "-5")) × (run_token (codes "1__0") ≡ word (codes "1__0")) × (run_token (codes "0x") ≡ word (codes "0x")) × (run_token (codes "1_") ≡ word (codes "1_")) × (run_token (codes "+") ≡ word (codes "+"))
words = (refl, refl, refl, refl, refl)

-- ---- comments

inner_comments : block_len 0 (codes " (; x ;) ;) y") ≡ Some 9
inner_comments = refl

left_to_right : (block_len 0 (codes ")") ≡ None) × (block_len 0 (codes "(;) ;)") ≡ None) × (block_len 0 (codes ")a;)") ≡ Some 2)
left_to_right = (refl, refl, refl)

inner_comment : IsBlockText (codes " (; x ;) ")
inner_comment = (byte 32 (nested (byte 32 (byte 120 (byte 32 empty))) (byte 32 empty)), refl, refl)

not_its_own_end : HasNoEnd (codes ")")
not_its_own_end = no_end (codes ")") refl

an_end_inside : HasNoEnd (codes "(;) ;)")
an_end_inside = no_end (codes "(;) ;)") refl

deepest : most_open ≡ 100
deepest = refl

-- ---- escapes

characters : (scalar_value (codes "1_F4_a9") ≡ 0x1F4A9) × (is_unicode_scalar 0xD7FF ≡ true) × (is_unicode_scalar 0xD800 ≡ false) × (is_unicode_scalar 0xDFFF ≡ false) × (is_unicode_scalar 0xE000 ≡ true) × (is_unicode_scalar 0x10_FFFF ≡ true) × (is_unicode_scalar 0x11_0000 ≡ false)
characters = (refl, refl, refl, refl, refl, refl, refl)

no_digits : (is_part (scalar []) ≡ false) × (is_part (scalar (codes "_1")) ≡ false) × (is_part (scalar (codes "1__0")) ≡ false) × (is_part (two_digits 52 103) ≡ false)
no_digits = (refl, refl, refl, refl)

decoded : flat_map part_value (letter 116 ∷ letter 110 ∷ letter 114 ∷ letter 34 ∷ letter 39 ∷ letter 92 ∷ two_digits 52 49 ∷ scalar (codes "e9") ∷ raw 97 ∷ []) ≡ 9 ∷ 10 ∷ 13 ∷ 34 ∷ 39 ∷ 92 ∷ 65 ∷ 195 ∷ 169 ∷ 97 ∷ []
unfolding encode_utf8
decoded = refl

-- ---- a text: `(a;;b` and a line feed, then `$c(;d;))`

pieces : List Piece
pieces = opening ∷ run (codes "a") ∷ line (codes "b") ∷ blank 10 ∷ run (codes "$c") ∷ block (codes "d") ∷ closing ∷ []

their_text : flat_map spelling pieces ≡ codes "(a;;b\n$c(;d;))"
unfolding pieces
their_text = refl

their_tokens : tokens_of pieces ≡
    record { token = left; start = 0; end = 1; comments = [] }
    ∷ record { token = word (codes "a"); start = 1; end = 2; comments = [] }
    ∷ record { token = id (codes "c"); start = 6; end = 8; comments = codes "b" ∷ [] }
    ∷ record { token = right; start = 13; end = 14; comments = codes "d" ∷ [] }
    ∷ []
unfolding pieces
their_tokens = refl

-- ---- places

places : (line_number_at (codes "a\nb") 2 ≡ 2) × (column_at (codes "a\nb") 2 ≡ 1) × (line_number_at (codes "a\nb") 1 ≡ 1) × (column_at (codes "a\nb") 1 ≡ 2) × (line_number_at (codes "ab") 9 ≡ 1) × (column_at (codes "ab") 9 ≡ 3)
places = (refl, refl, refl, refl, refl, refl)
