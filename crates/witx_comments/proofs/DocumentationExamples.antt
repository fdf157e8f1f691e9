-- The definition at small lists of comments, computed.
use Rattle.std.proofs.Common.{◌≡◌, [], ◌∷◌, refl}
use Rattle.std.specs.Str.{chars, trim_start, trim_end}
use Rattle.std.specs.Fmt.Cut.{floor_char_boundary}
use Rattle.std.specs.Prelude.{codes}
use Rattle.witx_comments.specs.Documentation.{documentation_of, margin_of, text_of_lines}

one_comment : documentation_of (codes "; hello" ∷ []) ≡ codes "hello\n"
unfolding documentation_of margin_of text_of_lines chars trim_start trim_end floor_char_boundary lib.Utf8.encode
one_comment = refl

-- the second line begins with U+3000, three bytes, inside of which the margin of 1 falls
wide_space : documentation_of (codes "; a" ∷ (59 ∷ 0xE3 ∷ 0x80 ∷ 0x80 ∷ 98 ∷ []) ∷ []) ≡ 97 ∷ 10 ∷ 0xE3 ∷ 0x80 ∷ 0x80 ∷ 98 ∷ 10 ∷ []
unfolding documentation_of margin_of text_of_lines chars trim_start trim_end floor_char_boundary lib.Utf8.encode
wide_space = refl

-- comments without a `;` give nothing, an empty line only its line feed
others : documentation_of (codes " a" ∷ codes ";  b " ∷ codes "; " ∷ codes "; c" ∷ []) ≡ codes " b\n\nc\n"
unfolding documentation_of margin_of text_of_lines chars trim_start trim_end floor_char_boundary lib.Utf8.encode
others = refl
