-- Lines and columns of a place in a text, both counted from 1; a column counts bytes.
use Rattle.std.specs.Prelude.{ℕ, ◌+◌, Bool, ◌==◌, List, length, take, count_by}
use Rattle.std.specs.List.{after_last}
use Rattle.witx_lex.specs.Characters.{line_feed}

abbrev pub is_line_feed : ℕ → Bool
is_line_feed b = b == line_feed

-- the line of the byte at the offset: one more than the line feeds before it; past the end it is that of the end
abbrev pub line_number_at : List ℕ → ℕ → ℕ
line_number_at text at = 1 + count_by is_line_feed (take at text)

-- the column: one more than the bytes between the last line feed before the offset, or the start, and the offset
abbrev pub column_at : List ℕ → ℕ → ℕ
column_at text at = 1 + length (after_last is_line_feed (take at text))
