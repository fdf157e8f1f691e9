-- What the reader of one escape answers.
use Rattle.std.specs.Prelude.{◌≡◌, ℕ, ◌+◌, IsTrue, List, [], ◌∷◌, ◌++◌, length, drop}
use Rattle.std.specs.Char.{encode_utf8}
use Rattle.witx_lex.specs.declared.escape.Escaped.{Escaped}
use Rattle.witx_lex.specs.declared.escape.Escaped.TheVariants.{Byte, Scalar}
use Rattle.witx_lex.specs.declared.escape.Escape.{Escape}
use Rattle.witx_lex.specs.Characters.{backslash}
use Rattle.witx_lex.specs.Pieces.{Part, is_part, part_spelling, part_value}

abbrev pub escaped_bytes : Escaped → List ℕ
escaped_bytes (Byte b) = b ∷ []
escaped_bytes (Scalar c) = encode_utf8 c

-- these bytes follow a backslash, and begin with the rest of this escape
pub record IsEscape (bytes : List ℕ) (e : Escape) : Type 0 where
  pub part : Part
  pub valid : IsTrue (is_part part)
  pub spelled : backslash ∷ bytes ≡ part_spelling part ++ drop e.len bytes
  pub len : e.len + 1 ≡ length (part_spelling part)
  pub value : escaped_bytes e.value ≡ part_value part
