-- Kinds of tokens: each word of the grammar is of one, tied to its spelling here and nowhere else.
use Rattle.std.specs.Prelude.{List, [], ◌∷◌, codes}
use Rattle.witx_lex.specs.Tokens.{Token, left, right, id, word, quoted}
use Rattle.witx_imports.specs.declared.symbols.TokenKind.{TokenKind}
use Rattle.witx_imports.specs.declared.symbols.TokenKind.TheVariants.{Left, Right, Id, Quoted, ImportWord, FuncWord, ParamWord, ResultWord, I32Word, I64Word, F32Word, F64Word, Other}
use Rattle.witx_values.specs.Words.{Spelling, spelled, kind_spelled}

-- the words, those that stand often first
abbrev pub import_words : List (Spelling TokenKind)
import_words =
    spelled I32Word (codes "i32") ∷ spelled I64Word (codes "i64") ∷ spelled F32Word (codes "f32") ∷ spelled F64Word (codes "f64")
    ∷ spelled ParamWord (codes "param") ∷ spelled ResultWord (codes "result") ∷ spelled FuncWord (codes "func")
    ∷ spelled ImportWord (codes "import") ∷ []

-- the kind of a token
abbrev pub import_token_kind : Token → TokenKind
import_token_kind left = Left
import_token_kind right = Right
import_token_kind (id t) = Id
import_token_kind (quoted t) = Quoted
import_token_kind (word t) = kind_spelled Other import_words t
import_token_kind t = Other
