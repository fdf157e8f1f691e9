-- The message of a syntax fault, from the kinds of tokens that can stand at its place and the one that does.
use Rattle.std.specs.Prelude.{ℕ, ◌&&◌, ◌||◌, if◌then◌else◌, List, [], ◌∷◌, ◌++◌, map, codes, Option, Some, None, unwrap_or}
use Rattle.std.specs.Borrow.{Bor}
use Rattle.std.specs.List.{list_all, list_any}
use Rattle.witx_lex.specs.declared.error.LexKind.{LexKind}
use Rattle.witx_lex.specs.declared.error.LexKind.TheVariants.{UnexpectedCharacter, UnterminatedComment, UnterminatedString, BadEscape, BadCharacter, NotUtf8, EmptyId, TooDeep}
use Rattle.witx_language.specs.declared.token_kind.TokenKind.{TokenKind}
use Rattle.witx_language.specs.declared.token_kind.TokenKind.TheVariants.{Left, Right, Id, Quoted, Integer, BigInteger, End}
use Rattle.witx_values.specs.declared.words.Word.{Word}
use Rattle.witx_values.specs.Words.{Spelling}
use Rattle.witx_language.specs.TokenKinds.{is_kind, the_words, the_annotations}

-- what a message says of a text
abbrev pub quoted_in_message : List ℕ → List ℕ
quoted_in_message t = codes "expected `" ++ (t ++ codes "`")

-- a kind of tokens, and the message where they alone can stand
pub record Expected : Type 0 where
  pub kind : TokenKind
  pub message : List ℕ

-- a word of the code, whose note is its message
abbrev pub expected_view : Word TokenKind (Bor (List ℕ)) → Expected
expected_view w = record { kind = w.kind; message = w.note.now }

-- the message of a word
abbrev pub expected_word : Spelling TokenKind → Expected
expected_word s = record { kind = s.kind; message = quoted_in_message s.text }

-- that of an annotation
abbrev pub expected_annotation : Spelling TokenKind → Expected
expected_annotation s = record { kind = s.kind; message = quoted_in_message (codes "@" ++ s.text) }

abbrev pub unexpected : List ℕ
unexpected = codes "unexpected token"

-- the message for the kind, if it is one of these
abbrev pub message_in : List Expected → TokenKind → Option (List ℕ)
message_in [] k = None
message_in (e ∷ es) k = if is_kind e.kind k then Some e.message else message_in es k

-- where tokens of one kind alone can stand
abbrev pub expected_message : TokenKind → List ℕ
expected_message k =
    if is_kind k Id then codes "expected an identifier"
    else if is_kind k Quoted then codes "expected a string"
    else if is_kind k Integer then codes "expected an integer"
    else if is_kind k Left then quoted_in_message (codes "(")
    else if is_kind k Right then quoted_in_message (codes ")")
    else unwrap_or (message_in (map expected_word the_words) k) (unwrap_or (message_in (map expected_annotation the_annotations) k) unexpected)

-- the first kind that isn't the end of the text, which is no token
abbrev pub first_kind : List TokenKind → Option TokenKind
first_kind [] = None
first_kind (k ∷ ks) = if is_kind k End then first_kind ks else Some k

-- the kind, if there is no other
abbrev pub alone : List TokenKind → Option TokenKind → Option TokenKind
alone ks None = None
alone ks (Some k) = if list_all (λ u. is_kind u k || is_kind u End) ks then Some k else None

abbrev pub only_kind : List TokenKind → Option TokenKind
only_kind ks = alone ks (first_kind ks)

abbrev pub message_of_only : Option TokenKind → List ℕ
message_of_only None = unexpected
message_of_only (Some k) = expected_message k

-- the message where tokens of these kinds can stand and one of the kind here stands
abbrev pub message_of : List TokenKind → TokenKind → List ℕ
message_of expected here = if is_kind here BigInteger && list_any (λ u. is_kind u Integer) expected then codes "integer out of range" else message_of_only (only_kind expected)

-- the message of a lexical fault
abbrev pub lexical_message : LexKind → List ℕ
lexical_message UnexpectedCharacter = codes "unexpected character"
lexical_message UnterminatedComment = codes "unterminated block comment"
lexical_message UnterminatedString = codes "unterminated string"
lexical_message BadEscape = codes "invalid escape"
lexical_message BadCharacter = codes "invalid character in string"
lexical_message NotUtf8 = codes "string is not UTF-8"
lexical_message EmptyId = codes "empty identifier"
lexical_message TooDeep = codes "too many open parentheses"
