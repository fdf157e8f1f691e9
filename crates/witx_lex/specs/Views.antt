-- What contracts see of the tokens of the code: the same tokens, without where their bytes lie in memory.
use Rattle.std.specs.Prelude.{ℕ, List, map}
use Rattle.std.specs.Borrow.{Bor}
use Rattle.witx_lex.specs.declared.token.Token as code
use Rattle.witx_lex.specs.declared.token.Token.TheVariants as variant
use Rattle.witx_lex.specs.declared.token.Lexed as code_lexed
use Rattle.witx_lex.specs.Tokens.{Token, left, right, id, word, annot, int, quoted, Lexed}

-- borrowed texts as their bytes
abbrev pub texts_view : List (Bor (List ℕ)) → List (List ℕ)
texts_view ts = map (λ t. t.now) ts

abbrev pub token_view : code.Token → Token
token_view variant.LParen = left
token_view variant.RParen = right
token_view (variant.Id s) = id s.now
token_view (variant.Word s) = word s.now
token_view (variant.Annot s) = annot s.now
token_view (variant.Int s) = int s.now
token_view (variant.Quoted t) = quoted t

abbrev pub lexed_view : code_lexed.Lexed → Lexed
lexed_view l = record { token = token_view l.token; start = l.span.start; end = l.span.end; comments = texts_view l.comments }

abbrev pub tokens_view : List code_lexed.Lexed → List Lexed
tokens_view ls = map lexed_view ls
