-- Tokens as contracts see them: their bytes, without where these lie in memory.
use Rattle.std.specs.Prelude.{ℕ, List}

pub data Token : Type 0 where
  left : Token
  right : Token
  id : List ℕ → Token
  word : List ℕ → Token
  annot : List ℕ → Token
  int : List ℕ → Token
  quoted : List ℕ → Token

-- a token, the offsets at which it starts and ends, and the comments between it and the token before
pub record Lexed : Type 0 where
  pub token : Token
  pub start : ℕ
  pub end : ℕ
  pub comments : List (List ℕ)
