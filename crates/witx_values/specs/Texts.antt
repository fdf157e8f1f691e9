-- A text in a language: the value that it is, or its fault.
-- A text has a value where its tokens derive from the nonterminal and the derivation stands for the value.
use Rattle.std.specs.Prelude.{◌≡◌, ◌⊎◌, ℕ, nat_lt, if◌then◌else◌, List, [], length, slice_index_or}
use Rattle.witx_grammar.specs.Faults.{IsTokenFault}
use Rattle.witx_lex.specs.Tokens.{right, Lexed}
use Rattle.witx_lex.specs.Meaning.{HasTokens}
use Rattle.witx_lex.specs.Faults.{HasFault}
use Rattle.witx_lex.specs.declared.error.LexFault.{LexFault}
use Rattle.witx_lex.specs.declared.error.LexKind.{LexKind}
use Rattle.witx_values.specs.Language.{Language, grammar_of, kinds_of}
use Rattle.witx_values.specs.Readings.{IsValue}

-- what stands in place of a token where there is none
abbrev pub no_lexed : Lexed
no_lexed = record { token = right; start = 0; end = 0; comments = [] }

-- the token at a place
abbrev pub token_at : List Lexed → ℕ → Lexed
token_at ts at = slice_index_or ts at no_lexed

-- where the token with the number starts; behind the last token it is the end of the text
abbrev pub start_of : List ℕ → List Lexed → ℕ → ℕ
start_of text ts at = if nat_lt at (length ts) then (token_at ts at).start else length text

-- how a fault at an offset of a text is told: a lexical one by its kind, one of tokens by the kinds that can stand there and the one that does
pub record Telling (T F : Type 0) : Type 0 where
  pub lexical : List ℕ → LexKind → ℕ → F
  pub unexpected : List ℕ → List T → T → ℕ → F

module _ {T N P S V : Type 0} (a : Language T N P Lexed S V) (start : N) where
  -- the text has this value
  pub record HasValue (text : List ℕ) (v : V) : Type 0 where
    pub tokens : List Lexed
    pub lexed : HasTokens text tokens
    pub parsed : IsValue a start tokens v

module _ {T N P S V F : Type 0} (a : Language T N P Lexed S V) (start : N) (telling : Telling T F) where
  -- the text has no tokens, for this reason
  pub record IsLexical (text : List ℕ) (f : F) : Type 0 where
    pub fault : LexFault
    pub has_fault : HasFault text fault
    pub told : f ≡ telling.lexical text fault.kind fault.at

  -- the text has tokens, but one of them, or the end, can't stand at its place
  pub record IsSyntactic (text : List ℕ) (f : F) : Type 0 where
    pub tokens : List Lexed
    pub lexed : HasTokens text tokens
    pub at : ℕ
    pub expected : List T
    pub has_fault : IsTokenFault (grammar_of a) start (kinds_of a tokens) at expected
    pub told : f ≡ telling.unexpected text expected (slice_index_or (kinds_of a tokens) at a.end) (start_of text tokens at)

  -- this is the fault of the text: its lexical fault, or else that of its tokens
  abbrev pub IsTextFault : List ℕ → F → Type 0
  IsTextFault text f = IsLexical text f ⊎ IsSyntactic text f
