-- What was handed to what takes the tokens of a text.
use Rattle.std.specs.Prelude.{◌≡◌, ◌<◌, ◌≤◌, ℕ, ◌+◌, List, [], ◌∷◌, ◌++◌, length, drop, Result, IfOk}
use Rattle.std.specs.Str.{IsCharBoundary}
use Rattle.witx_lex.specs.declared.cut.Cut.{Cut}
use Rattle.witx_lex.specs.declared.error.LexError.{LexError}
use Rattle.witx_lex.specs.declared.error.LexFault.{LexFault}
use Rattle.witx_lex.specs.declared.token.Span as code
use Rattle.witx_lex.specs.Faults.{IsFaultAt}
use Rattle.witx_lex.specs.Meaning.{Seen, nothing, comment, token, piece_seen, HasTokens}
use Rattle.witx_lex.specs.Pieces.{Piece, spelling, most_open, open_after, Stands}
use Rattle.witx_lex.specs.Tokens.{Token, Lexed}

-- the token, where it stands, behind these comments
abbrev pub lexed_token : Token → code.Span → List (List ℕ) → Lexed
lexed_token t span cs = record { token = t; start = span.start; end = span.end; comments = cs }

-- the tokens of the text were taken, and behind them some list of comments, of which nothing is said
abbrev pub TookTokens : {X : Type 0} → (X → List Lexed → List (List ℕ) → Type 0) → X → List ℕ → Type 0
TookTokens Took x text = (ts : List Lexed) × (cs : List (List ℕ)) × HasTokens text ts × Took x ts cs

-- ---- one piece

-- between the one and the other this token was taken, which stands from the offset at up to the offset end
abbrev pub TookToken : {X : Type 0} → (X → List Lexed → List (List ℕ) → Type 0) → X → X → Token → ℕ → ℕ → Type 0
TookToken Took old new t at end = (ts : List Lexed) (cs : List (List ℕ)) → Took old ts cs
    → Took new (ts ++ record { token = t; start = at; end = end; comments = cs } ∷ []) []

-- between the one and the other was taken what was seen from the offset at up to the offset end
abbrev pub TookSeen : {X : Type 0} → (X → List Lexed → List (List ℕ) → Type 0) → X → X → Seen → ℕ → ℕ → Type 0
TookSeen Took old new nothing at end = (ts : List Lexed) (cs : List (List ℕ)) → Took old ts cs → Took new ts cs
TookSeen Took old new (comment t) at end = (ts : List Lexed) (cs : List (List ℕ)) → Took old ts cs → Took new ts (cs ++ t ∷ [])
TookSeen Took old new (token t) at end = TookToken Took old new t at end

-- some text is left behind the cut, which stands between characters, and no more parentheses are open than may be
pub record HasMoreBehind (text : List ℕ) (from : Cut) : Type 0 where
  pub within : from.at < length text
  pub boundary : IsCharBoundary text from.at
  pub deep : from.depth ≤ most_open

-- a piece of the text stands from the one cut up to the other, and what it is was taken
pub record HandedOn {X : Type 0} (Took : X → List Lexed → List (List ℕ) → Type 0) (text : List ℕ) (old new : X) (from to : Cut) : Type 0 where
  pub piece : Piece
  pub stands : Stands from.depth piece (drop from.at text) (drop to.at text)
  pub end : to.at ≡ from.at + length (spelling piece)
  pub depth : to.depth ≡ open_after from.depth piece
  pub took : TookSeen Took old new (piece_seen piece) from.at to.at

-- where a cut comes out, a piece of the text was handed on up to it
abbrev pub HandsOnPiece : {X : Type 0} → (X → List Lexed → List (List ℕ) → Type 0) → List ℕ → X → X → Cut → Result Cut LexError → Type 0
HandsOnPiece Took text old new from result = IfOk result (λ to. HandedOn Took text old new from to)

-- the fault is that of the text behind the cut
abbrev pub FaultFrom : List ℕ → Cut → LexFault → Type 0
FaultFrom text from f = (k : ℕ) × IsFaultAt from.depth (drop from.at text) f.kind k × (f.at ≡ from.at + k)
