-- The tokens of a text as they are held to be read: the kind of each, where it stands, and the comments one after the other.
use Rattle.std.specs.Prelude.{◌≡◌, ℕ, ◌+◌, ◌<◌, List, [], ◌∷◌, ◌++◌, map, length, Result, IfOk}
use Rattle.std.specs.List.{flat_map}
use Rattle.witx_base.specs.declared.memory.OutOfMemory.{OutOfMemory}
use Rattle.witx_lex.specs.Meaning.{HasTokens}
use Rattle.witx_lex.specs.Tokens.{Lexed}
use Rattle.witx_lex.specs.Views.{texts_view}
use Rattle.witx_lex.specs.declared.token.Span.{Span}
use Rattle.witx_values.specs.declared.marks.Mark.{Mark}
use Rattle.witx_values.specs.declared.marks.TextTokens.{TextTokens}
use Rattle.witx_values.specs.declared.reader.Reading.{Reading}
use Rattle.witx_values.specs.Language.{Language, kinds_of}
use Rattle.witx_values.specs.Readings.{HasReading}
use Rattle.witx_values.specs.Texts.{token_at}

-- where a token stands
abbrev pub span_of : Lexed → Span
span_of l = record { start = l.start; end = l.end }

-- a token of the text stands there
abbrev pub IsTokenSpan : List ℕ → Span → Type 0
IsTokenSpan text s = (ls : List Lexed) × (at : ℕ) × HasTokens text ls × (at < length ls) × (s ≡ span_of (token_at ls at))

-- the comments before each of the tokens, one after the other
abbrev pub comments_before : List Lexed → List (List ℕ)
comments_before ls = flat_map (λ l. l.comments) ls

-- The marks of tokens, where n comments stand before the first one's own: where each stands, and how many comments stand before its end.
abbrev pub marks_from : ℕ → List Lexed → List Mark
marks_from n [] = []
marks_from n (l ∷ ls) = record { span = span_of l; comments = n + length l.comments } ∷ marks_from (n + length l.comments) ls

-- These are the kinds and the marks of the tokens.
-- The comments are those before each token, one after the other, and then these others.
pub record AreTold {T N P S V : Type 0} (a : Language T N P Lexed S V) (kinds : List T) (marks : List Mark) (comments : List (List ℕ)) (ls : List Lexed)
    (behind : List (List ℕ)) : Type 0 where
  pub kinds_are : kinds ≡ map a.kind ls
  pub marks_are : marks ≡ marks_from 0 ls
  pub comments_are : comments ≡ comments_before ls ++ behind

-- These are the tokens of the text, and the marks are theirs.
-- The comments are those before each token, one after the other, and then any others.
pub record AreMarked {T : Type 0} (held : TextTokens T) (ls : List Lexed) : Type 0 where
  pub lexed : HasTokens held.text.now ls
  pub marks : held.marks.items ≡ marks_from 0 ls
  pub behind : List (List ℕ)
  pub comments : texts_view held.comments.items ≡ comments_before ls ++ behind

-- the tokens of the text are marked so
abbrev pub HoldsMarks : {T : Type 0} → TextTokens T → Type 0
HoldsMarks held = (ls : List Lexed) × AreMarked held ls

-- The tokens of the text are marked so, and the kinds are theirs, behind which, once, stands that of the end.
pub record AreHeld {T N P S V : Type 0} (a : Language T N P Lexed S V) (held : TextTokens T) (ls : List Lexed) : Type 0 where
  pub marked : AreMarked held ls
  pub kinds : held.kinds.items ≡ kinds_of a ls

-- the tokens of the text are held so, with their kinds in the language
abbrev pub HoldsText : {T N P S V : Type 0} → Language T N P Lexed S V → TextTokens T → Type 0
HoldsText a held = (ls : List Lexed) × AreHeld a held ls

-- what comes out is the reading of the tokens that are held
abbrev pub GivesReading : {T N P S V X : Type 0} → Language T N P Lexed S V → (X → V) → N → TextTokens T → Result (Reading X T) OutOfMemory → Type 0
GivesReading a value_of f held result = (ls : List Lexed) → AreHeld a held ls → IfOk result (λ r. HasReading a value_of f ls r)
