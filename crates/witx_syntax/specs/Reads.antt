-- The document that a text is, or its fault with line, column and message.
-- A text reads as a document where its tokens derive from the grammar and the derivation stands for the document.
use Rattle.std.specs.Prelude.{ℕ, List}
use Rattle.witx_grammar.specs.declared.table.Step.{Step}
use Rattle.witx_lex.specs.Tokens.{Lexed}
use Rattle.witx_values.specs.Language as general
use Rattle.witx_values.specs.Readings.{IsValue}
use Rattle.witx_values.specs.Texts.{Telling, HasValue, IsTextFault}
use Rattle.witx_language.specs.declared.nonterminal.Nonterminal.TheVariants.{Text}
use Rattle.witx_language.specs.declared.production.ProductionName.{ProductionName}
use Rattle.witx_language.specs.declared.token_kind.TokenKind.{TokenKind}
use Rattle.witx_language.specs.declared.error.ParseFault.{ParseFault}
use Rattle.witx_language.specs.declared.error.SyntaxError.{SyntaxError}
use Rattle.witx_language.specs.declared.error.SyntaxError.TheVariants.{Parse, OutOfMemory}
use Rattle.witx_language.specs.Actions.{the_language}
use Rattle.witx_language.specs.FaultPlaces.{Told, fault_view, fault_told_at}
use Rattle.witx_language.specs.Messages.{message_of, lexical_message}
use Rattle.witx_language.specs.Values.{Val, some_items}
use Rattle.witx_syntax_tree.specs.Trees.{Document}

-- what the steps of a derivation of the tokens stand for
abbrev pub stands_for : List Lexed → List (Step ProductionName) → List Val
stands_for = general.stands_for the_language

-- the tokens are derived from the form of a text, and the document is what the derivation stands for
abbrev pub IsDocument : List Lexed → Document → Type 0
IsDocument ts d = IsValue the_language Text ts (some_items d)

-- the text is this document
abbrev pub Reads : List ℕ → Document → Type 0
Reads text d = HasValue the_language Text text (some_items d)

-- a fault is told by its message and its place
abbrev pub telling : Telling TokenKind Told
telling = record {
  lexical = (λ text kind offset. fault_told_at text (lexical_message kind) offset);
  unexpected = (λ text expected here offset. fault_told_at text (message_of expected here) offset);
}

-- this is the fault of the text: its lexical fault, or else that of its tokens
abbrev pub IsFaultOf : List ℕ → Told → Type 0
IsFaultOf text f = IsTextFault the_language Text telling text f

-- the same of a fault of the code
abbrev pub IsParseFault : List ℕ → ParseFault → Type 0
IsParseFault text f = IsFaultOf text (fault_view f)

-- the claim holds of the fault, if the error is one
abbrev pub IfParse : SyntaxError → (ParseFault → Type 0) → Type 0
IfParse (Parse f) P = P f
IfParse OutOfMemory P = Unit {0}
