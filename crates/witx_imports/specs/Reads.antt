-- The imports that a text lists, or its fault with line and column.
-- A text reads as imports where its tokens derive from the grammar and the derivation stands for them.
use Rattle.std.specs.Prelude.{ℕ, List}
use Rattle.witx_lex.specs.Places.{line_number_at, column_at}
use Rattle.witx_values.specs.Texts.{Telling, HasValue, IsTextFault}
use Rattle.witx_imports.specs.declared.error.ImportsError.{ImportsError}
use Rattle.witx_imports.specs.declared.error.ImportsError.TheVariants.{Bad, OutOfMemory}
use Rattle.witx_imports.specs.declared.import.WasmImport.{WasmImport}
use Rattle.witx_imports.specs.declared.symbols.Nonterminal.TheVariants.{Text}
use Rattle.witx_imports.specs.declared.symbols.TokenKind.{TokenKind}
use Rattle.witx_imports.specs.Actions.{import_language}
use Rattle.witx_imports.specs.Values.{some_imports}

-- the text lists these imports
abbrev pub Lists : List ℕ → List WasmImport → Type 0
Lists text imports = HasValue import_language Text text (some_imports imports)

-- a line and a column, both counted from 1
pub record LineColumn : Type 0 where
  pub line : ℕ
  pub column : ℕ

-- the place of an offset
abbrev pub line_column_at : List ℕ → ℕ → LineColumn
line_column_at text offset = record { line = line_number_at text offset; column = column_at text offset }

-- a fault is told by its place alone
abbrev pub telling_places : Telling TokenKind LineColumn
telling_places = record { lexical = (λ text kind offset. line_column_at text offset); unexpected = (λ text expected here offset. line_column_at text offset) }

-- the text has its fault at this place: its lexical fault, or else that of its tokens
abbrev pub IsBadAt : List ℕ → LineColumn → Type 0
IsBadAt text place = IsTextFault import_language Text telling_places text place

-- the claim holds of the place, if the error has one
abbrev pub BadPlace : ImportsError → (LineColumn → Type 0) → Type 0
BadPlace (Bad line column) P = P (record { line = line; column = column })
BadPlace OutOfMemory P = Unit {0}

-- the place that an error tells is that of the text's fault
abbrev pub TellsBadPlace : ImportsError → List ℕ → Type 0
TellsBadPlace e text = BadPlace e (λ place. IsBadAt text place)
