-- A fault as contracts see it, and the place of a fault: the line and the column of its offset.
use Rattle.std.specs.Prelude.{ℕ, List}
use Rattle.witx_lex.specs.Places.{line_number_at, column_at}
use Rattle.witx_language.specs.declared.error.ParseFault.{ParseFault}

-- a fault as contracts see it: its message, its line and its column
pub record Told : Type 0 where
  pub message : List ℕ
  pub line : ℕ
  pub column : ℕ

-- a fault of the code
abbrev pub fault_view : ParseFault → Told
fault_view f = record { message = f.message.now; line = f.line; column = f.column }

-- the fault with this message at this offset
abbrev pub fault_told_at : List ℕ → List ℕ → ℕ → Told
fault_told_at text message offset = record { message = message; line = line_number_at text offset; column = column_at text offset }
