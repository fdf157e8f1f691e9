-- Where a byte of a file stands: its line and its column, both counted from 1.
use Rattle.std.specs.Prelude.{ℕ, List}
use Rattle.witx_base.specs.Paths.{Path}
use Rattle.witx_lex.specs.Places.{line_number_at, column_at}
use Rattle.witx_files.specs.declared.location.Location.{Location}

unfoldable pub location_in : List ℕ → Path → ℕ → Location
location_in text path at = record { path = path; line = line_number_at text at; column = column_at text at }
