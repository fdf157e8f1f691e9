-- A claim on the place of an error.
use Rattle.witx_imports.specs.declared.error.ImportsError.{ImportsError}
use Rattle.witx_imports.specs.declared.error.ImportsError.TheVariants.{Bad, OutOfMemory}
use Rattle.witx_imports.specs.Reads.{BadPlace, LineColumn}

-- what is claimed of an error's place may be replaced by what it implies
pub at_place : (P Q : LineColumn → Type 0) (e : ImportsError) → ((place : LineColumn) → P place → Q place) → BadPlace e P → BadPlace e Q
at_place P Q (Bad line column) f h = f (record { line = line; column = column }) h
at_place P Q OutOfMemory f h = tt
