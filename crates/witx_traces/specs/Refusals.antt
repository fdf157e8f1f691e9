-- What the reader's refusals say.
use Rattle.std.specs.Prelude.{ℕ, ⊤, List}
use Rattle.witx_traces.specs.declared.reading.Stopped as stopped
use Rattle.witx_traces.specs.declared.reading.Stopped.TheVariants as stopped_variant
use Rattle.witx_traces.specs.declared.reading.TracesError as error
use Rattle.witx_traces.specs.declared.reading.TracesError.TheVariants as error_variant
use Rattle.witx_traces.specs.Traces.{Listed, IsUnfit}

-- what holds where reading stopped; nothing is said of want of memory
abbrev pub TellsOfStop : (List ℕ → Type 0) → stopped.Stopped → Type 0
TellsOfStop P (stopped_variant.At rest) = P rest.now
TellsOfStop P stopped_variant.OutOfMemory = ⊤

-- the line is the first that can't stand
abbrev pub RefusesLines : Listed → List ℕ → error.TracesError → Type 0
RefusesLines l text (error_variant.Line n) = IsUnfit l text n
RefusesLines l text error_variant.OutOfMemory = ⊤
