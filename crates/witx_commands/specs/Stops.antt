-- Why a command has no output: it refuses the files with a report, or there is no memory.
use Rattle.std.specs.Prelude.{ℕ, List}
use Rattle.witx_commands.specs.declared.refusal.Stop.{Stop}
use Rattle.witx_commands.specs.declared.refusal.Stop.TheVariants as stop
use Rattle.witx_commands.specs.declared.refusal.Refusal.TheVariants as refusal

abbrev pub StopsWith : (List ℕ → Type 0) → Stop → Type 0
StopsWith Refuses (stop.Refused (refusal.Command report)) = Refuses report
StopsWith Refuses (stop.Refused (refusal.Usage known)) = ⊥
StopsWith Refuses (stop.Refused refusal.Source) = ⊥
StopsWith Refuses (stop.Refused (refusal.Bundle e)) = ⊥
StopsWith Refuses stop.OutOfMemory = Unit {0}
