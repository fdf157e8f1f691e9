use Rattle.std.proofs.Common.{length, Result}
use Rattle.witx_wasm.specs.Reading.{Sections, nothing_known}
use Rattle.witx_wasm.specs.declared.fault.Fault.{Fault}
use Rattle.witx_wasm.specs.declared.sections.Progress.{Progress}
use Rattle.witx_wasm.proofs.sections.sections.Given as goal

-- what the rest comes to, all sections come to
abbrev pub invariant-loop-rest : goal.invariant-loop-rest
invariant-loop-rest l = (end : Result Progress Fault) → Sections l.total l.known l.rest end → Sections l.fn.total nothing_known l.fn.bytes end

abbrev pub decreases-loop-rest : goal.decreases-loop-rest
decreases-loop-rest l = length l.rest
