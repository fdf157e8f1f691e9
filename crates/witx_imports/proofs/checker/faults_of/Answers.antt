use Rattle.std.proofs.Common.{◌∙◌}
use Rattle.witx_imports.proofs.checker.faults_of.Goals as goal

pub fault_of-requires : goal.fault_of-requires
fault_of-requires c =
    c.in_ok-first.ensures ∙ c.in_ok-entries.ensures (record { «module» = c.index-imports-index.result.module; name = c.index-imports-index.result.name })
