use Rattle.std.proofs.Common.{◌≡◌, ◌++◌, map}
use Rattle.witx_imports.specs.Faults.{import_faults, offered_import}
use Rattle.witx_imports.proofs.Checked.{faults_from}
use Rattle.witx_imports.proofs.checker.faults_of.Given as goal

abbrev pub invariant-loop-index : goal.invariant-loop-index
invariant-loop-index l = l.faults ++ faults_from (map offered_import l.functions) l.imports l.index ≡ import_faults (map offered_import l.functions) l.imports
