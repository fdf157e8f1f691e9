use Rattle.std.proofs.Common.{◌≡◌, drop}
use Rattle.witx_import_list.specs.Functions.{functions}
use Rattle.witx_import_list.specs.declared.functions.TheConstants.{MOST_WORDS}
use Rattle.witx_import_list.proofs.Walk.{with_done}
use Rattle.witx_import_list.proofs.functions.functions.Given as goal

abbrev pub invariant-loop-number : goal.invariant-loop-number
invariant-loop-number l = with_done l.list (functions l.types l.number l.room (drop l.number l.imports)) ≡ functions l.types 0 MOST_WORDS l.imports
