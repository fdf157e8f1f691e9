use Rattle.std.proofs.Common.{◌≡◌, ◌++◌, map}
use Rattle.witx_adapt.specs.Entries.{entry_for, entry_of}
use Rattle.witx_adapt.specs.Adaptable.{first_unlowered}
use Rattle.witx_adapt.proofs.Gathering.{left_functions}
use Rattle.witx_adapt.proofs.adapting.document_functions.Given as goal

abbrev pub invariant-loop-definition : goal.invariant-loop-definition
invariant-loop-definition l = record {
  functions : map entry_of l.functions ++ map entry_for (left_functions l.definitions l.definition-index) ≡ map entry_for (left_functions l.definitions 0);
  lowerable : first_unlowered (left_functions l.definitions l.definition-index) ≡ first_unlowered (left_functions l.definitions 0);
}
