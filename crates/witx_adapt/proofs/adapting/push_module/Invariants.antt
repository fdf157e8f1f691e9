use Rattle.std.proofs.Common.{◌≡◌, ◌++◌, map}
use Rattle.witx_ast.specs.Definitions.{module_tree}
use Rattle.witx_adapt.specs.Entries.{entry_for, entry_of}
use Rattle.witx_adapt.specs.Adaptable.{first_unlowered}
use Rattle.witx_adapt.proofs.Gathering.{left_items}
use Rattle.witx_adapt.proofs.adapting.push_module.Given as goal

abbrev pub invariant-loop-item : goal.invariant-loop-item
invariant-loop-item l = record {
  functions : map entry_of l.functions ++ map entry_for (left_items (module_tree l.owner.value) l.items l.item-index)
      ≡ map entry_of l.initial.functions ++ map entry_for (left_items (module_tree l.owner.value) l.items 0);
  lowerable : first_unlowered (left_items (module_tree l.owner.value) l.items l.item-index) ≡ first_unlowered (left_items (module_tree l.owner.value) l.items 0);
}
