use Rattle.std.specs.Prelude.{map}
use Rattle.witx_ast.specs.Definitions.{definition_tree}
use Rattle.witx_conditions.proofs.Naming.{ItemsFrom}
use Rattle.witx_conditions.proofs.items.items_stand.Given as goal

abbrev pub invariant-loop-item : goal.invariant-loop-item
invariant-loop-item l = record { stand : ItemsFrom (map definition_tree l.before) l.items l.item-index }
