use Rattle.std.specs.Prelude.{map}
use Rattle.witx_ast.specs.Definitions.{definition_tree}
use Rattle.witx_conditions.proofs.Naming.{ParamsFrom}
use Rattle.witx_conditions.proofs.items.params_stand.Given as goal

abbrev pub invariant-loop-param : goal.invariant-loop-param
invariant-loop-param l = record { stand : ParamsFrom (map definition_tree l.before) l.params l.param-index }
