use Rattle.std.specs.Prelude.{map}
use Rattle.witx_ast.specs.Definitions.{definition_tree}
use Rattle.witx_tools.proofs.Shims.{answers-mapped}
use Rattle.witx_tools.proofs.conditions.polyfill_meets_conditions.Goals as goal

pub returns : goal.returns
returns c =
    answers-mapped (map definition_tree c.args.new.now.definitions) (map definition_tree c.args.old.now.definitions) c.args.names.now c.args.made.now.modules
    c.requires
