use Rattle.std.proofs.Common.{ap, ◌∙◌}
use Rattle.witx_ast.specs.Tree.{behind}
use Rattle.witx_ast.specs.Views.{datatype_tree, named_tree}
use Rattle.witx_conditions.proofs.Looking.{alike-behind}
use Rattle.witx_conditions.proofs.lookup.are_alike.Goals as goal

pub returns : goal.returns
returns c =
    alike-behind c.deref.result.now c.deref-2.result.now (behind (named_tree c.args.one.now)) (behind (named_tree c.args.other.now)) c.eq.result
    (ap datatype_tree c.deref.ensures ∙ c.type_.ensures) (ap datatype_tree c.deref-2.ensures ∙ c.type_-2.ensures) c.eq.ensures
