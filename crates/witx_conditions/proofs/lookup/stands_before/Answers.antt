use Rattle.std.proofs.Common.{ap, map, ◌∙◌}
use Rattle.witx_ast.specs.Definitions.{definition_tree, typename_called}
use Rattle.witx_ast.specs.Same.{same_tree}
use Rattle.witx_ast.specs.Tree.{behind}
use Rattle.witx_ast.specs.Views.{named_tree}
use Rattle.witx_ast.specs.declared.types.NamedType.{NamedType}
use Rattle.witx_conditions.proofs.Looking.{found-stands}
use Rattle.witx_conditions.proofs.lookup.stands_before.Goals as goal

pub returns-in-Some : goal.returns-in-Some
returns-in-Some c =
    found-stands c.typename_in.result c.in-Some.found (typename_called (map definition_tree c.args.before.now) c.args.named.now.name)
    c.args.named.now c.are_alike.result c.typename_in.ensures c.in-Some.is
    (c.are_alike.ensures ∙ ap (λ (n : NamedType). same_tree (behind (named_tree n)) (behind (named_tree c.args.named.now))) c.deref.ensures)
