use Rattle.std.proofs.Common.{◌≡◌, map, drop, ◌++◌, string_bytes}
use Rattle.witx_ast.specs.Definitions.{definition_tree}
use Rattle.witx_render.specs.DocumentTexts.{is_module}
use Rattle.witx_render.specs.Lists.{lines_where}
use Rattle.witx_render.proofs.document.put_modules.Given as goal

abbrev pub invariant-loop-definition : goal.invariant-loop-definition
invariant-loop-definition l =
    string_bytes l.text ++ lines_where is_module (map definition_tree (drop l.definition-index l.definitions))
    ≡ string_bytes l.initial.text ++ lines_where is_module (map definition_tree l.definitions)
