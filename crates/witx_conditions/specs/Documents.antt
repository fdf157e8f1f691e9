-- Ordered and closed documents, as the program has them.
use Rattle.std.specs.Prelude.{map}
use Rattle.witx_ast.specs.Closed.{IsClosed}
use Rattle.witx_ast.specs.Definitions.{definition_tree}
use Rattle.witx_ast.specs.Ordered.{IsOrdered}
use Rattle.witx_ast.specs.declared.document.Document.{Document}

-- each name inside a typename's type is that of a typename before it, for an equal type
abbrev pub HasOrderedDefinitions : Document → Type 0
HasOrderedDefinitions d = IsOrdered (map definition_tree d.definitions)

-- so it is also of each name in the types of its functions
abbrev pub HasClosedDefinitions : Document → Type 0
HasClosedDefinitions d = IsClosed (map definition_tree d.definitions)
