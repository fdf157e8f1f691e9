use Rattle.std.proofs.Common.{map}
use Rattle.witx_ast.specs.Definitions.{definition_tree}
use Rattle.witx_docs.proofs.DocumentParts.{looked-through}
use Rattle.witx_docs.proofs.markdown.DocumentParts.put_parts.Goals as goal

pub put_document-requires : goal.put_document-requires
put_document-requires c = looked-through (map definition_tree c.as_slice.result.now)
