use Rattle.std.proofs.Common.{map}
use Rattle.witx_ast.specs.Definitions.{definition_tree}
use Rattle.witx_docs.proofs.DocumentParts.{looked-through}
use Rattle.witx_docs.proofs.page.document_md.Goals as goal

pub page_of-requires : goal.page_of-requires
page_of-requires c = looked-through (map definition_tree c.args.document.now.definitions)
