use Rattle.std.proofs.Common.{ap, map}
use Rattle.witx_ast.specs.Definitions.{definition_tree}
use Rattle.witx_tools.proofs.Verdicts.{counted-each}
use Rattle.witx_tests_tools.proofs.tests.listings.is_read.Goals as goal

pub adapted_is_read-requires : goal.adapted_is_read-requires
adapted_is_read-requires c =
    let made = c.in-Ok-adapt_document in
    counted-each made.adapted (map definition_tree c.in-Ok.document.definitions) (ap (λ d. map definition_tree d.definitions) made.ensures.document) made.ensures.functions
