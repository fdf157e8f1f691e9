use Rattle.witx_ast.specs.Definitions.{definition_tree}
use Rattle.witx_header.specs.Headers.{c_definition_lines}
use Rattle.witx_header.proofs.Appending.{read-more}
use Rattle.witx_header.proofs.Numbered.{next-fits, next-large}
use Rattle.witx_header.proofs.header.put_definitions.Goals as goal

pub loop-definition-preserved : goal.loop-definition-preserved
loop-definition-preserved c =
    let here = c.loop-definition-test.true in
    let is = c.definition-item.is in
    let before = c.loop-definition.invariant in
    let made = c.in_ok-put_definition.ensures in
    record {
      text = read-more c_definition_lines definition_tree _ _ _ _ _ _ here is made.lines before.text;
      fits = λ fit. before.fits (next-fits _ _ _ here is made.fits fit);
      large = λ large. before.large (next-large _ _ _ here is large);
    }
