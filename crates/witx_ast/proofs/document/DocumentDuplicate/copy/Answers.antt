use Rattle.witx_ast.proofs.HeldCopies.{definitions-fit}
use Rattle.witx_ast.proofs.document.DocumentDuplicate.copy.Goals as goal

pub invariant_of-result : goal.invariant_of-result
invariant_of-result c =
    definitions-fit c.self.inside.contents.definitions c.in_ok-copy.field-0.definitions c.self.inside.contents.entries c.in_ok-copy.field-0.entries
    c.self.invariant c.in_ok-copy.ensures.0 c.in_ok-copy.ensures.1
