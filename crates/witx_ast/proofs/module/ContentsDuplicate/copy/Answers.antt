use Rattle.witx_ast.proofs.HeldCopies.{items-fit}
use Rattle.witx_ast.proofs.module.ContentsDuplicate.copy.Goals as goal

pub invariant_of-result : goal.invariant_of-result
invariant_of-result c =
    items-fit c.self.inside.held.definitions c.in_ok-copy.field-0.definitions c.self.inside.held.entries c.in_ok-copy.field-0.entries
    c.self.invariant c.in_ok-copy.ensures.0 c.in_ok-copy.ensures.1
