use Rattle.witx_ast.specs.Plain.{plain}
use Rattle.witx_ast.specs.Views.{tree_of}
use Rattle.witx_layout.specs.Numbers.{size_of}
use Rattle.witx_layout.proofs.Typenames.{named-plain, one-large}
use Rattle.witx_layout.proofs.lines.put_definition.Goals as goal

pub returns-in-Typename-clause-too_large : goal.returns-in-Typename-clause-too_large
returns-in-Typename-clause-too_large c e =
    let large = rw (c.deref.ensures, named-plain c.in-Typename.named.value) at (c.put_typename.ensures.too_large e) in
    rw c.in-Typename.is (one-large (size_of (plain (tree_of c.in-Typename.named.value.tref))) large)
