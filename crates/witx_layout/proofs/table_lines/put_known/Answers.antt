use Rattle.witx_ast.specs.Plain.{plain}
use Rattle.witx_ast.specs.Views.{tree_of}
use Rattle.witx_layout.specs.Numbers.{size_of}
use Rattle.witx_layout.proofs.Typenames.{one-large}
use Rattle.witx_layout.proofs.table_lines.put_known.Goals as goal

pub returns-in_err-numbers-clause-too_large : goal.returns-in_err-numbers-clause-too_large
returns-in_err-numbers-clause-too_large g c e =
    let large = rw c.deref.ensures at (c.in_err-numbers.ensures.layout) in
    rw c.in-Typename.is (one-large (size_of (plain (tree_of c.in-Typename.named.value.tref))) large)
