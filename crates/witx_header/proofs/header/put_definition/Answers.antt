use Rattle.witx_header.proofs.Numbered.{of-typename}
use Rattle.witx_header.proofs.header.put_definition.Goals as goal

pub returns-in-Typename-clause-lines : goal.returns-in-Typename-clause-lines
returns-in-Typename-clause-lines c = of-typename c.in-Typename.named _ _ _ _ _ c.in-Typename.is c.deref.ensures c.put_typename.ensures.lines
