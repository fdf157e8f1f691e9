use Rattle.witx_header.proofs.Declaring.{of-func}
use Rattle.witx_header.proofs.header.put_item.Goals as goal

pub returns-in-Func : goal.returns-in-Func
returns-in-Func c = of-func c.in-Func.func _ _ _ _ _ _ c.in-Func.is c.deref.ensures c.put_func.ensures
