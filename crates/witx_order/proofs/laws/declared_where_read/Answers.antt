use Rattle.witx_order.proofs.Read.{walk-read}
use Rattle.witx_order.proofs.laws.declared_where_read.Goals as goal

pub returns : goal.returns
returns g c = λ w handed marks declared h. walk-read w handed marks declared h
