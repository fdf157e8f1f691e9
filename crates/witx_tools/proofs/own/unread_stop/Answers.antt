use Rattle.witx_tools.proofs.Telling.{error-stops}
use Rattle.witx_tools.proofs.own.unread_stop.Goals as goal

pub returns-in-Ok : goal.returns-in-Ok
returns-in-Ok c = error-stops _ _ _ _ _ c.in-Ok.ensures c.error_stop.ensures
