use Rattle.witx_symbols.proofs.NamesBehind.{next-behind}
use Rattle.witx_symbols.proofs.wholes.+whole.Goals as goal

pub same_whole-loop-tref-preserved : goal.same_whole-loop-tref-preserved
same_whole-loop-tref-preserved t c = next-behind _ c.loop-tref.tref.now c.in-Name.named c.deref.result.now c.in-Name.is c.deref.ensures c.loop-tref.invariant
