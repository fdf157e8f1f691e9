use Rattle.witx_symbols.proofs.NamesBehind.{next-behind}
use Rattle.witx_symbols.proofs.types.+alike.Goals as goal

pub alike-loop-tref-preserved : goal.alike-loop-tref-preserved
alike-loop-tref-preserved t c = next-behind _ c.loop-tref.tref.now c.in-Name.named c.deref.result.now c.in-Name.is c.deref.ensures c.loop-tref.invariant
