use Rattle.std.proofs.Common.{None, refl}
use Rattle.std.proofs.lemmas.Slice.Zip.{either_empty_from_Zip}
use Rattle.witx_tools.proofs.Verdicts.{lines-end}
use Rattle.witx_tools.proofs.verdict_texts.put_verdicts.Goals as goal

pub returns : goal.returns
returns c =
    lines-end c.loop-entry.entry-iterator.a.rest.now c.loop-entry.entry-iterator.b.rest.now _ _
    (either_empty_from_Zip c.loop-entry.entry-iterator c.loop-entry.entry-iterator None refl c.in-None.ensures.steps) c.loop-entry.invariant
