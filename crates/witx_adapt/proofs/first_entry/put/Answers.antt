use Rattle.witx_adapt.specs.FirstEntries.{names_of}
use Rattle.witx_adapt.proofs.FirstEntries.{put_at}
use Rattle.witx_adapt.proofs.first_entry.put.Goals as goal

pub returns : goal.returns
returns c = λ i. put_at _ _ i (names_of c.args.entry.now) _ _ (rw (c.deref.ensures, c.deref-2.ensures) at c.in_ok-name.ensures) (c.in_ok-insert.ensures.updates.0 i)
