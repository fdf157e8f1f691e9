use Rattle.std.proofs.Common.{◌∙◌}
use Rattle.witx_adapt.proofs.FirstEntries.{named_at}
use Rattle.witx_adapt.proofs.first_entry.first_named.Goals as goal

pub returns : goal.returns
returns c =
    named_at _ (record { «module» = c.args.module.now; name = c.args.name.now }) _ _ c.in_ok-wanted.ensures (c.copied.ensures ∙ c.get.ensures.value)
