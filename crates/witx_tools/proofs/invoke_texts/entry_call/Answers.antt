use Rattle.witx_adapt.specs.Entries.{entry_of}
use Rattle.witx_tools.specs.Callable.{handed_of}
use Rattle.witx_tools.proofs.Calling.{entry-handed, err-as, values-for}
use Rattle.witx_tools.proofs.invoke_texts.entry_call.Goals as goal

pub handed_call-requires-clause-values : goal.handed_call-requires-clause-values
handed_call-requires-clause-values c = values-for c.args.entry.now c.args.values.now (handed_of c.in_ok-given.given) c.in_ok-given.ensures.given

pub returns-clause-stopped : goal.returns-clause-stopped
returns-clause-stopped c =
    err-as _ _ c.handed_call.result
    (λ s h. entry-handed (entry_of c.args.entry.now) c.args.values.now (handed_of c.in_ok-given.given) s c.in_ok-given.ensures.given h) c.handed_call.ensures.stopped
