use Rattle.std.proofs.Common.{◌≡◌, map, rules, subst}
use Rattle.witx_tools.specs.EventViews.{called, event_of}
use Rattle.witx_tools.specs.Faithful.{Faithful}
use Rattle.witx_client_example.proofs.traces.holds.Goals as goal

pub returns-in-Yes : goal.returns-in-Yes
returns-in-Yes c held =
    let owner : c.deref.result.now.name ≡ c.args.entry.now.module.value.name = search rules in
    let func : called c.deref-2.result.now ≡ called c.args.entry.now.func.value = search rules in
    let caller = map event_of c.args.pair.now.caller in
    let callee = map event_of c.args.pair.now.callee in
    let told = c.in_ok-found.ensures.faithful (search rules) in
    subst (λ f. Faithful c.args.entry.now.module.value.name f caller callee) func
    (subst (λ name. Faithful name (called c.deref-2.result.now) caller callee) owner told)
