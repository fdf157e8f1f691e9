use Rattle.std.proofs.Common.{rules}
use Rattle.witx_tools.specs.Callable.{handed_of}
use Rattle.witx_tools.proofs.Calling.{can-run, reply-same, values-for}
use Rattle.witx_tests_tools.proofs.tests.invoke.entry_call.Goals as goal

pub invoke-requires : goal.invoke-requires
invoke-requires c =
    can-run c.args.entry.now (handed_of c.in-Ok.given) _ (reply-same c.as_ref.result c.in-Ok.given.reply (search rules))
    c.requires (values-for c.args.entry.now c.args.values.now (handed_of c.in-Ok.given) (search rules))
