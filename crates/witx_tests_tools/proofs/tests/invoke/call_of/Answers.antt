use Rattle.std.proofs.Common.{rules, subst, map, All}
use Rattle.witx_ast.specs.Definitions.{definition_tree}
use Rattle.witx_adapt.proofs.Fitting.{functions-fit}
use Rattle.witx_adapt.specs.Entries.{all_functions}
use Rattle.witx_tools.specs.Callable.{IsCallable}
use Rattle.witx_tools.proofs.Calling.{entries-callable}
use Rattle.witx_tests_tools.proofs.tests.invoke.call_of.Goals as goal

pub first_call-requires : goal.first_call-requires
first_call-requires c =
    let made = c.in-Ok-adapt_document.adapted in
    let ds = map definition_tree c.in-Ok.document.definitions in
    subst (All IsCallable) (search rules)
    (entries-callable c.traces_take_writable.ensures made.functions (all_functions ds) c.in-Ok-adapt_document.ensures.functions
    (functions-fit ds c.in-Ok.ensures.closed c.in-Ok-adapt_document.ensures.adaptable.fits) c.in-Ok-adapt_document.ensures.adaptable.lowerable
    (c.in-Ok-adapt_document.ensures.faithful c.in-Ok.ensures.closed))
