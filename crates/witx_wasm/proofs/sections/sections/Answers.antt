use Rattle.std.proofs.lemmas.Result.{err_from_is_err_and}
use Rattle.witx_wasm.proofs.ExactModules.{section-shorter}
use Rattle.witx_wasm.proofs.SectionSteps.{goes_on, breaks, is_done}
use Rattle.witx_wasm.proofs.sections.sections.Goals as goal

pub returns-in_err-after : goal.returns-in_err-after
returns-in_err-after c =
    let p = err_from_is_err_and c.from_residual.result c.from_residual.ensures.1 in
    rw (p.1, p.2) (breaks c.args.total c.loop-rest.known c.loop-rest.rest.now c.args.bytes.now c.in_err-after.field-0.0 c.loop-rest-test.ensures c.in_err-after.ensures c.loop-rest.invariant)

pub loop-rest-smaller : goal.loop-rest-smaller
loop-rest-smaller c = section-shorter c.args.total c.loop-rest.known c.loop-rest.rest.now c.in_ok-after.after c.in_ok-after.behind.now c.in_ok-after.ensures

pub loop-rest-preserved : goal.loop-rest-preserved
loop-rest-preserved c = goes_on c.args.total c.loop-rest.known c.loop-rest.rest.now c.in_ok-after.after c.in_ok-after.behind.now c.args.bytes.now c.in_ok-after.ensures c.loop-rest.invariant

pub returns : goal.returns
returns c = is_done c.args.total c.loop-rest.known c.loop-rest.rest.now c.args.bytes.now c.loop-rest-test.ensures c.loop-rest.invariant
