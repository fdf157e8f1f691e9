use Rattle.std.proofs.lemmas.Result.{err_from_is_err_and}
use Rattle.witx_wasm.proofs.SectionSteps.{preamble-fault, sections-fault}
use Rattle.witx_wasm.proofs.ExactModules.{module-sound}
use Rattle.witx_wasm.proofs.sections.module.Goals as goal

pub returns-clause-read : goal.returns-clause-read
returns-clause-read c = module-sound _ c.args.bytes.now c.in_ok-rest.rest.now c.in_ok-known.known c.in_ok-rest.ensures c.in_ok-known.ensures

pub returns-in_err-rest-clause-fault : goal.returns-in_err-rest-clause-fault
returns-in_err-rest-clause-fault c =
    let p = err_from_is_err_and c.from_residual.result c.from_residual.ensures.1 in
    rw (p.1, p.2) (preamble-fault c.args.bytes.now c.in_err-rest.field-0.0 c.in_err-rest.ensures)

pub returns-in_err-known-clause-fault : goal.returns-in_err-known-clause-fault
returns-in_err-known-clause-fault c =
    let p = err_from_is_err_and c.from_residual-in_err-known.result c.from_residual-in_err-known.ensures.1 in
    rw (p.1, p.2) (sections-fault c.args.bytes.now c.in_ok-rest.rest.now c.in_err-known.field-0.0 c.in_ok-rest.ensures c.in_err-known.ensures)
