use Rattle.witx_wasm.proofs.SectionSteps.{is_answer}
use Rattle.witx_wasm.proofs.sections.read_module.Goals as goal

pub returns-clause-only : goal.returns-clause-only
returns-clause-only c = is_answer c.args.bytes.now c.module.result c.module.ensures.read c.module.ensures.fault
