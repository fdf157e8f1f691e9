use Rattle.std.proofs.Common.{◌∙◌}
use Rattle.witx_wasm.proofs.Steps.{name-read, name-refused}
use Rattle.witx_wasm.proofs.numbers.text.Goals as goal

pub returns-in-Ok : goal.returns-in-Ok
returns-in-Ok c = name-read c.args.bytes.now c.in_ok-text.text.now c.in_ok-text.rest.now _ c.in_ok-text.ensures c.in-Ok.ensures.cases.1 c.in-Ok.ensures.cases.0

pub returns-in-Err : goal.returns-in-Err
returns-in-Err c = name-refused c.args.bytes.now c.in_ok-text.text.now c.in_ok-text.rest.now _ c.in_ok-text.ensures c.in-Err.ensures.cases.0 (c.valid_up_to.ensures ∙ c.in-Err.ensures.valid_len)
