use Rattle.std.proofs.Common.{◌∙◌, ap, map}
use Rattle.witx_header.specs.Kept.{call_of}
use Rattle.witx_header.proofs.Calls.{caller-calls}
use Rattle.witx_header.proofs.bodies.caller_calls.Goals as goal

pub returns-clause-calls : goal.returns-clause-calls
returns-clause-calls c =
    ap (map call_of) c.into_calls.ensures.calls
    ∙ caller-calls _ _ (rw c.new-body.ensures at c.in_ok-call_wasm.ensures.operands) c.into_calls.ensures.numbered
