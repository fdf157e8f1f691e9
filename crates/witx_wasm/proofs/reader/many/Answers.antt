use Rattle.std.proofs.lemmas.Result.{err_from_is_err_and}
use Rattle.witx_wasm.specs.Readers.{many_at}
use Rattle.witx_wasm.proofs.Steps.{goes_on, breaks, is_done}
use Rattle.witx_wasm.proofs.reader.many.Goals as goal

pub returns-in_err-value : goal.returns-in_err-value
returns-in_err-value g c =
    let p = err_from_is_err_and c.from_residual.result c.from_residual.ensures.1 in
    let read = g.R.Reader.value_at c.args.reader.now in
    rw (p.1, p.2) (breaks read c.loop.values c.args.count c.loop.counter c.loop.rest.now (many_at read c.args.count c.args.bytes.now) c.in_err-value.field-0.0 c.loop-test.true c.in_err-value.ensures c.loop.invariant)

pub loop-preserved : goal.loop-preserved
loop-preserved g c =
    let read = g.R.Reader.value_at c.args.reader.now in
    rw c.in_ok-push.ensures (goes_on read c.loop.values c.args.count c.loop.counter c.loop.rest.now (many_at read c.args.count c.args.bytes.now) c.in_ok-value.value c.in_ok-value.behind.now c.loop-test.true c.in_ok-value.ensures c.loop.invariant)

pub returns : goal.returns
returns g c = is_done (g.R.Reader.value_at c.args.reader.now) c.loop.values c.args.count c.loop.counter c.loop.rest.now (many_at (g.R.Reader.value_at c.args.reader.now) c.args.count c.args.bytes.now) c.loop-test.false c.loop.invariant
