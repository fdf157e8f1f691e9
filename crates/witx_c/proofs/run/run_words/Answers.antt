use Rattle.std.proofs.Common.{◌≡◌, Some, ap}
use Rattle.witx_c.proofs.Runs.{run-kept}
use Rattle.witx_c.proofs.run.run_words.Goals as goal

pub returns : goal.returns
returns c =
    let new = c.run_all-ran.new in
    run-kept c.args.words.now c.args.input.now c.run_all-ran.result.status c.run_all-ran.result.adapted c.new-source.result.rest.now (Some new.source.rest.now) c.new-source.result.reads new.source.reads
    c.new-out.result.bytes.items new.out.bytes.items c.new-err.result.bytes.items new.err.bytes.items
    c.new-out.result.faults new.out.faults c.new-err.result.faults new.err.faults
    (new.source ≡ c.new-source.result) (new.out ≡ c.new-out.result) (new.err ≡ c.new-err.result) c.into_bytes.result.items c.into_bytes-2.result.items
    c.new-source.ensures.bytes c.new-source.ensures.reads c.new-out.ensures.bytes c.new-err.ensures.bytes c.new-out.ensures.faults c.new-err.ensures.faults
    c.run_all-ran.ensures
    (λ k. ap (λ s. s.reads) k) (λ k. ap (λ s. s.bytes.items) k) (λ k. ap (λ s. s.bytes.items) k) c.if-status-eq-UNWRITTEN.false c.into_bytes.ensures c.into_bytes-2.ensures
