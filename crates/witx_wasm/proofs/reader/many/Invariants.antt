use Rattle.std.proofs.Common.{◌≡◌, ◌-◌}
use Rattle.witx_wasm.specs.Readers.{many_at}
use Rattle.witx_wasm.proofs.Steps.{with_front}
use Rattle.witx_wasm.proofs.reader.many.Given as goal

-- what was read, and what is left of the number from the rest, is all
abbrev pub invariant-loop : goal.invariant-loop
invariant-loop g l = with_front l.values (many_at (g.R.Reader.value_at l.reader) (l.count - l.counter) l.rest) ≡ many_at (g.R.Reader.value_at l.reader) l.count l.bytes
