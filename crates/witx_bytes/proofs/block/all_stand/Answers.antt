use Rattle.std.proofs.Common.{length, sym, arith, rules}
use Rattle.witx_bytes.specs.Bytes.{block_bytes}
use Rattle.witx_bytes.proofs.Ranges.{not_standing}
use Rattle.witx_bytes.proofs.block.all_stand.Goals as goal

pub returns-then-not-stands : goal.returns-then-not-stands
returns-then-not-stands c = sym (not_standing c.args.wanted 0 (length c.args.run.now) c.loop-byte.byte-index (block_bytes c.args.run.now) (omega arith) (omega arith) (search rules))
