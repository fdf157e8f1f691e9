use Rattle.std.proofs.Common.{◌≡◌, ◌∙◌, sym, ap, ◌+◌, ◌/◌, Some, lit<, arith, rules}
use Rattle.std.specs.Option.{option_copied_mut}
use Rattle.witx_bytes.specs.Bytes.{held, block_of}
use Rattle.witx_bytes.proofs.Blocks.{OneBlock, one_block, fill_changed, bytes_filled, part_within}
use Rattle.witx_bytes.proofs.memory.ByteMemory.fill_part.Goals as goal

pub invariant_of-self-2 : goal.invariant_of-self-2
invariant_of-self-2 c =
    let m = c.self.inside.blocks.entries in
    let n = (c.get_mut.follows.lender c.fill.new.self).entries in
    let was : block_of (c.args.at / 256) m ≡ Some c.in-Some.block.now = sym c.get_mut.ensures.value ∙ ap option_copied_mut c.in-Some.is in
    let updates = (c.get_mut.follows.holds c.fill.new.self).3 (search rules) in
    let one : OneBlock (c.args.at / 256) c.in-Some.block.now c.fill.new.self m n = one_block _ _ _ m n was updates.1 updates.2 in
    bytes_filled c.args.at (c.args.at + c.args.len) 0 (held m) (held n) c.self.invariant (part_within c.args.at c.args.len (omega arith) c.requires.inside) (lit< tt)
    (fill_changed c.args.at c.args.len (Some 0) c.in-Some.block.now c.fill.new.self m n one c.requires.inside c.fill.ensures)
