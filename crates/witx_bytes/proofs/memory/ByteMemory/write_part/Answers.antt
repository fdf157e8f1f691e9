use Rattle.std.proofs.Common.{◌≡◌, ◌∙◌, sym, ap, subst, ◌/◌, Some, arith, rules}
use Rattle.std.specs.Option.{option_copied_mut}
use Rattle.witx_bytes.specs.Bytes.{held, block_of}
use Rattle.witx_bytes.specs.Images.{little}
use Rattle.witx_bytes.specs.Writes.{Writes}
use Rattle.witx_bytes.proofs.Blocks.{OneBlock, one_block, number_changed, bytes_written, part_within}
use Rattle.witx_bytes.proofs.memory.ByteMemory.write_part.Goals as goal

pub invariant_of-self-2 : goal.invariant_of-self-2
invariant_of-self-2 c =
    let m = c.self.inside.blocks.entries in
    let n = (c.get_mut.follows.lender c.write.new.self).entries in
    let was : block_of (c.args.at / 256) m ≡ Some c.in-Some.block.now = sym c.get_mut.ensures.value ∙ ap option_copied_mut c.in-Some.is in
    let updates = (c.get_mut.follows.holds c.write.new.self).3 (search rules) in
    let one : OneBlock (c.args.at / 256) c.in-Some.block.now c.write.new.self m n = one_block _ _ _ m n was updates.1 updates.2 in
    bytes_written c.args.at c.args.width c.args.number (held m) (held n) c.self.invariant (part_within c.args.at c.args.width (omega arith) c.requires.inside)
    (number_changed c.args.at c.args.width c.args.number c.in-Some.block.now c.write.new.self m n one c.requires.inside c.write.ensures)

pub returns : goal.returns
returns c =
    let m = c.self.inside.blocks.entries in
    let n = (c.get_mut.follows.lender c.write.new.self).entries in
    let was : block_of (c.args.at / 256) m ≡ Some c.in-Some.block.now = sym c.get_mut.ensures.value ∙ ap option_copied_mut c.in-Some.is in
    let updates = (c.get_mut.follows.holds c.write.new.self).3 (search rules) in
    let one : OneBlock (c.args.at / 256) c.in-Some.block.now c.write.new.self m n = one_block _ _ _ m n was updates.1 updates.2 in
    subst (λ s. Writes c.args.at (little c.args.width c.args.number) (held s) (held n)) c.self.view_is
    (number_changed c.args.at c.args.width c.args.number c.in-Some.block.now c.write.new.self m n one c.requires.inside c.write.ensures)
