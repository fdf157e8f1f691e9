use Rattle.std.proofs.Common.{rules, ◌+◌, ◌/◌, ◌%◌, refl, nat_eq}
use Rattle.witx_bytes.proofs.ReadFlags.{flags_more}
use Rattle.witx_bytes.proofs.ReadFlags.{flag_rules}
use Rattle.witx_bytes.proofs.read.flags_of.Goals as goal

pub loop-made-preserved : goal.loop-made-preserved
loop-made-preserved c =
    flags_more c.args.count c.loop-made._made (c.loop-made._made + 1) c.args.bits c.loop-made.rest (c.loop-made.rest / 2) c.loop-made.flags c.push.new.self (nat_eq (c.loop-made.rest % 2) 1)
    c.loop-made.invariant c.loop-made-test.true refl refl refl c.in_ok-push.ensures

pub returns : goal.returns
returns c = search (rules, flag_rules)
