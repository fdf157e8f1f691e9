use Rattle.std.proofs.Common.{◌-◌, arith}
use Rattle.witx_adapt.proofs.FirstEntries.{none_first, next_first, all_first}
use Rattle.witx_adapt.proofs.first_entry.first_entries.Goals as goal

pub loop-number-init : goal.loop-number-init
loop-number-init c = λ i. none_first _ c.args.functions.now _ i c.new-first.ensures.empty (omega arith)

pub loop-number-preserved : goal.loop-number-preserved
loop-number-preserved c = λ i.
    next_first c.args.functions.now c.loop-number.number (c.loop-number.number - 1) c.index-functions-number.result i _ _
    (omega arith) (omega arith) c.index-functions-number.is (c.in_ok-put.ensures i) (c.loop-number.invariant i)

pub returns : goal.returns
returns c = λ i. all_first c.args.functions.now c.loop-number.number i _ (omega arith) (c.loop-number.invariant i)
