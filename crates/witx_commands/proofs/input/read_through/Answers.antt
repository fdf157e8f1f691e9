use Rattle.std.proofs.Common.{arith}
use Rattle.std.proofs.lemmas.List.{length-take}
use Rattle.witx_commands.proofs.ReadThrough.{took-more}
use Rattle.witx_commands.proofs.input.read_through.Goals as goal

pub returns-in_err-count-clause-taken : goal.returns-in_err-count-clause-taken
returns-in_err-count-clause-taken g c = let i = c.loop-turn.invariant in
    took-more _ _ _ _ _ _ _ _ _ i.taken i.turns i.reads _ _ _ _ c.read_more.ensures.taken
    (let k = length-take c.min-room.result c.loop-turn.buffer in let m = c.min-room.ensures in let n = c.len.ensures in let b = i.bounded in omega (arith, k, m, n, b))

pub returns-then-count-eq0-clause-taken : goal.returns-then-count-eq0-clause-taken
returns-then-count-eq0-clause-taken g c = let i = c.loop-turn.invariant in
    took-more _ _ _ _ _ _ _ _ _ i.taken i.turns i.reads _ _ _ _ c.read_more.ensures.taken
    (let k = length-take c.min-room.result c.loop-turn.buffer in let m = c.min-room.ensures in let n = c.len.ensures in let b = i.bounded in omega (arith, k, m, n, b))
