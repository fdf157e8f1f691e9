use Rattle.std.proofs.Common.{refl, ap, ◌∙◌}
use Rattle.std.specs.Prelude.{Err}
use Rattle.witx_commands.proofs.Written.{output-written, refusal-written, nothing-written}
use Rattle.witx.proofs.program.finish.Goals as goal

pub returns-in-Ok : goal.returns-in-Ok
returns-in-Ok g c = let e = c.put_output.ensures in
    output-written _ _ _ _ _ _ _ _ c.in-Ok.is e.status e.done e.adapted e.unwritten e.untouched e.out_failed e.err_failed e.out_later e.err_later

pub returns-in-Err-Refused : goal.returns-in-Err-Refused
returns-in-Err-Refused g c = let e = c.put_refusal.ensures in
    refusal-written _ _ _ _ _ _ _ _ (c.in-Err-Refused.is ∙ ap Err c.in-Err-Refused.field-0-is) e.status e.usage e.told e.unwritten refl refl refl e.no_memory e.failed e.later

pub returns-in-Err-OutOfMemory : goal.returns-in-Err-OutOfMemory
returns-in-Err-OutOfMemory g c = nothing-written _ _ _ _ _ _ _ (c.in-Err-OutOfMemory.is ∙ ap Err c.in-Err-OutOfMemory.field-0-is) refl refl refl refl refl refl
