use Rattle.std.proofs.Common.{rules, ap, ◌∙◌, Ok}
use Rattle.witx_import_list.specs.Functions.{functions}
use Rattle.witx_import_list.proofs.Walk.{function-more}
use Rattle.witx_import_list.proofs.functions.functions.Goals as goal

pub loop-number-preserved-in-Some : goal.loop-number-preserved-in-Some
loop-number-preserved-in-Some c =
    rw c.in_ok-push-in-Some.ensures (function-more c.args.types.now c.args.imports.now c.loop-number.number c.loop-number.room c.index-imports-number.result c.loop-number.list
    (functions c.args.types.now 0 4194304 c.args.imports.now) (search rules) c.loop-number.invariant c.in-Some.asked c.in_ok-asked.left (c.in_ok-asked.ensures ∙ ap (λ o. Ok (o, c.in_ok-asked.left)) c.in-Some.is))
