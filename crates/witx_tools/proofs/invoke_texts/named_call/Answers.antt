use Rattle.std.proofs.Common.{rules}
use Rattle.witx_commands.specs.Words.{both_names}
use Rattle.witx_tools.proofs.Calling.{absent-named, err-as, named-fails, named-told, ok-as}
use Rattle.witx_tools.proofs.invoke_texts.named_call.Goals as goal

pub returns-in_default-clause-stopped : goal.returns-in_default-clause-stopped
returns-in_default-clause-stopped c =
    absent-named c.args.functions.now (both_names c.args.owner.now c.args.function.now) c.args.values.now _ (search rules) c.absent_stop.ensures

pub returns-clause-text : goal.returns-clause-text
returns-clause-text c =
    ok-as _ _ c.entry_call.result
    (λ text h. named-told c.args.functions.now (both_names c.args.owner.now c.args.function.now) c.args.values.now text c.in-Some.number
    c.index-functions-number.result (search rules) (search rules) h) c.entry_call.ensures.text

pub returns-clause-stopped : goal.returns-clause-stopped
returns-clause-stopped c =
    err-as _ _ c.entry_call.result
    (λ s h. named-fails c.args.functions.now (both_names c.args.owner.now c.args.function.now) c.args.values.now c.in-Some.number
    c.index-functions-number.result s (search rules) (search rules) h) c.entry_call.ensures.stopped
