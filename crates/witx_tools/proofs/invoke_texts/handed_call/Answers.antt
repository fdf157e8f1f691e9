use Rattle.std.proofs.Common.{rules}
use Rattle.witx_bytes.specs.Seen.{seen}
use Rattle.witx_run.specs.Views.{reply_of}
use Rattle.witx_tools.specs.Callable.{handed_of}
use Rattle.witx_tools.proofs.Calling.{answer-told, answer-within, can-run, ok-as, reply-same, room-told, zero-told}
use Rattle.witx_tools.proofs.invoke_texts.handed_call.Goals as goal

pub invoke-requires : goal.invoke-requires
invoke-requires c =
    can-run c.args.entry.now (handed_of c.args.given.now) (reply_of seen c.as_ref.result) (reply-same c.as_ref.result c.args.given.now.reply (search rules))
    c.requires.callable c.requires.values

pub told_call-requires : goal.told_call-requires
told_call-requires c =
    answer-within c.args.entry.now (handed_of c.args.given.now) (reply_of seen c.as_ref.result) (reply-same c.as_ref.result c.args.given.now.reply (search rules))
    c.in-Ok.invoked c.in-Ok.ensures.answer

pub returns-in-Ok-clause-text : goal.returns-in-Ok-clause-text
returns-in-Ok-clause-text c =
    ok-as _ _ c.told_call.result
    (λ text t. answer-told c.args.entry.now (handed_of c.args.given.now) (reply_of seen c.as_ref.result) (reply-same c.as_ref.result c.args.given.now.reply (search rules))
    c.in-Ok.invoked text c.in-Ok.ensures.answer t) c.told_call.ensures.text

pub returns-in-Err-NoRoom-clause-stopped : goal.returns-in-Err-NoRoom-clause-stopped
returns-in-Err-NoRoom-clause-stopped c =
    room-told c.args.entry.now (handed_of c.args.given.now) (reply_of seen c.as_ref.result) (reply-same c.as_ref.result c.args.given.now.reply (search rules)) _
    (search rules) c.refused-in-Err-NoRoom.ensures

pub returns-in-Err-ZeroError-clause-stopped : goal.returns-in-Err-ZeroError-clause-stopped
returns-in-Err-ZeroError-clause-stopped c =
    zero-told c.args.entry.now (handed_of c.args.given.now) (reply_of seen c.as_ref.result) (reply-same c.as_ref.result c.args.given.now.reply (search rules)) _
    (search rules) c.refused.ensures
