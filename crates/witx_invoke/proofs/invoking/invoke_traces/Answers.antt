use Rattle.std.proofs.Common.{◌∙◌, map}
use Rattle.witx_instructions.specs.Views.{called, event_of}
use Rattle.witx_bytes.specs.Seen.{seen}
use Rattle.witx_run.specs.OutcomeViews.{run_of}
use Rattle.witx_run.specs.Views.{reply_of}
use Rattle.witx_call.specs.PlacementViews.{room_of}
use Rattle.witx_call.specs.WordViews.{word_view}
use Rattle.witx_invoke.proofs.InvokeLemmas.{answers, counted, many-refused, refusals, zero-refused}
use Rattle.witx_invoke.proofs.invoking.invoke_traces.Goals as goal

pub returns-then-is_excepted-clause-refused : goal.returns-then-is_excepted-clause-refused
returns-then-is_excepted-clause-refused c =
    zero-refused c.args.owner.now (called c.args.func.now) (map event_of c.args.caller.now) (map event_of c.args.callee.now) (map seen c.args.args.now) (reply_of seen c.args.reply) c.requires
    c.is_excepted.result c.is_excepted.ensures c.if-is_excepted.true

pub returns-then-are_too_many-clause-refused : goal.returns-then-are_too_many-clause-refused
returns-then-are_too_many-clause-refused c =
    many-refused c.args.owner.now (called c.args.func.now) (map event_of c.args.caller.now) (map event_of c.args.callee.now) (map seen c.args.args.now) (reply_of seen c.args.reply) c.requires
    c.is_excepted.result c.is_excepted.ensures c.if-is_excepted.false
    (counted c.args.caller.now c.args.callee.now c.are_too_many.result c.len.result c.len-2.result c.are_too_many.ensures c.len.ensures c.len-2.ensures ∙ c.if-are_too_many.true)

pub returns-clause-answer : goal.returns-clause-answer
returns-clause-answer c =
    answers c.args.owner.now (called c.args.func.now) (map event_of c.args.caller.now) (map event_of c.args.callee.now) (map seen c.args.args.now) (reply_of seen c.args.reply) c.requires
    c.is_excepted.result c.is_excepted.ensures c.if-is_excepted.false
    (counted c.args.caller.now c.args.callee.now c.are_too_many.result c.len.result c.len-2.result c.are_too_many.ensures c.len.ensures c.len-2.ensures ∙ c.if-are_too_many.false)
    (run_of seen word_view room_of c.in_ok-run.run') (room_of c.new-memory.result) c.in_ok-run.ensures c.new-memory.ensures c.answer.result c.answer.ensures.seen

pub returns-clause-refused : goal.returns-clause-refused
returns-clause-refused c =
    refusals c.args.owner.now (called c.args.func.now) (map event_of c.args.caller.now) (map event_of c.args.callee.now) (map seen c.args.args.now) (reply_of seen c.args.reply) c.requires
    c.is_excepted.result c.is_excepted.ensures c.if-is_excepted.false
    (counted c.args.caller.now c.args.callee.now c.are_too_many.result c.len.result c.len-2.result c.are_too_many.ensures c.len.ensures c.len-2.ensures ∙ c.if-are_too_many.false)
    (run_of seen word_view room_of c.in_ok-run.run') (room_of c.new-memory.result) c.in_ok-run.ensures c.new-memory.ensures c.answer.result c.answer.ensures.refused
