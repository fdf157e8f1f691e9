use Rattle.std.proofs.Common.{Some, None}
use Rattle.witx_traces.proofs.PayloadTexts.{ends-err, no-ok, ok-alone, ok-and-err}
use Rattle.witx_traces.proofs.event_texts.ok_texts.Goals as goal

pub returns-in-Some : goal.returns-in-Some
returns-in-Some c = λ tail e. ok-and-err tail c.args.payloads.now (c.in-Some.ok, c.in-Some.err) c.in-Some.ensures.cases e

pub returns-in-Some-strip_suffix : goal.returns-in-Some-strip_suffix
returns-in-Some-strip_suffix c = λ tail e.
    no-ok tail c.args.payloads.now c.in-Some-strip_suffix._front.now c.in-None.ensures.cases (ends-err c.args.payloads.now (Some c.in-Some-strip_suffix._front) c.in-Some-strip_suffix.ensures.cases) e

pub returns-in-None-strip_suffix : goal.returns-in-None-strip_suffix
returns-in-None-strip_suffix c = λ tail e. ok-alone tail c.args.payloads.now c.in-None.ensures.cases (ends-err c.args.payloads.now None c.in-None-strip_suffix.ensures.cases) e
