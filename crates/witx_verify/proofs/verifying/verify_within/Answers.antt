use Rattle.std.proofs.Common.{sym, ◌∙◌, map}
use Rattle.witx_instructions.specs.Views.{called, event_of}
use Rattle.witx_symbols.specs.declared.surface.Verdict.{Verdict}
use Rattle.witx_verify.proofs.VerifyLemmas.{verdict-no, yes-faithful, adapted-yes}
use Rattle.witx_verify.proofs.verifying.verify_within.Goals as goal

pub returns-in-Some-clause-adapted : goal.returns-in-Some-clause-adapted
returns-in-Some-clause-adapted c =
    let f = called c.args.func.now in
    let caller = map event_of c.args.caller.now in
    let callee = map event_of c.args.callee.now in
    adapted-yes c.args.module_name.now f caller callee (Verdict.No c.in-Some.doubt) (verdict-no c.args.module_name.now f caller callee c.in-Some.doubt (sym c.in-Some.is ∙ c.in_ok-doubt.ensures))

pub returns-in-None-clause-faithful : goal.returns-in-None-clause-faithful
returns-in-None-clause-faithful c = yes-faithful c.args.module_name.now (called c.args.func.now) (map event_of c.args.caller.now) (map event_of c.args.callee.now) (sym c.in-None.is ∙ c.in_ok-doubt.ensures)
