use Rattle.std.proofs.Common.{refl, sym, ap, arith}
use Rattle.witx_lex.specs.Meaning.{token}
use Rattle.witx_lex.specs.Pieces.{run}
use Rattle.witx_lex.specs.Views.{token_view}
use Rattle.witx_lex.proofs.Cuts.{run_onward, run_boundary, run_behind, empty_behind, handed_token}
use Rattle.witx_lex.proofs.handing.hand_run.Goals as goal

pub range-requires-clause-end_boundary : goal.range-requires-clause-end_boundary
range-requires-clause-end_boundary g c =
    let end-is = run_onward c.args.from.at c.name_end-end.result c.args.text.now c.as_bytes.result.now c.requires.here.within c.requires.name c.as_bytes.ensures.value c.name_end-end.ensures.end in
    run_boundary c.args.from.at c.name_end-end.result c.args.text.now c.as_bytes.result.now c.utf8.text c.requires.here.boundary c.as_bytes.ensures.value end-is

pub returns-in-Some-clause-handed : goal.returns-in-Some-clause-handed
returns-in-Some-clause-handed g c =
    let from = c.args.from in
    let end = c.name_end-end.result in
    let name = c.range.result.now in
    let end-is = run_onward from.at end c.args.text.now c.as_bytes.result.now c.requires.here.within c.requires.name c.as_bytes.ensures.value c.name_end-end.ensures.end in
    let h = run_behind from.depth from.at end c.args.text.now c.as_bytes.result.now name c.requires.name c.requires.here.deep c.as_bytes.ensures.value end-is c.range.ensures.value c.in-Some.ensures.0 in
    handed_token g.S.TokenSink.Took c.args.text.now c.args.sink.now c.hand_token.new.sink from (run name) (token_view c.in-Some.token) end from.depth c.hand_token.result
    h.0 h.1 refl (sym (ap token c.in-Some.ensures.1)) c.hand_token.ensures.cut c.hand_token.ensures.taken

pub returns-in-None-clause-fault : goal.returns-in-None-clause-fault
returns-in-None-clause-fault g c =
    let from = c.args.from in
    let end-is = run_onward from.at c.name_end-end.result c.args.text.now c.as_bytes.result.now c.requires.here.within c.requires.name c.as_bytes.ensures.value c.name_end-end.ensures.end in
    let fault = empty_behind from.depth from.at c.name_end-end.result c.args.text.now c.as_bytes.result.now c.range.result.now c.as_bytes.ensures.value end-is c.range.ensures.value c.in-None.ensures in
    rw c.fault_at.ensures (0, fault, omega arith)
