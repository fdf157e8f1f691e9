use Rattle.std.proofs.Common.{sym, ◌∙◌}
use Rattle.witx_scope.specs.Blame.{fault_of}
use Rattle.witx_scope.proofs.Reporting.{report-told}
use Rattle.witx_scope.proofs.error.ValidationError.report_with.Goals as goal

pub returns-clause-report : goal.returns-clause-report
returns-clause-report g c =
    report-told (g.I.WitxIo.files c.args.witxio.now) (g.I.WitxIo.files c.highlight_source_with.new.witxio) (fault_of c.args.self.now) (g.I.WitxIo.faults c.args.witxio.now) (g.I.WitxIo.faults c.highlight_source_with.new.witxio) (g.I.WitxIo.faults c.highlight_source_with-in-Some.new.witxio) c.in_ok-place.place c.as_str-in-Some.result.now c.as_str-in-Some-2.result.now c.in_ok-second-in-Some.second c.as_str-in-Some-3.result.now _ c.location.result.now c.in-Some.earlier.now
    c.location.ensures c.in_ok-place.ensures.text (sym c.in-Some.ensures) c.in_ok-place.ensures.files c.in_ok-second-in-Some.ensures.text c.as_str-in-Some.ensures (c.as_str-in-Some-2.ensures.value ∙ c.in_ok-message.ensures) c.as_str-in-Some-3.ensures c.in_ok-report-in-Some.ensures
