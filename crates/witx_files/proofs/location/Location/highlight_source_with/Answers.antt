use Rattle.witx_files.proofs.Located.{line-shown}
use Rattle.witx_files.proofs.location.Location.highlight_source_with.Goals as goal

pub returns-in_ok-put_source-in-Ok-clause-text : goal.returns-in_ok-put_source-in-Ok-clause-text
returns-in_ok-put_source-in-Ok-clause-text g c =
    line-shown (g.I.WitxIo.files c.args.witxio.now) c.args.self.now _ _ c.in-Ok.line _ _ _ _ c.in-Ok.ensures.answer.0 c.in-Ok.ensures.answer.1
    c.in_ok-text.ensures c.as_str.ensures c.in_ok-put_source-in-Ok.ensures c.from_string.ensures
