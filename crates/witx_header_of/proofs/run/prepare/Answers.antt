use Rattle.witx_commands.specs.Streams.{source_seen}
use Rattle.witx_header_of.proofs.Preparing.{over-files, without-files}
use Rattle.witx_header_of.proofs.run.prepare.Goals as goal

pub returns-in-Ok : goal.returns-in-Ok
returns-in-Ok g c =
    over-files c.args.words.now (source_seen g.S.Source.left g.S.Source.faults g.S.Source.reads c.args.source.now c.read_bundle.new.source) _ _ _
    c.read_bundle.ensures.later c.read_bundle.ensures.reads c.read_bundle.ensures.taken
    c.in-Ok.ensures.finished c.in-Ok.ensures.no_fault c.in-Ok.ensures.files c.output_of.ensures.output c.output_of.ensures.stopped

pub returns-in-Err : goal.returns-in-Err
returns-in-Err g c =
    without-files c.args.words.now _ _ _ _ c.stop_of.ensures c.in-Err.ensures.refused
    c.read_bundle.ensures.later c.read_bundle.ensures.reads c.read_bundle.ensures.taken
