use Rattle.witx_header_of.proofs.run.run.Goals as goal

pub returns : goal.returns
returns g c = record { answer = c.prepare.result; prepared = c.prepare.ensures; adapted = c.finish.result.adapted; written = c.finish.ensures }
