use Rattle.std.proofs.Common.{map, ◌∙◌}
use Rattle.witx_instructions.specs.Views.{event_of}
use Rattle.witx_run.proofs.BlockLemmas.{end-found, end-missing}
use Rattle.witx_run.proofs.StackLemmas.{got-none, got-some}
use Rattle.witx_run.proofs.script.Script.end_at.Goals as goal

pub returns-in-Some : goal.returns-in-Some
returns-in-Some g c =
    let found = c.in-Some.ensures.lookup in
    end-found (map event_of c.args.self.now.events.now) c.deref.result.now c.args.at c.in-Some.end.now (c.deref.ensures.value ∙ c.args.self.now.table) c.requires
    (got-some c.deref.result.now c.args.at c.in-Some.end.now found.3.0 found.1)

pub returns-in-None : goal.returns-in-None
returns-in-None g c =
    end-missing (map event_of c.args.self.now.events.now) c.deref.result.now c.args.at (c.deref.ensures.value ∙ c.args.self.now.table) c.requires
    (got-none c.deref.result.now c.args.at c.in-None.ensures.lookup.3)
