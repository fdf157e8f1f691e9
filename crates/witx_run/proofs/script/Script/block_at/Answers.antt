use Rattle.std.proofs.Common.{refl, map, ◌+◌}
use Rattle.witx_instructions.specs.Views.{event_of}
use Rattle.witx_run.proofs.BlockLemmas.{no-finish, late-finish, odd-finish, found-finish}
use Rattle.witx_run.proofs.script.Script.block_at.Goals as goal

pub returns-in_default : goal.returns-in_default
returns-in_default g c = no-finish (map event_of c.args.self.now.events.now) c.args.at c.args.end c.requires.below c.in_default.ensures

pub returns-then-finish-end : goal.returns-then-finish-end
returns-then-finish-end g c = late-finish (map event_of c.args.self.now.events.now) c.args.at c.args.end c.requires.below c.in-Some.finish c.in-Some.ensures c.if-finish-end.true

pub returns-in-Some-value_at : goal.returns-in-Some-value_at
returns-in-Some-value_at g c =
    found-finish (map event_of c.args.self.now.events.now) c.args.at c.args.end c.requires.below (c.args.at + 1) c.in-Some.finish c.in-Some-value_at.has_value refl c.in-Some.ensures c.if-finish-end.false c.in-Some-value_at.ensures

pub returns-in-None : goal.returns-in-None
returns-in-None g c = odd-finish (map event_of c.args.self.now.events.now) c.args.at c.args.end c.requires.below c.in-Some.finish c.in-Some.ensures c.if-finish-end.false c.in-None.ensures
