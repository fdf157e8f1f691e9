use Rattle.std.proofs.Common.{◌≡◌, [], IsSome, take, drop, vec_len}
use Rattle.witx_instructions.specs.Views.{planned_events}
use Rattle.witx_machine.specs.Heights.{heights}
use Rattle.witx_instructions.specs.Told.{told_further}
use Rattle.witx_instructions.specs.Handed.{InOrder}
use Rattle.witx_instructions.proofs.plan.play.Given as goal

abbrev pub invariant-loop-planned : goal.invariant-loop-planned
invariant-loop-planned g l = record {
  told : g.B.Bindgen.told l.bindgen ≡ told_further (g.B.Bindgen.told l.initial.bindgen) (take l.planned-index (planned_events l.plan));
  in_order : InOrder (take l.planned-index (planned_events l.plan)) (g.B.Bindgen.calls l.initial.bindgen) (g.B.Bindgen.calls l.bindgen) [] l.stack.items;
  ready : IsSome (heights (planned_events (drop l.planned-index l.plan)) (vec_len l.stack));
  counted : g.B.Bindgen.faults l.bindgen ≡ g.B.Bindgen.faults l.initial.bindgen;
}
