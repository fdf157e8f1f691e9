use Rattle.std.proofs.Common.{◌≡◌, [], List, drop}
use Rattle.witx_base.specs.Paths.{Path}
use Rattle.witx_order.specs.Items.{Declared}
use Rattle.witx_order.specs.Walks.{place}
use Rattle.witx_walk.specs.Answers.{WhereTold}
use Rattle.witx_walk.specs.Steps.{IsWell, ReachesPlace, Tracks}
use Rattle.witx_walk.proofs.walk.take_all.Given as goal

abbrev pub invariant-loop-path : goal.invariant-loop-path
invariant-loop-path g l = record {
  files : g.I.WitxIo.files l.io ≡ g.I.WitxIo.files l.initial.io;
  aliases : g.I.WitxIo.aliases l.io ≡ g.I.WitxIo.aliases l.initial.io;
  count : g.I.WitxIo.faults l.io ≡ g.I.WitxIo.faults l.initial.io;
  well : IsWell l.initial.walk → IsWell l.walk;
  told : WhereTold (g.I.WitxIo.files l.initial.io) (g.I.WitxIo.aliases l.initial.io) (λ w.
      (taken : List Path) (declared : List Declared) → Tracks l.initial.walk taken declared
      → ReachesPlace w l.walk (place [] l.paths taken declared) (place [] (drop l.path-index l.paths)));
}
