use Rattle.std.proofs.Common.{◌≡◌, ◌≤◌, ◌+◌, ◌-◌, ◌*◌, List, map, drop}
use Rattle.std.specs.BTreeSet.{btree_set_len}
use Rattle.witx_base.specs.Paths.{Path}
use Rattle.witx_syntax_tree.specs.Views.{noted_item}
use Rattle.witx_order.specs.Items.{Declared, items_of}
use Rattle.witx_order.specs.Walks.{OpenFile}
use Rattle.witx_walk.specs.Answers.{WhereTold}
use Rattle.witx_walk.specs.Steps.{AreTakenIn, IsWell, ReachesPlace, StayTaken, Tracks}
use Rattle.witx_walk.proofs.Items.{file_at}
use Rattle.witx_walk.proofs.walk.+walk.Given as goal

abbrev pub decreases-take_in : goal.decreases-take_in
decreases-take_in g l = 3 * (1024 - btree_set_len l.walk.now.taken.paths)

abbrev pub decreases-take_items : goal.decreases-take_items
decreases-take_items g l = 3 * (1024 - btree_set_len l.walk.now.taken.paths) + 2

abbrev pub decreases-take_item : goal.decreases-take_item
decreases-take_item g l = 3 * (1024 - btree_set_len l.walk.now.taken.paths) + 1

abbrev pub invariant-take_items-loop-item : goal.invariant-take_items-loop-item
invariant-take_items-loop-item g l = record {
  files : g.I.WitxIo.files l.io ≡ g.I.WitxIo.files l.initial.io;
  aliases : g.I.WitxIo.aliases l.io ≡ g.I.WitxIo.aliases l.initial.io;
  grows : btree_set_len l.initial.walk.taken.paths ≤ btree_set_len l.walk.taken.paths;
  keeps : StayTaken l.initial.walk.taken l.walk.taken;
  uses : AreTakenIn (g.I.WitxIo.aliases l.initial.io) l.folder l.progress.uses l.walk.taken;
  count : g.I.WitxIo.faults l.io ≡ g.I.WitxIo.faults l.initial.io;
  well : IsWell l.initial.walk → IsWell l.walk;
  text : l.progress.lines.text.now ≡ l.text;
  told : WhereTold (g.I.WitxIo.files l.initial.io) (g.I.WitxIo.aliases l.initial.io) (λ w.
      (open_files : List OpenFile) (handed taken : List Path) (declared : List Declared) → Tracks l.initial.walk taken declared
      → ReachesPlace w l.walk (file_at w l.path.path.now l.text l.folder open_files handed (items_of (map noted_item l.items)) taken declared)
      (file_at w l.path.path.now l.text l.folder open_files handed (items_of (map noted_item (drop l.item-index l.items)))));
}
