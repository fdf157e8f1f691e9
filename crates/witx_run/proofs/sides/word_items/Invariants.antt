use Rattle.std.proofs.Common.{◌≡◌, map, take}
use Rattle.witx_machine.specs.Machine.{word_item}
use Rattle.witx_run.specs.Views.{items_of}
use Rattle.witx_run.proofs.sides.word_items.Given as goal

abbrev pub invariant-loop-word : goal.invariant-loop-word
invariant-loop-word g l = items_of g.D.Domain.value_of g.D.Domain.word_of l.items.items ≡ map word_item (map g.D.Domain.word_of (take l.word-index l.words))
