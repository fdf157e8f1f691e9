use Rattle.std.proofs.Common.{◌≡◌, map, drop}
use Rattle.witx_values.specs.Words.{kind_spelled, spelling_view}
use Rattle.witx_values.proofs.words.kind_spelled.Given as goal

abbrev pub invariant-loop-word : goal.invariant-loop-word
invariant-loop-word g l = kind_spelled l.fn.other (map spelling_view (drop l.word-index l.words)) l.text ≡ kind_spelled l.fn.other (map spelling_view l.words) l.text
