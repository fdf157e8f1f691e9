use Rattle.std.proofs.Common.{◌≡◌, map, drop}
use Rattle.witx_traces.specs.LineParts.{spelled_word, word_spelled}
use Rattle.witx_traces.proofs.line_words.word_among.Given as goal

abbrev pub invariant-loop-spelled : goal.invariant-loop-spelled
invariant-loop-spelled l = word_spelled (map spelled_word (drop l.spelled-index l.words)) l.text ≡ word_spelled (map spelled_word l.words) l.text
