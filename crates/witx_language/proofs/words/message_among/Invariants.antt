use Rattle.std.proofs.Common.{◌≡◌, map, drop}
use Rattle.witx_language.specs.Messages.{expected_view, message_in}
use Rattle.witx_language.proofs.words.message_among.Given as goal

abbrev pub invariant-loop-word : goal.invariant-loop-word
invariant-loop-word l = message_in (map expected_view (drop l.word-index l.words)) l.kind ≡ message_in (map expected_view l.words) l.kind
