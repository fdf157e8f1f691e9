use Rattle.std.proofs.Common.{◌≡◌, ◌++◌, drop, map, string_bytes}
use Rattle.std.specs.List.{flat_map}
use Rattle.witx_call.specs.WordViews.{word_view}
use Rattle.witx_tools.specs.InvokeTexts.{word_text}
use Rattle.witx_tools.proofs.invoke_texts.put_words.Given as goal

abbrev pub invariant-loop-word : goal.invariant-loop-word
invariant-loop-word l =
    string_bytes l.text ++ flat_map word_text (map word_view (drop l.word-index l.words)) ≡ string_bytes l.initial.text ++ flat_map word_text (map word_view l.words)
