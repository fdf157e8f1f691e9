use Rattle.std.proofs.Common.{◌≡◌, ◌++◌, drop, map, string_bytes}
use Rattle.std.specs.List.{flat_map}
use Rattle.witx_bytes.specs.Seen.{seen}
use Rattle.witx_tools.specs.InvokeTexts.{note_line}
use Rattle.witx_tools.proofs.invoke_texts.put_notes.Given as goal

abbrev pub invariant-loop-note : goal.invariant-loop-note
invariant-loop-note l =
    string_bytes l.text ++ flat_map note_line (map seen (drop l.note-index l.notes)) ≡ string_bytes l.initial.text ++ flat_map note_line (map seen l.notes)
