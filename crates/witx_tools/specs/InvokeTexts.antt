-- What `invoke` tells of a call: the words that pass, the values that are noted, the words that come back, the value that is
-- returned, and the bytes of each range that was given.
use Rattle.std.specs.Prelude.{ℕ, ◌/◌, ◌%◌, List, [], ◌∷◌, ◌++◌, Option, Some, None, codes}
use Rattle.std.specs.Fmt.{decimal}
use Rattle.std.specs.List.{flat_map}
use Rattle.witx_ast.specs.Values.{Value}
use Rattle.witx_machine.specs.Run.{numbers}
use Rattle.witx_machine.specs.Words.{Word}
use Rattle.witx_adapt.specs.Names.{digit, spaced}
use Rattle.witx_bytes.specs.Bytes.{Bytes}
use Rattle.witx_call.specs.CallSeen.{CallSeen}
use Rattle.witx_call.specs.ValueTexts.{value_text}

-- a word behind a space: its type and its bits
abbrev pub word_text : Word → List ℕ
word_text w = spaced w.type ++ codes ":" ++ decimal w.bits

abbrev pub words_line : (name : List ℕ) → List Word → List ℕ
words_line name words = name ++ flat_map word_text words ++ codes "\n"

abbrev pub note_line : Value → List ℕ
note_line v = codes "note " ++ value_text v ++ codes "\n"

abbrev pub returned_line : Option Value → List ℕ
returned_line None = []
returned_line (Some v) = codes "return " ++ value_text v ++ codes "\n"

-- a byte behind a space, if one stands there
abbrev pub byte_text : Option ℕ → List ℕ
byte_text None = []
byte_text (Some b) = codes " " ++ digit (b / 16) ∷ digit (b % 16) ∷ []

-- a range: its address, and the bytes of so many addresses from there on
abbrev pub range_line : Bytes → ℕ × ℕ → List ℕ
range_line memory range =
    codes "bytes " ++ decimal range.0 ++ flat_map (λ at. byte_text (memory at)) (numbers range.0 range.1) ++ codes "\n"

-- THE TEXT of a call
unfoldable pub call_text : CallSeen → List ℕ
call_text seen =
    words_line (codes "pass") seen.pass ++ flat_map note_line seen.notes ++ words_line (codes "back") seen.back
    ++ returned_line seen.returned
    ++ flat_map (range_line seen.bytes) seen.taken
