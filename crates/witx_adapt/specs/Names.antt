-- Names and signatures as the listing shows them. A name stands in double quotes, its own quotes and backslashes behind
-- a backslash, and its control characters as a backslash and two hexadecimal digits; a signature is its words' types.
use Rattle.std.specs.Prelude.{◌≡◌, ℕ, ◌+◌, ◌/◌, ◌%◌, List, [], ◌∷◌, ◌++◌, ◌||◌, ◌==◌, nat_lt, if◌then◌else◌, Result, OnOk, codes, string_bytes}
use Rattle.std.specs.declared.alloc.Global.{Global}
use Rattle.std.specs.declared.string.String.{String}
use Rattle.std.specs.List.{flat_map}
use Rattle.std.specs.Str.{chars}
use Rattle.std.specs.Prelude.{encode_utf8}
use Rattle.witx_machine.specs.declared.surface.WasmType.{WasmType}

-- what is done puts these bytes behind those of the text
abbrev pub PutsText : {R E : Type 0} → Result R E → (before now : String Global) → List ℕ → Type 0
PutsText r before now bytes = OnOk r (string_bytes now ≡ string_bytes before ++ bytes)

-- a hexadecimal digit in lower case
abbrev pub digit : ℕ → ℕ
digit n = (if nat_lt n 10 then 48 + n else 87 + n)

abbrev pub escaped : ℕ → List ℕ
escaped c =
    if c == 34 || c == 92 then 92 ∷ encode_utf8 c
    else (if nat_lt c 32 || c == 127 then 92 ∷ digit (c / 16) ∷ digit (c % 16) ∷ [] else encode_utf8 c)

-- a name, character by character
abbrev pub in_quotes : List ℕ → List ℕ
in_quotes name = codes "\"" ++ flat_map escaped (chars name) ++ codes "\""

abbrev pub wasm_word : WasmType → List ℕ
wasm_word WasmType.I32 = codes "i32"
wasm_word WasmType.I64 = codes "i64"
wasm_word WasmType.F32 = codes "f32"
wasm_word WasmType.F64 = codes "f64"

-- with a space before it
abbrev pub spaced : WasmType → List ℕ
spaced t = codes " " ++ wasm_word t

-- with one space between
abbrev pub wasm_words : List WasmType → List ℕ
wasm_words [] = []
wasm_words (t ∷ ts) = wasm_word t ++ flat_map spaced ts

abbrev pub signature : List WasmType → List WasmType → List ℕ
signature params results = (codes "(" ++ wasm_words params ++ codes ")") ++ codes " -> " ++ (codes "(" ++ wasm_words results ++ codes ")")
