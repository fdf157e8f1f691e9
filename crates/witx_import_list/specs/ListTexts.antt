-- The text of a list of imports: a line for each, in their order.
use Rattle.std.specs.Prelude.{ℕ, List, [], ◌∷◌, ◌++◌, codes}
use Rattle.std.specs.List.{flat_map, AllByRecursion}
use Rattle.std.specs.Str.{IsUtf8}
use Rattle.witx_adapt.specs.Names.{in_quotes, spaced}
use Rattle.witx_imports.specs.declared.import.WasmImport.{WasmImport}
use Rattle.witx_machine.specs.declared.surface.WasmType.{WasmType}

-- both names in quotes
abbrev pub quoted_names : List ℕ → List ℕ → List ℕ
quoted_names m f = in_quotes m ++ codes " " ++ in_quotes f

-- words behind a head, in parentheses; nothing where there are no words
abbrev pub group : List ℕ → List WasmType → List ℕ
group head [] = []
group head (t ∷ ts) = codes " (" ++ head ++ flat_map spaced (t ∷ ts) ++ codes ")"

abbrev pub import_words_line : List ℕ → List ℕ → List WasmType → List WasmType → List ℕ
import_words_line m f ps rs = codes "(import " ++ quoted_names m f ++ codes " (func" ++ group (codes "param") ps ++ group (codes "result") rs ++ codes "))\n"

abbrev pub wasm_import_line : WasmImport → List ℕ
wasm_import_line i = import_words_line i.module i.name i.params i.results

abbrev pub list_text : List WasmImport → List ℕ
list_text imports = flat_map wasm_import_line imports

-- the names of imports are texts
abbrev pub AreNames : List WasmImport → Type 0
AreNames imports = AllByRecursion (λ i. IsUtf8 i.module × IsUtf8 i.name) imports
