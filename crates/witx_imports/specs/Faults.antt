-- The faults of imports that are held against what an adapted document offers.
use Rattle.std.specs.Prelude.{ℕ, Bool, ◌&&◌, if◌then◌else◌, List, Option, Some, None}
use Rattle.std.specs.Cmp.Lexicographic.{pointwise}
use Rattle.std.specs.List.{enumerate_from, filter_map, find}
use Rattle.witx_base.specs.Texts.{same_text}
use Rattle.witx_machine.specs.contracts.surface.WasmTypePartialEq.TheImpl as words
use Rattle.witx_machine.specs.declared.surface.WasmType.{WasmType}
use Rattle.witx_adapt.specs.declared.adapted.AdaptedFunc.{AdaptedFunc}
use Rattle.witx_imports.specs.declared.fault.ImportFault.{ImportFault}
use Rattle.witx_imports.specs.declared.fault.ImportFault.TheVariants.{Missing, Differs}
use Rattle.witx_imports.specs.declared.import.WasmImport.{WasmImport}

-- what an entry of the document offers, as the import that fits it
abbrev pub offered_import : AdaptedFunc → WasmImport
offered_import e = record { «module» = e.module.value.name; name = e.func.value.name; params = e.params; results = e.results }

-- the same types of words, one by one
abbrev pub same_words : List WasmType → List WasmType → Bool
same_words = pointwise words.ghosts.eq

-- what is offered has the import's names; it has its words, those that go in and those that come back
abbrev pub has_import_names : WasmImport → WasmImport → Bool
has_import_names i x = same_text x.module i.module && same_text x.name i.name

abbrev pub has_words : WasmImport → WasmImport → Bool
has_words i x = same_words x.params i.params && same_words x.results i.results

-- the first of what is offered that has the import's names, with its number
abbrev pub first_offered : List WasmImport → WasmImport → Option (ℕ × WasmImport)
first_offered xs i = find (λ x. has_import_names i x.1) (enumerate_from 0 xs)

-- the fault of the import with the number n, for which this is the first
abbrev pub fault_by : ℕ → WasmImport → Option (ℕ × WasmImport) → Option ImportFault
fault_by n i None = Some (Missing n)
fault_by n i (Some x) = if has_words i x.1 then None else Some (Differs n x.0)

abbrev pub import_fault_of : List WasmImport → ℕ → WasmImport → Option ImportFault
import_fault_of xs n i = fault_by n i (first_offered xs i)

-- the faults of all imports, in their order
abbrev pub import_faults : List WasmImport → List WasmImport → List ImportFault
import_faults xs is = filter_map (λ x. import_fault_of xs x.0 x.1) (enumerate_from 0 is)
