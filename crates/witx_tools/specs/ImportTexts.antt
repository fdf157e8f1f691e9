-- What `imports` tells: a line for each fault of a list of imports that is held against what a document offers; and what is told
-- of a text that is no such list.
use Rattle.std.specs.Prelude.{◌≡◌, ℕ, List, [], ◌++◌, Option, Some, None, slice_get, codes}
use Rattle.std.specs.Fmt.{decimal}
use Rattle.std.specs.List.{flat_map}
use Rattle.witx_base.specs.Paths.{Path, path_text}
use Rattle.witx_adapt.specs.Names.{in_quotes, signature}
use Rattle.witx_imports.specs.Faults.{import_faults}
use Rattle.witx_imports.specs.Reads.{IsBadAt, LineColumn}
use Rattle.witx_imports.specs.declared.fault.ImportFault.{ImportFault}
use Rattle.witx_imports.specs.declared.fault.ImportFault.TheVariants as fault
use Rattle.witx_imports.specs.declared.import.WasmImport.{WasmImport}

-- the module and the name that an import asks for
abbrev pub names_text : WasmImport → List ℕ
names_text i = in_quotes i.module ++ codes " " ++ in_quotes i.name

abbrev pub lacking_line : Option WasmImport → List ℕ
lacking_line None = []
lacking_line (Some i) = codes "missing " ++ names_text i ++ codes "\n"

-- an import with its signature, and the signature that is expected of it
abbrev pub asked_text : WasmImport → List ℕ
asked_text i = names_text i ++ codes " " ++ signature i.params i.results

abbrev pub expected_text : WasmImport → List ℕ
expected_text x = codes " expected " ++ signature x.params x.results

abbrev pub differs_line : (import offered : Option WasmImport) → List ℕ
differs_line (Some i) (Some x) = codes "differs " ++ asked_text i ++ expected_text x ++ codes "\n"
differs_line _ _ = []

-- the line of a fault, which tells numbers of imports and of what is offered
abbrev pub fault_line : (offered imports : List WasmImport) → ImportFault → List ℕ
fault_line offered imports (fault.Missing index) = lacking_line (slice_get imports index)
fault_line offered imports (fault.Differs index function) =
    differs_line (slice_get imports index) (slice_get offered function)

-- THE TEXT of the faults of imports, in their order
unfoldable pub faults_text : (offered imports : List WasmImport) → List ℕ
faults_text offered imports = flat_map (fault_line offered imports) (import_faults offered imports)

abbrev pub bad_report : Path → LineColumn → List ℕ
bad_report path place = path_text path
    ++ (codes ":" ++ (decimal place.line ++ (codes ":" ++ (decimal place.column ++ codes ": not an import"))))

-- the text at this path is no list of imports, and this is the report
unfoldable pub IsBadList : Path → List ℕ → List ℕ → Type 0
IsBadList path list report = (place : LineColumn) × IsBadAt list place × (report ≡ bad_report path place)
