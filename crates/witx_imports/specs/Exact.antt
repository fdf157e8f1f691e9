-- The fault of an import without a search: what holds of the two lists.
use Rattle.std.specs.Prelude.{◌≡◌, ℕ, ◌<◌, List, Some, slice_get}
use Rattle.witx_imports.specs.declared.fault.ImportFault.{ImportFault}
use Rattle.witx_imports.specs.declared.fault.ImportFault.TheVariants.{Missing, Differs}
use Rattle.witx_imports.specs.declared.import.WasmImport.{WasmImport}

-- what is offered has the import's names
pub record HasNames (i x : WasmImport) : Type 0 where
  pub owner : x.module ≡ i.module
  pub name : x.name ≡ i.name

-- nothing that is offered has the import's names
abbrev pub NoneHasNames : List WasmImport → WasmImport → Type 0
NoneHasNames xs i = (k : ℕ) (x : WasmImport) → slice_get xs k ≡ Some x → HasNames i x → ⊥

-- x has the number k among what is offered, and is the first that has the import's names
pub record IsFirstNamed (xs : List WasmImport) (i : WasmImport) (k : ℕ) (x : WasmImport) : Type 0 where
  pub here : slice_get xs k ≡ Some x
  pub named : HasNames i x
  pub before : (l : ℕ) (y : WasmImport) → l < k → slice_get xs l ≡ Some y → HasNames i y → ⊥

-- of the import i with the number n this is the fault
abbrev pub IsFaultOfImport : List WasmImport → ℕ → WasmImport → ImportFault → Type 0
IsFaultOfImport xs n i (Missing m) = (m ≡ n) × NoneHasNames xs i
IsFaultOfImport xs n i (Differs m k) = (m ≡ n) × (x : WasmImport) × IsFirstNamed xs i k x × (x ≡ i → ⊥)

-- one of the imports has this fault
abbrev pub IsFaultAmong : List WasmImport → List WasmImport → ImportFault → Type 0
IsFaultAmong xs is f = (n : ℕ) × (i : WasmImport) × (slice_get is n ≡ Some i) × IsFaultOfImport xs n i f

-- the number of the import that a fault is told of
abbrev pub import_number : ImportFault → ℕ
import_number (Missing n) = n
import_number (Differs n k) = n
