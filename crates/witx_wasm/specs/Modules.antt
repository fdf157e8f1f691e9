-- Modules: the bytes with which each begins, and sections in their order.
use Rattle.std.specs.Prelude.{◌≡◌, ◌<◌, ◌==◌, if◌then◌else◌, ℕ, List, [], ◌∷◌, length}
use Rattle.std.specs.List.{flat_map, AllByRecursion}
use Rattle.witx_wasm.specs.Binary.{IsFunctionType, IsImport}
use Rattle.witx_wasm.specs.Forms.{byte, just, ◌before◌, AreMany, IsVector, IsSized, IsName}
use Rattle.witx_wasm.specs.declared.module.FunctionType.{FunctionType}
use Rattle.witx_wasm.specs.declared.module.Import.{Import}
use Rattle.witx_wasm.specs.declared.module.ImportDescription.{ImportDescription}
use Rattle.witx_wasm.specs.declared.module.ImportDescription.TheVariants.{Function, Table, Memory, Global}
use Rattle.witx_wasm.specs.declared.module.WasmModule.{WasmModule}

-- `\0asm` (Binary Format, Modules, Modules)
abbrev pub magic : List ℕ
magic = 0x00 ∷ 0x61 ∷ 0x73 ∷ 0x6D ∷ []

-- the version, 1 in four bytes from the lowest (Binary Format, Modules, Modules)
abbrev pub version : List ℕ
version = 0x01 ∷ 0x00 ∷ 0x00 ∷ 0x00 ∷ []

-- a section: one that is custom, with its name; the types; the imports; one of which nothing but its number is read
-- (Binary Format, Modules, Sections)
pub data Section : Type 0 where
  custom : List ℕ → Section
  typing : List FunctionType → Section
  importing : List Import → Section
  other : ℕ → Section

-- the number of the section, the size of its contents, its contents (Binary Format, Modules, Sections)
abbrev pub IsFramed : ℕ → List ℕ → List ℕ → Type 0
IsFramed number contents = byte number before IsSized contents

-- a section whose contents have the form
abbrev pub HasContents : ℕ → (List ℕ → Type 0) → List ℕ → Type 0
HasContents number P bytes = (contents : List ℕ) × P contents × IsFramed number contents bytes

-- any bytes
abbrev pub anything : List ℕ → Type 0
anything bytes = Unit {0}

-- Of a custom section a name, and then any bytes; of those of types and of imports a vector; of the others, with the numbers up to
-- 12, any bytes. (Binary Format, Modules, Custom Section, Type Section, Import Section)
abbrev pub IsSection : Section → List ℕ → Type 0
IsSection (custom name) bytes = HasContents 0 (IsName name before anything) bytes
IsSection (typing types) bytes = HasContents 1 (IsVector IsFunctionType types) bytes
IsSection (importing imports) bytes = HasContents 2 (IsVector IsImport imports) bytes
IsSection (other number) bytes = (2 < number) × (number < 13) × HasContents number anything bytes

-- The place of a section in the order: that of its number, but the count of data segments, 12, stands before the code, 10,
-- which stands before the data, 11. (Binary Format, Modules, Modules, and Data Count Section)
abbrev pub section_place : ℕ → ℕ
section_place number = if number == 10 then 11 else if number == 11 then 12 else if number == 12 then 10 else number

-- Behind a section with the place `last` each section has a greater place than the one before, so that none stands twice; custom
-- ones stand anywhere. (Binary Format, Modules, Modules)
abbrev pub AreInOrder : ℕ → List Section → Type 0
AreInOrder last [] = Unit {0}
AreInOrder last (custom name ∷ sections) = AreInOrder last sections
AreInOrder last (typing types ∷ sections) = (last < 1) × AreInOrder 1 sections
AreInOrder last (importing imports ∷ sections) = (last < 2) × AreInOrder 2 sections
AreInOrder last (other number ∷ sections) = (last < section_place number) × AreInOrder (section_place number) sections

-- the types that a section declares
abbrev pub types_in : Section → List FunctionType
types_in (custom name) = []
types_in (typing types) = types
types_in (importing imports) = []
types_in (other number) = []

-- the imports that a section declares
abbrev pub imports_in : Section → List Import
imports_in (custom name) = []
imports_in (typing types) = []
imports_in (importing imports) = imports
imports_in (other number) = []

-- a module of so many types has the one that an import names by its number (Validation, Types, Import Types)
abbrev pub HasType : ℕ → ImportDescription → Type 0
HasType count (Function x) = x < count
HasType count (Table t) = Unit {0}
HasType count (Memory l) = Unit {0}
HasType count (Global g) = Unit {0}

-- these sections make up the module: they stand in order, and it has their types and imports, of which each is known
pub record AreSectionsOf (m : WasmModule) (sections : List Section) : Type 0 where
  pub order : AreInOrder 0 sections
  pub types : m.types ≡ flat_map types_in sections
  pub imports : m.imports ≡ flat_map imports_in sections
  pub known : AllByRecursion (λ i. HasType (length m.types) i.description) m.imports

-- the bytes are a module with these types and imports (Binary Format, Modules, Modules)
abbrev pub IsModule : WasmModule → List ℕ → Type 0
IsModule m bytes = (sections : List Section) × AreSectionsOf m sections × (just magic before just version before AreMany IsSection sections) bytes
