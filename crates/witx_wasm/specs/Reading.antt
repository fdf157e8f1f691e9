-- Reading a module from left to right, up to its first fault.
use Rattle.std.specs.Prelude.{◌≡◌, ◌-◌, ℕ, Bool, List, [], ◌∷◌, length, Option, Some, None, Result, Ok, Err, nat_lt, ◌==◌, if◌then◌else◌}
use Rattle.witx_wasm.specs.Modules.{magic, version, section_place}
use Rattle.witx_wasm.specs.Readers.{Reading, ◌>>=◌, stops, byte_at, literal_at, u32_at, vector_at, sized_at, name_at, all_of}
use Rattle.witx_wasm.specs.declared.fault.Fault.{Fault}
use Rattle.witx_wasm.specs.declared.fault.FaultKind.{FaultKind}
use Rattle.witx_wasm.specs.declared.fault.FaultKind.TheVariants as kinds
use Rattle.witx_wasm.specs.declared.fault.ModuleError.{ModuleError}
use Rattle.witx_wasm.specs.declared.fault.ModuleError.TheVariants as errors
use Rattle.witx_wasm.specs.declared.fault.ReadError.{ReadError}
use Rattle.witx_wasm.specs.declared.fault.ReadError.TheVariants as stopped
use Rattle.witx_wasm.specs.declared.fault.Stop.{Stop}
use Rattle.witx_wasm.specs.declared.module.FunctionType.{FunctionType}
use Rattle.witx_wasm.specs.declared.module.GlobalType.{GlobalType}
use Rattle.witx_wasm.specs.declared.module.Import.{Import}
use Rattle.witx_wasm.specs.declared.module.ImportDescription.{ImportDescription}
use Rattle.witx_wasm.specs.declared.module.ImportDescription.TheVariants.{Function, Table, Memory, Global}
use Rattle.witx_wasm.specs.declared.module.Limits.{Limits}
use Rattle.witx_wasm.specs.declared.module.ReferenceType.{ReferenceType}
use Rattle.witx_wasm.specs.declared.module.ReferenceType.TheVariants.{Func, Extern}
use Rattle.witx_wasm.specs.declared.module.TableType.{TableType}
use Rattle.witx_wasm.specs.declared.module.ValueType.{ValueType}
use Rattle.witx_wasm.specs.declared.module.ValueType.TheVariants.{I32, I64, F32, F64, Reference}
use Rattle.witx_wasm.specs.declared.module.WasmModule.{WasmModule}
use Rattle.witx_wasm.specs.declared.sections.Progress.{Progress}

-- ---- types

-- the type of references that a byte stands for
abbrev pub reference_of : ℕ → Option ReferenceType
reference_of b = if b == 0x70 then Some Func else if b == 0x6F then Some Extern else None

-- a type of references as one of values
abbrev pub value_of_reference : Option ReferenceType → Option ValueType
value_of_reference None = None
value_of_reference (Some r) = Some (Reference r)

-- the type of values that a byte stands for
abbrev pub value_type_of : ℕ → Option ValueType
value_type_of b =
    if b == 0x7F then Some I32 else if b == 0x7E then Some I64 else if b == 0x7D then Some F32 else if b == 0x7C then Some F64
    else value_of_reference (reference_of b)

-- What is wrong with a byte that stands for no type of references: from 0x63 on and from 0x69 on stand those that aren't read, and
-- else the fault is the other one. (Binary Format, Types, Heap Types, and Reference Types)
abbrev pub reference_fault : FaultKind → ℕ → FaultKind
reference_fault other b =
    if nat_lt b 0x63 then other else if nat_lt b 0x65 then kinds.HeapType else if nat_lt b 0x69 then other else if nat_lt b 0x75 then kinds.HeapType
    else other

-- what is wrong with a byte that stands for no type of values (Binary Format, Types, Vector Types)
abbrev pub value_fault : ℕ → FaultKind
value_fault b = if b == 0x7B then kinds.Vector else reference_fault kinds.ValueType b

-- What is wrong with a byte that begins no type of functions: from 0x4E on stand groups and subtypes, and from 0x5E on arrays and
-- structures, which aren't read. (Binary Format, Types, Composite Types, and Recursive Types)
abbrev pub type_form_fault : ℕ → FaultKind
type_form_fault b =
    if nat_lt b 0x4E then kinds.FunctionForm else if nat_lt b 0x51 then kinds.CompositeType else if nat_lt b 0x5E then kinds.FunctionForm
    else if nat_lt b 0x60 then kinds.CompositeType else kinds.FunctionForm

-- what a byte in front of others stands for, or a fault of the kind at it
abbrev pub decoded : {A : Type 0} → FaultKind → List ℕ → List ℕ → Option A → Reading A
decoded kind bytes rest None = stops kind bytes
decoded kind bytes rest (Some x) = Ok (x, rest)

-- a type of references
unfoldable pub reference_at : List ℕ → Reading ReferenceType
reference_at bytes = do
  b ← byte_at bytes
  decoded (reference_fault kinds.ReferenceType b.0) bytes b.1 (reference_of b.0)

-- a type of values
unfoldable pub value_at : List ℕ → Reading ValueType
value_at bytes = do
  b ← byte_at bytes
  decoded (value_fault b.0) bytes b.1 (value_type_of b.0)

-- a type of functions; its fault may be its form, at its first byte
unfoldable pub function_type_at : List ℕ → Reading FunctionType
function_type_at bytes = do
  form ← byte_at bytes
  if form.0 == 0x60
      then (do
        params ← vector_at value_at form.1
        results ← vector_at value_at params.1
        Ok (record { params = params.0; results = results.0 }, results.1))
      else stops (type_form_fault form.0) bytes

-- ---- imports

-- Flags of limits that aren't read: bit by bit from the second, what is shared, has addresses of 64 bits, has pages of another size;
-- the highest bit names the fault. (Binary Format, Types, Limits)
abbrev pub limits_fault : ℕ → FaultKind
limits_fault flag =
    if nat_lt flag 4 then kinds.Shared else if nat_lt flag 8 then kinds.Wide else if nat_lt flag 16 then kinds.PageSize else kinds.Limits

-- limits; their fault may be the flags, at their first byte
unfoldable pub limits_at : List ℕ → Reading Limits
limits_at bytes = do
  flag ← byte_at bytes
  if nat_lt 1 flag.0 then stops (limits_fault flag.0) bytes else (do
    least ← u32_at flag.1
    if flag.0 == 0 then Ok (record { least = least.0; most = None }, least.1) else (do
      most ← u32_at least.1
      Ok (record { least = least.0; most = Some most.0 }, most.1)))

-- a type of tables
unfoldable pub table_at : List ℕ → Reading TableType
table_at bytes = do
  element ← reference_at bytes
  limits ← limits_at element.1
  Ok (record { element = element.0; limits = limits.0 }, limits.1)

-- whether a global may be changed
unfoldable pub mutability_at : List ℕ → Reading Bool
mutability_at bytes = do
  b ← byte_at bytes
  if nat_lt 1 b.0 then stops kinds.Mutability bytes else Ok (b.0 == 1, b.1)

-- a type of globals
unfoldable pub global_at : List ℕ → Reading GlobalType
global_at bytes = do
  value ← value_at bytes
  mutable ← mutability_at value.1
  Ok (record { value = value.0; mutable = mutable.0 }, mutable.1)

-- the number of one of so many types; where it is too large the fault is at its first byte
unfoldable pub type_number_at : ℕ → List ℕ → Reading ℕ
type_number_at count bytes = do
  number ← u32_at bytes
  if nat_lt number.0 count then Ok number else stops kinds.UnknownType bytes

-- what is read, as what is wanted
abbrev pub described : {A : Type 0} → (A → ImportDescription) → Reading A → Reading ImportDescription
described f reading = reading >>= λ x. Ok (f x.0, x.1)

-- what is wrong with a byte that stands for nothing that can be imported
abbrev pub kind_fault : ℕ → FaultKind
kind_fault b = if b == 4 then kinds.Tag else kinds.ImportKind

-- what is wanted, in a module of so many types
unfoldable pub description_at : ℕ → List ℕ → Reading ImportDescription
description_at count bytes = do
  kind ← byte_at bytes
  if kind.0 == 0 then described Function (type_number_at count kind.1)
      else if kind.0 == 1 then described Table (table_at kind.1)
      else if kind.0 == 2 then described Memory (limits_at kind.1)
      else if kind.0 == 3 then described Global (global_at kind.1)
      else stops (kind_fault kind.0) bytes

-- an import of a module of so many types
unfoldable pub import_at : ℕ → List ℕ → Reading Import
import_at count bytes = do
  asked ← name_at bytes
  name ← name_at asked.1
  description ← description_at count name.1
  Ok (record { «module» = asked.0; name = name.0; description = description.0 }, description.1)

-- ---- sections

-- the number of a section that may stand behind one with the place `last`
unfoldable pub section_number_at : ℕ → List ℕ → Reading ℕ
section_number_at last bytes = do
  number ← byte_at bytes
  if number.0 == 0 then Ok number
      else if number.0 == 13 then stops kinds.Tag bytes
      else if nat_lt 13 number.0 then stops kinds.SectionId bytes
      else if nat_lt last (section_place number.0) then Ok number
      else stops kinds.SectionOrder bytes

-- a section's number and contents
unfoldable pub frame_at : ℕ → List ℕ → Reading (ℕ × List ℕ)
frame_at last bytes = do
  number ← section_number_at last bytes
  contents ← sized_at number.1
  Ok ((number.0, contents.0), contents.1)

-- what is known behind a section of types
abbrev pub with_types : Progress → List FunctionType → Progress
with_types known types = record { last = 1; types = types; imports = known.imports }

-- what is known behind one of imports
abbrev pub with_imports : Progress → List Import → Progress
with_imports known imports = record { last = 2; types = known.types; imports = imports }

-- what is known behind another one
abbrev pub with_other : Progress → ℕ → Progress
with_other known number = record { last = section_place number; types = known.types; imports = known.imports }

-- what is known behind the contents of the section with the number
unfoldable pub contents_at : Progress → ℕ → List ℕ → Result Progress Stop
contents_at known number contents =
    if number == 0 then (name_at contents >>= λ name. Ok known)
    else if number == 1 then (all_of (vector_at function_type_at contents) >>= λ types. Ok (with_types known types))
    else if number == 2 then (all_of (vector_at (import_at (length known.types)) contents) >>= λ imports. Ok (with_imports known imports))
    else Ok (with_other known number)

-- a stop in bytes whose end is so far from the beginning, as a fault with its offset
abbrev pub placed : {A : Type 0} → ℕ → Result A Stop → Result A Fault
placed end (Ok x) = Ok x
placed end (Err s) = Err (record { kind = s.kind; at = end - s.left })

-- a section of a module of so many bytes
unfoldable pub section_at : ℕ → Progress → List ℕ → Result (Progress × List ℕ) Fault
section_at total known bytes = do
  frame ← placed total (frame_at known.last bytes)
  after ← placed (total - length frame.1) (contents_at known frame.0.0 frame.0.1)
  Ok (after, frame.1)

-- what reading sections up to the end comes to, behind those that are known
pub data Sections (total : ℕ) : Progress → List ℕ → Result Progress Fault → Type 0 where
  no_more : (known : Progress) → Sections total known [] (Ok known)
  faulty : (known : Progress) (b : ℕ) (bs : List ℕ) (fault : Fault) → section_at total known (b ∷ bs) ≡ Err fault
      → Sections total known (b ∷ bs) (Err fault)
  more : (known : Progress) (b : ℕ) (bs : List ℕ) (after : Progress) (rest : List ℕ) (end : Result Progress Fault)
      → section_at total known (b ∷ bs) ≡ Ok (after, rest) → Sections total after rest end → Sections total known (b ∷ bs) end

-- what stands behind the bytes with which each module begins
abbrev pub preamble_at : List ℕ → Result (List ℕ) Stop
preamble_at bytes = literal_at kinds.Magic magic bytes >>= λ rest. literal_at kinds.Version version rest

-- what is known in front of all sections
abbrev pub nothing_known : Progress
nothing_known = record { last = 0; types = []; imports = [] }

-- a fault of so many bytes: that with which each module's beginning isn't read, or a section's behind others that stand
abbrev pub HasFaultBehind : ℕ → Fault → Result (List ℕ) Fault → Type 0
HasFaultBehind total fault (Err e) = fault ≡ e
HasFaultBehind total fault (Ok rest) = Sections total nothing_known rest (Err fault)

-- the bytes' fault: the first one from left to right
abbrev pub HasByteFault : Fault → List ℕ → Type 0
HasByteFault fault bytes = HasFaultBehind (length bytes) fault (placed (length bytes) (preamble_at bytes))

-- a stop in bytes whose end is so far from the beginning, as a function tells it
abbrev pub told : ℕ → ReadError → ModuleError
told end (stopped.Stop s) = errors.Fault (record { kind = s.kind; at = end - s.left })
told end stopped.OutOfMemory = errors.OutOfMemory

-- the claim holds of the fault, if the error has one
abbrev pub OfFault : ModuleError → (Fault → Type 0) → Type 0
OfFault (errors.Fault fault) P = P fault
OfFault errors.OutOfMemory P = Unit {0}

-- an error is this fault, unless memory was refused
abbrev pub Denies : {B : Type 0} → ModuleError → Result B Fault → Type 0
Denies e result = OfFault e (λ fault. result ≡ Err fault)

-- what a function answers, seen by view, is this, unless memory was refused
abbrev pub Tells : {A B : Type 0} → (A → B) → Result A ModuleError → Result B Fault → Type 0
Tells view (Ok x) result = result ≡ Ok (view x)
Tells view (Err e) result = Denies e result

-- the claim holds of the fault that an error tells, unless memory was refused
abbrev pub ComesAsErr : ModuleError → (Result Progress Fault → Type 0) → Type 0
ComesAsErr e P = OfFault e (λ fault. P (Err fault))

-- the claim holds of what a function answers, unless memory was refused
abbrev pub HoldsOfAnswer : Result Progress ModuleError → (Result Progress Fault → Type 0) → Type 0
HoldsOfAnswer (Ok known) P = P (Ok known)
HoldsOfAnswer (Err e) P = ComesAsErr e P

-- the fault that an error tells is that of the bytes
abbrev pub TellsByteFault : ModuleError → List ℕ → Type 0
TellsByteFault e bytes = OfFault e (λ fault. HasByteFault fault bytes)

-- the answer for bytes that are this module: it, unless memory was refused
abbrev pub IsAnswerFor : WasmModule → Result WasmModule ModuleError → Type 0
IsAnswerFor m (Ok n) = n ≡ m
IsAnswerFor m (Err e) = OfFault e (λ fault. ⊥)
