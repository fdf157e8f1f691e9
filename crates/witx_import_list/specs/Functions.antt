-- The function imports of a module, with the words that their types stand for.
use Rattle.std.specs.Prelude.{◌≡◌, ℕ, ◌+◌, ◌-◌, List, [], ◌∷◌, length, Option, Some, None, Result, Ok, Err, nat_lt, if◌then◌else◌, slice_get}
use Rattle.witx_import_list.specs.declared.functions.ListError.{ListError}
use Rattle.witx_import_list.specs.declared.functions.ListError.TheVariants as errors
use Rattle.witx_imports.specs.declared.import.WasmImport.{WasmImport}
use Rattle.witx_machine.specs.declared.surface.WasmType.{WasmType}
use Rattle.witx_machine.specs.declared.surface.WasmType.TheVariants as w
use Rattle.witx_wasm.specs.declared.module.FunctionType.{FunctionType}
use Rattle.witx_wasm.specs.declared.module.Import.{Import}
use Rattle.witx_wasm.specs.declared.module.ImportDescription.{ImportDescription}
use Rattle.witx_wasm.specs.declared.module.ImportDescription.TheVariants.{Function, Table, Memory, Global}
use Rattle.witx_wasm.specs.declared.module.ValueType.{ValueType}
use Rattle.witx_wasm.specs.declared.module.ValueType.TheVariants.{I32, I64, F32, F64, Reference}

-- what follows where both are there
abbrev pub if_both : {A B C : Type 0} → (A → B → C) → Option A → Option B → Option C
if_both f (Some a) (Some b) = Some (f a b)
if_both f (Some a) None = None
if_both f None o = None

-- the word that a value is; a reference is none
abbrev pub wasm_type_of : ValueType → Option WasmType
wasm_type_of I32 = Some w.I32
wasm_type_of I64 = Some w.I64
wasm_type_of F32 = Some w.F32
wasm_type_of F64 = Some w.F64
wasm_type_of (Reference r) = None

-- the words that values are, if each is one
abbrev pub wasm_types_of : List ValueType → Option (List WasmType)
wasm_types_of [] = Some []
wasm_types_of (t ∷ ts) = if_both (λ x xs. x ∷ xs) (wasm_type_of t) (wasm_types_of ts)

-- the import of a function of the type, if it has words
abbrev pub with_words : Import → FunctionType → Option WasmImport
with_words i t = if_both (λ ps rs. record { «module» = i.module; name = i.name; params = ps; results = rs }) (wasm_types_of t.params) (wasm_types_of t.results)

-- an answer, or a refusal that isn't want of memory
abbrev pub ListAnswer : Type 0 → Type 0
ListAnswer A = Result A ListError

abbrev pub import_given : ℕ → ℕ → Option WasmImport → ListAnswer (WasmImport × ℕ)
import_given number room None = Err (errors.NoWords number)
import_given number room (Some asked) = Ok (asked, room)

-- the number of words of a type
abbrev pub word_count : FunctionType → ℕ
word_count t = length t.params + length t.results

-- how many words may come behind those of a type, where so many may come
unfoldable pub left_behind : ℕ → FunctionType → Option ℕ
left_behind room t = if nat_lt room (word_count t) then None else Some (room - word_count t)

abbrev pub if_room : Import → FunctionType → ℕ → Option ℕ → ListAnswer (WasmImport × ℕ)
if_room i t number None = Err errors.TooManyWords
if_room i t number (Some left) = import_given number left (with_words i t)

abbrev pub of_type : Import → ℕ → ℕ → Option FunctionType → ListAnswer (WasmImport × ℕ)
of_type i number room None = Err (errors.NoWords number)
of_type i number room (Some t) = if_room i t number (left_behind room t)

-- the import with this number, of a function of one of the types, and how many words may then come, of so many
abbrev pub function_import_at : List FunctionType → Import → ℕ → ℕ → ℕ → ListAnswer (WasmImport × ℕ)
function_import_at types i number x room = of_type i number room (slice_get types x)

abbrev pub as_some : ListAnswer (WasmImport × ℕ) → ListAnswer (Option WasmImport × ℕ)
as_some (Ok p) = Ok (Some p.0, p.1)
as_some (Err e) = Err e

-- the import with this number, if it is a function, and how many words may then come
abbrev pub of_kind : List FunctionType → Import → ℕ → ℕ → ImportDescription → ListAnswer (Option WasmImport × ℕ)
of_kind types i number room (Function x) = as_some (function_import_at types i number x room)
of_kind types i number room (Table t) = Ok (None, room)
of_kind types i number room (Memory l) = Ok (None, room)
of_kind types i number room (Global g) = Ok (None, room)

abbrev pub function_at : List FunctionType → Import → ℕ → ℕ → ListAnswer (Option WasmImport × ℕ)
function_at types i number room = of_kind types i number room i.description

abbrev pub in_front : Option WasmImport → ListAnswer (List WasmImport) → ListAnswer (List WasmImport)
in_front (Some asked) (Ok more) = Ok (asked ∷ more)
in_front None (Ok more) = Ok more
in_front o (Err e) = Err e

abbrev pub going_on : (ℕ → ListAnswer (List WasmImport)) → ListAnswer (Option WasmImport × ℕ) → ListAnswer (List WasmImport)
going_on more (Ok p) = in_front p.0 (more p.1)
going_on more (Err e) = Err e

-- the functions among imports of which the first has this number, where so many words may come
abbrev pub functions : List FunctionType → ℕ → ℕ → List Import → ListAnswer (List WasmImport)
functions types number room [] = Ok []
functions types number room (i ∷ is) = going_on (λ left. functions types (number + 1) left is) (function_at types i number room)

-- what a function answers, seen by view, is this, unless memory was refused
abbrev pub RefusesList : {B : Type 0} → ListError → ListAnswer B → Type 0
RefusesList errors.OutOfMemory answer = Unit {0}
RefusesList (errors.NoWords n) answer = answer ≡ Err (errors.NoWords n)
RefusesList errors.TooManyWords answer = answer ≡ Err errors.TooManyWords

abbrev pub GivesAnswer : {A B : Type 0} → (A → B) → Result A ListError → ListAnswer B → Type 0
GivesAnswer view (Ok x) answer = answer ≡ Ok (view x)
GivesAnswer view (Err e) answer = RefusesList e answer
