-- The binary format of what is read of a module: types, limits, imports and sections.
use Rattle.std.specs.Prelude.{ℕ, List, Option, Some, None}
use Rattle.witx_wasm.specs.Codes.{reference_code, value_code, mutability_code}
use Rattle.witx_wasm.specs.Forms.{byte, ◌before◌, IsU32, IsVector, IsName}
use Rattle.witx_wasm.specs.declared.module.FunctionType.{FunctionType}
use Rattle.witx_wasm.specs.declared.module.GlobalType.{GlobalType}
use Rattle.witx_wasm.specs.declared.module.Import.{Import}
use Rattle.witx_wasm.specs.declared.module.ImportDescription.{ImportDescription}
use Rattle.witx_wasm.specs.declared.module.ImportDescription.TheVariants.{Function, Table, Memory, Global}
use Rattle.witx_wasm.specs.declared.module.Limits.{Limits}
use Rattle.witx_wasm.specs.declared.module.TableType.{TableType}
use Rattle.witx_wasm.specs.declared.module.ValueType.{ValueType}

-- the one byte of a type of values (Binary Format, Types, Value Types)
abbrev pub IsValueType : ValueType → List ℕ → Type 0
IsValueType t = byte (value_code t)

-- 0x60, the types of the parameters, those of the results (Binary Format, Types, Function Types, and Result Types)
abbrev pub IsFunctionType : FunctionType → List ℕ → Type 0
IsFunctionType t = byte 0x60 before IsVector IsValueType t.params before IsVector IsValueType t.results

-- 0 and the least, or 1, the least and the most (Binary Format, Types, Limits)
abbrev pub AreLimits : ℕ → Option ℕ → List ℕ → Type 0
AreLimits least None = byte 0 before IsU32 least
AreLimits least (Some most) = byte 1 before IsU32 least before IsU32 most

-- the same of a record, as the type of a memory (Binary Format, Types, Memory Types)
abbrev pub IsLimits : Limits → List ℕ → Type 0
IsLimits l = AreLimits l.least l.most

-- the type of the elements, and the limits (Binary Format, Types, Table Types)
abbrev pub IsTableType : TableType → List ℕ → Type 0
IsTableType t = byte (reference_code t.element) before IsLimits t.limits

-- the type of the value, and whether it may be changed (Binary Format, Types, Global Types)
abbrev pub IsGlobalType : GlobalType → List ℕ → Type 0
IsGlobalType g = IsValueType g.value before byte (mutability_code g.mutable)

-- the kind of what is imported, and its type, which of a function is its number (Binary Format, Modules, Import Section)
abbrev pub IsDescription : ImportDescription → List ℕ → Type 0
IsDescription (Function x) = byte 0 before IsU32 x
IsDescription (Table t) = byte 1 before IsTableType t
IsDescription (Memory l) = byte 2 before IsLimits l
IsDescription (Global g) = byte 3 before IsGlobalType g

-- the name of the module that is asked, the name of what is asked for, and what it is to be (Binary Format, Modules, Import Section)
abbrev pub IsImport : Import → List ℕ → Type 0
IsImport i = IsName i.module before IsName i.name before IsDescription i.description
