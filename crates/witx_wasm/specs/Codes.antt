-- The bytes that stand for types, and the types that bytes stand for.
use Rattle.std.specs.Prelude.{ℕ, Bool, true, false}
use Rattle.witx_wasm.specs.declared.module.ReferenceType.{ReferenceType}
use Rattle.witx_wasm.specs.declared.module.ReferenceType.TheVariants.{Func, Extern}
use Rattle.witx_wasm.specs.declared.module.ValueType.{ValueType}
use Rattle.witx_wasm.specs.declared.module.ValueType.TheVariants.{I32, I64, F32, F64, Reference}

-- the byte of a type of references (Binary Format, Types, Reference Types)
abbrev pub reference_code : ReferenceType → ℕ
reference_code Func = 0x70
reference_code Extern = 0x6F

-- the byte of a type of values (Binary Format, Types, Number Types, and Value Types)
abbrev pub value_code : ValueType → ℕ
value_code I32 = 0x7F
value_code I64 = 0x7E
value_code F32 = 0x7D
value_code F64 = 0x7C
value_code (Reference r) = reference_code r

-- the byte for whether a global may be changed (Binary Format, Types, Global Types)
abbrev pub mutability_code : Bool → ℕ
mutability_code false = 0
mutability_code true = 1
