-- The events of a trace: a step that an instruction makes, a space for a result, and the two ends of a block.
-- A named type is the tree of its name, so that documentation and all that the name stands for come with it.
use Rattle.std.specs.Prelude.{ℕ, List, Bool, Option}
use Rattle.witx_ast.specs.Tree.{Tree}
use Rattle.witx_machine.specs.declared.surface.WasmType.{WasmType}

pub data Step : Type 0 where
  GetArg : (nth : ℕ) → Step
  AddrOf : Step
  I32FromChar : Step
  I64FromU64 : Step
  I64FromS64 : Step
  I32FromU32 : Step
  I32FromS32 : Step
  I32FromUsize : Step
  I32FromU16 : Step
  I32FromS16 : Step
  I32FromU8 : Step
  I32FromS8 : Step
  I32FromChar8 : Step
  I32FromPointer : Step
  I32FromConstPointer : Step
  I32FromHandle : (ty : Tree) → Step
  I32FromBitflags : (ty : Tree) → Step
  I64FromBitflags : (ty : Tree) → Step
  F32FromIf32 : Step
  F64FromIf64 : Step
  ListPointerLength : Step
  ListFromPointerLength : (ty : Tree) → Step
  CallWasm : (module_name name : List ℕ) → (params results : List WasmType) → Step
  CallInterface : (module_name name : List ℕ) → (params results : List Tree) → Step
  S8FromI32 : Step
  U8FromI32 : Step
  S16FromI32 : Step
  U16FromI32 : Step
  S32FromI32 : Step
  U32FromI32 : Step
  S64FromI64 : Step
  U64FromI64 : Step
  CharFromI32 : Step
  Char8FromI32 : Step
  UsizeFromI32 : Step
  If32FromF32 : Step
  If64FromF64 : Step
  HandleFromI32 : (ty : Tree) → Step
  PointerFromI32 : (ty : Tree) → Step
  ConstPointerFromI32 : (ty : Tree) → Step
  BitflagsFromI32 : (ty : Tree) → Step
  BitflagsFromI64 : (ty : Tree) → Step
  ReturnPointerGet : (n : ℕ) → Step
  Load : (ty : Tree) → Step
  Store : (ty : Tree) → Step
  TupleLift : (amt : ℕ) → Step
  TupleLower : (amt : ℕ) → Step
  EnumLift : (ty : Tree) → Step
  EnumLower : (ty : Tree) → Step
  VariantPayload : Step
  ReuseReturn : Step
  ResultLower : (ok err : Option Tree) → Step
  ResultLift : Step
  Return : (amt : ℕ) → Step

pub data Event : Type 0 where
  emit : Step → Event
  space : (slot : ℕ) → (ty : Tree) → Event
  push : Event
  finish : (value : Bool) → Event
