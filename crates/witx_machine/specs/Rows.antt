-- What each step does, as a table, and how many operands it takes and results it leaves.
-- The conversions of a value to its one word are one row, and so are those of a word to its value.
use Rattle.std.specs.Prelude.{ℕ, List, true, false, Option, length}
use Rattle.witx_ast.specs.declared.types.BuiltinType.{BuiltinType}
use Rattle.witx_ast.specs.Tree.{Tree}
use Rattle.witx_machine.specs.declared.surface.WasmType.{WasmType}
use Rattle.witx_machine.specs.Words.{Scalar, number_of, pointer, const_pointer, handle_of, flags_of, enum_of}
use Rattle.witx_machine.specs.Events.{Step}

pub data Row : Type 0 where
  get_arg : ℕ → Row
  addr_of : Row
  lowering : Scalar → Row
  lifting : Scalar → Row
  list_pointer_length : Row
  list_from_pointer_length : Row
  return_pointer_get : ℕ → Row
  load : Tree → Row
  store : Tree → Row
  tuple_lift : ℕ → Row
  tuple_lower : ℕ → Row
  variant_payload : Row
  reuse_return : Row
  result_lower : Option Tree → Option Tree → Row
  result_lift : Row
  call_wasm : List ℕ → List ℕ → List WasmType → List WasmType → Row
  call_interface : List ℕ → List ℕ → List Tree → List Tree → Row
  returns : ℕ → Row

abbrev pub row : Step → Row
row (Step.GetArg n) = get_arg n
row Step.AddrOf = addr_of
row Step.I32FromChar = lowering (number_of BuiltinType.Char)
row Step.I64FromU64 = lowering (number_of BuiltinType.U64)
row Step.I64FromS64 = lowering (number_of BuiltinType.S64)
row Step.I32FromU32 = lowering (number_of (BuiltinType.U32 false))
row Step.I32FromS32 = lowering (number_of BuiltinType.S32)
row Step.I32FromUsize = lowering (number_of (BuiltinType.U32 true))
row Step.I32FromU16 = lowering (number_of BuiltinType.U16)
row Step.I32FromS16 = lowering (number_of BuiltinType.S16)
row Step.I32FromU8 = lowering (number_of (BuiltinType.U8 false))
row Step.I32FromS8 = lowering (number_of BuiltinType.S8)
row Step.I32FromChar8 = lowering (number_of (BuiltinType.U8 true))
row Step.I32FromPointer = lowering pointer
row Step.I32FromConstPointer = lowering const_pointer
row (Step.I32FromHandle t) = lowering (handle_of t)
row (Step.I32FromBitflags t) = lowering (flags_of WasmType.I32 t)
row (Step.I64FromBitflags t) = lowering (flags_of WasmType.I64 t)
row Step.F32FromIf32 = lowering (number_of BuiltinType.F32)
row Step.F64FromIf64 = lowering (number_of BuiltinType.F64)
row Step.ListPointerLength = list_pointer_length
row (Step.ListFromPointerLength t) = list_from_pointer_length
row (Step.CallWasm m n ps rs) = call_wasm m n ps rs
row (Step.CallInterface m n ps rs) = call_interface m n ps rs
row Step.S8FromI32 = lifting (number_of BuiltinType.S8)
row Step.U8FromI32 = lifting (number_of (BuiltinType.U8 false))
row Step.S16FromI32 = lifting (number_of BuiltinType.S16)
row Step.U16FromI32 = lifting (number_of BuiltinType.U16)
row Step.S32FromI32 = lifting (number_of BuiltinType.S32)
row Step.U32FromI32 = lifting (number_of (BuiltinType.U32 false))
row Step.S64FromI64 = lifting (number_of BuiltinType.S64)
row Step.U64FromI64 = lifting (number_of BuiltinType.U64)
row Step.CharFromI32 = lifting (number_of BuiltinType.Char)
row Step.Char8FromI32 = lifting (number_of (BuiltinType.U8 true))
row Step.UsizeFromI32 = lifting (number_of (BuiltinType.U32 true))
row Step.If32FromF32 = lifting (number_of BuiltinType.F32)
row Step.If64FromF64 = lifting (number_of BuiltinType.F64)
row (Step.HandleFromI32 t) = lifting (handle_of t)
row (Step.PointerFromI32 t) = lifting pointer
row (Step.ConstPointerFromI32 t) = lifting const_pointer
row (Step.BitflagsFromI32 t) = lifting (flags_of WasmType.I32 t)
row (Step.BitflagsFromI64 t) = lifting (flags_of WasmType.I64 t)
row (Step.ReturnPointerGet n) = return_pointer_get n
row (Step.Load t) = load t
row (Step.Store t) = store t
row (Step.TupleLift n) = tuple_lift n
row (Step.TupleLower n) = tuple_lower n
row (Step.EnumLift t) = lifting (enum_of t)
row (Step.EnumLower t) = lowering (enum_of t)
row Step.VariantPayload = variant_payload
row Step.ReuseReturn = reuse_return
row (Step.ResultLower ok err) = result_lower ok err
row Step.ResultLift = result_lift
row (Step.Return n) = returns n

-- one and one, but for these
abbrev pub operands_count : Step → ℕ
operands_count (Step.GetArg n) = 0
operands_count (Step.ReturnPointerGet n) = 0
operands_count Step.VariantPayload = 0
operands_count Step.ReuseReturn = 0
operands_count (Step.ListFromPointerLength t) = 2
operands_count (Step.CallWasm m n ps rs) = length ps
operands_count (Step.CallInterface m n ps rs) = length ps
operands_count (Step.Store t) = 2
operands_count (Step.TupleLift n) = n
operands_count (Step.Return n) = n
operands_count _ = 1

abbrev pub results_count : Step → ℕ
results_count Step.ListPointerLength = 2
results_count (Step.CallWasm m n ps rs) = length rs
results_count (Step.CallInterface m n ps rs) = length rs
results_count (Step.Store t) = 0
results_count (Step.TupleLower n) = n
results_count (Step.Return n) = 0
results_count _ = 1
