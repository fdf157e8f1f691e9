use Rattle.std.proofs.Common.{ap, sym}
use Rattle.witx_instructions.specs.Views.{step_of}
use Rattle.witx_instructions.proofs.event.Step.of.Goals as goal

pub returns-in-AddrOf : goal.returns-in-AddrOf
returns-in-AddrOf c = ap step_of (sym c.in-AddrOf.is)

pub returns-in-I32FromChar : goal.returns-in-I32FromChar
returns-in-I32FromChar c = ap step_of (sym c.in-I32FromChar.is)

pub returns-in-I64FromU64 : goal.returns-in-I64FromU64
returns-in-I64FromU64 c = ap step_of (sym c.in-I64FromU64.is)

pub returns-in-I64FromS64 : goal.returns-in-I64FromS64
returns-in-I64FromS64 c = ap step_of (sym c.in-I64FromS64.is)

pub returns-in-I32FromU32 : goal.returns-in-I32FromU32
returns-in-I32FromU32 c = ap step_of (sym c.in-I32FromU32.is)

pub returns-in-I32FromS32 : goal.returns-in-I32FromS32
returns-in-I32FromS32 c = ap step_of (sym c.in-I32FromS32.is)

pub returns-in-I32FromUsize : goal.returns-in-I32FromUsize
returns-in-I32FromUsize c = ap step_of (sym c.in-I32FromUsize.is)

pub returns-in-I32FromU16 : goal.returns-in-I32FromU16
returns-in-I32FromU16 c = ap step_of (sym c.in-I32FromU16.is)

pub returns-in-I32FromS16 : goal.returns-in-I32FromS16
returns-in-I32FromS16 c = ap step_of (sym c.in-I32FromS16.is)

pub returns-in-I32FromU8 : goal.returns-in-I32FromU8
returns-in-I32FromU8 c = ap step_of (sym c.in-I32FromU8.is)

pub returns-in-I32FromS8 : goal.returns-in-I32FromS8
returns-in-I32FromS8 c = ap step_of (sym c.in-I32FromS8.is)

pub returns-in-I32FromChar8 : goal.returns-in-I32FromChar8
returns-in-I32FromChar8 c = ap step_of (sym c.in-I32FromChar8.is)

pub returns-in-I32FromPointer : goal.returns-in-I32FromPointer
returns-in-I32FromPointer c = ap step_of (sym c.in-I32FromPointer.is)

pub returns-in-I32FromConstPointer : goal.returns-in-I32FromConstPointer
returns-in-I32FromConstPointer c = ap step_of (sym c.in-I32FromConstPointer.is)

pub returns-in-F32FromIf32 : goal.returns-in-F32FromIf32
returns-in-F32FromIf32 c = ap step_of (sym c.in-F32FromIf32.is)

pub returns-in-F64FromIf64 : goal.returns-in-F64FromIf64
returns-in-F64FromIf64 c = ap step_of (sym c.in-F64FromIf64.is)

pub returns-in-ListPointerLength : goal.returns-in-ListPointerLength
returns-in-ListPointerLength c = ap step_of (sym c.in-ListPointerLength.is)

pub returns-in-S8FromI32 : goal.returns-in-S8FromI32
returns-in-S8FromI32 c = ap step_of (sym c.in-S8FromI32.is)

pub returns-in-U8FromI32 : goal.returns-in-U8FromI32
returns-in-U8FromI32 c = ap step_of (sym c.in-U8FromI32.is)

pub returns-in-S16FromI32 : goal.returns-in-S16FromI32
returns-in-S16FromI32 c = ap step_of (sym c.in-S16FromI32.is)

pub returns-in-U16FromI32 : goal.returns-in-U16FromI32
returns-in-U16FromI32 c = ap step_of (sym c.in-U16FromI32.is)

pub returns-in-S32FromI32 : goal.returns-in-S32FromI32
returns-in-S32FromI32 c = ap step_of (sym c.in-S32FromI32.is)

pub returns-in-U32FromI32 : goal.returns-in-U32FromI32
returns-in-U32FromI32 c = ap step_of (sym c.in-U32FromI32.is)

pub returns-in-S64FromI64 : goal.returns-in-S64FromI64
returns-in-S64FromI64 c = ap step_of (sym c.in-S64FromI64.is)

pub returns-in-U64FromI64 : goal.returns-in-U64FromI64
returns-in-U64FromI64 c = ap step_of (sym c.in-U64FromI64.is)

pub returns-in-CharFromI32 : goal.returns-in-CharFromI32
returns-in-CharFromI32 c = ap step_of (sym c.in-CharFromI32.is)

pub returns-in-Char8FromI32 : goal.returns-in-Char8FromI32
returns-in-Char8FromI32 c = ap step_of (sym c.in-Char8FromI32.is)

pub returns-in-UsizeFromI32 : goal.returns-in-UsizeFromI32
returns-in-UsizeFromI32 c = ap step_of (sym c.in-UsizeFromI32.is)

pub returns-in-If32FromF32 : goal.returns-in-If32FromF32
returns-in-If32FromF32 c = ap step_of (sym c.in-If32FromF32.is)

pub returns-in-If64FromF64 : goal.returns-in-If64FromF64
returns-in-If64FromF64 c = ap step_of (sym c.in-If64FromF64.is)

pub returns-in-VariantPayload : goal.returns-in-VariantPayload
returns-in-VariantPayload c = ap step_of (sym c.in-VariantPayload.is)

pub returns-in-ReuseReturn : goal.returns-in-ReuseReturn
returns-in-ReuseReturn c = ap step_of (sym c.in-ReuseReturn.is)

pub returns-in-ResultLift : goal.returns-in-ResultLift
returns-in-ResultLift c = ap step_of (sym c.in-ResultLift.is)

pub returns-in-GetArg : goal.returns-in-GetArg
returns-in-GetArg c = ap step_of (sym c.in-GetArg.is)

pub returns-in-ReturnPointerGet : goal.returns-in-ReturnPointerGet
returns-in-ReturnPointerGet c = ap step_of (sym c.in-ReturnPointerGet.is)

pub returns-in-TupleLift : goal.returns-in-TupleLift
returns-in-TupleLift c = ap step_of (sym c.in-TupleLift.is)

pub returns-in-TupleLower : goal.returns-in-TupleLower
returns-in-TupleLower c = ap step_of (sym c.in-TupleLower.is)

pub returns-in-Return : goal.returns-in-Return
returns-in-Return c = ap step_of (sym c.in-Return.is)
