use Rattle.std.proofs.Common.{refl}
use Rattle.witx_run.proofs.row.row_of.Goals as goal

pub returns-in-AddrOf : goal.returns-in-AddrOf
returns-in-AddrOf c = rw c.in-AddrOf.is refl

pub returns-in-CharFromI32 : goal.returns-in-CharFromI32
returns-in-CharFromI32 c = rw c.in-CharFromI32.is refl

pub returns-in-ConstPointerFromI32 : goal.returns-in-ConstPointerFromI32
returns-in-ConstPointerFromI32 c = rw c.in-ConstPointerFromI32.is refl

pub returns-in-F32FromIf32 : goal.returns-in-F32FromIf32
returns-in-F32FromIf32 c = rw c.in-F32FromIf32.is refl

pub returns-in-F64FromIf64 : goal.returns-in-F64FromIf64
returns-in-F64FromIf64 c = rw c.in-F64FromIf64.is refl

pub returns-in-GetArg : goal.returns-in-GetArg
returns-in-GetArg c = rw c.in-GetArg.is refl

pub returns-in-I32FromChar : goal.returns-in-I32FromChar
returns-in-I32FromChar c = rw c.in-I32FromChar.is refl

pub returns-in-I32FromConstPointer : goal.returns-in-I32FromConstPointer
returns-in-I32FromConstPointer c = rw c.in-I32FromConstPointer.is refl

pub returns-in-I32FromPointer : goal.returns-in-I32FromPointer
returns-in-I32FromPointer c = rw c.in-I32FromPointer.is refl

pub returns-in-I32FromS16 : goal.returns-in-I32FromS16
returns-in-I32FromS16 c = rw c.in-I32FromS16.is refl

pub returns-in-I32FromS32 : goal.returns-in-I32FromS32
returns-in-I32FromS32 c = rw c.in-I32FromS32.is refl

pub returns-in-I32FromS8 : goal.returns-in-I32FromS8
returns-in-I32FromS8 c = rw c.in-I32FromS8.is refl

pub returns-in-I32FromU16 : goal.returns-in-I32FromU16
returns-in-I32FromU16 c = rw c.in-I32FromU16.is refl

pub returns-in-I64FromS64 : goal.returns-in-I64FromS64
returns-in-I64FromS64 c = rw c.in-I64FromS64.is refl

pub returns-in-I64FromU64 : goal.returns-in-I64FromU64
returns-in-I64FromU64 c = rw c.in-I64FromU64.is refl

pub returns-in-If32FromF32 : goal.returns-in-If32FromF32
returns-in-If32FromF32 c = rw c.in-If32FromF32.is refl

pub returns-in-If64FromF64 : goal.returns-in-If64FromF64
returns-in-If64FromF64 c = rw c.in-If64FromF64.is refl

pub returns-in-ListFromPointerLength : goal.returns-in-ListFromPointerLength
returns-in-ListFromPointerLength c = rw c.in-ListFromPointerLength.is refl

pub returns-in-ListPointerLength : goal.returns-in-ListPointerLength
returns-in-ListPointerLength c = rw c.in-ListPointerLength.is refl

pub returns-in-Load : goal.returns-in-Load
returns-in-Load c = rw c.in-Load.is refl

pub returns-in-PointerFromI32 : goal.returns-in-PointerFromI32
returns-in-PointerFromI32 c = rw c.in-PointerFromI32.is refl

pub returns-in-ResultLift : goal.returns-in-ResultLift
returns-in-ResultLift c = rw c.in-ResultLift.is refl

pub returns-in-Return : goal.returns-in-Return
returns-in-Return c = rw c.in-Return.is refl

pub returns-in-ReturnPointerGet : goal.returns-in-ReturnPointerGet
returns-in-ReturnPointerGet c = rw c.in-ReturnPointerGet.is refl

pub returns-in-ReuseReturn : goal.returns-in-ReuseReturn
returns-in-ReuseReturn c = rw c.in-ReuseReturn.is refl

pub returns-in-S16FromI32 : goal.returns-in-S16FromI32
returns-in-S16FromI32 c = rw c.in-S16FromI32.is refl

pub returns-in-S32FromI32 : goal.returns-in-S32FromI32
returns-in-S32FromI32 c = rw c.in-S32FromI32.is refl

pub returns-in-S64FromI64 : goal.returns-in-S64FromI64
returns-in-S64FromI64 c = rw c.in-S64FromI64.is refl

pub returns-in-S8FromI32 : goal.returns-in-S8FromI32
returns-in-S8FromI32 c = rw c.in-S8FromI32.is refl

pub returns-in-Store : goal.returns-in-Store
returns-in-Store c = rw c.in-Store.is refl

pub returns-in-TupleLift : goal.returns-in-TupleLift
returns-in-TupleLift c = rw c.in-TupleLift.is refl

pub returns-in-TupleLower : goal.returns-in-TupleLower
returns-in-TupleLower c = rw c.in-TupleLower.is refl

pub returns-in-U16FromI32 : goal.returns-in-U16FromI32
returns-in-U16FromI32 c = rw c.in-U16FromI32.is refl

pub returns-in-U64FromI64 : goal.returns-in-U64FromI64
returns-in-U64FromI64 c = rw c.in-U64FromI64.is refl

pub returns-in-VariantPayload : goal.returns-in-VariantPayload
returns-in-VariantPayload c = rw c.in-VariantPayload.is refl
