-- How the events and the instructions of the program are read: as the events of the machine.
-- Each type is read as its tree, once, so that events say the same whatever pointers hold their types.
use Rattle.std.specs.Prelude.{ℕ, List, map, length, Bool, true, false, Option, option_map}
use Rattle.witx_ast.specs.declared.function.InterfaceFuncParam.{InterfaceFuncParam}
use Rattle.witx_ast.specs.declared.function.InterfaceFunc.{InterfaceFunc}
use Rattle.std.specs.Borrow.{Bor}
use Rattle.std.specs.declared.alloc.Global.{Global}
use Rattle.std.specs.declared.rc.Rc.{Rc}
use Rattle.witx_ast.specs.declared.types.NamedType.{NamedType}
use Rattle.witx_ast.specs.declared.types.TypeRef.{TypeRef}
use Rattle.witx_ast.specs.declared.types.Variant.{Variant, out-Variant}
use Rattle.witx_ast.specs.Tree.{Tree, Arms, arms_of}
use Rattle.witx_ast.specs.Views.{tree_of, named_tree, case_arm}
use Rattle.witx_ast.specs.Plain.{Plain}
use Rattle.witx_machine.specs.Functions.{Function}
use Rattle.witx_machine.specs.Signature.{pointers_at}
use Rattle.witx_machine.specs.Events as machine
use Rattle.witx_machine.specs.Events.{Step}
use Rattle.witx_instructions.specs.declared.instruction.Instruction as declared_instruction
use Rattle.witx_instructions.specs.declared.instruction.Instruction.TheVariants as instruction
use Rattle.witx_instructions.specs.declared.event.Step as declared_step
use Rattle.witx_instructions.specs.declared.event.Step.TheVariants as kept
use Rattle.witx_instructions.specs.declared.event.Event as declared_event
use Rattle.witx_instructions.specs.declared.event.Event.TheVariants as event
use Rattle.witx_instructions.specs.declared.plan.Planned as declared_planned
use Rattle.witx_instructions.specs.declared.plan.Planned.TheVariants as planned

abbrev pub param_types : List InterfaceFuncParam → List Tree
param_types ps = map (λ p. tree_of p.tref) ps

-- the cases of a variant
abbrev pub variant_arms : Variant → Arms
variant_arms v = arms_of (map case_arm (out-Variant v).cases)

abbrev pub is_list_type : Plain → Bool
is_list_type (Plain.list_of t) = true
is_list_type _ = false

-- the types of return pointers
abbrev pub pointer_types : List (Bor (Rc NamedType Global)) → List Tree
pointer_types ps = map (λ p. named_tree p.now.value) ps

-- the type of a payload, where there is one
abbrev pub payload_tree : Option (Bor TypeRef) → Option Tree
payload_tree t = option_map (λ t. tree_of t.now) t

-- how many return pointers an ok type needs: one for each member of a tuple, else one
abbrev pub pointer_number : Tree → ℕ
pointer_number t = length (pointers_at t)

-- what an instruction says
abbrev pub step_of : declared_instruction.Instruction → Step
step_of (instruction.GetArg n) = Step.GetArg n
step_of instruction.AddrOf = Step.AddrOf
step_of instruction.I32FromChar = Step.I32FromChar
step_of instruction.I64FromU64 = Step.I64FromU64
step_of instruction.I64FromS64 = Step.I64FromS64
step_of instruction.I32FromU32 = Step.I32FromU32
step_of instruction.I32FromS32 = Step.I32FromS32
step_of instruction.I32FromUsize = Step.I32FromUsize
step_of instruction.I32FromU16 = Step.I32FromU16
step_of instruction.I32FromS16 = Step.I32FromS16
step_of instruction.I32FromU8 = Step.I32FromU8
step_of instruction.I32FromS8 = Step.I32FromS8
step_of instruction.I32FromChar8 = Step.I32FromChar8
step_of instruction.I32FromPointer = Step.I32FromPointer
step_of instruction.I32FromConstPointer = Step.I32FromConstPointer
step_of (instruction.I32FromHandle t) = Step.I32FromHandle (named_tree t.now.value)
step_of (instruction.I32FromBitflags t) = Step.I32FromBitflags (named_tree t.now.value)
step_of (instruction.I64FromBitflags t) = Step.I64FromBitflags (named_tree t.now.value)
step_of instruction.F32FromIf32 = Step.F32FromIf32
step_of instruction.F64FromIf64 = Step.F64FromIf64
step_of instruction.ListPointerLength = Step.ListPointerLength
step_of (instruction.ListFromPointerLength t) = Step.ListFromPointerLength (tree_of t.now)
step_of (instruction.CallWasm m n ps rs) = Step.CallWasm m.now n.now ps.now rs.now
step_of (instruction.CallInterface m f) = Step.CallInterface m.now f.now.name (param_types f.now.params) (param_types f.now.results)
step_of instruction.S8FromI32 = Step.S8FromI32
step_of instruction.U8FromI32 = Step.U8FromI32
step_of instruction.S16FromI32 = Step.S16FromI32
step_of instruction.U16FromI32 = Step.U16FromI32
step_of instruction.S32FromI32 = Step.S32FromI32
step_of instruction.U32FromI32 = Step.U32FromI32
step_of instruction.S64FromI64 = Step.S64FromI64
step_of instruction.U64FromI64 = Step.U64FromI64
step_of instruction.CharFromI32 = Step.CharFromI32
step_of instruction.Char8FromI32 = Step.Char8FromI32
step_of instruction.UsizeFromI32 = Step.UsizeFromI32
step_of instruction.If32FromF32 = Step.If32FromF32
step_of instruction.If64FromF64 = Step.If64FromF64
step_of (instruction.HandleFromI32 t) = Step.HandleFromI32 (named_tree t.now.value)
step_of (instruction.PointerFromI32 t) = Step.PointerFromI32 (tree_of t.now)
step_of (instruction.ConstPointerFromI32 t) = Step.ConstPointerFromI32 (tree_of t.now)
step_of (instruction.BitflagsFromI32 t) = Step.BitflagsFromI32 (named_tree t.now.value)
step_of (instruction.BitflagsFromI64 t) = Step.BitflagsFromI64 (named_tree t.now.value)
step_of (instruction.ReturnPointerGet n) = Step.ReturnPointerGet n
step_of (instruction.Load t) = Step.Load (named_tree t.now.value)
step_of (instruction.Store t) = Step.Store (named_tree t.now.value)
step_of (instruction.TupleLift n) = Step.TupleLift n
step_of (instruction.TupleLower n) = Step.TupleLower n
step_of (instruction.EnumLift t) = Step.EnumLift (named_tree t.now.value)
step_of (instruction.EnumLower t) = Step.EnumLower (named_tree t.now.value)
step_of instruction.VariantPayload = Step.VariantPayload
step_of instruction.ReuseReturn = Step.ReuseReturn
step_of (instruction.ResultLower ok err) = Step.ResultLower (payload_tree ok) (payload_tree err)
step_of instruction.ResultLift = Step.ResultLift
step_of (instruction.Return n) = Step.Return n

-- what was kept of it
abbrev pub kept_step : declared_step.Step → Step
kept_step (kept.GetArg n) = Step.GetArg n
kept_step kept.AddrOf = Step.AddrOf
kept_step kept.I32FromChar = Step.I32FromChar
kept_step kept.I64FromU64 = Step.I64FromU64
kept_step kept.I64FromS64 = Step.I64FromS64
kept_step kept.I32FromU32 = Step.I32FromU32
kept_step kept.I32FromS32 = Step.I32FromS32
kept_step kept.I32FromUsize = Step.I32FromUsize
kept_step kept.I32FromU16 = Step.I32FromU16
kept_step kept.I32FromS16 = Step.I32FromS16
kept_step kept.I32FromU8 = Step.I32FromU8
kept_step kept.I32FromS8 = Step.I32FromS8
kept_step kept.I32FromChar8 = Step.I32FromChar8
kept_step kept.I32FromPointer = Step.I32FromPointer
kept_step kept.I32FromConstPointer = Step.I32FromConstPointer
kept_step (kept.I32FromHandle t) = Step.I32FromHandle (named_tree t.value)
kept_step (kept.I32FromBitflags t) = Step.I32FromBitflags (named_tree t.value)
kept_step (kept.I64FromBitflags t) = Step.I64FromBitflags (named_tree t.value)
kept_step kept.F32FromIf32 = Step.F32FromIf32
kept_step kept.F64FromIf64 = Step.F64FromIf64
kept_step kept.ListPointerLength = Step.ListPointerLength
kept_step (kept.ListFromPointerLength t) = Step.ListFromPointerLength (tree_of t)
kept_step (kept.CallWasm c) = Step.CallWasm c.value.module c.value.name c.value.params c.value.results
kept_step (kept.CallInterface c) = Step.CallInterface c.value.module c.value.name (map tree_of c.value.params) (map tree_of c.value.results)
kept_step kept.S8FromI32 = Step.S8FromI32
kept_step kept.U8FromI32 = Step.U8FromI32
kept_step kept.S16FromI32 = Step.S16FromI32
kept_step kept.U16FromI32 = Step.U16FromI32
kept_step kept.S32FromI32 = Step.S32FromI32
kept_step kept.U32FromI32 = Step.U32FromI32
kept_step kept.S64FromI64 = Step.S64FromI64
kept_step kept.U64FromI64 = Step.U64FromI64
kept_step kept.CharFromI32 = Step.CharFromI32
kept_step kept.Char8FromI32 = Step.Char8FromI32
kept_step kept.UsizeFromI32 = Step.UsizeFromI32
kept_step kept.If32FromF32 = Step.If32FromF32
kept_step kept.If64FromF64 = Step.If64FromF64
kept_step (kept.HandleFromI32 t) = Step.HandleFromI32 (named_tree t.value)
kept_step (kept.PointerFromI32 t) = Step.PointerFromI32 (tree_of t)
kept_step (kept.ConstPointerFromI32 t) = Step.ConstPointerFromI32 (tree_of t)
kept_step (kept.BitflagsFromI32 t) = Step.BitflagsFromI32 (named_tree t.value)
kept_step (kept.BitflagsFromI64 t) = Step.BitflagsFromI64 (named_tree t.value)
kept_step (kept.ReturnPointerGet n) = Step.ReturnPointerGet n
kept_step (kept.Load t) = Step.Load (named_tree t.value)
kept_step (kept.Store t) = Step.Store (named_tree t.value)
kept_step (kept.TupleLift n) = Step.TupleLift n
kept_step (kept.TupleLower n) = Step.TupleLower n
kept_step (kept.EnumLift t) = Step.EnumLift (named_tree t.value)
kept_step (kept.EnumLower t) = Step.EnumLower (named_tree t.value)
kept_step kept.VariantPayload = Step.VariantPayload
kept_step kept.ReuseReturn = Step.ReuseReturn
kept_step (kept.ResultLower p) = Step.ResultLower (option_map tree_of p.value.ok) (option_map tree_of p.value.err)
kept_step kept.ResultLift = Step.ResultLift
kept_step (kept.Return n) = Step.Return n

abbrev pub event_of : declared_event.Event → machine.Event
event_of (event.Emit x) = machine.emit (kept_step x)
event_of (event.Space k t) = machine.space k (named_tree t.value)
event_of event.Push = machine.push
event_of (event.Finish v) = machine.finish v

-- an event to come
abbrev pub planned_event : declared_planned.Planned → machine.Event
planned_event (planned.Emit i) = machine.emit (step_of i)
planned_event (planned.CallWasm m n ps rs) = machine.emit (Step.CallWasm m.now n.now ps.now rs.now)
planned_event (planned.CallInterface m f) = machine.emit (Step.CallInterface m.now f.now.name (param_types f.now.params) (param_types f.now.results))
planned_event (planned.Space k t) = machine.space k (named_tree t.now.value)
planned_event planned.Push = machine.push
planned_event (planned.Finish v) = machine.finish v

abbrev pub planned_events : List declared_planned.Planned → List machine.Event
planned_events plan = map planned_event plan

-- a function as the machine has it
abbrev pub called : InterfaceFunc → Function
called f = record { abi = f.abi; name = f.name; params = param_types f.params; results = param_types f.results }
