-- The lines of events in the listing: a step is the name of its instruction and its fields, each behind one space.
use Rattle.std.specs.Prelude.{ℕ, List, [], ◌++◌, Bool, true, false, Option, Some, None, codes}
use Rattle.std.specs.Fmt.{decimal}
use Rattle.std.specs.List.{flat_map}
use Rattle.witx_ast.specs.Tree.{Tree}
use Rattle.witx_ast.specs.TypeNames.{type_text}
use Rattle.witx_machine.specs.Events.{Step, Event, emit, space, push, finish}
use Rattle.witx_adapt.specs.Names.{in_quotes, signature}

-- the instruction's name in snake case
abbrev pub step_name : Step → List ℕ
step_name (Step.GetArg n) = codes "get_arg"
step_name Step.AddrOf = codes "addr_of"
step_name Step.I32FromChar = codes "i32_from_char"
step_name Step.I64FromU64 = codes "i64_from_u64"
step_name Step.I64FromS64 = codes "i64_from_s64"
step_name Step.I32FromU32 = codes "i32_from_u32"
step_name Step.I32FromS32 = codes "i32_from_s32"
step_name Step.I32FromUsize = codes "i32_from_usize"
step_name Step.I32FromU16 = codes "i32_from_u16"
step_name Step.I32FromS16 = codes "i32_from_s16"
step_name Step.I32FromU8 = codes "i32_from_u8"
step_name Step.I32FromS8 = codes "i32_from_s8"
step_name Step.I32FromChar8 = codes "i32_from_char8"
step_name Step.I32FromPointer = codes "i32_from_pointer"
step_name Step.I32FromConstPointer = codes "i32_from_const_pointer"
step_name (Step.I32FromHandle t) = codes "i32_from_handle"
step_name (Step.I32FromBitflags t) = codes "i32_from_bitflags"
step_name (Step.I64FromBitflags t) = codes "i64_from_bitflags"
step_name Step.F32FromIf32 = codes "f32_from_if32"
step_name Step.F64FromIf64 = codes "f64_from_if64"
step_name Step.ListPointerLength = codes "list_pointer_length"
step_name (Step.ListFromPointerLength t) = codes "list_from_pointer_length"
step_name (Step.CallWasm m n ps rs) = codes "call_wasm"
step_name (Step.CallInterface m n ps rs) = codes "call_interface"
step_name Step.S8FromI32 = codes "s8_from_i32"
step_name Step.U8FromI32 = codes "u8_from_i32"
step_name Step.S16FromI32 = codes "s16_from_i32"
step_name Step.U16FromI32 = codes "u16_from_i32"
step_name Step.S32FromI32 = codes "s32_from_i32"
step_name Step.U32FromI32 = codes "u32_from_i32"
step_name Step.S64FromI64 = codes "s64_from_i64"
step_name Step.U64FromI64 = codes "u64_from_i64"
step_name Step.CharFromI32 = codes "char_from_i32"
step_name Step.Char8FromI32 = codes "char8_from_i32"
step_name Step.UsizeFromI32 = codes "usize_from_i32"
step_name Step.If32FromF32 = codes "if32_from_f32"
step_name Step.If64FromF64 = codes "if64_from_f64"
step_name (Step.HandleFromI32 t) = codes "handle_from_i32"
step_name (Step.PointerFromI32 t) = codes "pointer_from_i32"
step_name (Step.ConstPointerFromI32 t) = codes "const_pointer_from_i32"
step_name (Step.BitflagsFromI32 t) = codes "bitflags_from_i32"
step_name (Step.BitflagsFromI64 t) = codes "bitflags_from_i64"
step_name (Step.ReturnPointerGet n) = codes "return_pointer_get"
step_name (Step.Load t) = codes "load"
step_name (Step.Store t) = codes "store"
step_name (Step.TupleLift n) = codes "tuple_lift"
step_name (Step.TupleLower n) = codes "tuple_lower"
step_name (Step.EnumLift t) = codes "enum_lift"
step_name (Step.EnumLower t) = codes "enum_lower"
step_name Step.VariantPayload = codes "variant_payload"
step_name Step.ReuseReturn = codes "reuse_return"
step_name (Step.ResultLower ok err) = codes "result_lower"
step_name Step.ResultLift = codes "result_lift"
step_name (Step.Return n) = codes "return"

-- what stands behind the name
abbrev pub number_field : ℕ → List ℕ
number_field n = codes " " ++ decimal n

abbrev pub type_field : Tree → List ℕ
type_field t = codes " " ++ type_text t

abbrev pub payload_field : List ℕ → Option Tree → List ℕ
payload_field word None = []
payload_field word (Some t) = codes " " ++ word ++ type_field t

-- two quoted names
abbrev pub two_names : List ℕ → List ℕ → List ℕ
two_names module_name name = codes " " ++ in_quotes module_name ++ codes " " ++ in_quotes name

abbrev pub step_fields : Step → List ℕ
step_fields (Step.GetArg n) = number_field n
step_fields (Step.I32FromHandle t) = type_field t
step_fields (Step.I32FromBitflags t) = type_field t
step_fields (Step.I64FromBitflags t) = type_field t
step_fields (Step.ListFromPointerLength t) = type_field t
step_fields (Step.HandleFromI32 t) = type_field t
step_fields (Step.PointerFromI32 t) = type_field t
step_fields (Step.ConstPointerFromI32 t) = type_field t
step_fields (Step.BitflagsFromI32 t) = type_field t
step_fields (Step.BitflagsFromI64 t) = type_field t
step_fields (Step.ReturnPointerGet n) = number_field n
step_fields (Step.Load t) = type_field t
step_fields (Step.Store t) = type_field t
step_fields (Step.TupleLift n) = number_field n
step_fields (Step.TupleLower n) = number_field n
step_fields (Step.EnumLift t) = type_field t
step_fields (Step.EnumLower t) = type_field t
step_fields (Step.Return n) = number_field n
step_fields (Step.CallWasm m n ps rs) = two_names m n ++ codes " " ++ signature ps rs
step_fields (Step.CallInterface m n ps rs) = two_names m n
step_fields (Step.ResultLower ok err) = payload_field (codes "ok") ok ++ payload_field (codes "err") err
step_fields _ = []

abbrev pub finish_text : Bool → List ℕ
finish_text true = codes "finish_block value"
finish_text false = codes "finish_block none"

-- an event's line, without the two blanks before it and the line feed behind
abbrev pub event_text : Event → List ℕ
event_text (emit x) = step_name x ++ step_fields x
event_text (space k t) = codes "space" ++ number_field k ++ type_field t
event_text push = codes "push_block"
event_text (finish v) = finish_text v

abbrev pub event_line : Event → List ℕ
event_line e = codes "  " ++ event_text e ++ codes "\n"

abbrev pub event_lines : List Event → List ℕ
event_lines events = flat_map event_line events
