-- The caller's side of a function as lines of C in a comment: one for each of its events, in order. A value that goes in is `value`
-- and its number, a space `space` and its number, the word that the call gave `returned`. What an instruction leaves are variables,
-- numbered in order over the whole body; what it takes are the variables that earlier ones left on top.
use Rattle.std.specs.Prelude.{ℕ, zero, suc, ◌+◌, ◌-◌, ◌≡◌, List, [], ◌∷◌, ◌++◌, Bool, true, false, codes, length, take, drop, slice_get, Option, Some, None}
use Rattle.std.specs.Fmt.{decimal}
use Rattle.std.specs.List.{flat_map}
use Rattle.witx_ast.specs.Tree.{Tree, Field}
use Rattle.witx_ast.specs.Functions.{FunctionTree}
use Rattle.witx_machine.specs.declared.surface.Place.{Place}
use Rattle.witx_machine.specs.declared.surface.WasmType.{WasmType}
use Rattle.witx_machine.specs.Events.{Event, Step, emit, space, push, finish}
use Rattle.witx_machine.specs.Functions.{function_of}
use Rattle.witx_machine.specs.Lowerable.{unlowerable}
use Rattle.witx_machine.specs.Rows.{operands_count, results_count}
use Rattle.witx_machine.specs.Traces.{caller_events}
use Rattle.witx_instructions.specs.Handed.{GeneratorCall, emitted, made_room, began, ended}
use Rattle.witx_header.specs.declared.handed.Variable.{Variable}
use Rattle.witx_header.specs.CNames.{c_name, imported_name}
use Rattle.witx_header.specs.CTypes.{type_text, c_word}

-- ---- variables

abbrev pub variable_text : Variable → List ℕ
variable_text v = codes "t" ++ decimal v.number

abbrev pub behind_comma : Variable → List ℕ
behind_comma v = codes ", " ++ variable_text v

abbrev pub variables_text : List Variable → List ℕ
variables_text [] = []
variables_text (v ∷ vs) = variable_text v ++ flat_map behind_comma vs

-- so many variables, from this number on
abbrev pub numbered_variables : (first count : ℕ) → List Variable
numbered_variables first zero = []
numbered_variables first (suc n) = record { number = first } ∷ numbered_variables (first + 1) n

-- ---- which variables each event takes and leaves

-- what lies on top of a stack, and what below it, the topmost last
abbrev pub topmost : ℕ → List Variable → List Variable
topmost count stack = drop (length stack - count) stack

abbrev pub below : ℕ → List Variable → List Variable
below count stack = take (length stack - count) stack

-- THE CALLS of a generator for these events, with the variables that each is handed and leaves: from the variable of this number
-- on, with these on the stack
abbrev pub calls_from : (next : ℕ) → (stack : List Variable) → List Event → List (GeneratorCall Variable)
calls_from next stack [] = []
calls_from next stack (emit x ∷ es) =
    emitted x (topmost (operands_count x) stack) (numbered_variables next (results_count x))
    ∷ calls_from (next + results_count x) (below (operands_count x) stack ++ numbered_variables next (results_count x)) es
calls_from next stack (space slot t ∷ es) = made_room slot t ∷ calls_from next stack es
calls_from next stack (push ∷ es) = began ∷ calls_from next stack es
calls_from next stack (finish true ∷ es) = ended (slice_get (topmost 1 stack) 0) ∷ calls_from next (below 1 stack) es
calls_from next stack (finish false ∷ es) = ended None ∷ calls_from next stack es

-- ---- the line of each

-- results, declared as variables of this type
abbrev pub declared : (type : List ℕ) → List Variable → List ℕ
declared type results = (codes "    " ++ type ++ codes " ") ++ variables_text results ++ codes " = "

-- an operand, cast to this type
abbrev pub cast_line : (type : List ℕ) → (operands results : List Variable) → List ℕ
cast_line type operands results = declared type results ++ (codes "(" ++ type ++ codes ")") ++ variables_text operands ++ codes ";\n"

-- the value of this type at an address
abbrev pub load_line : (type : List ℕ) → (operands results : List Variable) → List ℕ
load_line type operands results = declared type results ++ (codes "*(" ++ type ++ codes " const *)") ++ variables_text operands ++ codes ";\n"

-- a list's address and length
abbrev pub list_line : (operands results : List Variable) → List ℕ
list_line operands (pointer ∷ len ∷ []) =
    (codes "    int32_t " ++ variable_text pointer ++ codes " = (int32_t)" ++ variables_text operands)
    ++ (codes ".ptr, " ++ variable_text len ++ codes " = (int32_t)" ++ variables_text operands ++ codes ".len;\n")
list_line operands _ = []

-- a tuple, whose members are named as the variables that they come from
abbrev pub member : Variable → List ℕ
member v = codes "__typeof__(" ++ variable_text v ++ codes ") " ++ variable_text v ++ codes "; "

abbrev pub tuple_line : (operands results : List Variable) → List ℕ
tuple_line operands results =
    (codes "    struct { " ++ flat_map member operands ++ codes "} " ++ variables_text results) ++ codes " = { " ++ variables_text operands ++ codes " };\n"

-- the call: the word that comes back has a name of its own, besides its variable; a function that can be lowered has no second one
abbrev pub c_call_text : (owner name : List ℕ) → (operands : List Variable) → List ℕ
c_call_text owner name operands = imported_name owner name ++ codes "(" ++ variables_text operands ++ codes ")"

abbrev pub call_begin : List WasmType → List ℕ
call_begin [] = codes "    "
call_begin (w ∷ ws) = codes "    " ++ c_word w ++ codes " returned = "

abbrev pub call_end : List WasmType → (results : List Variable) → List ℕ
call_end [] results = codes ";\n"
call_end (w ∷ ws) results = codes ", " ++ variables_text results ++ codes " = returned;\n"

abbrev pub wasm_line : (owner name : List ℕ) → List WasmType → (operands results : List Variable) → List ℕ
wasm_line owner name words operands results = call_begin words ++ c_call_text owner name operands ++ call_end words results

-- an address of a value
abbrev pub address_line : (operands results : List Variable) → List ℕ
address_line operands results = declared (codes "int32_t") results ++ codes "(int32_t)&" ++ variables_text operands ++ codes ";\n"

-- the word that the call gave, once more
abbrev pub c_returned_line : (results : List Variable) → List ℕ
c_returned_line results = declared (codes "__auto_type") results ++ codes "returned;\n"

-- a result, which is told by its word
abbrev pub result_line : (operands results : List Variable) → List ℕ
result_line operands results =
    declared (codes "__auto_type") results ++ variables_text operands ++ codes "; // 0: what the first block gives, else the second\n"

abbrev pub return_line : List Variable → List ℕ
return_line [] = codes "    return;\n"
return_line (v ∷ vs) = codes "    return " ++ variables_text (v ∷ vs) ++ codes ";\n"

-- the type of C to which an instruction casts its operand, where that needs no name of a typename
abbrev pub cast_word : Step → Option (List ℕ)
cast_word Step.I32FromChar = Some (codes "int32_t")
cast_word Step.I64FromU64 = Some (codes "int64_t")
cast_word Step.I64FromS64 = Some (codes "int64_t")
cast_word Step.I32FromU32 = Some (codes "int32_t")
cast_word Step.I32FromS32 = Some (codes "int32_t")
cast_word Step.I32FromUsize = Some (codes "int32_t")
cast_word Step.I32FromU16 = Some (codes "int32_t")
cast_word Step.I32FromS16 = Some (codes "int32_t")
cast_word Step.I32FromU8 = Some (codes "int32_t")
cast_word Step.I32FromS8 = Some (codes "int32_t")
cast_word Step.I32FromChar8 = Some (codes "int32_t")
cast_word Step.I32FromPointer = Some (codes "int32_t")
cast_word Step.I32FromConstPointer = Some (codes "int32_t")
cast_word (Step.I32FromHandle t) = Some (codes "int32_t")
cast_word (Step.I32FromBitflags t) = Some (codes "int32_t")
cast_word (Step.I64FromBitflags t) = Some (codes "int64_t")
cast_word (Step.EnumLower t) = Some (codes "int32_t")
cast_word Step.F32FromIf32 = Some (codes "float")
cast_word Step.F64FromIf64 = Some (codes "double")
cast_word Step.S8FromI32 = Some (codes "int8_t")
cast_word Step.U8FromI32 = Some (codes "uint8_t")
cast_word Step.S16FromI32 = Some (codes "int16_t")
cast_word Step.U16FromI32 = Some (codes "uint16_t")
cast_word Step.S32FromI32 = Some (codes "int32_t")
cast_word Step.U32FromI32 = Some (codes "uint32_t")
cast_word Step.S64FromI64 = Some (codes "int64_t")
cast_word Step.U64FromI64 = Some (codes "uint64_t")
cast_word Step.CharFromI32 = Some (codes "uint32_t")
cast_word Step.Char8FromI32 = Some (codes "char")
cast_word Step.UsizeFromI32 = Some (codes "size_t")
cast_word Step.If32FromF32 = Some (codes "float")
cast_word Step.If64FromF64 = Some (codes "double")
cast_word _ = None

-- any other; an instruction that the caller's side doesn't have has no line
abbrev pub own_line : Step → (operands results : List Variable) → List ℕ
own_line (Step.GetArg n) operands results = declared (codes "__auto_type") results ++ (codes "value" ++ decimal n ++ codes ";\n")
own_line Step.AddrOf operands results = address_line operands results
own_line Step.ListPointerLength operands results = list_line operands results
own_line (Step.ReturnPointerGet n) operands results = declared (codes "int32_t") results ++ (codes "(int32_t)&space" ++ decimal n ++ codes ";\n")
own_line (Step.CallWasm owner name params words) operands results = wasm_line owner name words operands results
own_line (Step.HandleFromI32 t) operands results = cast_line (type_text t) operands results
own_line (Step.BitflagsFromI32 t) operands results = cast_line (type_text t) operands results
own_line (Step.BitflagsFromI64 t) operands results = cast_line (type_text t) operands results
own_line (Step.EnumLift t) operands results = cast_line (type_text t) operands results
own_line (Step.PointerFromI32 t) operands results = cast_line (type_text t ++ codes " *") operands results
own_line (Step.ConstPointerFromI32 t) operands results = cast_line (type_text t ++ codes " const *") operands results
own_line (Step.Load t) operands results = load_line (type_text t) operands results
own_line (Step.TupleLift n) operands results = tuple_line operands results
own_line Step.ReuseReturn operands results = c_returned_line results
own_line Step.ResultLift operands results = result_line operands results
own_line (Step.Return n) operands results = return_line operands
own_line _ operands results = []

abbrev pub cast_or_own : Option (List ℕ) → Step → (operands results : List Variable) → List ℕ
cast_or_own (Some type) x operands results = cast_line type operands results
cast_or_own None x operands results = own_line x operands results

abbrev pub step_line : Step → (operands results : List Variable) → List ℕ
step_line x operands results = cast_or_own (cast_word x) x operands results

abbrev pub room_line : ℕ → Tree → List ℕ
room_line slot t = codes "    " ++ type_text t ++ (codes " space" ++ decimal slot ++ codes ";\n")

abbrev pub end_line : Option Variable → List ℕ
end_line None = codes "    // end\n"
end_line (Some v) = codes "    // end, gives " ++ variable_text v ++ codes "\n"

-- THE LINE of a call of the generator
abbrev pub call_line : GeneratorCall Variable → List ℕ
call_line (emitted x operands results) = step_line x operands results
call_line (made_room slot t) = room_line slot t
call_line began = codes "    // block\n"
call_line (ended operand) = end_line operand

-- ---- the body

-- a value that goes in, with its type and its name
abbrev pub value_line : ℕ → Field → List ℕ
value_line place p = (codes "    // value" ++ decimal place ++ codes ": ") ++ type_text p.tree ++ codes " " ++ c_name p.called ++ codes "\n"

abbrev pub field_lines : ℕ → List Field → List ℕ
field_lines place [] = []
field_lines place (p ∷ ps) = value_line place p ++ field_lines (place + 1) ps

abbrev pub side_text : List Field → List (GeneratorCall Variable) → List ℕ
side_text params calls = codes "/* The caller's side:\n" ++ field_lines 0 params ++ flat_map call_line calls ++ codes "*/\n\n"

-- THE BODY of a function's caller side; there is none where it can't be lowered
abbrev pub lowered_side : Option Place → (owner : List ℕ) → FunctionTree → List ℕ
lowered_side None owner f = side_text f.params (calls_from 0 [] (caller_events owner (function_of f)))
lowered_side (Some place) owner f = []

abbrev pub body_lines : (owner : List ℕ) → FunctionTree → List ℕ
body_lines owner f = lowered_side (unlowerable (function_of f)) owner f
