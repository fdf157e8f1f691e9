-- The parts of an event's line: its word, and what stands behind the blank after it; and how the program's words are read.
use Rattle.std.specs.Prelude.{◌≡◌, ℕ, ⊤, List, [], ◌∷◌, ◌++◌, map, Bool, true, false, Option, Some, None, codes, if◌then◌else◌, ◌==◌}
use Rattle.std.specs.Fmt.{decimal}
use Rattle.std.specs.Str.{IsUtf8}
use Rattle.witx_base.specs.Texts.{same_text}
use Rattle.witx_ast.specs.Tree.{Tree, handle}
use Rattle.witx_ast.specs.TypeNames.{type_text}
use Rattle.witx_machine.specs.declared.surface.WasmType.{WasmType}
use Rattle.witx_machine.specs.Events.{Step, Event, emit, space, push, finish}
use Rattle.witx_adapt.specs.Lines.{step_name, event_text}
use Rattle.witx_adapt.specs.Names.{in_quotes, signature}
use Rattle.witx_traces.specs.declared.line_words.PlainWord.{PlainWord}
use Rattle.witx_traces.specs.declared.line_words.NumberWord.{NumberWord}
use Rattle.witx_traces.specs.declared.line_words.NamedWord.{NamedWord}
use Rattle.witx_traces.specs.declared.line_words.ShownWord.{ShownWord}
use Rattle.witx_traces.specs.declared.line_words.LineWord.{LineWord}
use Rattle.witx_traces.specs.declared.line_words.Spelled.{Spelled}
use Rattle.witx_traces.specs.Answers.{Answered}
use Rattle.witx_traces.specs.Traces.{Types, CanSay, IsTypename, IsShown, IsPayload, EndsBeforeError, IsWord}

-- ---- the words

abbrev pub plain_event : PlainWord → Event
plain_event PlainWord.AddrOf = emit Step.AddrOf
plain_event PlainWord.I32FromChar = emit Step.I32FromChar
plain_event PlainWord.I64FromU64 = emit Step.I64FromU64
plain_event PlainWord.I64FromS64 = emit Step.I64FromS64
plain_event PlainWord.I32FromU32 = emit Step.I32FromU32
plain_event PlainWord.I32FromS32 = emit Step.I32FromS32
plain_event PlainWord.I32FromUsize = emit Step.I32FromUsize
plain_event PlainWord.I32FromU16 = emit Step.I32FromU16
plain_event PlainWord.I32FromS16 = emit Step.I32FromS16
plain_event PlainWord.I32FromU8 = emit Step.I32FromU8
plain_event PlainWord.I32FromS8 = emit Step.I32FromS8
plain_event PlainWord.I32FromChar8 = emit Step.I32FromChar8
plain_event PlainWord.I32FromPointer = emit Step.I32FromPointer
plain_event PlainWord.I32FromConstPointer = emit Step.I32FromConstPointer
plain_event PlainWord.F32FromIf32 = emit Step.F32FromIf32
plain_event PlainWord.F64FromIf64 = emit Step.F64FromIf64
plain_event PlainWord.ListPointerLength = emit Step.ListPointerLength
plain_event PlainWord.S8FromI32 = emit Step.S8FromI32
plain_event PlainWord.U8FromI32 = emit Step.U8FromI32
plain_event PlainWord.S16FromI32 = emit Step.S16FromI32
plain_event PlainWord.U16FromI32 = emit Step.U16FromI32
plain_event PlainWord.S32FromI32 = emit Step.S32FromI32
plain_event PlainWord.U32FromI32 = emit Step.U32FromI32
plain_event PlainWord.S64FromI64 = emit Step.S64FromI64
plain_event PlainWord.U64FromI64 = emit Step.U64FromI64
plain_event PlainWord.CharFromI32 = emit Step.CharFromI32
plain_event PlainWord.Char8FromI32 = emit Step.Char8FromI32
plain_event PlainWord.UsizeFromI32 = emit Step.UsizeFromI32
plain_event PlainWord.If32FromF32 = emit Step.If32FromF32
plain_event PlainWord.If64FromF64 = emit Step.If64FromF64
plain_event PlainWord.VariantPayload = emit Step.VariantPayload
plain_event PlainWord.ReuseReturn = emit Step.ReuseReturn
plain_event PlainWord.ResultLift = emit Step.ResultLift
plain_event PlainWord.PushBlock = push

abbrev pub number_step : NumberWord → ℕ → Step
number_step NumberWord.GetArg n = Step.GetArg n
number_step NumberWord.ReturnPointerGet n = Step.ReturnPointerGet n
number_step NumberWord.TupleLift n = Step.TupleLift n
number_step NumberWord.TupleLower n = Step.TupleLower n
number_step NumberWord.Return n = Step.Return n

abbrev pub named_word_step : NamedWord → Tree → Step
named_word_step NamedWord.I32FromHandle t = Step.I32FromHandle t
named_word_step NamedWord.I32FromBitflags t = Step.I32FromBitflags t
named_word_step NamedWord.I64FromBitflags t = Step.I64FromBitflags t
named_word_step NamedWord.HandleFromI32 t = Step.HandleFromI32 t
named_word_step NamedWord.BitflagsFromI32 t = Step.BitflagsFromI32 t
named_word_step NamedWord.BitflagsFromI64 t = Step.BitflagsFromI64 t
named_word_step NamedWord.Load t = Step.Load t
named_word_step NamedWord.Store t = Step.Store t
named_word_step NamedWord.EnumLift t = Step.EnumLift t
named_word_step NamedWord.EnumLower t = Step.EnumLower t

abbrev pub shown_step : ShownWord → Tree → Step
shown_step ShownWord.ListFromPointerLength t = Step.ListFromPointerLength t
shown_step ShownWord.PointerFromI32 t = Step.PointerFromI32 t
shown_step ShownWord.ConstPointerFromI32 t = Step.ConstPointerFromI32 t

-- the word alone
abbrev pub word_spelling : LineWord → List ℕ
word_spelling (LineWord.Plain w) = event_text (plain_event w)
word_spelling (LineWord.Number w) = step_name (number_step w 0)
word_spelling (LineWord.Named w) = step_name (named_word_step w handle)
word_spelling (LineWord.Shown w) = step_name (shown_step w handle)
word_spelling LineWord.CallWasm = codes "call_wasm"
word_spelling LineWord.CallInterface = codes "call_interface"
word_spelling LineWord.ResultLower = codes "result_lower"
word_spelling LineWord.Space = codes "space"
word_spelling LineWord.FinishBlock = codes "finish_block"

abbrev pub all_words : List LineWord
all_words =
    (LineWord.Number NumberWord.GetArg) ∷
    (LineWord.Plain PlainWord.AddrOf) ∷
    (LineWord.Plain PlainWord.I32FromChar) ∷
    (LineWord.Plain PlainWord.I64FromU64) ∷
    (LineWord.Plain PlainWord.I64FromS64) ∷
    (LineWord.Plain PlainWord.I32FromU32) ∷
    (LineWord.Plain PlainWord.I32FromS32) ∷
    (LineWord.Plain PlainWord.I32FromUsize) ∷
    (LineWord.Plain PlainWord.I32FromU16) ∷
    (LineWord.Plain PlainWord.I32FromS16) ∷
    (LineWord.Plain PlainWord.I32FromU8) ∷
    (LineWord.Plain PlainWord.I32FromS8) ∷
    (LineWord.Plain PlainWord.I32FromChar8) ∷
    (LineWord.Plain PlainWord.I32FromPointer) ∷
    (LineWord.Plain PlainWord.I32FromConstPointer) ∷
    (LineWord.Named NamedWord.I32FromHandle) ∷
    (LineWord.Named NamedWord.I32FromBitflags) ∷
    (LineWord.Named NamedWord.I64FromBitflags) ∷
    (LineWord.Plain PlainWord.F32FromIf32) ∷
    (LineWord.Plain PlainWord.F64FromIf64) ∷
    (LineWord.Plain PlainWord.ListPointerLength) ∷
    (LineWord.Shown ShownWord.ListFromPointerLength) ∷
    (LineWord.CallWasm) ∷
    (LineWord.CallInterface) ∷
    (LineWord.Plain PlainWord.S8FromI32) ∷
    (LineWord.Plain PlainWord.U8FromI32) ∷
    (LineWord.Plain PlainWord.S16FromI32) ∷
    (LineWord.Plain PlainWord.U16FromI32) ∷
    (LineWord.Plain PlainWord.S32FromI32) ∷
    (LineWord.Plain PlainWord.U32FromI32) ∷
    (LineWord.Plain PlainWord.S64FromI64) ∷
    (LineWord.Plain PlainWord.U64FromI64) ∷
    (LineWord.Plain PlainWord.CharFromI32) ∷
    (LineWord.Plain PlainWord.Char8FromI32) ∷
    (LineWord.Plain PlainWord.UsizeFromI32) ∷
    (LineWord.Plain PlainWord.If32FromF32) ∷
    (LineWord.Plain PlainWord.If64FromF64) ∷
    (LineWord.Named NamedWord.HandleFromI32) ∷
    (LineWord.Shown ShownWord.PointerFromI32) ∷
    (LineWord.Shown ShownWord.ConstPointerFromI32) ∷
    (LineWord.Named NamedWord.BitflagsFromI32) ∷
    (LineWord.Named NamedWord.BitflagsFromI64) ∷
    (LineWord.Number NumberWord.ReturnPointerGet) ∷
    (LineWord.Named NamedWord.Load) ∷
    (LineWord.Named NamedWord.Store) ∷
    (LineWord.Number NumberWord.TupleLift) ∷
    (LineWord.Number NumberWord.TupleLower) ∷
    (LineWord.Named NamedWord.EnumLift) ∷
    (LineWord.Named NamedWord.EnumLower) ∷
    (LineWord.Plain PlainWord.VariantPayload) ∷
    (LineWord.Plain PlainWord.ReuseReturn) ∷
    (LineWord.ResultLower) ∷
    (LineWord.Plain PlainWord.ResultLift) ∷
    (LineWord.Number NumberWord.Return) ∷
    (LineWord.Space) ∷
    (LineWord.Plain PlainWord.PushBlock) ∷
    (LineWord.FinishBlock) ∷
    []

abbrev pub spelled_line_word : LineWord → LineWord × List ℕ
spelled_line_word w = (w, word_spelling w)

abbrev pub the_line_words : List (LineWord × List ℕ)
the_line_words = map spelled_line_word all_words

-- a word of the program
abbrev pub spelled_word : Spelled → LineWord × List ℕ
spelled_word s = (s.word, s.text.now)

-- the first word that is written so
abbrev pub word_spelled : List (LineWord × List ℕ) → List ℕ → Option LineWord
word_spelled [] text = None
word_spelled (w ∷ ws) text = if same_text w.1 text then Some w.0 else word_spelled ws text

-- ---- the parts

pub data Parts : Type 0 where
  plain : PlainWord → Parts
  number : NumberWord → ℕ → Parts
  named : NamedWord → Tree → Parts
  shown : ShownWord → Tree → Parts
  wasm : (m n : List ℕ) → (ps rs : List WasmType) → Parts
  interface : (m n : List ℕ) → (ps rs : List Tree) → Parts
  lower : (ok err : Option Tree) → Parts
  room : ℕ → Tree → Parts
  finished : Bool → Parts

abbrev pub event_from : Parts → Event
event_from (plain w) = plain_event w
event_from (number w n) = emit (number_step w n)
event_from (named w t) = emit (named_word_step w t)
event_from (shown w t) = emit (shown_step w t)
event_from (wasm m n ps rs) = emit (Step.CallWasm m n ps rs)
event_from (interface m n ps rs) = emit (Step.CallInterface m n ps rs)
event_from (lower ok err) = emit (Step.ResultLower ok err)
event_from (room k t) = space k t
event_from (finished v) = finish v

abbrev pub line_word : Parts → LineWord
line_word (plain w) = LineWord.Plain w
line_word (number w n) = LineWord.Number w
line_word (named w t) = LineWord.Named w
line_word (shown w t) = LineWord.Shown w
line_word (wasm m n ps rs) = LineWord.CallWasm
line_word (interface m n ps rs) = LineWord.CallInterface
line_word (lower ok err) = LineWord.ResultLower
line_word (room k t) = LineWord.Space
line_word (finished v) = LineWord.FinishBlock

-- the payloads of a result that is lowered
abbrev pub lower_tail : Option Tree → Option Tree → Option (List ℕ)
lower_tail None None = None
lower_tail (Some t) None = Some (codes "ok " ++ type_text t)
lower_tail (Some t) (Some u) = Some (codes "ok " ++ (type_text t ++ (codes " err " ++ type_text u)))
lower_tail None (Some u) = Some (codes "err " ++ type_text u)

abbrev pub block_end : Bool → List ℕ
block_end true = codes "value"
block_end false = codes "none"

-- what stands behind the blank
abbrev pub tail_of : Parts → Option (List ℕ)
tail_of (plain w) = None
tail_of (number w n) = Some (decimal n)
tail_of (named w t) = Some (type_text t)
tail_of (shown w t) = Some (type_text t)
tail_of (wasm m n ps rs) = Some (in_quotes m ++ (codes " " ++ (in_quotes n ++ (codes " " ++ signature ps rs))))
tail_of (interface m n ps rs) = Some (in_quotes m ++ (codes " " ++ in_quotes n))
tail_of (lower ok err) = lower_tail ok err
tail_of (room k t) = Some (decimal k ++ (codes " " ++ type_text t))
tail_of (finished v) = Some (block_end v)

abbrev pub CanSayParts : Types → Parts → Type 0
CanSayParts types (plain w) = ⊤
CanSayParts types (number w n) = IsWord n
CanSayParts types (named w t) = IsTypename types t
CanSayParts types (shown w t) = IsShown types t
CanSayParts types (wasm m n ps rs) = IsUtf8 m × IsUtf8 n
CanSayParts types (interface m n ps rs) = IsUtf8 m × IsUtf8 n × (ps ≡ types.params) × (rs ≡ types.results)
CanSayParts types (lower ok err) = IsPayload types ok × IsPayload types err × EndsBeforeError ok
CanSayParts types (room k t) = IsWord k × IsTypename types t
CanSayParts types (finished v) = ⊤

-- each event has its parts
abbrev pub parts : Event → Parts
parts (emit (Step.GetArg n)) = number NumberWord.GetArg n
parts (emit Step.AddrOf) = plain PlainWord.AddrOf
parts (emit Step.I32FromChar) = plain PlainWord.I32FromChar
parts (emit Step.I64FromU64) = plain PlainWord.I64FromU64
parts (emit Step.I64FromS64) = plain PlainWord.I64FromS64
parts (emit Step.I32FromU32) = plain PlainWord.I32FromU32
parts (emit Step.I32FromS32) = plain PlainWord.I32FromS32
parts (emit Step.I32FromUsize) = plain PlainWord.I32FromUsize
parts (emit Step.I32FromU16) = plain PlainWord.I32FromU16
parts (emit Step.I32FromS16) = plain PlainWord.I32FromS16
parts (emit Step.I32FromU8) = plain PlainWord.I32FromU8
parts (emit Step.I32FromS8) = plain PlainWord.I32FromS8
parts (emit Step.I32FromChar8) = plain PlainWord.I32FromChar8
parts (emit Step.I32FromPointer) = plain PlainWord.I32FromPointer
parts (emit Step.I32FromConstPointer) = plain PlainWord.I32FromConstPointer
parts (emit (Step.I32FromHandle t)) = named NamedWord.I32FromHandle t
parts (emit (Step.I32FromBitflags t)) = named NamedWord.I32FromBitflags t
parts (emit (Step.I64FromBitflags t)) = named NamedWord.I64FromBitflags t
parts (emit Step.F32FromIf32) = plain PlainWord.F32FromIf32
parts (emit Step.F64FromIf64) = plain PlainWord.F64FromIf64
parts (emit Step.ListPointerLength) = plain PlainWord.ListPointerLength
parts (emit (Step.ListFromPointerLength t)) = shown ShownWord.ListFromPointerLength t
parts (emit (Step.CallWasm m n ps rs)) = wasm m n ps rs
parts (emit (Step.CallInterface m n ps rs)) = interface m n ps rs
parts (emit Step.S8FromI32) = plain PlainWord.S8FromI32
parts (emit Step.U8FromI32) = plain PlainWord.U8FromI32
parts (emit Step.S16FromI32) = plain PlainWord.S16FromI32
parts (emit Step.U16FromI32) = plain PlainWord.U16FromI32
parts (emit Step.S32FromI32) = plain PlainWord.S32FromI32
parts (emit Step.U32FromI32) = plain PlainWord.U32FromI32
parts (emit Step.S64FromI64) = plain PlainWord.S64FromI64
parts (emit Step.U64FromI64) = plain PlainWord.U64FromI64
parts (emit Step.CharFromI32) = plain PlainWord.CharFromI32
parts (emit Step.Char8FromI32) = plain PlainWord.Char8FromI32
parts (emit Step.UsizeFromI32) = plain PlainWord.UsizeFromI32
parts (emit Step.If32FromF32) = plain PlainWord.If32FromF32
parts (emit Step.If64FromF64) = plain PlainWord.If64FromF64
parts (emit (Step.HandleFromI32 t)) = named NamedWord.HandleFromI32 t
parts (emit (Step.PointerFromI32 t)) = shown ShownWord.PointerFromI32 t
parts (emit (Step.ConstPointerFromI32 t)) = shown ShownWord.ConstPointerFromI32 t
parts (emit (Step.BitflagsFromI32 t)) = named NamedWord.BitflagsFromI32 t
parts (emit (Step.BitflagsFromI64 t)) = named NamedWord.BitflagsFromI64 t
parts (emit (Step.ReturnPointerGet n)) = number NumberWord.ReturnPointerGet n
parts (emit (Step.Load t)) = named NamedWord.Load t
parts (emit (Step.Store t)) = named NamedWord.Store t
parts (emit (Step.TupleLift n)) = number NumberWord.TupleLift n
parts (emit (Step.TupleLower n)) = number NumberWord.TupleLower n
parts (emit (Step.EnumLift t)) = named NamedWord.EnumLift t
parts (emit (Step.EnumLower t)) = named NamedWord.EnumLower t
parts (emit Step.VariantPayload) = plain PlainWord.VariantPayload
parts (emit Step.ReuseReturn) = plain PlainWord.ReuseReturn
parts (emit (Step.ResultLower ok err)) = lower ok err
parts (emit Step.ResultLift) = plain PlainWord.ResultLift
parts (emit (Step.Return n)) = number NumberWord.Return n
parts (space k t) = room k t
parts push = plain PlainWord.PushBlock
parts (finish v) = finished v

abbrev pub with_tail : List ℕ → Option (List ℕ) → List ℕ
with_tail word None = word
with_tail word (Some tail) = word ++ (32 ∷ tail)

abbrev pub no_blank : List ℕ → Bool
no_blank [] = true
no_blank (b ∷ bs) = if b == 32 then false else no_blank bs

-- ---- which event a line says

-- the event's line has this word, and this behind the blank after it
pub record HasParts (types : Types) (word : LineWord) (tail : Option (List ℕ)) (e : Event) : Type 0 where
  pub word-is : line_word (parts e) ≡ word
  pub tail-is : tail_of (parts e) ≡ tail
  pub can : CanSayParts types (parts e)

abbrev pub SaidBy : Types → LineWord → Option (List ℕ) → Option Event → Type 0
SaidBy types word tail o = Answered (HasParts types word tail) o

-- the event's text is this
pub record HasText (types : Types) (text : List ℕ) (e : Event) : Type 0 where
  pub same : with_tail (word_spelling (line_word (parts e))) (tail_of (parts e)) ≡ text
  pub can : CanSayParts types (parts e)

abbrev pub SaidByText : Types → List ℕ → Option Event → Type 0
SaidByText types text o = Answered (HasText types text) o

-- the line says the event
pub record HasLine (types : Types) (line : List ℕ) (e : Event) : Type 0 where
  pub can : CanSay types e
  pub same : codes "  " ++ event_text e ≡ line

abbrev pub SaidByLine : Types → List ℕ → Option Event → Type 0
SaidByLine types line o = Answered (HasLine types line) o
