-- Lemmas on the parts of an event's line: its line is the word and what stands behind it, and each word is found by its text.
use Rattle.std.proofs.Common.{◌≡◌, ℕ, List, ◌++◌, true, false, refl, ap, ◌∙◌, Option, Some, None, append_assoc, append-nil}
use Rattle.std.specs.Prelude.{⊤, codes}
use Rattle.witx_base.specs.Texts.{same_text}
use Rattle.witx_ast.specs.Tree.{Tree}
use Rattle.witx_ast.specs.TypeNames.{type_text}
use Rattle.witx_machine.specs.Events.{Step, Event, emit, space, push, finish}
use Rattle.witx_adapt.specs.Lines.{event_text}
use Rattle.witx_adapt.specs.Names.{in_quotes, signature}
use Rattle.witx_traces.specs.declared.line_words.PlainWord.{PlainWord}
use Rattle.witx_traces.specs.declared.line_words.NumberWord.{NumberWord}
use Rattle.witx_traces.specs.declared.line_words.NamedWord.{NamedWord}
use Rattle.witx_traces.specs.declared.line_words.ShownWord.{ShownWord}
use Rattle.witx_traces.specs.declared.line_words.LineWord.{LineWord}
use Rattle.witx_traces.specs.Traces.{Types, CanSay}
use Rattle.witx_traces.specs.LineParts.{plain_event, number_step, named_word_step, shown_step, word_spelling, the_line_words, word_spelled, Parts, plain, number, named, shown, wasm, interface, lower, room, finished, event_from, line_word, lower_tail, tail_of, CanSayParts, parts, with_tail, no_blank}

-- ---- what holds of each word of a kind holds of every one

module _ (P : NumberWord → Type 0) (get_arg : P NumberWord.GetArg) (return_pointer_get : P NumberWord.ReturnPointerGet) (tuple_lift : P NumberWord.TupleLift) (tuple_lower : P NumberWord.TupleLower) (back : P NumberWord.Return) where
  pub each-number : (w : NumberWord) → P w
  each-number NumberWord.GetArg = get_arg
  each-number NumberWord.ReturnPointerGet = return_pointer_get
  each-number NumberWord.TupleLift = tuple_lift
  each-number NumberWord.TupleLower = tuple_lower
  each-number NumberWord.Return = back

module _ (P : NamedWord → Type 0) (i32_from_handle : P NamedWord.I32FromHandle) (i32_from_bitflags : P NamedWord.I32FromBitflags) (i64_from_bitflags : P NamedWord.I64FromBitflags) (handle_from_i32 : P NamedWord.HandleFromI32) (bitflags_from_i32 : P NamedWord.BitflagsFromI32) (bitflags_from_i64 : P NamedWord.BitflagsFromI64) (load : P NamedWord.Load) (store : P NamedWord.Store) (enum_lift : P NamedWord.EnumLift) (enum_lower : P NamedWord.EnumLower) where
  pub each-named : (w : NamedWord) → P w
  each-named NamedWord.I32FromHandle = i32_from_handle
  each-named NamedWord.I32FromBitflags = i32_from_bitflags
  each-named NamedWord.I64FromBitflags = i64_from_bitflags
  each-named NamedWord.HandleFromI32 = handle_from_i32
  each-named NamedWord.BitflagsFromI32 = bitflags_from_i32
  each-named NamedWord.BitflagsFromI64 = bitflags_from_i64
  each-named NamedWord.Load = load
  each-named NamedWord.Store = store
  each-named NamedWord.EnumLift = enum_lift
  each-named NamedWord.EnumLower = enum_lower

module _ (P : ShownWord → Type 0) (list_from_pointer_length : P ShownWord.ListFromPointerLength) (pointer_from_i32 : P ShownWord.PointerFromI32) (const_pointer_from_i32 : P ShownWord.ConstPointerFromI32) where
  pub each-shown : (w : ShownWord) → P w
  each-shown ShownWord.ListFromPointerLength = list_from_pointer_length
  each-shown ShownWord.PointerFromI32 = pointer_from_i32
  each-shown ShownWord.ConstPointerFromI32 = const_pointer_from_i32

-- ---- each event has its parts

pub from-parts : (e : Event) → event_from (parts e) ≡ e
from-parts (emit (Step.GetArg n)) = refl
from-parts (emit Step.AddrOf) = refl
from-parts (emit Step.I32FromChar) = refl
from-parts (emit Step.I64FromU64) = refl
from-parts (emit Step.I64FromS64) = refl
from-parts (emit Step.I32FromU32) = refl
from-parts (emit Step.I32FromS32) = refl
from-parts (emit Step.I32FromUsize) = refl
from-parts (emit Step.I32FromU16) = refl
from-parts (emit Step.I32FromS16) = refl
from-parts (emit Step.I32FromU8) = refl
from-parts (emit Step.I32FromS8) = refl
from-parts (emit Step.I32FromChar8) = refl
from-parts (emit Step.I32FromPointer) = refl
from-parts (emit Step.I32FromConstPointer) = refl
from-parts (emit (Step.I32FromHandle t)) = refl
from-parts (emit (Step.I32FromBitflags t)) = refl
from-parts (emit (Step.I64FromBitflags t)) = refl
from-parts (emit Step.F32FromIf32) = refl
from-parts (emit Step.F64FromIf64) = refl
from-parts (emit Step.ListPointerLength) = refl
from-parts (emit (Step.ListFromPointerLength t)) = refl
from-parts (emit (Step.CallWasm m n ps rs)) = refl
from-parts (emit (Step.CallInterface m n ps rs)) = refl
from-parts (emit Step.S8FromI32) = refl
from-parts (emit Step.U8FromI32) = refl
from-parts (emit Step.S16FromI32) = refl
from-parts (emit Step.U16FromI32) = refl
from-parts (emit Step.S32FromI32) = refl
from-parts (emit Step.U32FromI32) = refl
from-parts (emit Step.S64FromI64) = refl
from-parts (emit Step.U64FromI64) = refl
from-parts (emit Step.CharFromI32) = refl
from-parts (emit Step.Char8FromI32) = refl
from-parts (emit Step.UsizeFromI32) = refl
from-parts (emit Step.If32FromF32) = refl
from-parts (emit Step.If64FromF64) = refl
from-parts (emit (Step.HandleFromI32 t)) = refl
from-parts (emit (Step.PointerFromI32 t)) = refl
from-parts (emit (Step.ConstPointerFromI32 t)) = refl
from-parts (emit (Step.BitflagsFromI32 t)) = refl
from-parts (emit (Step.BitflagsFromI64 t)) = refl
from-parts (emit (Step.ReturnPointerGet n)) = refl
from-parts (emit (Step.Load t)) = refl
from-parts (emit (Step.Store t)) = refl
from-parts (emit (Step.TupleLift n)) = refl
from-parts (emit (Step.TupleLower n)) = refl
from-parts (emit (Step.EnumLift t)) = refl
from-parts (emit (Step.EnumLower t)) = refl
from-parts (emit Step.VariantPayload) = refl
from-parts (emit Step.ReuseReturn) = refl
from-parts (emit (Step.ResultLower ok err)) = refl
from-parts (emit Step.ResultLift) = refl
from-parts (emit (Step.Return n)) = refl
from-parts (space k t) = refl
from-parts push = refl
from-parts (finish v) = refl

-- ---- its line is the word and what stands behind it

number-text : (w : NumberWord) (n : ℕ) → event_text (emit (number_step w n)) ≡ with_tail (word_spelling (LineWord.Number w)) (tail_of (number w n))
number-text w n = each-number (λ w. event_text (emit (number_step w n)) ≡ with_tail (word_spelling (LineWord.Number w)) (tail_of (number w n))) refl refl refl refl refl w

named-text : (w : NamedWord) (t : Tree) → event_text (emit (named_word_step w t)) ≡ with_tail (word_spelling (LineWord.Named w)) (tail_of (named w t))
named-text w t = each-named (λ w. event_text (emit (named_word_step w t)) ≡ with_tail (word_spelling (LineWord.Named w)) (tail_of (named w t))) refl refl refl refl refl refl refl refl refl refl w

shown-text : (w : ShownWord) (t : Tree) → event_text (emit (shown_step w t)) ≡ with_tail (word_spelling (LineWord.Shown w)) (tail_of (shown w t))
shown-text w t = each-shown (λ w. event_text (emit (shown_step w t)) ≡ with_tail (word_spelling (LineWord.Shown w)) (tail_of (shown w t))) refl refl refl w

lower-text : (ok err : Option Tree) → event_text (emit (Step.ResultLower ok err)) ≡ with_tail (word_spelling LineWord.ResultLower) (lower_tail ok err)
lower-text None None = refl
lower-text (Some t) None = ap (λ z. codes "result_lower ok " ++ z) (append-nil (type_text t))
lower-text (Some t) (Some u) = refl
lower-text None (Some u) = refl

four : (a b c d e : List ℕ) → (((a ++ b) ++ c) ++ d) ++ e ≡ a ++ (b ++ (c ++ (d ++ e)))
four a b c d e = append_assoc ((a ++ b) ++ c) d e ∙ (append_assoc (a ++ b) c (d ++ e) ∙ append_assoc a b (c ++ (d ++ e)))

pub text-parts : (p : Parts) → event_text (event_from p) ≡ with_tail (word_spelling (line_word p)) (tail_of p)
text-parts (plain w) = refl
text-parts (number w n) = number-text w n
text-parts (named w t) = named-text w t
text-parts (shown w t) = shown-text w t
text-parts (wasm m n ps rs) = ap (λ z. codes "call_wasm " ++ z) (four (in_quotes m) (codes " ") (in_quotes n) (codes " ") (signature ps rs))
text-parts (interface m n ps rs) = ap (λ z. codes "call_interface " ++ z) (append_assoc (in_quotes m) (codes " ") (in_quotes n))
text-parts (lower ok err) = lower-text ok err
text-parts (room k t) = refl
text-parts (finished true) = refl
text-parts (finished false) = refl

-- ---- and they can be said where it can

number-can : (types : Types) (w : NumberWord) (n : ℕ) → CanSay types (emit (number_step w n)) ≡ CanSayParts types (number w n)
number-can types NumberWord.GetArg n = refl
number-can types NumberWord.ReturnPointerGet n = refl
number-can types NumberWord.TupleLift n = refl
number-can types NumberWord.TupleLower n = refl
number-can types NumberWord.Return n = refl

named-can : (types : Types) (w : NamedWord) (t : Tree) → CanSay types (emit (named_word_step w t)) ≡ CanSayParts types (named w t)
named-can types NamedWord.I32FromHandle t = refl
named-can types NamedWord.I32FromBitflags t = refl
named-can types NamedWord.I64FromBitflags t = refl
named-can types NamedWord.HandleFromI32 t = refl
named-can types NamedWord.BitflagsFromI32 t = refl
named-can types NamedWord.BitflagsFromI64 t = refl
named-can types NamedWord.Load t = refl
named-can types NamedWord.Store t = refl
named-can types NamedWord.EnumLift t = refl
named-can types NamedWord.EnumLower t = refl

shown-can : (types : Types) (w : ShownWord) (t : Tree) → CanSay types (emit (shown_step w t)) ≡ CanSayParts types (shown w t)
shown-can types ShownWord.ListFromPointerLength t = refl
shown-can types ShownWord.PointerFromI32 t = refl
shown-can types ShownWord.ConstPointerFromI32 t = refl

plain-can : (types : Types) (w : PlainWord) → CanSay types (plain_event w) ≡ ⊤
plain-can types PlainWord.AddrOf = refl
plain-can types PlainWord.I32FromChar = refl
plain-can types PlainWord.I64FromU64 = refl
plain-can types PlainWord.I64FromS64 = refl
plain-can types PlainWord.I32FromU32 = refl
plain-can types PlainWord.I32FromS32 = refl
plain-can types PlainWord.I32FromUsize = refl
plain-can types PlainWord.I32FromU16 = refl
plain-can types PlainWord.I32FromS16 = refl
plain-can types PlainWord.I32FromU8 = refl
plain-can types PlainWord.I32FromS8 = refl
plain-can types PlainWord.I32FromChar8 = refl
plain-can types PlainWord.I32FromPointer = refl
plain-can types PlainWord.I32FromConstPointer = refl
plain-can types PlainWord.F32FromIf32 = refl
plain-can types PlainWord.F64FromIf64 = refl
plain-can types PlainWord.ListPointerLength = refl
plain-can types PlainWord.S8FromI32 = refl
plain-can types PlainWord.U8FromI32 = refl
plain-can types PlainWord.S16FromI32 = refl
plain-can types PlainWord.U16FromI32 = refl
plain-can types PlainWord.S32FromI32 = refl
plain-can types PlainWord.U32FromI32 = refl
plain-can types PlainWord.S64FromI64 = refl
plain-can types PlainWord.U64FromI64 = refl
plain-can types PlainWord.CharFromI32 = refl
plain-can types PlainWord.Char8FromI32 = refl
plain-can types PlainWord.UsizeFromI32 = refl
plain-can types PlainWord.If32FromF32 = refl
plain-can types PlainWord.If64FromF64 = refl
plain-can types PlainWord.VariantPayload = refl
plain-can types PlainWord.ReuseReturn = refl
plain-can types PlainWord.ResultLift = refl
plain-can types PlainWord.PushBlock = refl

pub can-parts : (types : Types) (p : Parts) → CanSay types (event_from p) ≡ CanSayParts types p
can-parts types (plain w) = plain-can types w
can-parts types (number w n) = number-can types w n
can-parts types (named w t) = named-can types w t
can-parts types (shown w t) = shown-can types w t
can-parts types (wasm m n ps rs) = refl
can-parts types (interface m n ps rs) = refl
can-parts types (lower ok err) = refl
can-parts types (room k t) = refl
can-parts types (finished v) = refl

-- ---- each word is found by its text, and has no blank

pub spells : (w : LineWord) → word_spelled the_line_words (word_spelling w) ≡ Some w
unfolding same_text
spells (LineWord.Number NumberWord.GetArg) = refl
spells (LineWord.Plain PlainWord.AddrOf) = refl
spells (LineWord.Plain PlainWord.I32FromChar) = refl
spells (LineWord.Plain PlainWord.I64FromU64) = refl
spells (LineWord.Plain PlainWord.I64FromS64) = refl
spells (LineWord.Plain PlainWord.I32FromU32) = refl
spells (LineWord.Plain PlainWord.I32FromS32) = refl
spells (LineWord.Plain PlainWord.I32FromUsize) = refl
spells (LineWord.Plain PlainWord.I32FromU16) = refl
spells (LineWord.Plain PlainWord.I32FromS16) = refl
spells (LineWord.Plain PlainWord.I32FromU8) = refl
spells (LineWord.Plain PlainWord.I32FromS8) = refl
spells (LineWord.Plain PlainWord.I32FromChar8) = refl
spells (LineWord.Plain PlainWord.I32FromPointer) = refl
spells (LineWord.Plain PlainWord.I32FromConstPointer) = refl
spells (LineWord.Named NamedWord.I32FromHandle) = refl
spells (LineWord.Named NamedWord.I32FromBitflags) = refl
spells (LineWord.Named NamedWord.I64FromBitflags) = refl
spells (LineWord.Plain PlainWord.F32FromIf32) = refl
spells (LineWord.Plain PlainWord.F64FromIf64) = refl
spells (LineWord.Plain PlainWord.ListPointerLength) = refl
spells (LineWord.Shown ShownWord.ListFromPointerLength) = refl
spells LineWord.CallWasm = refl
spells LineWord.CallInterface = refl
spells (LineWord.Plain PlainWord.S8FromI32) = refl
spells (LineWord.Plain PlainWord.U8FromI32) = refl
spells (LineWord.Plain PlainWord.S16FromI32) = refl
spells (LineWord.Plain PlainWord.U16FromI32) = refl
spells (LineWord.Plain PlainWord.S32FromI32) = refl
spells (LineWord.Plain PlainWord.U32FromI32) = refl
spells (LineWord.Plain PlainWord.S64FromI64) = refl
spells (LineWord.Plain PlainWord.U64FromI64) = refl
spells (LineWord.Plain PlainWord.CharFromI32) = refl
spells (LineWord.Plain PlainWord.Char8FromI32) = refl
spells (LineWord.Plain PlainWord.UsizeFromI32) = refl
spells (LineWord.Plain PlainWord.If32FromF32) = refl
spells (LineWord.Plain PlainWord.If64FromF64) = refl
spells (LineWord.Named NamedWord.HandleFromI32) = refl
spells (LineWord.Shown ShownWord.PointerFromI32) = refl
spells (LineWord.Shown ShownWord.ConstPointerFromI32) = refl
spells (LineWord.Named NamedWord.BitflagsFromI32) = refl
spells (LineWord.Named NamedWord.BitflagsFromI64) = refl
spells (LineWord.Number NumberWord.ReturnPointerGet) = refl
spells (LineWord.Named NamedWord.Load) = refl
spells (LineWord.Named NamedWord.Store) = refl
spells (LineWord.Number NumberWord.TupleLift) = refl
spells (LineWord.Number NumberWord.TupleLower) = refl
spells (LineWord.Named NamedWord.EnumLift) = refl
spells (LineWord.Named NamedWord.EnumLower) = refl
spells (LineWord.Plain PlainWord.VariantPayload) = refl
spells (LineWord.Plain PlainWord.ReuseReturn) = refl
spells LineWord.ResultLower = refl
spells (LineWord.Plain PlainWord.ResultLift) = refl
spells (LineWord.Number NumberWord.Return) = refl
spells LineWord.Space = refl
spells (LineWord.Plain PlainWord.PushBlock) = refl
spells LineWord.FinishBlock = refl

pub word-unbroken : (w : LineWord) → no_blank (word_spelling w) ≡ true
word-unbroken (LineWord.Number NumberWord.GetArg) = refl
word-unbroken (LineWord.Plain PlainWord.AddrOf) = refl
word-unbroken (LineWord.Plain PlainWord.I32FromChar) = refl
word-unbroken (LineWord.Plain PlainWord.I64FromU64) = refl
word-unbroken (LineWord.Plain PlainWord.I64FromS64) = refl
word-unbroken (LineWord.Plain PlainWord.I32FromU32) = refl
word-unbroken (LineWord.Plain PlainWord.I32FromS32) = refl
word-unbroken (LineWord.Plain PlainWord.I32FromUsize) = refl
word-unbroken (LineWord.Plain PlainWord.I32FromU16) = refl
word-unbroken (LineWord.Plain PlainWord.I32FromS16) = refl
word-unbroken (LineWord.Plain PlainWord.I32FromU8) = refl
word-unbroken (LineWord.Plain PlainWord.I32FromS8) = refl
word-unbroken (LineWord.Plain PlainWord.I32FromChar8) = refl
word-unbroken (LineWord.Plain PlainWord.I32FromPointer) = refl
word-unbroken (LineWord.Plain PlainWord.I32FromConstPointer) = refl
word-unbroken (LineWord.Named NamedWord.I32FromHandle) = refl
word-unbroken (LineWord.Named NamedWord.I32FromBitflags) = refl
word-unbroken (LineWord.Named NamedWord.I64FromBitflags) = refl
word-unbroken (LineWord.Plain PlainWord.F32FromIf32) = refl
word-unbroken (LineWord.Plain PlainWord.F64FromIf64) = refl
word-unbroken (LineWord.Plain PlainWord.ListPointerLength) = refl
word-unbroken (LineWord.Shown ShownWord.ListFromPointerLength) = refl
word-unbroken LineWord.CallWasm = refl
word-unbroken LineWord.CallInterface = refl
word-unbroken (LineWord.Plain PlainWord.S8FromI32) = refl
word-unbroken (LineWord.Plain PlainWord.U8FromI32) = refl
word-unbroken (LineWord.Plain PlainWord.S16FromI32) = refl
word-unbroken (LineWord.Plain PlainWord.U16FromI32) = refl
word-unbroken (LineWord.Plain PlainWord.S32FromI32) = refl
word-unbroken (LineWord.Plain PlainWord.U32FromI32) = refl
word-unbroken (LineWord.Plain PlainWord.S64FromI64) = refl
word-unbroken (LineWord.Plain PlainWord.U64FromI64) = refl
word-unbroken (LineWord.Plain PlainWord.CharFromI32) = refl
word-unbroken (LineWord.Plain PlainWord.Char8FromI32) = refl
word-unbroken (LineWord.Plain PlainWord.UsizeFromI32) = refl
word-unbroken (LineWord.Plain PlainWord.If32FromF32) = refl
word-unbroken (LineWord.Plain PlainWord.If64FromF64) = refl
word-unbroken (LineWord.Named NamedWord.HandleFromI32) = refl
word-unbroken (LineWord.Shown ShownWord.PointerFromI32) = refl
word-unbroken (LineWord.Shown ShownWord.ConstPointerFromI32) = refl
word-unbroken (LineWord.Named NamedWord.BitflagsFromI32) = refl
word-unbroken (LineWord.Named NamedWord.BitflagsFromI64) = refl
word-unbroken (LineWord.Number NumberWord.ReturnPointerGet) = refl
word-unbroken (LineWord.Named NamedWord.Load) = refl
word-unbroken (LineWord.Named NamedWord.Store) = refl
word-unbroken (LineWord.Number NumberWord.TupleLift) = refl
word-unbroken (LineWord.Number NumberWord.TupleLower) = refl
word-unbroken (LineWord.Named NamedWord.EnumLift) = refl
word-unbroken (LineWord.Named NamedWord.EnumLower) = refl
word-unbroken (LineWord.Plain PlainWord.VariantPayload) = refl
word-unbroken (LineWord.Plain PlainWord.ReuseReturn) = refl
word-unbroken LineWord.ResultLower = refl
word-unbroken (LineWord.Plain PlainWord.ResultLift) = refl
word-unbroken (LineWord.Number NumberWord.Return) = refl
word-unbroken LineWord.Space = refl
word-unbroken (LineWord.Plain PlainWord.PushBlock) = refl
word-unbroken LineWord.FinishBlock = refl
