-- The call that `invoke` makes: of the first function that has the two names, with the values that the lines of a text give. And
-- why there is none, in this order: no function has the names, a line is at fault, the reply is an error that can't come back, or
-- there is no room.
use Rattle.std.specs.Prelude.{◌≡◌, ◌⊎◌, ℕ, List, ◌++◌, Bool, ◌&&◌, map, Option, Some, None, IsTrue, IsFalse, codes}
use Rattle.std.specs.Fmt.{decimal}
use Rattle.std.specs.List.{find}
use Rattle.witx_base.specs.Texts.{same_text}
use Rattle.witx_ast.specs.Definitions.{DefinitionTree}
use Rattle.witx_ast.specs.Values.{Value}
use Rattle.witx_machine.specs.Faithful.{zero_error}
use Rattle.witx_machine.specs.Functions.{Function, function_of}
use Rattle.witx_adapt.specs.Entries.{Entry, all_functions, entry_for}
use Rattle.witx_call.specs.Lines.{FirstFault, Gives, line_types}
use Rattle.witx_call.specs.CallSeen.{CallSeen}
use Rattle.witx_invoke.specs.Runs.{ComesTo, NoRoom}
use Rattle.witx_commands.specs.Words.{FunctionNames}
use Rattle.witx_tools.specs.InvokeTexts.{call_text}

-- ---- the function

abbrev pub has_function_names : FunctionNames → Entry → Bool
has_function_names n e = same_text e.owned.owner.name n.owner && same_text e.owned.func.name n.function

-- the first that has them
abbrev pub first_named : FunctionNames → List Entry → Option Entry
first_named n es = find (has_function_names n) es

-- the entries of a document
abbrev pub entries_of : List DefinitionTree → List Entry
entries_of ds = map entry_for (all_functions ds)

-- ---- the call

abbrev pub called_function : Entry → Function
called_function e = function_of e.owned.func

-- the values of a call
pub record HandedValues : Type 0 where
  pub arguments : List Value
  pub reply : Option Value

-- the lines of a text are these values of the function
abbrev pub GivesValues : Entry → List ℕ → HandedValues → Type 0
GivesValues e values h = Gives (called_function e) values h.arguments h.reply

-- the reply is an error whose one word is 0, and can't come back
abbrev pub is_lost : Entry → HandedValues → Bool
is_lost e h = zero_error (called_function e) h.reply

abbrev pub LacksRoom : Entry → HandedValues → Type 0
LacksRoom e h = NoRoom e.owned.owner.name (called_function e) e.lowered.caller e.lowered.callee h.arguments h.reply

-- THE CALL CAN BE MADE: the lines give values whose reply can come back, and there is room
pub record CanCall (e : Entry) (values : List ℕ) : Type 0 where
  pub handed : HandedValues
  pub given : GivesValues e values handed
  pub kept : IsFalse (is_lost e handed)
  pub room : ¬ (LacksRoom e handed)

abbrev pub CallComesTo : Entry → HandedValues → CallSeen → Type 0
CallComesTo e h seen = ComesTo e.owned.owner.name (called_function e)
    e.lowered.caller e.lowered.callee h.arguments h.reply seen

-- the call with these values can be made, and this is the text of what it comes to
pub record IsHandedText (e : Entry) (h : HandedValues) (text : List ℕ) : Type 0 where
  pub kept : IsFalse (is_lost e h)
  pub room : ¬ (LacksRoom e h)
  pub seen : CallSeen
  pub comes_to : CallComesTo e h seen
  pub told : text ≡ call_text seen

-- with the values that the lines give
pub record IsCallText (e : Entry) (values text : List ℕ) : Type 0 where
  pub handed : HandedValues
  pub given : GivesValues e values handed
  pub answered : IsHandedText e handed text

-- THE TEXT OF THE CALL of the function with the names
pub record IsNamedText (n : FunctionNames) (es : List Entry) (values text : List ℕ) : Type 0 where
  pub entry : Entry
  pub named : first_named n es ≡ Some entry
  pub called : IsCallText entry values text

-- ---- why there is none

abbrev pub absent_report : FunctionNames → List ℕ
absent_report n = codes "no function `" ++ (n.function ++ (codes "` in module `" ++ (n.owner ++ codes "`")))

abbrev pub line_report : ℕ → List ℕ
line_report line = codes "values: unexpected line " ++ decimal line

-- a line is at fault, and this is the report of the first
unfoldable pub LineFails : Entry → List ℕ → List ℕ → Type 0
LineFails e values report =
    (line : ℕ) × FirstFault 1 (line_types (called_function e)) values line × (report ≡ line_report line)

-- the reply can't come back; or it can, and there is no room
unfoldable pub HandedFails : Entry → HandedValues → List ℕ → Type 0
HandedFails e h report =
    (IsTrue (is_lost e h) × (report ≡ codes "error word is 0"))
    ⊎ (IsFalse (is_lost e h) × LacksRoom e h × (report ≡ codes "out of room"))

-- so it is with the values that the lines give
unfoldable pub CallFails : Entry → List ℕ → List ℕ → Type 0
CallFails e values report = LineFails e values report ⊎ ((h : HandedValues) × GivesValues e values h × HandedFails e h report)

-- THE REPORT of the function that was found, or of none
unfoldable pub NamedFails : FunctionNames → Option Entry → List ℕ → List ℕ → Type 0
NamedFails n None values report = report ≡ absent_report n
NamedFails n (Some e) values report = CallFails e values report
