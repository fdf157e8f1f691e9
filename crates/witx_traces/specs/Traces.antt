-- The traces that a text gives for an adapted document, and the first line of a text that can't stand.
-- The text has the lines of the listing, with any number of event lines in place of those of each function's caller and
-- callee. A line shows a type by its text, so it is fixed here which type each text stands for.
use Rattle.std.specs.Prelude.{◌≡◌, ℕ, ◌+◌, ◌<◌, ◌≤◌, ◌^◌, List, [], ◌∷◌, ◌++◌, length, map, ◌==◌, Bool, true, false, if◌then◌else◌, Option, Some, None, ⊤, codes}
use Rattle.std.specs.List.{AllByRecursion, flat_map}
use Rattle.std.specs.Option.{option_or, option_to_list, option_and_then}
use Rattle.std.specs.Str.{IsUtf8}
use Rattle.witx_base.specs.Texts.{same_text}
use Rattle.witx_ast.specs.Tree.{Tree}
use Rattle.witx_ast.specs.TypeNames.{type_text}
use Rattle.witx_ast.specs.Definitions.{DefinitionTree, definition_tree, typename_called, typename_of, module_of, constant_of}
use Rattle.witx_machine.specs.Events.{Step, Event, emit, space, push, finish}
use Rattle.witx_machine.specs.Functions.{Function, result_cases, ok_of, err_of}
use Rattle.witx_instructions.specs.Views.{called}
use Rattle.witx_adapt.specs.declared.adapted.Adapted.{Adapted}
use Rattle.witx_adapt.specs.declared.adapted.AdaptedFunc.{AdaptedFunc}
use Rattle.witx_adapt.specs.Entries.{Lowered, lowered}
use Rattle.witx_layout.specs.declared.layout.SizeAlign.{SizeAlign}
use Rattle.witx_adapt.specs.Lines.{event_text}
use Rattle.witx_adapt.specs.Listings.{listed_definition_lines, func_count, listing_text}

-- ---- which type a text stands for

-- the first of these types with this text
abbrev pub first_shown : List Tree → List ℕ → Option Tree
first_shown [] text = None
first_shown (t ∷ ts) text = if same_text (type_text t) text then Some t else first_shown ts text

-- what a list or a pointer is of, names looked through
abbrev pub target : Tree → List Tree
target (Tree.named name t docs) = target t
target (Tree.list_of t) = t ∷ []
target (Tree.pointer_to t) = t ∷ []
target (Tree.const_pointer_to t) = t ∷ []
target _ = []

-- what the ok case of a result carries, and what its error carries
abbrev pub ok_types : Tree → List Tree
ok_types t = option_to_list (option_and_then ok_of (result_cases t))

abbrev pub err_types : Tree → List Tree
err_types t = option_to_list (option_and_then err_of (result_cases t))

-- the result's ok type and its err type
abbrev pub payload_types : Function → List Tree
payload_types f = flat_map (λ t. ok_types t ++ err_types t) f.results

-- the types that lists and pointers are of, among the parameters, the result and its err type; and the result's ok and err types
abbrev pub held_types : Function → List Tree
held_types f = flat_map target f.params ++ flat_map target f.results ++ flat_map target (flat_map err_types f.results) ++ payload_types f

-- what texts stand for in the lines of a function: the typename, or else the first of the types that the function holds;
-- and its result's payloads, which come first in the line that lowers the result
pub record Types : Type 0 where
  pub typename : List ℕ → Option Tree
  pub held : List ℕ → Option Tree
  pub payload : List ℕ → Option Tree
  pub params : List Tree
  pub results : List Tree

abbrev pub known_of : List DefinitionTree → Function → Types
known_of ds f = record {
  typename = typename_called ds;
  held = first_shown (held_types f);
  payload = first_shown (payload_types f);
  params = f.params;
  results = f.results;
}

abbrev pub shown : Types → List ℕ → Option Tree
shown types text = option_or (types.typename text) (types.held text)

abbrev pub shown_payload : Types → List ℕ → Option Tree
shown_payload types text = option_or (types.payload text) (shown types text)

-- a type is what its text stands for
abbrev pub IsTypename : Types → Tree → Type 0
IsTypename types t = types.typename (type_text t) ≡ Some t

abbrev pub IsShown : Types → Tree → Type 0
IsShown types t = shown types (type_text t) ≡ Some t

abbrev pub IsPayload : Types → Option Tree → Type 0
IsPayload types None = ⊤
IsPayload types (Some t) = shown_payload types (type_text t) ≡ Some t

-- the ok type ends before the first ` err `
abbrev pub EndsBeforeError : Option Tree → Type 0
EndsBeforeError None = ⊤
EndsBeforeError (Some t) = (xs ys : List ℕ) → type_text t ++ codes " err " ≡ xs ++ (codes " err " ++ ys) → length (type_text t) ≤ length xs

abbrev pub IsWord : ℕ → Type 0
IsWord n = n < 2 ^ 64

-- ---- the events that lines can say

abbrev pub CanSayStep : Types → Step → Type 0
CanSayStep types (Step.GetArg n) = IsWord n
CanSayStep types (Step.I32FromHandle t) = IsTypename types t
CanSayStep types (Step.I32FromBitflags t) = IsTypename types t
CanSayStep types (Step.I64FromBitflags t) = IsTypename types t
CanSayStep types (Step.ListFromPointerLength t) = IsShown types t
CanSayStep types (Step.CallWasm m n ps rs) = IsUtf8 m × IsUtf8 n
CanSayStep types (Step.CallInterface m n ps rs) = IsUtf8 m × IsUtf8 n × (ps ≡ types.params) × (rs ≡ types.results)
CanSayStep types (Step.HandleFromI32 t) = IsTypename types t
CanSayStep types (Step.PointerFromI32 t) = IsShown types t
CanSayStep types (Step.ConstPointerFromI32 t) = IsShown types t
CanSayStep types (Step.BitflagsFromI32 t) = IsTypename types t
CanSayStep types (Step.BitflagsFromI64 t) = IsTypename types t
CanSayStep types (Step.ReturnPointerGet n) = IsWord n
CanSayStep types (Step.Load t) = IsTypename types t
CanSayStep types (Step.Store t) = IsTypename types t
CanSayStep types (Step.TupleLift n) = IsWord n
CanSayStep types (Step.TupleLower n) = IsWord n
CanSayStep types (Step.EnumLift t) = IsTypename types t
CanSayStep types (Step.EnumLower t) = IsTypename types t
CanSayStep types (Step.ResultLower ok err) = IsPayload types ok × IsPayload types err × EndsBeforeError ok
CanSayStep types (Step.Return n) = IsWord n
CanSayStep types _ = ⊤

abbrev pub CanSay : Types → Event → Type 0
CanSay types (emit x) = CanSayStep types x
CanSay types (space k t) = IsWord k × IsTypename types t
CanSay types push = ⊤
CanSay types (finish v) = ⊤

-- the text of a line says this event
abbrev pub Says : Types → List ℕ → Event → Type 0
Says types text e = (event_text e ≡ text) × CanSay types e

-- ---- the traces that a text gives

-- the events of a function's caller and callee
pub record Sides : Type 0 where
  pub caller : List Event
  pub callee : List Event

-- no line feed stands in the text
abbrev pub one_line : List ℕ → Bool
one_line [] = true
one_line (b ∷ bs) = if b == 10 then false else one_line bs

-- events that lines can say, each in one line
abbrev pub IsSayable : Types → Event → Type 0
IsSayable types e = CanSay types e × (one_line (event_text e) ≡ true)

abbrev pub AreSayable : Types → Sides → Type 0
AreSayable types s = AllByRecursion (IsSayable types) s.caller × AllByRecursion (IsSayable types) s.callee

-- a function with what lowering makes of it
pub record Offered : Type 0 where
  pub function : Function
  pub lowered : Lowered

-- what a listing shows: definitions, their functions and their layouts, in order
pub record Listed : Type 0 where
  pub definitions : List DefinitionTree
  pub functions : List Offered
  pub layouts : List SizeAlign

abbrev pub offered : AdaptedFunc → Offered
offered f = record { function = called f.func.value; lowered = lowered f }

abbrev pub listed : Adapted → Listed
listed a = record { definitions = map definition_tree a.document.definitions; functions = map offered a.functions; layouts = a.layouts }

-- the sides belong to the functions, one by one
abbrev pub FitFunctions : List DefinitionTree → List Offered → List Sides → Type 0
FitFunctions ds [] [] = ⊤
FitFunctions ds [] (s ∷ ss) = ⊥
FitFunctions ds (f ∷ fs) [] = ⊥
FitFunctions ds (f ∷ fs) (s ∷ ss) = AreSayable (known_of ds f.function) s × FitFunctions ds fs ss

-- the functions with other events
abbrev pub with_sides : List Offered → List Sides → List Lowered
with_sides (f ∷ fs) (s ∷ ss) = record { params = f.lowered.params; results = f.lowered.results; caller = s.caller; callee = s.callee } ∷ with_sides fs ss
with_sides _ _ = []

-- the text of the listing with other events
abbrev pub listing_with : Listed → List Sides → List ℕ
listing_with l sides = listed_definition_lines l.definitions (with_sides l.functions sides) l.layouts

abbrev pub GivesTraces : Listed → List ℕ → List Sides → Type 0
GivesTraces l text sides = (text ≡ listing_with l sides) × FitFunctions l.definitions l.functions sides

-- ---- the first line that can't stand

-- something can follow, so that the whole gives traces
abbrev pub CanBegin : Listed → List ℕ → Type 0
CanBegin l front = (more : List ℕ) × (sides : List Sides) × GivesTraces l (front ++ more) sides

-- a line with its line feed
abbrev pub ended : List ℕ → List ℕ
ended line = line ++ (10 ∷ [])

-- the lines before it can begin such a text, and with it they can't; or there is none, and something is missing
pub record IsUnfit (l : Listed) (text : List ℕ) (number : ℕ) : Type 0 where
  pub before : List (List ℕ)
  pub rest : List ℕ
  pub lines : AllByRecursion (λ line. one_line line ≡ true) before
  pub whole : text ≡ flat_map ended before ++ rest
  pub counted : number ≡ length before + 1
  pub begins : CanBegin l (flat_map ended before)
  pub stops : (line more : List ℕ) → one_line line ≡ true → rest ≡ ended line ++ more → CanBegin l (flat_map ended before ++ ended line) → ⊥
  pub missing : rest ≡ [] → (sides : List Sides) → GivesTraces l text sides → ⊥

-- ---- what holds of them

-- the events that the document was adapted with
abbrev pub own_sides : AdaptedFunc → Sides
own_sides f = record { caller = (lowered f).caller; callee = (lowered f).callee }

-- with them the text is the listing itself
abbrev pub ListingShowsOwn : Type 0
ListingShowsOwn = (a : Adapted) → listing_text a ≡ listing_with (listed a) (map own_sides a.functions)

-- a line says at most one event, whatever names the types have
abbrev pub LinesSayOneEvent : Type 0
LinesSayOneEvent = (types : Types) (text : List ℕ) (one other : Event) → Says types text one → Says types text other → one ≡ other

-- one entry for each function of the modules
abbrev pub function_number : List DefinitionTree → ℕ
function_number [] = 0
function_number (typename_of name t docs ∷ ds) = function_number ds
function_number (module_of m ∷ ds) = func_count m.items + function_number ds
function_number (constant_of c ∷ ds) = function_number ds

abbrev pub HasEachEntry : Listed → Type 0
HasEachEntry l = length l.functions ≡ function_number l.definitions

-- a text gives at most one list of traces
abbrev pub TextsGiveOneTrace : Type 0
TextsGiveOneTrace =
    (l : Listed) (text : List ℕ) (one other : List Sides) → HasEachEntry l → GivesTraces l text one → GivesTraces l text other → one ≡ other

-- a text with traces has no unfit line
abbrev pub TracesLeaveNoneUnfit : Type 0
TracesLeaveNoneUnfit = (l : Listed) (text : List ℕ) (number : ℕ) (sides : List Sides) → GivesTraces l text sides → IsUnfit l text number → ⊥

-- a text has at most one
abbrev pub OneLineIsUnfit : Type 0
OneLineIsUnfit = (l : Listed) (text : List ℕ) (one other : ℕ) → IsUnfit l text one → IsUnfit l text other → one ≡ other
