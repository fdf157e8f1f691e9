-- What comes back where the listing of an adapted document is read against it: its own traces. A line shows a type by its
-- text, so each type of an event comes back as the type that this text stands for.
use Rattle.std.specs.Prelude.{◌≡◌, ℕ, ⊤, List, [], ◌∷◌, length, map, true, Option, Some, None, option_map}
use Rattle.std.specs.List.{AllByRecursion}
use Rattle.std.specs.Str.{IsUtf8}
use Rattle.witx_ast.specs.Tree.{Tree}
use Rattle.witx_ast.specs.TypeNames.{type_text}
use Rattle.witx_ast.specs.Items.{ItemTree, import_of, func_of}
use Rattle.witx_ast.specs.Definitions.{DefinitionTree, typename_of, module_of, constant_of}
use Rattle.witx_ast.specs.Closed.{IsClosed}
use Rattle.witx_machine.specs.Events.{Event}
use Rattle.witx_machine.specs.Functions.{function_of}
use Rattle.witx_machine.specs.Signature.{signature_params}
use Rattle.witx_adapt.specs.Adaptable.{IsAdaptable}
use Rattle.witx_adapt.specs.Entries.{all_functions, entry_for, entry_of}
use Rattle.witx_adapt.specs.Listings.{listing_text}
use Rattle.witx_adapt.specs.declared.adapted.Adapted.{Adapted}
use Rattle.witx_traces.specs.Traces.{GivesTraces, IsPayload, IsShown, IsTypename, IsWord, Offered, Sides, Types, listed, one_line, own_sides, shown, shown_payload, known_of}
use Rattle.witx_traces.specs.LineParts.{Parts, plain, number, named, shown as shown_part, wasm, interface, lower, room, finished, event_from, no_blank, parts}

-- ---- an event as its line says it

-- what a type's text stands for; the type itself where that is nothing
abbrev pub or_itself : Tree → Option Tree → Tree
or_itself t None = t
or_itself t (Some u) = u

abbrev pub read_as : (List ℕ → Option Tree) → Tree → Tree
read_as look t = or_itself t (look (type_text t))

abbrev pub parts_read : Types → Parts → Parts
parts_read types (named w t) = named w (read_as types.typename t)
parts_read types (shown_part w t) = shown_part w (read_as (shown types) t)
parts_read types (room k t) = room k (read_as types.typename t)
parts_read types (lower ok err) = lower (option_map (read_as (shown_payload types)) ok) (option_map (read_as (shown_payload types)) err)
parts_read types (plain w) = plain w
parts_read types (number w n) = number w n
parts_read types (wasm m n ps rs) = wasm m n ps rs
parts_read types (interface m n ps rs) = interface m n ps rs
parts_read types (finished v) = finished v

abbrev pub event_read : Types → Event → Event
event_read types e = event_from (parts_read types (parts e))

abbrev pub sides_read : List DefinitionTree → Offered → Sides
sides_read ds f = record {
  caller = map (event_read (known_of ds f.function)) f.lowered.caller;
  callee = map (event_read (known_of ds f.function)) f.lowered.callee;
}

-- each type of an event is what its text stands for
abbrev pub StandsForItself : Types → Parts → Type 0
StandsForItself types (named w t) = IsTypename types t
StandsForItself types (shown_part w t) = IsShown types t
StandsForItself types (room k t) = IsTypename types t
StandsForItself types (lower ok err) = IsPayload types ok × IsPayload types err
StandsForItself types _ = ⊤

abbrev pub EventsStand : Types → List Event → Type 0
EventsStand types es = AllByRecursion (λ e. StandsForItself types (parts e)) es

abbrev pub SidesStand : List DefinitionTree → Offered → Type 0
SidesStand ds f = EventsStand (known_of ds f.function) f.lowered.caller × EventsStand (known_of ds f.function) f.lowered.callee

-- ---- names

-- as each name of the language: neither a line feed nor a blank stands in a typename's name
abbrev pub IsUnbroken : List ℕ → Type 0
IsUnbroken name = (one_line name ≡ true) × (no_blank name ≡ true)

-- as each text and each list of the program: names are UTF-8, and a function's words are counted by a number below 2^64
abbrev pub ItemsAreHeld : List ItemTree → Type 0
ItemsAreHeld [] = Unit {0}
ItemsAreHeld (import_of i ∷ items) = ItemsAreHeld items
ItemsAreHeld (func_of f ∷ items) = IsUtf8 f.name × IsWord (length (signature_params (function_of f))) × ItemsAreHeld items

abbrev pub NamesAreUnbroken : List DefinitionTree → Type 0
NamesAreUnbroken [] = Unit {0}
NamesAreUnbroken (typename_of name t docs ∷ ds) = IsUnbroken name × NamesAreUnbroken ds
NamesAreUnbroken (module_of m ∷ ds) = NamesAreUnbroken ds
NamesAreUnbroken (constant_of c ∷ ds) = NamesAreUnbroken ds

abbrev pub AreTypesHeld : List DefinitionTree → Type 0
AreTypesHeld [] = Unit {0}
AreTypesHeld (typename_of name t docs ∷ ds) = AreTypesHeld ds
AreTypesHeld (module_of m ∷ ds) = IsUtf8 m.name × ItemsAreHeld m.items × AreTypesHeld ds
AreTypesHeld (constant_of c ∷ ds) = AreTypesHeld ds

-- ---- the law

-- each function has its own signature and its own events
abbrev pub HasOwnEntries : Adapted → Type 0
HasOwnEntries a = map entry_of a.functions ≡ map entry_for (all_functions (listed a).definitions)

-- what is asked of an adapted document
pub record IsReadable (a : Adapted) : Type 0 where
  pub closed : IsClosed (listed a).definitions
  pub adaptable : IsAdaptable (listed a).definitions
  pub entries : HasOwnEntries a
  pub unbroken : NamesAreUnbroken (listed a).definitions
  pub held : AreTypesHeld (listed a).definitions

-- its listing gives its own traces, each type as what its text stands for
abbrev pub OwnListingsAreReadBack : Type 0
OwnListingsAreReadBack =
    (a : Adapted) → IsReadable a → GivesTraces (listed a) (listing_text a) (map (sides_read (listed a).definitions) (listed a).functions)

-- and the very traces, where each type is what its text stands for
abbrev pub OwnTracesAreReadBack : Type 0
OwnTracesAreReadBack =
    (a : Adapted) → IsReadable a → AllByRecursion (SidesStand (listed a).definitions) (listed a).functions
    → GivesTraces (listed a) (listing_text a) (map own_sides a.functions)
