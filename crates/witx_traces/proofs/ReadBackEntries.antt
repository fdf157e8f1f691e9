-- A document's own listing is read back.
use Rattle.std.proofs.Common.{◌≡◌, ℕ, List, [], ◌∷◌, map, refl, ap, ◌∙◌, subst, Option, Some, None, option_map}
use Rattle.std.specs.List.{AllByRecursion}
use Rattle.witx_ast.specs.Tree.{Tree}
use Rattle.witx_ast.specs.TypeNames.{type_text}
use Rattle.witx_ast.specs.Definitions.{DefinitionTree}
use Rattle.witx_machine.specs.Events.{Event}
use Rattle.witx_machine.specs.Functions.{function_of}
use Rattle.witx_instructions.specs.Views.{called}
use Rattle.witx_adapt.specs.Adaptable.{first_unlowered, unlowered}
use Rattle.witx_adapt.specs.Entries.{Entry, Owned, all_functions, entry_for, entry_of, lowered}
use Rattle.witx_adapt.specs.Listings.{listed_definition_lines, listing_text}
use Rattle.witx_adapt.specs.declared.adapted.Adapted.{Adapted}
use Rattle.witx_adapt.specs.declared.adapted.AdaptedFunc.{AdaptedFunc}
use Rattle.witx_adapt.proofs.Fitting.{called-same, lowered-none, none-here, none-later}
use Rattle.witx_traces.specs.Traces.{GivesTraces, IsPayload, Sides, Types, listed, offered, own_sides, shown as shown_in, shown_payload, known_of}
use Rattle.witx_traces.specs.LineParts.{Parts, plain, number, named, shown, wasm, interface, lower, room, finished, event_from, parts}
use Rattle.witx_traces.specs.ReadBack.{EventsStand, IsReadable, OwnListingsAreReadBack, OwnTracesAreReadBack, SidesStand, StandsForItself, event_read, or_itself, parts_read, read_as, sides_read}
use Rattle.witx_traces.proofs.LineWords.{from-parts}
use Rattle.witx_traces.proofs.ReadBackParts.{Tells}
use Rattle.witx_traces.proofs.ReadBackEvents.{callee-tells, caller-tells}
use Rattle.witx_traces.proofs.ReadBackDocs.{Document, behind-after, none-behind}
use Rattle.witx_traces.proofs.ReadBackSides.{AllIn, OwnedIn, all-in, owned-tells}
use Rattle.witx_traces.proofs.ReadBackListing.{AllTell, OfferedTells, fit-read, listing-read}

-- ---- the entries of an adapted document

EntryTells : List DefinitionTree → Entry → Type 0
EntryTells ds e = Tells (known_of ds (function_of e.owned.func)) e.lowered.caller × Tells (known_of ds (function_of e.owned.func)) e.lowered.callee

entry-tells : (ds : List DefinitionTree) → Document ds → (p : Owned) → OwnedIn ds p → unlowered p ≡ None → EntryTells ds (entry_for p)
unfolding EntryTells
entry-tells ds doc p h u =
    let f = function_of p.func in
    let s = owned-tells ds doc p h (lowered-none p u) in
    (caller-tells (known_of ds f) p.owner.name f s, callee-tells (known_of ds f) p.owner.name f s)

as-offered : (ds : List DefinitionTree) (f : AdaptedFunc) → EntryTells ds (entry_of f) → OfferedTells ds (offered f)
unfolding EntryTells
as-offered ds f h = record {
  caller = subst (λ g. Tells (known_of ds g) (lowered f).caller) (called-same f.func.value) h.0;
  callee = subst (λ g. Tells (known_of ds g) (lowered f).callee) (called-same f.func.value) h.1;
}

entries-tell : (ds : List DefinitionTree) → Document ds → (fs : List AdaptedFunc) (ps : List Owned) → map entry_of fs ≡ map entry_for ps → AllIn ds ps → first_unlowered ps ≡ None → AllTell ds (map offered fs)
entries-tell ds doc [] ps e h u = tt
entries-tell ds doc (f ∷ fs) [] e h u = absurd (cc)
entries-tell ds doc (f ∷ fs) (p ∷ ps) e h u =
    let same : entry_for p ≡ entry_of f = cc in
    let rest : map entry_of fs ≡ map entry_for ps = cc in (
      as-offered ds f (subst (EntryTells ds) same (entry-tells ds doc p h.0 (none-here (unlowered p) (first_unlowered ps) u))),
      entries-tell ds doc fs ps rest h.1 (none-later (unlowered p) (first_unlowered ps) u),
    )

own-lowered : (fs : List AdaptedFunc) → map lowered fs ≡ map (λ f. f.lowered) (map offered fs)
own-lowered [] = refl
own-lowered (f ∷ fs) = ap (λ z. lowered f ∷ z) (own-lowered fs)

-- ---- the listing

all-tell : (a : Adapted) → IsReadable a → AllTell (listed a).definitions (listed a).functions
all-tell a h =
    let ds = (listed a).definitions in
    entries-tell ds (record { behind-stand = behind-after [] ds ds none-behind h.closed refl; unbroken = h.unbroken }) a.functions (all_functions ds) h.entries (all-in ds h.closed h.held) h.adaptable.lowerable

pub own-read-back : OwnListingsAreReadBack
unfolding listing_text
own-read-back a h =
    let l = listed a in
    let tell = all-tell a h in
    (ap (λ z. listed_definition_lines l.definitions z l.layouts) (own-lowered a.functions) ∙ listing-read l.definitions l.functions l.layouts tell, fit-read l.definitions l.functions tell)

-- ---- where each type is what its text stands for

type-itself : (look : List ℕ → Option Tree) (t : Tree) → look (type_text t) ≡ Some t → read_as look t ≡ t
type-itself look t h = ap (or_itself t) h

payload-itself : (types : Types) (o : Option Tree) → IsPayload types o → option_map (read_as (shown_payload types)) o ≡ o
payload-itself types None h = refl
payload-itself types (Some t) h = ap Some (type-itself (shown_payload types) t h)

parts-itself : (types : Types) (p : Parts) → StandsForItself types p → parts_read types p ≡ p
parts-itself types (plain w) h = refl
parts-itself types (number w n) h = refl
parts-itself types (named w t) h = ap (named w) (type-itself types.typename t h)
parts-itself types (shown w t) h = ap (shown w) (type-itself (shown_in types) t h)
parts-itself types (wasm m n ps rs) h = refl
parts-itself types (interface m n ps rs) h = refl
parts-itself types (lower ok err) h = ap (λ z. lower z (option_map (read_as (shown_payload types)) err)) (payload-itself types ok h.0) ∙ ap (lower ok) (payload-itself types err h.1)
parts-itself types (room k t) h = ap (room k) (type-itself types.typename t h)
parts-itself types (finished v) h = refl

events-itself : (types : Types) (es : List Event) → EventsStand types es → map (event_read types) es ≡ es
events-itself types [] h = refl
events-itself types (e ∷ es) h =
    ap (λ z. z ∷ map (event_read types) es) (ap event_from (parts-itself types (parts e) h.0) ∙ from-parts e) ∙ ap (λ z. e ∷ z) (events-itself types es h.1)

abbrev both-sides : List Event → List Event → Sides
both-sides caller callee = record { caller = caller; callee = callee }

sides-same : (s t : Sides) → s.caller ≡ t.caller → s.callee ≡ t.callee → s ≡ t
sides-same s t e f = ap (λ z. both-sides z s.callee) e ∙ ap (both-sides t.caller) f

read-itself : (ds : List DefinitionTree) (fs : List AdaptedFunc) → AllByRecursion (SidesStand ds) (map offered fs) → map (sides_read ds) (map offered fs) ≡ map own_sides fs
read-itself ds [] h = refl
read-itself ds (f ∷ fs) h =
    let types = known_of ds (called f.func.value) in
    ap (λ z. z ∷ map (sides_read ds) (map offered fs)) (sides-same (sides_read ds (offered f)) (own_sides f) (events-itself types (lowered f).caller h.0.0) (events-itself types (lowered f).callee h.0.1))
    ∙ ap (λ z. own_sides f ∷ z) (read-itself ds fs h.1)

pub own-traces-back : OwnTracesAreReadBack
own-traces-back a h r = subst (GivesTraces (listed a) (listing_text a)) (read-itself (listed a).definitions a.functions r) (own-read-back a h)
