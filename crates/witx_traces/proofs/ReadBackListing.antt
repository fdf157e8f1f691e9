-- The listing of an adapted document has the lines of what it is read back as.
use Rattle.std.proofs.Common.{◌≡◌, ℕ, zero, suc, List, [], ◌∷◌, ◌++◌, map, refl, sym, ap, ◌∙◌}
use Rattle.std.specs.Prelude.{⊤, codes, drop}
use Rattle.std.specs.List.{AllByRecursion}
use Rattle.witx_ast.specs.declared.function.Abi.{Abi}
use Rattle.witx_ast.specs.Items.{ItemTree, import_of, func_of}
use Rattle.witx_ast.specs.Definitions.{DefinitionTree, typename_of, module_of, constant_of}
use Rattle.witx_machine.specs.Functions.{Function}
use Rattle.witx_layout.specs.declared.layout.SizeAlign.{SizeAlign}
use Rattle.witx_adapt.specs.Entries.{Lowered}
use Rattle.witx_adapt.specs.Lines.{event_lines}
use Rattle.witx_adapt.specs.Listings.{constant_line, listed_definition_lines, func_count, listed_func_line, func_lines, import_line, item_lines, module_line, next_func_lines, listed_typename_lines}
use Rattle.witx_traces.specs.Traces.{FitFunctions, Offered, held_types, payload_types, known_of, with_sides}
use Rattle.witx_traces.specs.ReadBack.{sides_read}
use Rattle.witx_traces.proofs.TypeReading.{AreNamed, first-named, typename-named}
use Rattle.witx_traces.proofs.ReadBackParts.{Tells, lines-read, texts-read}

-- ---- functions with the same lines

record SameLines (f g : Lowered) : Type 0 where
  params : f.params ≡ g.params
  results : f.results ≡ g.results
  caller : event_lines f.caller ≡ event_lines g.caller
  callee : event_lines f.callee ≡ event_lines g.callee

AllSame : List Lowered → List Lowered → Type 0
AllSame [] [] = ⊤
AllSame [] (g ∷ gs) = ⊥
AllSame (f ∷ fs) [] = ⊥
AllSame (f ∷ fs) (g ∷ gs) = SameLines f g × AllSame fs gs

func-same : (name : List ℕ) (abi : Abi) (f g : Lowered) → SameLines f g → func_lines name abi f ≡ func_lines name abi g
func-same name abi f g s =
    ap (λ z. listed_func_line name abi z f.results ++ (codes "caller\n" ++ event_lines f.caller) ++ (codes "callee\n" ++ event_lines f.callee)) s.params
    ∙ (ap (λ z. listed_func_line name abi g.params z ++ (codes "caller\n" ++ event_lines f.caller) ++ (codes "callee\n" ++ event_lines f.callee)) s.results
    ∙ (ap (λ z. listed_func_line name abi g.params g.results ++ (codes "caller\n" ++ z) ++ (codes "callee\n" ++ event_lines f.callee)) s.caller
    ∙ ap (λ z. listed_func_line name abi g.params g.results ++ (codes "caller\n" ++ event_lines g.caller) ++ (codes "callee\n" ++ z)) s.callee))

next-same : (name : List ℕ) (abi : Abi) (fs gs : List Lowered) → AllSame fs gs → next_func_lines name abi fs ≡ next_func_lines name abi gs
unfolding AllSame
next-same name abi [] [] s = refl
next-same name abi [] (g ∷ gs) s = absurd s
next-same name abi (f ∷ fs) [] s = absurd s
next-same name abi (f ∷ fs) (g ∷ gs) s = func-same name abi f g s.0

drop-same : (n : ℕ) (fs gs : List Lowered) → AllSame fs gs → AllSame (drop n fs) (drop n gs)
unfolding AllSame
drop-same zero fs gs s = s
drop-same (suc n) [] [] s = tt
drop-same (suc n) [] (g ∷ gs) s = absurd s
drop-same (suc n) (f ∷ fs) [] s = absurd s
drop-same (suc n) (f ∷ fs) (g ∷ gs) s = drop-same n fs gs s.1

items-same : (items : List ItemTree) (fs gs : List Lowered) → AllSame fs gs → item_lines items fs ≡ item_lines items gs
items-same [] fs gs s = refl
items-same (import_of i ∷ items) fs gs s = ap (λ z. import_line i.name ++ z) (items-same items fs gs s)
items-same (func_of f ∷ items) fs gs s =
    ap (λ z. z ++ item_lines items (drop 1 fs)) (next-same f.name f.abi fs gs s) ∙ ap (λ z. next_func_lines f.name f.abi gs ++ z) (items-same items (drop 1 fs) (drop 1 gs) (drop-same 1 fs gs s))

lines-same : (ds : List DefinitionTree) (fs gs : List Lowered) (ls : List SizeAlign) → AllSame fs gs → listed_definition_lines ds fs ls ≡ listed_definition_lines ds gs ls
lines-same [] fs gs ls s = refl
lines-same (typename_of name t docs ∷ ds) fs gs ls s = ap (λ z. listed_typename_lines name ls ++ z) (lines-same ds fs gs (drop 1 ls) s)
lines-same (module_of m ∷ ds) fs gs ls s =
    ap (λ z. (module_line m.name ++ z) ++ listed_definition_lines ds (drop (func_count m.items) fs) ls) (items-same m.items fs gs s)
    ∙ ap (λ z. (module_line m.name ++ item_lines m.items gs) ++ z) (lines-same ds (drop (func_count m.items) fs) (drop (func_count m.items) gs) ls (drop-same (func_count m.items) fs gs s))
lines-same (constant_of c ∷ ds) fs gs ls s = ap (λ z. constant_line c ++ z) (lines-same ds fs gs ls s)

-- ---- what is read back

types-named : (ds : List DefinitionTree) (f : Function) → AreNamed (known_of ds f)
types-named ds f = record { typename = typename-named ds; held = first-named (held_types f); payload = first-named (payload_types f) }

-- both sides of a function
pub record OfferedTells (ds : List DefinitionTree) (f : Offered) : Type 0 where
  pub caller : Tells (known_of ds f.function) f.lowered.caller
  pub callee : Tells (known_of ds f.function) f.lowered.callee

abbrev pub AllTell : List DefinitionTree → List Offered → Type 0
AllTell ds fs = AllByRecursion (OfferedTells ds) fs

pub fit-read : (ds : List DefinitionTree) (fs : List Offered) → AllTell ds fs → FitFunctions ds fs (map (sides_read ds) fs)
fit-read ds [] h = tt
fit-read ds (f ∷ fs) h =
    let types = known_of ds f.function in
    let named = types-named ds f.function in
    ((lines-read types named f.lowered.caller h.0.caller, lines-read types named f.lowered.callee h.0.callee), fit-read ds fs h.1)

same-read : (ds : List DefinitionTree) (fs : List Offered) → AllTell ds fs → AllSame (map (λ f. f.lowered) fs) (with_sides fs (map (sides_read ds) fs))
unfolding AllSame
same-read ds [] h = tt
same-read ds (f ∷ fs) h =
    let types = known_of ds f.function in
    let named = types-named ds f.function in (
      record {
        params = refl;
        results = refl;
        caller = sym (texts-read types named f.lowered.caller h.0.caller);
        callee = sym (texts-read types named f.lowered.callee h.0.callee);
      },
      same-read ds fs h.1,
    )

pub listing-read : (ds : List DefinitionTree) (fs : List Offered) (ls : List SizeAlign) → AllTell ds fs → listed_definition_lines ds (map (λ f. f.lowered) fs) ls ≡ listed_definition_lines ds (with_sides fs (map (sides_read ds) fs)) ls
listing-read ds fs ls h = lines-same ds (map (λ f. f.lowered) fs) (with_sides fs (map (sides_read ds) fs)) ls (same-read ds fs h)
