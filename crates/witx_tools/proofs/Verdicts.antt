-- A loop over functions with their traces puts each one's line; and what the listing of an adapted document shows is
-- told by its definitions.
use Rattle.std.proofs.Common.{◌≡◌, ◌⊎◌, inl, inr, ℕ, ◌+◌, arith, length, List, [], ◌∷◌, ◌++◌, map, refl, sym, ap, ◌∙◌, append_assoc, append-nil}
use Rattle.std.proofs.lemmas.List.{length-append, length-map}
use Rattle.std.specs.List.{flat_map, zip}
use Rattle.witx_ast.specs.Definitions.{DefinitionTree, ModuleTree, constant_of, module_of, typename_of}
use Rattle.witx_ast.specs.Functions.{func_tree}
use Rattle.witx_ast.specs.Items.{ItemTree, func_of, import_of}
use Rattle.witx_ast.specs.declared.function.InterfaceFunc.{InterfaceFunc}
use Rattle.witx_machine.specs.Functions.{function_of}
use Rattle.witx_instructions.specs.Views.{called}
use Rattle.witx_adapt.specs.Entries.{Entry, Owned, all_functions, entry_for, entry_of, lowered, module_functions, owned_item}
use Rattle.witx_adapt.specs.Listings.{func_count}
use Rattle.witx_adapt.specs.declared.adapted.Adapted.{Adapted}
use Rattle.witx_adapt.specs.declared.adapted.AdaptedFunc.{AdaptedFunc}
use Rattle.witx_traces.specs.Passages.{sides_of}
use Rattle.witx_traces.specs.Traces as traces
use Rattle.witx_traces.specs.Traces.{HasEachEntry, Sides, function_number, listed}
use Rattle.witx_traces.specs.declared.reading.TracePair.{TracePair}
use Rattle.witx_commands.specs.Adapting.{IsAdapted, defined}
use Rattle.witx_tools.specs.VerdictTexts.{judged_line, listed_for, offered_by, owned_of}

-- ---- the lines

abbrev lines : List Owned → List Sides → List ℕ
lines fs ss = flat_map (λ p. judged_line p.0 p.1) (zip fs ss)

pub lines-more : (fs gs : List AdaptedFunc) (ps qs : List TracePair) (f : AdaptedFunc) (p : TracePair) (done now total : List ℕ) → fs ≡ f ∷ gs → ps ≡ p ∷ qs
    → now ≡ done ++ judged_line (owned_of f) (sides_of p) → done ++ lines (map owned_of fs) (map sides_of ps) ≡ total
    → now ++ lines (map owned_of gs) (map sides_of qs) ≡ total
lines-more fs gs ps qs f p done now total d e n k =
    ap (λ x. x ++ lines (map owned_of gs) (map sides_of qs)) n ∙ append_assoc done (judged_line (owned_of f) (sides_of p)) (lines (map owned_of gs) (map sides_of qs))
    ∙ ap (λ xs. done ++ lines (map owned_of xs) (map sides_of (p ∷ qs))) (sym d) ∙ ap (λ ys. done ++ lines (map owned_of fs) (map sides_of ys)) (sym e) ∙ k

-- no function or no pair of traces is left
pub lines-end : (fs : List AdaptedFunc) (ps : List TracePair) (done total : List ℕ) → (fs ≡ []) ⊎ (ps ≡ []) → done ++ lines (map owned_of fs) (map sides_of ps) ≡ total → done ≡ total
lines-end fs ps done total (inl e) k = sym (append-nil done) ∙ ap (λ xs. done ++ lines (map owned_of xs) (map sides_of ps)) (sym e) ∙ k
lines-end [] ps done total (inr e) k = sym (append-nil done) ∙ k
lines-end (f ∷ fs) ps done total (inr e) k = sym (append-nil done) ∙ ap (λ ys. done ++ lines (map owned_of (f ∷ fs)) (map sides_of ys)) (sym e) ∙ k

pub ruleset line_rules = (lines-more, lines-end)

-- ---- what the listing shows

-- a function is read as its tree is
abbrev pub ReadAsTrees : Type 0
ReadAsTrees = (func : InterfaceFunc) → function_of (func_tree func) ≡ called func

by-entries : ReadAsTrees → (fs : List AdaptedFunc) → map traces.offered fs ≡ map offered_by (map entry_of fs)
by-entries law [] = refl
by-entries law (f ∷ fs) =
    ap (λ g. record { function = g; lowered = lowered f } ∷ map traces.offered fs) (sym (law f.func.value)) ∙ ap (λ os. offered_by (entry_of f) ∷ os) (by-entries law fs)

for-functions : (os : List Owned) → map offered_by (map entry_for os) ≡ map (λ f. offered_by (entry_for f)) os
for-functions [] = refl
for-functions (o ∷ os) = ap (λ xs. offered_by (entry_for o) ∷ xs) (for-functions os)

pub listed-for : ReadAsTrees → (a : Adapted) → IsAdapted a → listed a ≡ listed_for (defined a)
listed-for law a k =
    let functions = all_functions (defined a) in
    ap (λ fs. record { definitions = defined a; functions = fs; layouts = a.layouts }) (by-entries law a.functions ∙ ap (map offered_by) k.functions ∙ for-functions functions)
    ∙ ap (λ ls. record { definitions = defined a; functions = map (λ f. offered_by (entry_for f)) functions; layouts = ls }) k.layouts

abbrev owner_of : Entry → Owned
owner_of e = e.owned

owned-entries : (fs : List AdaptedFunc) → map owned_of fs ≡ map owner_of (map entry_of fs)
owned-entries [] = refl
owned-entries (f ∷ fs) = ap (λ os. owned_of f ∷ os) (owned-entries fs)

owned-back : (os : List Owned) → map owner_of (map entry_for os) ≡ os
owned-back [] = refl
owned-back (o ∷ os) = ap (λ xs. o ∷ xs) (owned-back os)

pub owned-for : (fs : List AdaptedFunc) (os : List Owned) → map entry_of fs ≡ map entry_for os → map owned_of fs ≡ os
owned-for fs os e = owned-entries fs ∙ ap (map owner_of) e ∙ owned-back os

-- ---- an entry for each function

items-counted : (m : ModuleTree) (items : List ItemTree) → length (flat_map (owned_item m) items) ≡ func_count items
items-counted m [] = refl
items-counted m (import_of i ∷ items) = items-counted m items
items-counted m (func_of f ∷ items) = let more = items-counted m items in omega (arith, more)

definitions-counted : (ds : List DefinitionTree) → length (all_functions ds) ≡ function_number ds
definitions-counted [] = refl
definitions-counted (typename_of name t docs ∷ ds) = definitions-counted ds
definitions-counted (module_of m ∷ ds) =
    length-append (module_functions m) (all_functions ds) ∙ ap (λ n. n + length (all_functions ds)) (items-counted m m.items)
    ∙ ap (λ n. func_count m.items + n) (definitions-counted ds)
definitions-counted (constant_of c ∷ ds) = definitions-counted ds

pub counted-each : (a : Adapted) (ds : List DefinitionTree) → defined a ≡ ds → map entry_of a.functions ≡ map entry_for (all_functions ds) → HasEachEntry (listed a)
counted-each a ds d k =
    length-map a.functions traces.offered ∙ sym (length-map a.functions entry_of) ∙ ap length k ∙ length-map (all_functions ds) entry_for
    ∙ definitions-counted ds ∙ ap function_number (sym d)

pub each-entry : (a : Adapted) → IsAdapted a → HasEachEntry (listed a)
each-entry a k = counted-each a (defined a) refl k.functions
