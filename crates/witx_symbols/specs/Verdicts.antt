-- What is found of two traces: the machine runs them once in each world over symbols, and the first thing that
-- goes wrong is the doubt. Where nothing does the answer is yes.
use Rattle.std.specs.Prelude.{◌≢◌, ℕ, ◌+◌, List, [], ◌∷◌, length, Bool, true, false, ◌&&◌, cond, not, position, Option, Some, None, option_map, option_to_list, slice_get, take, drop}
use Rattle.witx_ast.specs.declared.function.Abi.{Abi}
use Rattle.witx_ast.specs.Tree.{Tree, Arms}
use Rattle.witx_ast.specs.Plain.{Plain, plain}
use Rattle.witx_ast.specs.Same.{same_tree}
use Rattle.witx_ast.specs.Tags.{fits}
use Rattle.witx_machine.specs.declared.surface.Place.{Place}
use Rattle.witx_machine.specs.declared.surface.WasmType.{WasmType}
use Rattle.witx_machine.specs.Words.{same_types}
use Rattle.witx_machine.specs.Events.{Event}
use Rattle.witx_machine.specs.Functions.{Function, is_tuple, by_address, ok_of, err_of, result_cases}
use Rattle.witx_machine.specs.Signature.{param_words, return_pointers, pointers_by}
use Rattle.witx_machine.specs.Lowerable.{unlowerable}
use Rattle.witx_machine.specs.Machine.{Tried, went, no_rule, stuck_at, is_nil}
use Rattle.witx_machine.specs.Run.{Outcome, values_in}
use Rattle.witx_machine.specs.Positions.{Spot, in_caller, in_callee, spotted_run}
use Rattle.witx_machine.specs.Passage.{last_words}
use Rattle.witx_symbols.specs.declared.surface.Doubt.{Doubt}
use Rattle.witx_symbols.specs.declared.surface.Verdict.{Verdict}
use Rattle.witx_symbols.specs.Symbols.{argument, Symbol, SymbolWord, word_of_symbol, list_address, list_length, given, zero_word, one_word, same_symbol, same_option, same_symbols, symbol_from}
use Rattle.witx_symbols.specs.Symbolic.{SymbolCell, SymbolMemory, SymbolWorld, symbols, worlds, symbol_parts, picks_in, reply_from}

-- PASSES, of symbols: the words of a call going in
abbrev pub is_word_of : List WasmType → Symbol → SymbolWord → Bool
is_word_of ts v (word_of_symbol u w) = same_types (w ∷ []) ts && same_symbol v u
is_word_of ts v _ = false

-- the words of a value that isn't passed by address
abbrev pub direct_are : Plain → Symbol → List SymbolWord → Bool
direct_are (Plain.list_of t) v (list_address a ∷ list_length l ∷ []) = same_symbol v a && same_symbol v l
direct_are (Plain.list_of t) v _ = false
direct_are t v (w ∷ []) = is_word_of (param_words t) v w
direct_are t v _ = false

abbrev pub cell_holds : Symbol → Option SymbolCell → Bool
cell_holds v None = false
cell_holds v (Some c) = same_option c.1 (Some v)

abbrev pub cell_is_for : Tree → Option SymbolCell → Bool
cell_is_for t None = false
cell_is_for t (Some c) = same_tree c.0 t

-- the word is an address given, at which the symbol stands, or which was made for the type as it is written
abbrev pub holds_symbol : SymbolMemory → SymbolWord → Symbol → Bool
holds_symbol m (given k) v = cell_holds v (slice_get m.made k)
holds_symbol m _ v = false

abbrev pub is_made_for : SymbolMemory → SymbolWord → Tree → Bool
is_made_for m (given k) t = cell_is_for t (slice_get m.made k)
is_made_for m _ t = false

abbrev pub hold_all : SymbolMemory → List SymbolWord → List Symbol → Bool
hold_all m [] [] = true
hold_all m (w ∷ ws) (v ∷ vs) = holds_symbol m w v && hold_all m ws vs
hold_all m [] (v ∷ vs) = false
hold_all m (w ∷ ws) [] = false

abbrev pub param_are : SymbolMemory → Plain → Symbol → List SymbolWord → Bool
param_are m t v ws = cond (by_address t) (hold_all m ws (v ∷ [])) (direct_are t v ws)

abbrev pub pointers_are : SymbolMemory → List Tree → List SymbolWord → Bool
pointers_are m [] [] = true
pointers_are m (t ∷ ts) (w ∷ ws) = is_made_for m w t && pointers_are m ts ws
pointers_are m [] (w ∷ ws) = false
pointers_are m (t ∷ ts) [] = false

abbrev pub passes : SymbolMemory → List Tree → List Tree → List Symbol → List SymbolWord → Bool
passes m pointers [] [] ws = pointers_are m pointers ws
passes m pointers (t ∷ ts) (v ∷ vs) ws =
    param_are m (plain t) v (take (length (param_words (plain t))) ws) && passes m pointers ts vs (drop (length (param_words (plain t))) ws)
passes m pointers [] (v ∷ vs) ws = false
passes m pointers (t ∷ ts) [] ws = false

-- RETURNS, of symbols: what comes back
abbrev pub hold_parts : SymbolMemory → List SymbolWord → Option (List Symbol) → Bool
hold_parts m ws None = false
hold_parts m ws (Some vs) = hold_all m ws vs

abbrev pub ok_parts : Bool → ℕ → Symbol → Option (List Symbol)
ok_parts true n v = symbol_parts n v
ok_parts false n v = Some (v ∷ [])

abbrev pub is_case_word : Bool → List SymbolWord → Bool
is_case_word false (zero_word ∷ []) = true
is_case_word true (one_word ∷ []) = true
is_case_word _ _ = false

abbrev pub returns_case : (ok err : Option Tree) → (pointers : List SymbolWord)
    → Bool → Option (Symbol × Option Tree) → SymbolMemory → List SymbolWord → Bool
returns_case ok err pointers e None m ws = is_case_word e ws
returns_case None err pointers false (Some p) m ws = false
returns_case (Some t) err pointers false (Some p) m ws = is_case_word false ws && hold_parts m pointers (ok_parts (is_tuple t) (length pointers) p.0)
returns_case ok None pointers true (Some p) m ws = false
returns_case ok (Some t) pointers true (Some p) m ws = param_are m (plain t) p.0 ws

abbrev pub returns_picked : (ok err : Option Tree) → (pointers : List SymbolWord)
    → Option (Bool × Option (Symbol × Option Tree)) → SymbolMemory → List SymbolWord → Bool
returns_picked ok err pointers None m ws = false
returns_picked ok err pointers (Some c) m ws = returns_case ok err pointers c.0 c.1 m ws

abbrev pub returns_by : SymbolWorld → Option Arms → Tree → Symbol → Outcome Symbol SymbolWord SymbolMemory → Bool
returns_by w None t v o = direct_are (plain t) v o.call.callee_words
returns_by w (Some cs) t v o =
    returns_picked (ok_of cs) (err_of cs) (last_words (length (pointers_by (Some cs))) o.call.words)
    (picks_in w.error w (ok_of cs) (err_of cs) v) o.call.at_return o.call.callee_words

abbrev pub returns_whole : Symbol → Outcome Symbol SymbolWord SymbolMemory → Bool
returns_whole v o = is_nil o.call.callee_words && hold_all o.call.at_return (last_words 1 o.call.words) (v ∷ [])

abbrev pub returns_under : Abi → SymbolWorld → Tree → Symbol → Outcome Symbol SymbolWord SymbolMemory → Bool
returns_under Abi.Preview1 w t v o = returns_by w (result_cases t) t v o
returns_under Abi.Stored w t v o = returns_whole v o

abbrev pub gives_back : Abi → SymbolWorld → List Tree → Option Symbol → Outcome Symbol SymbolWord SymbolMemory → Bool
gives_back abi w [] None o = is_nil o.call.callee_words
gives_back abi w (t ∷ []) (Some v) o = returns_under abi w t v o
gives_back abi w _ _ o = false

abbrev pub are_values : Option (List Symbol) → List Symbol → Bool
are_values None us = false
are_values (Some vs) us = same_symbols vs us

abbrev pub arguments_from : ℕ → List Tree → List Symbol
arguments_from i [] = []
arguments_from i (t ∷ ts) = symbol_from (plain t) (argument i) ∷ arguments_from (i + 1) ts

-- the first doubt
abbrev pub unless : Bool → Doubt → Option Doubt → Option Doubt
unless true d rest = rest
unless false d rest = Some d

abbrev pub or_else : Option Doubt → Option Doubt → Option Doubt
or_else None d = d
or_else (Some d) e = Some d

-- a run names the event that has no rule; so the third clause can't come
abbrev pub judged : SymbolWorld → Function → List Symbol → Option Symbol → Tried Spot (Outcome Symbol SymbolWord SymbolMemory) → Option Doubt
judged w f arguments whole (stuck_at (in_caller i)) = Some (Doubt.Caller i)
judged w f arguments whole (stuck_at (in_callee i)) = Some (Doubt.Callee i)
judged w f arguments whole no_rule = Some (Doubt.Caller 0)
judged w f arguments whole (went o) =
    unless (passes o.call.at_call (return_pointers f) f.params arguments o.call.words) Doubt.Passes
    (unless (gives_back f.abi w f.results whole o) Doubt.Returns
    (unless (same_symbols o.call.noted arguments) Doubt.Notes
    (unless (are_values (values_in o.back) (option_to_list whole)) Doubt.Reply None)))

-- in one world; as many addresses can be given as there are events, as in a faithful pair's runs
abbrev pub doubt_in : SymbolWorld → List ℕ → Function → (caller callee : List Event) → Option Doubt
doubt_in w m f caller callee =
    judged w f (arguments_from 0 f.params) (reply_from f.results)
    (spotted_run (symbols w) m f caller callee (arguments_from 0 f.params) (reply_from f.results) (record { made = []; left = length caller + length callee }))

abbrev pub first_doubt : List SymbolWorld → List ℕ → Function → (caller callee : List Event) → Option Doubt
first_doubt [] m f caller callee = None
first_doubt (w ∷ ws) m f caller callee = or_else (doubt_in w m f caller callee) (first_doubt ws m f caller callee)

-- the first parameter, else the first result, from which a type is reached that doesn't fit its tag
abbrev pub misfit_place : Option ℕ → Option ℕ → Option Place
misfit_place (Some i) r = Some (Place.Param i)
misfit_place None r = option_map Place.Result r

abbrev pub misfit : Function → Option Place
misfit f = misfit_place (position (λ t. not (fits (plain t))) f.params) (position (λ t. not (fits (plain t))) f.results)

-- THE DOUBT of two traces, none where the answer is yes
abbrev pub doubt : List ℕ → Function → (caller callee : List Event) → Option Doubt
doubt m f caller callee =
    or_else (option_map Doubt.Function (unlowerable f)) (or_else (option_map Doubt.Function (misfit f)) (first_doubt (worlds f) m f caller callee))

-- THE VERDICT
abbrev pub verdict_of : Option Doubt → Verdict
verdict_of None = Verdict.Yes
verdict_of (Some d) = Verdict.No d

abbrev pub verdict : List ℕ → Function → (caller callee : List Event) → Verdict
verdict m f caller callee = verdict_of (doubt m f caller callee)

-- a run that doesn't end names the event at which it got stuck, so that the doubt of a run without a place never comes
abbrev pub RunsNamePlaces : Type 0
RunsNamePlaces =
    (w : SymbolWorld) (m : List ℕ) (f : Function) (caller callee : List Event) (arguments : List Symbol) (whole : Option Symbol) (memory : SymbolMemory) →
    spotted_run (symbols w) m f caller callee arguments whole memory ≢ no_rule
