-- The parts of what passes and of what returns, as the program tests them one by one.
use Rattle.std.specs.Prelude.{List, [], ◌∷◌, length, Bool, false, ◌&&◌, Option, Some, None, take, drop}
use Rattle.witx_ast.specs.Tree.{Tree, Arms}
use Rattle.witx_ast.specs.Plain.{Plain, plain}
use Rattle.witx_machine.specs.declared.surface.WasmType.{WasmType}
use Rattle.witx_machine.specs.Functions.{is_tuple, ok_of, err_of}
use Rattle.witx_machine.specs.Signature.{param_words, ok_pointers}
use Rattle.witx_machine.specs.Machine.{is_nil}
use Rattle.witx_machine.specs.Words.{when}
use Rattle.witx_machine.specs.Passage.{last_words}
use Rattle.witx_machine.specs.Run.{Outcome}
use Rattle.witx_symbols.specs.Symbols.{Symbol, SymbolWord, list_address, list_length, same_symbol}
use Rattle.witx_symbols.specs.Symbolic.{SymbolMemory, SymbolWorld, picks_in}
use Rattle.witx_symbols.specs.Verdicts.{param_are, is_word_of, is_case_word, hold_parts, ok_parts, returns_picked}

-- a list's address and length, and no other word
abbrev pub list_are : Symbol → List SymbolWord → Bool
list_are v (list_address a ∷ list_length l ∷ []) = same_symbol v a && same_symbol v l
list_are v _ = false

-- the one word of a value, whose words are of these types
abbrev pub one_is : List WasmType → Symbol → List SymbolWord → Bool
one_is ts v (w ∷ []) = is_word_of ts v w
one_is ts v _ = false

-- what is left of the words behind those of a parameter
abbrev pub words_behind : SymbolMemory → Plain → Symbol → List SymbolWord → Option (List SymbolWord)
words_behind m t v ws =
    when (param_are m t v (take (length (param_words t)) ws)) (Some (drop (length (param_words t)) ws))

-- an ok reply with a payload, and an error with one
abbrev pub ok_returns : Option Tree → (pointers : List SymbolWord) → Symbol → SymbolMemory → List SymbolWord → Bool
ok_returns None pointers p m ws = false
ok_returns (Some t) pointers p m ws = is_case_word false ws && hold_parts m pointers (ok_parts (is_tuple t) (length pointers) p)

abbrev pub err_returns : Option Tree → Symbol → SymbolMemory → List SymbolWord → Bool
err_returns None p m ws = false
err_returns (Some t) p m ws = param_are m (plain t) p ws

-- a reply that is a variant with a payload
abbrev pub cases_return : SymbolWorld → Arms → Symbol → Outcome Symbol SymbolWord SymbolMemory → Bool
cases_return w cs v o =
    returns_picked (ok_of cs) (err_of cs) (last_words (length (ok_pointers (ok_of cs))) o.call.words)
    (picks_in w.error w (ok_of cs) (err_of cs) v) o.call.at_return o.call.callee_words

-- nothing comes back, of a function without result
abbrev pub nothing_returns : List Tree → Outcome Symbol SymbolWord SymbolMemory → Bool
nothing_returns ts o = is_nil ts && is_nil o.call.callee_words
