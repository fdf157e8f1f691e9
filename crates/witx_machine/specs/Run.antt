-- A run of two traces: the caller's on the arguments, and at its call the callee's on the words.
-- The callee has the caller's memory and the addresses that are left; stack, slots and blocks are its own.
-- It may be another function's, of another module, and get the words in another order; in a plain run it is
-- the called function's own, and gets the words as they are.
-- Each side calls once, by its own module's and function's names, with words, values and types that are
-- its function's; the run ends where both traces have made their call and reached their return.
use Rattle.std.specs.Prelude.{ℕ, zero, suc, ◌+◌, List, [], ◌∷◌, ◌++◌, length, Bool, true, false, ◌&&◌, Option, Some, None, is_none, map, slice_get, option_and_then}
use Rattle.witx_ast.specs.Tree.{Tree, Arms}
use Rattle.witx_base.specs.SameBytes.{same_bytes}
use Rattle.witx_ast.specs.Same.{same_tree}
use Rattle.witx_machine.specs.declared.surface.WasmType.{WasmType}
use Rattle.witx_machine.specs.Words.{same_types}
use Rattle.witx_machine.specs.Events.{Event}
use Rattle.witx_machine.specs.Functions.{Function, name_of, ok_of, err_of, result_cases}
use Rattle.witx_machine.specs.Signature.{signature_params, signature_results}
use Rattle.witx_machine.specs.Machine.{Domain, Tried, went, no_rule, if_found, goes_on, only, Item, word_item, value_item, State, Side, words_off, values_off, pushed, run_trace}

-- types are the function's own, documentation included
abbrev pub same_trees : List Tree → List Tree → Bool
same_trees [] [] = true
same_trees (t ∷ ts) (u ∷ us) = same_tree t u && same_trees ts us
same_trees [] (u ∷ us) = false
same_trees (t ∷ ts) [] = false

abbrev pub words_in : {V W : Type 0} → List (Item V W) → Option (List W)
words_in [] = Some []
words_in (word_item w ∷ xs) = option_and_then (λ ws. Some (w ∷ ws)) (words_in xs)
words_in (value_item v t ∷ xs) = None

abbrev pub values_in : {V W : Type 0} → List (Item V W) → Option (List V)
values_in [] = Some []
values_in (value_item v t ∷ xs) = option_and_then (λ vs. Some (v ∷ vs)) (values_in xs)
values_in (word_item w ∷ xs) = None

-- words of these types
abbrev pub typed : {V W M : Type 0} → Domain V W M → List WasmType → List W → Bool
typed D [] [] = true
typed D [] (w ∷ ws) = false
typed D (t ∷ ts) [] = false
typed D (t ∷ ts) (w ∷ ws) = D.has_type t w && typed D ts ws

-- the arguments as the caller has them
abbrev pub argument_items : {V W : Type 0} → List Tree → List V → List (Item V W)
argument_items [] vs = []
argument_items (t ∷ ts) [] = []
argument_items (t ∷ ts) (v ∷ vs) = value_item v (name_of t) ∷ argument_items ts vs

-- the reply as call_interface leaves it
abbrev pub reply_items : {V W : Type 0} → List Tree → Option V → Option (List (Item V W))
reply_items [] None = Some []
reply_items (t ∷ []) (Some v) = Some (value_item v (name_of t) ∷ [])
reply_items _ _ = None

abbrev pub one_word : {W : Type 0} → List W → Option W
one_word (w ∷ []) = Some w
one_word _ = None

abbrev pub same_presence : Option Tree → Option Tree → Bool
same_presence None None = true
same_presence (Some t) (Some u) = true
same_presence None (Some u) = false
same_presence (Some t) None = false

-- types are given exactly for those of these two cases that have one
abbrev pub cases_are : Option Arms → Option Tree → Option Tree → Bool
cases_are None ok err = false
cases_are (Some cs) ok err = same_presence (ok_of cs) ok && same_presence (err_of cs) err

-- the same of the cases of the function's result
abbrev pub result_has_cases : List Tree → Option Tree → Option Tree → Bool
result_has_cases [] ok err = false
result_has_cases (t ∷ ts) ok err = cases_are (result_cases t) ok err

-- what the caller knows of the call
pub record Call (V W M : Type 0) : Type 0 where
  pub words : List W
  pub at_call : M
  pub noted : List V
  pub callee_words : List W
  pub at_return : M

-- what comes of a run: the call, what the caller's trace gave back, and the memory
pub record Outcome (V W M : Type 0) : Type 0 where
  pub call : Call V W M
  pub back : List (Item V W)
  pub memory : M

abbrev pub start : {E V W M C : Type 0} → M → State E V W M C
start memory =
    record { stack = []; slots = []; memory = memory; blocks = []; returned = None; called = None; answer = None }

-- who gets the words: the module and the function of the callee, and the numbers of the caller's words in the order in which it gets them
pub record Receiver : Type 0 where
  pub module_name : List ℕ
  pub function : Function
  pub order : List ℕ

-- the numbers from k on, n of them
abbrev pub numbers : ℕ → ℕ → List ℕ
numbers k zero = []
numbers k (suc n) = k ∷ numbers (k + 1) n

-- the called function itself, which gets the words as they are
abbrev pub itself : List ℕ → Function → Receiver
itself m f = record { module_name = m; function = f; order = numbers 0 (length (signature_params f)) }

-- the items of these numbers, in this order
abbrev pub picked_in_order : {A : Type 0} → List ℕ → List A → Option (List A)
picked_in_order [] xs = Some []
picked_in_order (i ∷ is) xs = option_and_then (λ x. option_and_then (λ more. Some (x ∷ more)) (picked_in_order is xs)) (slice_get xs i)

module _ {P E V W M : Type 0} (event : E → Event) (place : E → P) (D : Domain V W M) where
  -- the callee, a function f of the module m
  module _ (m : List ℕ) (f : Function) where
    -- its first call of the interface, by its names and types
    abbrev pub calls_interface : State E V W M (List V) → List ℕ → List ℕ → List Tree → List Tree → Bool
    calls_interface s m' n ps rs = is_none s.called && (same_bytes m' m && (same_bytes n f.name && (same_trees ps f.params && same_trees rs f.results)))

    -- the values that the call took off are noted, and the reply is pushed
    abbrev pub replied : Option V → List V → List (Item V W) → State E V W M (List V) → Tried P (State E V W M (List V))
    replied reply noted rest s = if_found (reply_items f.results reply) (λ xs. went (record s { stack = xs ++ rest; called = Some noted }))

    abbrev pub callee_side : Option V → List W → Side P E V W M (List V)
    callee_side reply words = record {
      arguments = map word_item words;
      has_cases = result_has_cases f.results;
      on_wasm = λ m' n ps rs s. no_rule;
      on_interface = λ m' n ps rs s. only (calls_interface s m' n ps rs) (if_found (values_off (length f.params) [] s.stack) (λ r. replied reply r.0 r.1 s));
    }

  -- the caller, of a function f of the module m, and who gets its words
  module _ (m : List ℕ) (f : Function) (to : Receiver) where
    -- the caller's state after the callee's run, which gave these words back and left this memory
    abbrev pub answered : List W → List V → List W → M → State E V W M (Call V W M) → State E V W M (Call V W M)
    answered words noted results at_return s =
        record s {
          stack = pushed (map word_item results) s.stack;
          memory = at_return;
          returned = one_word results;
          called = Some (record { words = words; at_call = s.memory; noted = noted; callee_words = results; at_return = at_return });
        }

    -- what the callee gave back is words of the result types
    abbrev pub taken_back : List W → State E V W M (Call V W M) → List V × List (Item V W) × State E V W M (List V) → Tried P (State E V W M (Call V W M))
    taken_back words s r = if_found (words_in r.1) (λ ws. only (typed D (signature_results f) ws) (went (answered words r.0 ws r.2.memory s)))

    -- the callee's run on its words, as the caller has it; last: the place after the callee's last event
    abbrev pub handed_on : P → List E → Option V → List W → State E V W M (Call V W M) → List W → Tried P (State E V W M (Call V W M))
    handed_on last callee reply words s own =
        goes_on (run_trace event place D (callee_side to.module_name to.function reply own) last callee (start s.memory)) (taken_back words s)

    abbrev pub called_with : P → List E → Option V → List W → State E V W M (Call V W M) → Tried P (State E V W M (Call V W M))
    called_with last callee reply words s = if_found (picked_in_order to.order words) (handed_on last callee reply words s)

    -- its first call, by its names and types of words
    abbrev pub calls_wasm : State E V W M (Call V W M) → List ℕ → List ℕ → List WasmType → List WasmType → Bool
    calls_wasm s m' n ps rs =
        is_none s.called && (same_bytes m' m && (same_bytes n f.name && (same_types ps (signature_params f) && same_types rs (signature_results f))))

    abbrev pub caller_side : P → List E → List V → Option V → Side P E V W M (Call V W M)
    caller_side last callee arguments reply = record {
      arguments = argument_items f.params arguments;
      has_cases = result_has_cases f.results;
      on_wasm = λ m' n ps rs s. only (calls_wasm s m' n ps rs) (if_found (words_off (length ps) [] s.stack)
          (λ r. only (typed D ps r.0) (called_with last callee reply r.0 (record s { stack = r.1 }))));
      on_interface = λ m' n ps rs s. no_rule;
    }

    -- A RUN of a caller against a callee; the places after the last events name a trace that doesn't return
    abbrev pub run_to : P → P → (caller callee : List E) → List V → Option V → M → Tried P (Outcome V W M)
    run_to caller_end callee_end caller callee arguments reply memory =
        goes_on (run_trace event place D (caller_side callee_end callee arguments reply) caller_end caller (start memory))
        (λ r. went (record { call = r.0; back = r.1; memory = r.2.memory }))

  -- A PLAIN RUN: both traces are of the one function
  abbrev pub run : List ℕ → Function → P → P → (caller callee : List E) → List V → Option V → M → Tried P (Outcome V W M)
  run m f = run_to m f (itself m f)
