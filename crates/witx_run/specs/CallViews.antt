-- How the calls of the two traces are read: what each makes of its trace's machine.
use Rattle.std.specs.Prelude.{◌≡◌, ℕ, List, [], ◌++◌, length, map, Bool, ◌&&◌, Option, Some, None, option_and_then, option_map}
use Rattle.std.specs.Global.{Vec}
use Rattle.witx_ast.specs.Tree.{Tree}
use Rattle.witx_base.specs.SameBytes.{same_bytes}
use Rattle.witx_machine.specs.declared.surface.WasmType.{WasmType}
use Rattle.witx_machine.specs.Words.{same_types, when}
use Rattle.witx_machine.specs.Events.{Event}
use Rattle.witx_machine.specs.Functions.{Function}
use Rattle.witx_machine.specs.Signature.{signature_params, signature_results}
use Rattle.witx_machine.specs.Machine.{Domain, Item, State, if_found, went, words_off, values_off}
use Rattle.witx_machine.specs.Positions.{in_callee, numbered}
use Rattle.witx_machine.specs.Run.{Call, same_trees, reply_items, itself, answered, handed_on, taken_back, typed}
use Rattle.witx_run.specs.MachineViews.{Numbered, state_in}
use Rattle.witx_run.specs.OutcomeViews.{call_of}
use Rattle.witx_run.specs.Sides.{callee_setting, caller_setting}
use Rattle.witx_run.specs.declared.machine.Machine.{Machine}
use Rattle.witx_run.specs.declared.outcome.CallMade.{CallMade}

-- a call names the function of this module, with its types
abbrev pub names_function : List ℕ → Function → (module_name name : List ℕ) → (params results : List Tree) → Bool
names_function home f m' n ps rs = same_bytes m' home && (same_bytes n f.name && (same_trees ps f.params && same_trees rs f.results))

-- the same, with the types of its words
abbrev pub names_words : List ℕ → Function → (module_name name : List ℕ) → (params results : List WasmType) → Bool
names_words home f m' n ps rs =
    same_bytes m' home && (same_bytes n f.name && (same_types ps (signature_params f) && same_types rs (signature_results f)))

-- the states of the callee's machine, and those of the caller's
abbrev pub CalleeState : (V W M : Type 0) → Type 0
CalleeState V W M = State Numbered V W M (List V)

abbrev pub CallerState : (V W M : Type 0) → Type 0
CallerState V W M = State Numbered V W M (Call V W M)

module _ {V W : Type 0} where
  -- what a call of the interface took off the stack, and the stack with the reply
  abbrev pub reply_on : Option (List (Item V W)) → List V × List (Item V W) → Option (List V × List (Item V W))
  reply_on reply r = option_map (λ xs. (r.0, xs ++ r.1)) reply

  abbrev pub reply_row : Function → Option V → List (Item V W) → Option (List V × List (Item V W))
  reply_row f reply stack = option_and_then (reply_on (reply_items f.results reply)) (values_off (length f.params) [] stack)

  -- the stack with this reply of a function with these results, if it is one
  abbrev pub with_reply : List Tree → Option V → List (Item V W) → Option (List (Item V W))
  with_reply results reply stack = option_map (λ xs. xs ++ stack) (reply_items results reply)

module _ {V W M : Type 0} (D : Domain V W M) where
  -- words, if they are of these types
  abbrev pub typed_only : List WasmType → List W → Option (List W)
  typed_only ts ws = when (typed D ts ws) (Some ws)

  -- those that a call takes off the stack, and what lies below
  abbrev pub words_row : List WasmType → List (Item V W) → Option (List W × List (Item V W))
  words_row ts stack = option_and_then (λ r. when (typed D ts r.0) (Some r)) (words_off (length ts) [] stack)

module _ {v w m V W M : Type 0} (D : Domain V W M) (value : v → V) (word : w → W) (memory : m → M) where
  -- A CALL OF THE INTERFACE in the callee's trace makes this machine and notes these values, or has no rule
  abbrev pub Replies : List ℕ → Function → Option V → (module_name name : List ℕ) → (params results : List Tree)
      → (old new : Machine v w m) → Option (Vec v) → Type 0
  Replies home f reply m' n ps rs old new noted =
      (words : List W) (es : List Event) →
      let x = callee_setting D home f reply words in
      (x None).side.on_interface m' n ps rs (state_in value word memory (x None) es old)
      ≡ if_found noted (λ vs. went (state_in value word memory (x (Some (map value vs.items))) es new))

  -- A CALL OF WEBASSEMBLY in the caller's trace comes to the callee's run on these words, or has no rule
  abbrev pub HandsOn : List ℕ → Function → (module_name name : List ℕ) → (params results : List WasmType)
      → (old new : Machine v w m) → Option (Vec w) → Type 0
  HandsOn home f m' n ps rs old new words =
      (callee : List Event) (arguments : List V) (reply : Option V) (es : List Event) →
      let x = caller_setting D home f callee arguments reply None in
      x.side.on_wasm m' n ps rs (state_in value word memory x es old)
      ≡ if_found words (λ ws. handed_on (λ e. e.1) (λ e. e.0) D home f (itself home f) (in_callee (length callee)) (numbered in_callee 0 callee) reply
      (map word ws.items) (state_in value word memory x es new) (map word ws.items))

  -- the caller's trace comes to this machine with this call made, or the call has no rule: where the callee's run has
  -- come back with these values noted, these items and this memory
  abbrev pub TakesBack : Function → List W → List V → List (Item V W) → M → (old new : Machine v w m) → Option (CallMade v w m) → Type 0
  TakesBack f words noted back at_return old new call =
      (home : List ℕ) (callee : List Event) (arguments : List V) (reply : Option V) (es : List Event) (end : CalleeState V W M) →
      let x = caller_setting D home f callee arguments reply in
      end.memory ≡ at_return →
      taken_back (λ e. e.1) (λ e. e.0) D home f (itself home f) words (state_in value word memory (x None) es old) (noted, back, end)
      ≡ if_found call (λ c. went (state_in value word memory (x (Some (call_of value word memory c))) es new))

  -- the same, where these words came back and are of their types
  abbrev pub IsAnswered : List W → List V → List W → M → (old new : Machine v w m) → CallMade v w m → Type 0
  IsAnswered words noted back at_return old new call =
      (home : List ℕ) (f : Function) (callee : List Event) (arguments : List V) (reply : Option V) (es : List Event) →
      let x = caller_setting D home f callee arguments reply in
      answered (λ e. e.1) (λ e. e.0) D home f (itself home f) words noted back at_return (state_in value word memory (x None) es old)
      ≡ state_in value word memory (x (Some (call_of value word memory call))) es new
