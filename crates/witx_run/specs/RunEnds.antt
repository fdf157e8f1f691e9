-- How the runs of the two traces end, as the program has it.
use Rattle.std.specs.Prelude.{◌≡◌, ℕ, List, map, length, Option, Some, None}
use Rattle.witx_ast.specs.Tree.{Tree}
use Rattle.witx_machine.specs.declared.surface.WasmType.{WasmType}
use Rattle.witx_machine.specs.Events.{Event}
use Rattle.witx_machine.specs.Functions.{Function}
use Rattle.witx_machine.specs.Machine.{Domain, Tried, went, no_rule, stuck_at, goes_on, Item, word_item, ended, run_trace}
use Rattle.witx_machine.specs.Positions.{Spot, in_callee, numbered}
use Rattle.witx_machine.specs.Run.{Call, Outcome, argument_items, handed_on, itself, start, taken_back}
use Rattle.witx_instructions.specs.Views.{called}
use Rattle.witx_run.specs.CallViews.{CalleeState, CallerState}
use Rattle.witx_run.specs.MachineViews.{Noted, Setting, spot_in, state_in}
use Rattle.witx_run.specs.OutcomeViews.{run_of}
use Rattle.witx_run.specs.Sides.{callee_setting, caller_setting}
use Rattle.witx_run.specs.Turns.{StateIn, script_events, whole_behind}
use Rattle.witx_run.specs.Views.{items_of}
use Rattle.witx_run.specs.declared.script.Script as declared_script
use Rattle.witx_run.specs.declared.outcome.Run as declared_run
use Rattle.witx_run.specs.declared.progress.Progress as declared_progress
use Rattle.witx_run.specs.declared.callee.Returned as declared_returned
use Rattle.witx_run.specs.declared.side.End as declared_end
use Rattle.witx_run.specs.declared.side.End.TheVariants as end
use Rattle.witx_run.specs.declared.callee.CalleeEnd as declared_callee
use Rattle.witx_run.specs.declared.callee.CalleeEnd.TheVariants as callee

module _ {V W M : Type 0} where
  -- what a trace comes to whose events came to t: it has made its call, and has returned
  abbrev pub finished : (x : Setting V W M) → List Event → Tried Spot (StateIn x) → Tried Spot (Noted V W M x.trace × List (Item V W) × StateIn x)
  finished x es t = goes_on t (λ s. ended (spot_in x.trace (length es)) s.called s.answer s)

  -- what comes of a caller's run
  abbrev pub outcome_from : Tried Spot (Call V W M × List (Item V W) × CallerState V W M) → Tried Spot (Outcome V W M)
  outcome_from t = goes_on t (λ r. went (record { call = r.0; back = r.1; memory = r.2.memory }))

-- no call is made any more
pub record CallsNoMore {V W M : Type 0} (x : Setting V W M) : Type 0 where
  pub wasm : (m n : List ℕ) (ps rs : List WasmType) (s : StateIn x) → s.called ≡ x.called → x.side.on_wasm m n ps rs s ≡ no_rule
  pub interface : (m n : List ℕ) (ps rs : List Tree) (s : StateIn x) → s.called ≡ x.called → x.side.on_interface m n ps rs s ≡ no_rule

-- THE CALLEE'S RUN on these words, from this memory on
abbrev pub callee_run : {V W M : Type 0} → Domain V W M → List ℕ → Function → List Event → Option V → List W → M →
    Tried Spot (List V × List (Item V W) × CalleeState V W M)
callee_run D home f es reply words memory =
    run_trace (λ e. e.1) (λ e. e.0) D (callee_setting D home f reply words None).side (in_callee (length es)) (numbered in_callee 0 es) (start memory)

module _ {v w m V W M : Type 0} (value : v → V) (word : w → W) (memory : m → M) where
  -- a trace whose call has noted this comes to what the program says
  abbrev pub EndsAs : (x : Setting V W M) → Noted V W M x.trace → declared_end.End v w m
      → Tried Spot (Noted V W M x.trace × List (Item V W) × StateIn x) → Type 0
  EndsAs x c (end.Stuck i) t = t ≡ stuck_at (spot_in x.trace i)
  EndsAs x c (end.Returned xs left) t = (s : StateIn x) × (t ≡ went (c, items_of value word xs.items, s)) × (s.memory ≡ memory left)

  -- the same of the callee's trace, whose call is its own
  abbrev pub CalleeEnds : declared_callee.CalleeEnd v w m → Tried Spot (List V × List (Item V W) × CalleeState V W M) → Type 0
  CalleeEnds (callee.Stuck i) t = t ≡ stuck_at (in_callee i)
  CalleeEnds (callee.Returned r) t =
      (s : CalleeState V W M) × (t ≡ went (map value r.noted.items, items_of value word r.back.items, s)) × (s.memory ≡ memory r.memory)

  -- the callee's end, with what was noted at its call
  abbrev pub IsEndWith : List V → declared_end.End v w m → declared_callee.CalleeEnd v w m → Type 0
  IsEndWith noted e r =
      (D : Domain V W M) (home : List ℕ) (f : Function) (reply : Option V) (words : List W) →
      (t : Tried Spot (List V × List (Item V W) × CalleeState V W M)) →
      EndsAs (callee_setting D home f reply words (Some noted)) noted e t → CalleeEnds r t

  -- the caller's end, with what is known of its call
  abbrev pub IsRunWith : Call V W M → declared_end.End v w m → declared_run.Run v w m → Type 0
  IsRunWith made e r =
      (D : Domain V W M) (home : List ℕ) (f : Function) (callee : List Event) (arguments : List V) (reply : Option V) →
      (t : Tried Spot (Call V W M × List (Item V W) × CallerState V W M)) →
      EndsAs (caller_setting D home f callee arguments reply (Some made)) made e t → run_of value word memory r ≡ outcome_from t

module _ {v w m V W M : Type 0} (D : Domain V W M) (value : v → V) (word : w → W) (memory : m → M) where
  -- what the callee's trace comes to, of which so much is run, whatever words it was given, which its script has
  abbrev pub CalleeComes : List ℕ → Option V → Option (List V) → declared_script.Script v w
      → ((x : Setting V W M) → List Event → Tried Spot (StateIn x)) → declared_callee.CalleeEnd v w m → Type 0
  CalleeComes home reply noted script run e =
      (words : List W) → items_of value word script.arguments.items ≡ map word_item words →
      let x = callee_setting D home (called script.func.now) reply words noted in
      CalleeEnds value word memory e (finished x (script_events script) (run x (script_events script)))

  -- what the caller's trace comes to, of which so much is run, whatever arguments it was given
  abbrev pub CallerComes : List ℕ → List Event → Option V → Option (Call V W M) → declared_script.Script v w
      → ((x : Setting V W M) → List Event → Tried Spot (StateIn x)) → declared_run.Run v w m → Type 0
  CallerComes home callee reply made script run r =
      (arguments : List V) → items_of value word script.arguments.items ≡ argument_items (called script.func.now).params arguments →
      let x = caller_setting D home (called script.func.now) callee arguments reply made in
      run_of value word memory r ≡ outcome_from (finished x (script_events script) (run x (script_events script)))

  -- the same, where so much is run, and the event at hand makes this of the machine's state
  abbrev pub CallerGets : List ℕ → List Event → Option V → declared_script.Script v w → declared_progress.Progress v w m
      → (CallerState V W M → Tried Spot (CallerState V W M)) → declared_run.Run v w m → Type 0
  CallerGets home callee reply script p step r =
      (arguments : List V) → items_of value word script.arguments.items ≡ argument_items (called script.func.now).params arguments →
      let x = caller_setting D home (called script.func.now) callee arguments reply None in
      run_of value word memory r ≡ outcome_from (finished x (script_events script)
      (whole_behind D value word memory x (script_events script) p (step (state_in value word memory x (script_events script) p.machine))))

  -- the callee's run on the words, and what the caller takes back of it
  abbrev pub HandedOn : List ℕ → List Event → Option V → declared_script.Script v w → declared_progress.Progress v w m
      → List W → declared_run.Run v w m → Type 0
  HandedOn home callee reply script p words r =
      CallerGets home callee reply script p
      (λ s. handed_on (λ e. e.1) (λ e. e.0) D home (called script.func.now) (itself home (called script.func.now))
      (in_callee (length callee)) (numbered in_callee 0 callee) reply words s words) r

  abbrev pub TakenUp : List ℕ → List Event → Option V → declared_script.Script v w → declared_progress.Progress v w m
      → List W → declared_returned.Returned v w m → declared_run.Run v w m → Type 0
  TakenUp home callee reply script p words returned r =
      (end : CalleeState V W M) → end.memory ≡ memory returned.memory →
      CallerGets home callee reply script p
      (λ s. taken_back (λ e. e.1) (λ e. e.0) D home (called script.func.now) (itself home (called script.func.now)) words s
      (map value returned.noted.items, items_of value word returned.back.items, end)) r
