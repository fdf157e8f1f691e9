-- The runs of the two traces, as the program makes them.
use Rattle.std.proofs.Common.{◌≡◌, ℕ, suc, ◌+◌, true, false, is_some, refl, sym, ap, ◌∙◌, subst, List, [], ◌∷◌, map, length, Option, Some, None, option_map}
use Rattle.std.specs.Prelude.{Result, IfOk, Ok, Err}
use Rattle.std.specs.Global.{Vec}
use Rattle.witx_base.specs.declared.memory.OutOfMemory.{OutOfMemory}
use Rattle.witx_ast.specs.Tree.{Tree}
use Rattle.witx_ast.specs.declared.types.TypeRef.{TypeRef}
use Rattle.witx_ast.specs.Views.{tree_of}
use Rattle.witx_machine.specs.declared.surface.WasmType.{WasmType}
use Rattle.witx_machine.specs.Events.{Event}
use Rattle.witx_machine.specs.Functions.{Function}
use Rattle.witx_machine.specs.Machine.{Domain, Tried, went, no_rule, stuck_at, goes_on, word_item, ended, outside, runs_within}
use Rattle.witx_machine.specs.Rows.{call_wasm, call_interface}
use Rattle.witx_machine.specs.Positions.{Spot, in_caller, in_callee, numbered, spotted_run}
use Rattle.witx_machine.specs.Run.{Call, argument_items, start, itself, taken_back}
use Rattle.witx_instructions.specs.Views.{called, event_of}
use Rattle.witx_instructions.proofs.Results.{length-map}
use Rattle.witx_run.specs.CallViews.{Replies, HandsOn, TakesBack}
use Rattle.witx_run.specs.MachineViews.{Noted, Numbered, Setting, part, spot_in, inside_of, state_in}
use Rattle.witx_run.specs.OutcomeViews.{call_of, run_of}
use Rattle.witx_run.specs.RunEnds.{CallsNoMore, CalleeComes, CalleeEnds, CallerComes, EndsAs, HandedOn, IsEndWith, IsRunWith, TakenUp, callee_run, finished, outcome_from}
use Rattle.witx_run.specs.Sides.{callee_setting, caller_setting}
use Rattle.witx_run.specs.Stops.{interface_at, interface_row, stuck_event, wasm_at, wasm_row}
use Rattle.witx_run.specs.Turns.{HaltsAt, Known, StateIn, deeper, script_events, frames_of, run_start, stopped, whole, whole_at, whole_behind}
use Rattle.witx_run.specs.Views.{items_of}
use Rattle.witx_run.specs.declared.outcome.CallMade as declared_call
use Rattle.witx_run.specs.declared.item.Item as declared_item
use Rattle.witx_run.specs.declared.naming.CallRow.{CallRow}
use Rattle.witx_run.specs.declared.machine.Machine as declared_machine
use Rattle.witx_run.specs.declared.outcome.Run as declared_run
use Rattle.witx_run.specs.declared.outcome.Run.TheVariants as run
use Rattle.witx_run.specs.declared.progress.Progress as declared_progress
use Rattle.witx_run.specs.declared.progress.Stop as declared_stop
use Rattle.witx_run.specs.declared.progress.Stop.TheVariants as stop
use Rattle.witx_run.specs.declared.callee.Returned as declared_returned
use Rattle.witx_run.specs.declared.side.End as declared_end
use Rattle.witx_run.specs.declared.side.End.TheVariants as end
use Rattle.witx_run.specs.declared.callee.CalleeEnd as declared_callee
use Rattle.witx_run.specs.declared.callee.CalleeEnd.TheVariants as callee_end
use Rattle.witx_run.specs.declared.script.Script as declared_script
use Rattle.witx_run.proofs.Resuming.{no_way, resume_stuck}

none-some : {A : Type 0} {x : A} → None ≡ Some x → ⊥
none-some e = cc

some-same : {A : Type 0} {x y : A} → Some x ≡ Some y → x ≡ y
some-same e = cc

-- the call in front of which a run has halted
pub interface-found : (s : declared_stop.Stop) (call : CallRow TypeRef) → Some call ≡ interface_at s → s ≡ stop.Interface call.owner call.name call.params call.results
interface-found (stop.Interface m n ps rs) call e = sym (ap (λ (c : CallRow TypeRef). stop.Interface c.owner c.name c.params c.results) (some-same e))
interface-found (stop.Wasm m n ps rs) call e = absurd (none-some (sym e))
interface-found (stop.Stuck i) call e = absurd (none-some (sym e))
interface-found stop.Over call e = absurd (none-some (sym e))

pub wasm-found : (s : declared_stop.Stop) (call : CallRow WasmType) → Some call ≡ wasm_at s → s ≡ stop.Wasm call.owner call.name call.params call.results
wasm-found (stop.Wasm m n ps rs) call e = sym (ap (λ (c : CallRow WasmType). stop.Wasm c.owner c.name c.params c.results) (some-same e))
wasm-found (stop.Interface m n ps rs) call e = absurd (none-some (sym e))
wasm-found (stop.Stuck i) call e = absurd (none-some (sym e))
wasm-found stop.Over call e = absurd (none-some (sym e))

numbered-long : (spot : ℕ → Spot) (i : ℕ) (es : List Event) → length (numbered spot i es) ≡ length es
numbered-long spot i [] = refl
numbered-long spot i (e ∷ es) = ap suc (numbered-long spot (i + 1) es)

module _ {pv pw pm V W M : Type 0} (D : Domain V W M) (value : pv → V) (word : pw → W) (memory : pm → M) where
  -- an event that has no rule is where the trace is stuck, and where something that it ran is stuck so is the trace
  pub behind-none : (x : Setting V W M) (es : List Event) (p : declared_progress.Progress pv pw pm) → whole_behind D value word memory x es p no_rule ≡ stuck_at (spot_in x.trace p.at)
  behind-none x es p =
      no_way (λ (e : Numbered). e.1) (λ (e : Numbered). e.0) D x.side (deeper es p.frames.items) (frames_of value word (spot_in x.trace) es p.frames.items) (inside_of value word p.inside) (spot_in x.trace p.at) (part (spot_in x.trace) es (suc p.at) p.end)

  pub behind-stuck : (x : Setting V W M) (es : List Event) (p : declared_progress.Progress pv pw pm) (q : Spot) → whole_behind D value word memory x es p (stuck_at q) ≡ stuck_at q
  behind-stuck x es p q = resume_stuck (λ (e : Numbered). e.1) (λ (e : Numbered). e.0) D x.side (deeper es p.frames.items) (frames_of value word (spot_in x.trace) es p.frames.items) q

  -- THE END OF A TRACE that has made its call
  module _ (x : Setting V W M) (es : List Event) (c : Noted V W M x.trace) (p : declared_progress.Progress pv pw pm) where
    pub end-wasm : (m n : List ℕ) (ps rs : List WasmType) → CallsNoMore x →
        EndsAs value word memory x c (end.Stuck p.at) (finished x es (whole_at D value word memory x es p (call_wasm m n ps rs)))
    end-wasm m n ps rs over = ap (finished x es) (ap (whole_behind D value word memory x es p) (over.wasm m n ps rs (state_in value word memory x es p.machine) refl) ∙ behind-none x es p)

    pub end-interface : (m n : List ℕ) (ps rs : List Tree) → CallsNoMore x →
        EndsAs value word memory x c (end.Stuck p.at) (finished x es (whole_at D value word memory x es p (call_interface m n ps rs)))
    end-interface m n ps rs over = ap (finished x es) (ap (whole_behind D value word memory x es p) (over.interface m n ps rs (state_in value word memory x es p.machine) refl) ∙ behind-none x es p)

    pub end-stops : (events : ℕ) (s : declared_stop.Stop) (i : ℕ) → (s ≡ stop.Over → ⊥) → i ≡ stuck_event events p.at s → CallsNoMore x →
        EndsAs value word memory x c (end.Stuck i) (finished x es (stopped D value word memory x es p s))
    end-stops events s i apart e over = subst (λ i. EndsAs value word memory x c (end.Stuck i) (finished x es (stopped D value word memory x es p s))) (sym e) (at s apart)
      where
        at : (s : declared_stop.Stop) → (s ≡ stop.Over → ⊥) → EndsAs value word memory x c (end.Stuck (stuck_event events p.at s)) (finished x es (stopped D value word memory x es p s))
        at (stop.Stuck i) apart = refl
        at stop.Over apart = absurd (apart refl)
        at (stop.Wasm m n ps rs) apart = end-wasm m.now n.now ps.now rs.now over
        at (stop.Interface m n ps rs) apart = end-interface m.now n.now (map tree_of ps.now) (map tree_of rs.now) over

-- the trace is over, and has given this back or not
module _ {pv pw pm V W M : Type 0} (value : pv → V) (word : pw → W) (memory : pm → M) where
  pub end-over : (x : Setting V W M) (es : List Event) (c : Noted V W M x.trace) (s : declared_machine.Machine pv pw pm) (n : ℕ) (e : declared_end.End pv pw pm) → x.called ≡ Some c → length es ≡ n →
      EndsAs value word memory x c e (ended (spot_in x.trace n) (Some c) (state_in value word memory x es s).answer (state_in value word memory x es s)) → EndsAs value word memory x c e (finished x es (went (state_in value word memory x es s)))
  end-over x es c s n e k l h =
      subst (EndsAs value word memory x c e) (sym (ap (λ o. ended (spot_in x.trace (length es)) o (state_in value word memory x es s).answer (state_in value word memory x es s)) k ∙ ap (λ n. ended (spot_in x.trace n) (Some c) (state_in value word memory x es s).answer (state_in value word memory x es s)) l)) h

  pub machine-returned : (s : declared_machine.Machine pv pw pm) (n : ℕ) (back : Vec (declared_item.Item pv pw)) → s.answer ≡ Some back → (x : Setting V W M) (es : List Event) (c : Noted V W M x.trace) →
      EndsAs value word memory x c (end.Returned back s.memory) (ended (spot_in x.trace n) (Some c) (state_in value word memory x es s).answer (state_in value word memory x es s))
  machine-returned s n back h x es c = (state_in value word memory x es s, ap (λ o. ended (spot_in x.trace n) (Some c) (option_map (λ (xs : Vec (declared_item.Item pv pw)). items_of value word xs.items) o) (state_in value word memory x es s)) h, refl)

  pub machine-open : (s : declared_machine.Machine pv pw pm) (n : ℕ) → s.answer ≡ None → (x : Setting V W M) (es : List Event) (c : Noted V W M x.trace) →
      EndsAs value word memory x c (end.Stuck n) (ended (spot_in x.trace n) (Some c) (state_in value word memory x es s).answer (state_in value word memory x es s))
  machine-open s n h x es c = ap (λ o. ended (spot_in x.trace n) (Some c) (option_map (λ (xs : Vec (declared_item.Item pv pw)). items_of value word xs.items) o) (state_in value word memory x es s)) h

  pub finishes : (D : Domain V W M) (script : declared_script.Script pv pw) (before : (x : Setting V W M) → List Event → Tried Spot (StateIn x)) (new : declared_progress.Progress pv pw pm) (s : declared_stop.Stop) (e : declared_end.End pv pw pm) →
      HaltsAt D value word memory script true before new s →
      ((x : Setting V W M) (c : Noted V W M x.trace) → Known value word x script true → x.called ≡ Some c → CallsNoMore x → EndsAs value word memory x c e (finished x (script_events script) (stopped D value word memory x (script_events script) new s))) →
      (x : Setting V W M) (c : Noted V W M x.trace) → Known value word x script true → x.called ≡ Some c → CallsNoMore x → EndsAs value word memory x c e (finished x (script_events script) (before x (script_events script)))
  finishes D script before new s e halts ends x c known k over = subst (λ t. EndsAs value word memory x c e (finished x (script_events script) t)) (sym (halts x known)) (ends x c known k over)

-- WHAT THE PROGRAM KNOWS of the two sides
module _ {pv pw V W M : Type 0} (D : Domain V W M) (value : pv → V) (word : pw → W) (home : List ℕ) (reply : Option V) (script : declared_script.Script pv pw) where
  known-callee : (words : List W) (noted : Option (List V)) → items_of value word script.arguments.items ≡ map word_item words →
      Known value word (callee_setting D home (called script.func.now) reply words noted) script (is_some noted)
  known-callee words noted e = record { arguments = sym e; cases = λ ok err. refl; has_called = refl }

  known-caller : (callee : List Event) (arguments : List V) (made : Option (Call V W M)) → items_of value word script.arguments.items ≡ argument_items (called script.func.now).params arguments →
      Known value word (caller_setting D home (called script.func.now) callee arguments reply made) script (is_some made)
  known-caller callee arguments made e = record { arguments = sym e; cases = λ ok err. refl; has_called = refl }

module _ {V W M : Type 0} (D : Domain V W M) (home : List ℕ) (f : Function) (reply : Option V) where
  callee-calls-once : (words : List W) (noted : List V) → CallsNoMore (callee_setting D home f reply words (Some noted))
  callee-calls-once words noted = record {
    wasm = λ m' n' ps rs s e. refl;
    interface = λ m' n' ps rs s e. ap (λ o. (callee_setting D home f reply words (Some noted)).side.on_interface m' n' ps rs (record s { called = o })) e;
  }

  caller-calls-once : (callee : List Event) (arguments : List V) (made : Call V W M) → CallsNoMore (caller_setting D home f callee arguments reply (Some made))
  caller-calls-once callee arguments made = record {
    wasm = λ m' n' ps rs s e. ap (λ o. (caller_setting D home f callee arguments reply (Some made)).side.on_wasm m' n' ps rs (record s { called = o })) e;
    interface = λ m' n' ps rs s e. refl;
  }

-- THE CALLEE'S TRACE
module _ {pv pw pm V W M : Type 0} (D : Domain V W M) (value : pv → V) (word : pw → W) (memory : pm → M) (home : List ℕ) (reply : Option V) (script : declared_script.Script pv pw) where
  abbrev of_script : List W → Option (List V) → Setting V W M
  of_script words noted = callee_setting D home (called script.func.now) reply words noted

  abbrev es : List Event
  es = script_events script

  pub callee-finished : (noted : List V) (before : (x : Setting V W M) → List Event → Tried Spot (StateIn x)) (e : declared_end.End pv pw pm) (r : declared_callee.CalleeEnd pv pw pm) →
      ((x : Setting V W M) (c : Noted V W M x.trace) → Known value word x script true → x.called ≡ Some c → CallsNoMore x → EndsAs value word memory x c e (finished x es (before x es))) →
      IsEndWith value word memory noted e r → CalleeComes D value word memory home reply (Some noted) script before r
  callee-finished noted before e r ends with = λ words k.
      let x = of_script words (Some noted) in
      with D home (called script.func.now) reply words (finished x es (before x es)) (ends x noted (known-callee D value word home reply script words (Some noted) k) refl (callee-calls-once D home (called script.func.now) reply words noted))

  pub callee-halts : (before : (x : Setting V W M) → List Event → Tried Spot (StateIn x)) (new : declared_progress.Progress pv pw pm) (s : declared_stop.Stop) (r : Result (declared_callee.CalleeEnd pv pw pm) OutOfMemory) →
      HaltsAt D value word memory script false before new s → IfOk r (CalleeComes D value word memory home reply None script (λ x es. stopped D value word memory x es new s)) → IfOk r (CalleeComes D value word memory home reply None script before)
  callee-halts before new s (Err e) halts h = h
  callee-halts before new s (Ok r) halts h = λ words k.
      let x = of_script words None in
      subst (λ t. CalleeEnds value word memory r (finished x es t)) (sym (halts x (known-callee D value word home reply script words None k))) (h words k)

  pub callee-stuck : (p : declared_progress.Progress pv pw pm) (i : ℕ) → CalleeComes D value word memory home reply None script (λ x es. stopped D value word memory x es p (stop.Stuck i)) (callee_end.Stuck i)
  callee-stuck p i = λ words k. refl

  pub callee-over : (p : declared_progress.Progress pv pw pm) → CalleeComes D value word memory home reply None script (λ x es. stopped D value word memory x es p stop.Over) (callee_end.Stuck (length script.events.now))
  callee-over p = λ words k. ap (λ n. stuck_at (in_callee n)) (length-map event_of script.events.now)

  pub callee-wasm : (p : declared_progress.Progress pv pw pm) (m' n' : List ℕ) (ps rs : List WasmType) → CalleeComes D value word memory home reply None script (λ x es. whole_at D value word memory x es p (call_wasm m' n' ps rs)) (callee_end.Stuck p.at)
  callee-wasm p m' n' ps rs = λ words k. ap (finished (of_script words None) es) (behind-none D value word memory (of_script words None) es p)

  -- where the run has halted in front of no call of the interface, and where it has halted in front of one
  pub callee-stops : (p : declared_progress.Progress pv pw pm) (s : declared_stop.Stop) (i : ℕ) → None ≡ interface_at s → i ≡ stuck_event (length script.events.now) p.at s →
      CalleeComes D value word memory home reply None script (λ x es. stopped D value word memory x es p s) (callee_end.Stuck i)
  callee-stops p s i none e = subst (λ i. CalleeComes D value word memory home reply None script (λ x es. stopped D value word memory x es p s) (callee_end.Stuck i)) (sym e) (at s none)
    where
      at : (s : declared_stop.Stop) → None ≡ interface_at s → CalleeComes D value word memory home reply None script (λ x es. stopped D value word memory x es p s) (callee_end.Stuck (stuck_event (length script.events.now) p.at s))
      at (stop.Stuck i) none = callee-stuck p i
      at stop.Over none = callee-over p
      at (stop.Wasm m' n' ps rs) none = callee-wasm p m'.now n'.now ps.now rs.now
      at (stop.Interface m' n' ps rs) none = absurd (none-some none)

  pub callee-calls : (p : declared_progress.Progress pv pw pm) (s : declared_stop.Stop) (call : CallRow TypeRef) (r : Result (declared_callee.CalleeEnd pv pw pm) OutOfMemory) → Some call ≡ interface_at s →
      IfOk r (CalleeComes D value word memory home reply None script (λ x es. whole_at D value word memory x es p (interface_row call))) → IfOk r (CalleeComes D value word memory home reply None script (λ x es. stopped D value word memory x es p s))
  callee-calls p s call r e h = subst (λ s. IfOk r (CalleeComes D value word memory home reply None script (λ x es. stopped D value word memory x es p s))) (sym (interface-found s call e)) h

  pub interface-none : (p : declared_progress.Progress pv pw pm) (new : declared_machine.Machine pv pw pm) (m' n' : List ℕ) (ps rs : List Tree) (i : ℕ) → i ≡ p.at →
      Replies D value word memory home (called script.func.now) reply m' n' ps rs p.machine new None →
      CalleeComes D value word memory home reply None script (λ x es. whole_at D value word memory x es p (call_interface m' n' ps rs)) (callee_end.Stuck i)
  interface-none p new m' n' ps rs i at h = λ words k.
      let x = of_script words None in
      ap (finished x es) (ap (whole_behind D value word memory x es p) (h words es) ∙ behind-none D value word memory x es p) ∙ ap (λ i. stuck_at (in_callee i)) (sym at)

  pub interface-some : (p : declared_progress.Progress pv pw pm) (new : declared_machine.Machine pv pw pm) (m' n' : List ℕ) (ps rs : List Tree) (noted : Vec pv) (r : Result (declared_callee.CalleeEnd pv pw pm) OutOfMemory) →
      Replies D value word memory home (called script.func.now) reply m' n' ps rs p.machine new (Some noted) →
      IfOk r (CalleeComes D value word memory home reply (Some (map value noted.items)) script
      (λ x es. whole_behind D value word memory x es (record p { machine = new }) (went (state_in value word memory x es new)))) →
      IfOk r (CalleeComes D value word memory home reply None script (λ x es. whole_at D value word memory x es p (call_interface m' n' ps rs)))
  interface-some p new m' n' ps rs noted (Err e) h k = k
  interface-some p new m' n' ps rs noted (Ok r) h k = λ words l.
      let x = of_script words None in
      subst (λ t. CalleeEnds value word memory r (finished x es (whole_behind D value word memory x es p t))) (sym (h words es)) (k words l)

  pub callee-ran : (evs : List Event) (f : Function) (words : List W) (old : M) (p : declared_progress.Progress pv pw pm) (r : Result (declared_callee.CalleeEnd pv pw pm) OutOfMemory) →
      es ≡ evs → called script.func.now ≡ f → items_of value word script.arguments.items ≡ map word_item words →
      ((D : Domain V W M) (x : Setting V W M) → x.called ≡ None → whole D value word memory x es p ≡ run_start D value word memory x es old) →
      IfOk r (CalleeComes D value word memory home reply None script (λ x es. whole D value word memory x es p)) → IfOk r (λ e. CalleeEnds value word memory e (callee_run D home f evs reply words old))
  callee-ran evs f words old p (Err e) a b c starts h = h
  callee-ran evs f words old p (Ok r) a b c starts h =
      let x = of_script words None in
      subst (λ f. CalleeEnds value word memory r (callee_run D home f evs reply words old)) b
      (subst (λ evs. CalleeEnds value word memory r (callee_run D home (called script.func.now) evs reply words old)) a
      (subst (CalleeEnds value word memory r) (ap (λ k. finished x es (runs_within (λ (e : Numbered). e.1) (λ (e : Numbered). e.0) D x.side (suc k) outside (numbered in_callee 0 es) (start old))) (sym (numbered-long in_callee 0 es)))
      (subst (λ t. CalleeEnds value word memory r (finished x es t)) (starts D x refl) (h words c))))

-- THE CALLER'S TRACE
module _ {pv pw pm V W M : Type 0} (D : Domain V W M) (value : pv → V) (word : pw → W) (memory : pm → M) (home : List ℕ) (callee : List Event) (reply : Option V) (script : declared_script.Script pv pw) where
  abbrev with_script : List V → Option (Call V W M) → Setting V W M
  with_script arguments made = caller_setting D home (called script.func.now) callee arguments reply made

  abbrev own : List Event
  own = script_events script

  pub caller-finished : (made : Call V W M) (before : (x : Setting V W M) → List Event → Tried Spot (StateIn x)) (e : declared_end.End pv pw pm) (r : declared_run.Run pv pw pm) →
      ((x : Setting V W M) (c : Noted V W M x.trace) → Known value word x script true → x.called ≡ Some c → CallsNoMore x → EndsAs value word memory x c e (finished x own (before x own))) →
      IsRunWith value word memory made e r → CallerComes D value word memory home callee reply (Some made) script before r
  caller-finished made before e r ends with = λ arguments k.
      let x = with_script arguments (Some made) in
      with D home (called script.func.now) callee arguments reply (finished x own (before x own)) (ends x made (known-caller D value word home reply script callee arguments (Some made) k) refl (caller-calls-once D home (called script.func.now) reply callee arguments made))

  pub caller-halts : (before : (x : Setting V W M) → List Event → Tried Spot (StateIn x)) (new : declared_progress.Progress pv pw pm) (s : declared_stop.Stop) (r : Result (declared_run.Run pv pw pm) OutOfMemory) →
      HaltsAt D value word memory script false before new s → IfOk r (CallerComes D value word memory home callee reply None script (λ x es. stopped D value word memory x es new s)) → IfOk r (CallerComes D value word memory home callee reply None script before)
  caller-halts before new s (Err e) halts h = h
  caller-halts before new s (Ok r) halts h = λ arguments k.
      let x = with_script arguments None in
      h arguments k ∙ ap (λ t. outcome_from (finished x own t)) (sym (halts x (known-caller D value word home reply script callee arguments None k)))

  pub caller-stuck : (p : declared_progress.Progress pv pw pm) (i : ℕ) → CallerComes D value word memory home callee reply None script (λ x es. stopped D value word memory x es p (stop.Stuck i)) (run.StuckInCaller i)
  caller-stuck p i = λ arguments k. refl

  pub caller-over : (p : declared_progress.Progress pv pw pm) → CallerComes D value word memory home callee reply None script (λ x es. stopped D value word memory x es p stop.Over) (run.StuckInCaller (length script.events.now))
  caller-over p = λ arguments k. sym (ap (λ n. stuck_at (in_caller n)) (length-map event_of script.events.now))

  pub caller-interface : (p : declared_progress.Progress pv pw pm) (m' n' : List ℕ) (ps rs : List Tree) → CallerComes D value word memory home callee reply None script (λ x es. whole_at D value word memory x es p (call_interface m' n' ps rs)) (run.StuckInCaller p.at)
  caller-interface p m' n' ps rs = λ arguments k. sym (ap (λ t. outcome_from (finished (with_script arguments None) own t)) (behind-none D value word memory (with_script arguments None) own p))

  -- where the run has halted in front of no call of WebAssembly, and where it has halted in front of one
  pub caller-stops : (p : declared_progress.Progress pv pw pm) (s : declared_stop.Stop) (i : ℕ) → None ≡ wasm_at s → i ≡ stuck_event (length script.events.now) p.at s →
      CallerComes D value word memory home callee reply None script (λ x es. stopped D value word memory x es p s) (run.StuckInCaller i)
  caller-stops p s i none e = subst (λ i. CallerComes D value word memory home callee reply None script (λ x es. stopped D value word memory x es p s) (run.StuckInCaller i)) (sym e) (at s none)
    where
      at : (s : declared_stop.Stop) → None ≡ wasm_at s → CallerComes D value word memory home callee reply None script (λ x es. stopped D value word memory x es p s) (run.StuckInCaller (stuck_event (length script.events.now) p.at s))
      at (stop.Stuck i) none = caller-stuck p i
      at stop.Over none = caller-over p
      at (stop.Interface m' n' ps rs) none = caller-interface p m'.now n'.now (map tree_of ps.now) (map tree_of rs.now)
      at (stop.Wasm m' n' ps rs) none = absurd (none-some none)

  pub caller-calls : (p : declared_progress.Progress pv pw pm) (s : declared_stop.Stop) (call : CallRow WasmType) (r : Result (declared_run.Run pv pw pm) OutOfMemory) → Some call ≡ wasm_at s →
      IfOk r (CallerComes D value word memory home callee reply None script (λ x es. whole_at D value word memory x es p (wasm_row call))) → IfOk r (CallerComes D value word memory home callee reply None script (λ x es. stopped D value word memory x es p s))
  caller-calls p s call r e h = subst (λ s. IfOk r (CallerComes D value word memory home callee reply None script (λ x es. stopped D value word memory x es p s))) (sym (wasm-found s call e)) h

  pub wasm-none : (p : declared_progress.Progress pv pw pm) (new : declared_machine.Machine pv pw pm) (m' n' : List ℕ) (ps rs : List WasmType) (i : ℕ) → i ≡ p.at →
      HandsOn D value word memory home (called script.func.now) m' n' ps rs p.machine new None →
      CallerComes D value word memory home callee reply None script (λ x es. whole_at D value word memory x es p (call_wasm m' n' ps rs)) (run.StuckInCaller i)
  wasm-none p new m' n' ps rs i at h = λ arguments k.
      let x = with_script arguments None in
      ap (λ i. stuck_at (in_caller i)) at
      ∙ sym (ap (λ t. outcome_from (finished x own t)) (ap (whole_behind D value word memory x own p) (h callee arguments reply own) ∙ behind-none D value word memory x own p))

  pub wasm-some : (p : declared_progress.Progress pv pw pm) (new : declared_machine.Machine pv pw pm) (m' n' : List ℕ) (ps rs : List WasmType) (words : Vec pw) (r : Result (declared_run.Run pv pw pm) OutOfMemory) →
      HandsOn D value word memory home (called script.func.now) m' n' ps rs p.machine new (Some words) →
      IfOk r (HandedOn D value word memory home callee reply script (record p { machine = new }) (map word words.items)) →
      IfOk r (CallerComes D value word memory home callee reply None script (λ x es. whole_at D value word memory x es p (call_wasm m' n' ps rs)))
  wasm-some p new m' n' ps rs words (Err e) h k = k
  wasm-some p new m' n' ps rs words (Ok r) h k = λ arguments l.
      let x = with_script arguments None in
      k arguments l ∙ sym (ap (λ t. outcome_from (finished x own (whole_behind D value word memory x own p t))) (h callee arguments reply own))

  -- the callee's run on the words, from what stands at the addresses
  pub handed-stuck : (p : declared_progress.Progress pv pw pm) (words : List W) (i : ℕ) → CalleeEnds value word memory (callee_end.Stuck i) (callee_run D home (called script.func.now) callee reply words (memory p.machine.memory)) →
      HandedOn D value word memory home callee reply script p words (run.StuckInCallee i)
  handed-stuck p words i h = λ arguments k.
      let x = with_script arguments None in
      sym (ap (λ t. outcome_from (finished x own (whole_behind D value word memory x own p (goes_on t (taken_back (λ (e : Numbered). e.1) (λ (e : Numbered). e.0) D home (called script.func.now) (itself home (called script.func.now)) words (state_in value word memory x own p.machine)))))) h
      ∙ ap (λ t. outcome_from (finished x own t)) (behind-stuck D value word memory x own p (in_callee i)))

  pub handed-returned : (p : declared_progress.Progress pv pw pm) (words : List W) (returned : declared_returned.Returned pv pw pm) (r : Result (declared_run.Run pv pw pm) OutOfMemory) →
      CalleeEnds value word memory (callee_end.Returned returned) (callee_run D home (called script.func.now) callee reply words (memory p.machine.memory)) →
      IfOk r (λ run. (callee : List Event) → TakenUp D value word memory home callee reply script p words returned run) → IfOk r (HandedOn D value word memory home callee reply script p words)
  handed-returned p words returned (Err e) h k = k
  handed-returned p words returned (Ok r) h k = λ arguments l.
      let x = with_script arguments None in
      k callee h.0 h.2 arguments l
      ∙ sym (ap (λ t. outcome_from (finished x own (whole_behind D value word memory x own p (goes_on t (taken_back (λ (e : Numbered). e.1) (λ (e : Numbered). e.0) D home (called script.func.now) (itself home (called script.func.now)) words (state_in value word memory x own p.machine)))))) h.1)

  pub caller-ran : (evs : List Event) (f : Function) (arguments : List V) (old : M) (p : declared_progress.Progress pv pw pm) (r : Result (declared_run.Run pv pw pm) OutOfMemory) →
      own ≡ evs → called script.func.now ≡ f → items_of value word script.arguments.items ≡ argument_items (called script.func.now).params arguments →
      ((D : Domain V W M) (x : Setting V W M) → x.called ≡ None → whole D value word memory x own p ≡ run_start D value word memory x own old) →
      IfOk r (CallerComes D value word memory home callee reply None script (λ x es. whole D value word memory x es p)) → IfOk r (λ run. run_of value word memory run ≡ spotted_run D home f evs callee arguments reply old)
  caller-ran evs f arguments old p (Err e) a b c starts h = h
  caller-ran evs f arguments old p (Ok r) a b c starts h =
      let x = with_script arguments None in
      h arguments c ∙ ap (λ t. outcome_from (finished x own t)) (starts D x refl)
      ∙ ap (λ k. outcome_from (finished x own (runs_within (λ (e : Numbered). e.1) (λ (e : Numbered). e.0) D x.side (suc k) outside (numbered in_caller 0 own) (start old)))) (sym (numbered-long in_caller 0 own))
      ∙ ap (λ evs. spotted_run D home (called script.func.now) evs callee arguments reply old) a
      ∙ ap (λ f. spotted_run D home f evs callee arguments reply old) b

-- the caller takes back what came of the callee's run
module _ {pv pw pm V W M : Type 0} (D : Domain V W M) (value : pv → V) (word : pw → W) (memory : pm → M) (script : declared_script.Script pv pw) (p : declared_progress.Progress pv pw pm)
    (words : List W) (returned : declared_returned.Returned pv pw pm) (new : declared_machine.Machine pv pw pm) where
  abbrev takes_back : Option (declared_call.CallMade pv pw pm) → Type 0
  takes_back call = TakesBack D value word memory (called script.func.now) words (map value returned.noted.items) (items_of value word returned.back.items) (memory returned.memory) p.machine new call

  pub taken-none : (home : List ℕ) (reply : Option V) (i : ℕ) → i ≡ p.at → takes_back None → (callee : List Event) → TakenUp D value word memory home callee reply script p words returned (run.StuckInCaller i)
  taken-none home reply i at h = λ callee last e arguments k.
      let x = caller_setting D home (called script.func.now) callee arguments reply None in
      ap (λ i. stuck_at (in_caller i)) at
      ∙ sym (ap (λ t. outcome_from (finished x (script_events script) (whole_behind D value word memory x (script_events script) p t))) (h home callee arguments reply (script_events script) last e)
      ∙ ap (λ t. outcome_from (finished x (script_events script) t)) (behind-none D value word memory x (script_events script) p))

  pub taken-some : (home : List ℕ) (reply : Option V) (call : declared_call.CallMade pv pw pm) (r : Result (declared_run.Run pv pw pm) OutOfMemory) → takes_back (Some call) →
      IfOk r (λ run. (callee : List Event) → CallerComes D value word memory home callee reply (Some (call_of value word memory call)) script
      (λ x es. whole_behind D value word memory x es (record p { machine = new }) (went (state_in value word memory x es new))) run) →
      IfOk r (λ run. (callee : List Event) → TakenUp D value word memory home callee reply script p words returned run)
  taken-some home reply call (Err e) h k = k
  taken-some home reply call (Ok r) h k = λ callee last e arguments l.
      let x = caller_setting D home (called script.func.now) callee arguments reply None in
      k callee arguments l ∙ sym (ap (λ t. outcome_from (finished x (script_events script) (whole_behind D value word memory x (script_events script) p t))) (h home callee arguments reply (script_events script) last e))
