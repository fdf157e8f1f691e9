-- The two runs together.
use Rattle.std.proofs.Common.{◌≡◌, ℕ, zero, suc, ◌+◌, ◌≤◌, T, refl, sym, ap, ◌∙◌, subst, arith, Option, Some, None, List, [], ◌∷◌, ◌++◌, append_assoc, option_to_list, map, length, length-append, ◌-◌}
use Rattle.witx_ast.specs.declared.function.Abi.{Abi}
use Rattle.witx_ast.specs.Tree.{Tree}
use Rattle.witx_ast.specs.Plain.{plain}
use Rattle.witx_machine.specs.declared.surface.WasmType.{WasmType}
use Rattle.witx_machine.specs.Events.{Step, Event, emit}
use Rattle.witx_machine.specs.Functions.{Function}
use Rattle.witx_machine.specs.Signature.{words_of_params, signature_params, signature_results, return_pointers, param_words}
use Rattle.witx_machine.specs.Traces.{lower_params, make_spaces, lift_results, caller_events, callee_events}
use Rattle.witx_machine.specs.Machine.{Domain, went, outside, word_item, pushed}
use Rattle.witx_machine.specs.Run.{typed, argument_items, Receiver, picked_in_order, Call, Outcome, run_to}
use Rattle.witx_machine.specs.Passage.{Meaning, PassesWords, PointerWords, Returns}
use Rattle.witx_machine.specs.Faithful.{EndsWell}
use Rattle.witx_machine.proofs.Laws.{Laws}
use Rattle.witx_machine.proofs.Runs.{Runs, runs_then}
use Rattle.witx_machine.proofs.Ways.{Ways}
use Rattle.witx_machine.proofs.Params.{PassedAll, passed_all_kept, AreArguments, params_lowered, stand_front, typed_append, pushed_words}
use Rattle.witx_machine.proofs.Callee.{ResultLowered, callee_runs, stand_all, as_items}
use Rattle.witx_machine.proofs.Callee
use Rattle.witx_machine.proofs.Caller.{ResultLifted, ParamsPassed, CalleeRan, caller_runs, values_in_items}
use Rattle.witx_machine.proofs.Caller
use Rattle.witx_machine.proofs.Spaces.{SlotsAt, PointersAt, pointer_words, pointer_types, pointer_count, spaces_made}

-- the traces are long enough for what they take
pub room_for : (m : List ℕ) (f : Function) → 1 + length (return_pointers f) + length f.params ≤ length (caller_events m f)
room_for m f =
    let a = length_of_lower 0 f.params in
    let b = length_of_spaces 0 (return_pointers f) in
    let lp = lower_params 0 f.params in
    let ms = make_spaces 0 (return_pointers f) in
    let rest = emit (Step.CallWasm m f.name (signature_params f) (signature_results f)) ∷ (lift_results f ++ emit (Step.Return (length f.results)) ∷ []) in
    let e1 : length (caller_events m f) ≡ length lp + length (ms ++ rest) = length-append lp (ms ++ rest) in
    let e2 : length (ms ++ rest) ≡ length ms + length rest = length-append ms rest in
    let e3 : length rest ≡ suc (length (lift_results f ++ emit (Step.Return (length f.results)) ∷ [])) = refl in
    omega arith
  where
    length_of_lower : (i : ℕ) (ts : List Tree) → length ts ≤ length (lower_params i ts)
    length_of_lower i [] = omega arith
    length_of_lower i (t ∷ ts) = let h = length_of_lower (i + 1) ts in omega arith

    length_of_spaces : (k : ℕ) (ts : List Tree) → length ts ≤ length (make_spaces k ts)
    length_of_spaces k [] = omega arith
    length_of_spaces k (t ∷ ts) = let h = length_of_spaces (k + 1) ts in omega arith

module _ {V W M : Type 0} {D : Domain V W M} {J : Meaning V W M} (L : Laws D J) where
  abbrev pub IsReply : Abi → List Tree → Option V → Type 0
  IsReply abi [] None = Unit {0}
  IsReply abi (t ∷ []) (Some v) = L.Replies abi t v
  IsReply abi _ _ = ⊥

  -- from any memory with room, these traces run to an end as it should be
  abbrev pub RunWell : List ℕ → Function → Receiver → (List V → Option (List V)) → (caller callee : List Event) → Type 0
  RunWell m f to arranged caller callee =
      (arguments : List V) (reply : Option V) (memory : M) → AreArguments L f.params arguments → IsReply f.abi f.results reply → L.Room (length caller + length callee) memory →
      (o : Outcome V W M) × (run_to {P = Unit {0}} (λ e. e) (λ e. tt) D m f to tt tt caller callee arguments reply memory ≡ went o) × EndsWell D J f arguments (arranged arguments) reply o × L.Keeps memory o.memory

  room_at_least : (k n : ℕ) (m : M) → L.Room (k + n) m → L.Room n m
  room_at_least zero n m r = let e : 0 + n ≡ n = omega arith in subst (λ n. L.Room n m) e r
  room_at_least (suc k) n m r = let e : suc k + n ≡ suc (k + n) = omega arith in room_at_least k n m (L.less_room (k + n) m (subst (λ n. L.Room n m) e r))

  pub passes_words : (m : M) (pointers : List Tree) (ts : List Tree) (ways : Ways ts) (vs : List V) (ws pw : List W) → PassedAll L m ts ways vs ws → PointerWords D J m pointers pw → PassesWords D J m pointers ts vs (ws ++ pw)
  passes_words m pointers [] ways [] ws pw p h = subst (λ ws. PointerWords D J m pointers (ws ++ pw)) (sym p) h
  passes_words m pointers [] ways (v ∷ vs) ws pw p h = absurd p
  passes_words m pointers (t ∷ ts) ways [] ws pw p h = absurd p
  passes_words m pointers (t ∷ ts) ways (v ∷ vs) ws pw p h =
      (p.0, p.1 ++ pw, ap (λ ws. ws ++ pw) p.2 ∙ append_assoc p.0 p.1 pw, p.3.passes, passes_words m pointers ts ways.1 vs p.1 pw p.4 h)

  pub passed_types : (m : M) (ts : List Tree) (ways : Ways ts) (vs : List V) (ws : List W) → PassedAll L m ts ways vs ws → T (typed D (words_of_params ts) ws)
  passed_types m [] ways [] ws p = subst (λ ws. T (typed D [] ws)) (sym p) tt
  passed_types m [] ways (v ∷ vs) ws p = absurd p
  passed_types m (t ∷ ts) ways [] ws p = absurd p
  passed_types m (t ∷ ts) ways (v ∷ vs) ws p =
      subst (λ ws. T (typed D (words_of_params (t ∷ ts)) ws)) (sym p.2) (typed_append D (param_words (plain t)) (words_of_params ts) p.0 p.1 p.3.types (passed_types m ts ways.1 vs p.1 p.4))

  -- what the callee gets: the words in its order, which are those of its own parameters for its own arguments
  pub record Handed (to : Receiver) (ways : Ways to.function.params) (arranged : Option (List V)) (m : M) (ws addresses : List W) : Type 0 where
    pub noted : List V
    pub own : List W
    pub arguments : arranged ≡ Some noted
    pub handed : picked_in_order to.order (ws ++ addresses) ≡ Some (own ++ addresses)
    pub are : AreArguments L to.function.params noted
    pub passed : PassedAll L m to.function.params ways noted own

  -- what the result does, once the parameters are passed: base holds the memory and what was put for the parameters, memory the return pointers too
  pub record ResultPart (m : List ℕ) (f : Function) (to : Receiver) (vs noted : List V) (reply : Option V) (ws own addresses : List W) (slots : List (ℕ × W)) (base memory : M) : Type 0 where
    pub lowered : ResultLowered L to.module_name to.function reply (own ++ addresses) noted (length (callee_events to.module_name to.function)) memory
    pub lifted : (call : Call V W M) → ResultLifted L m f to (callee_events to.module_name to.function) vs reply (length (caller_events m f)) slots lowered.results call lowered.after
    pub keeps : L.Keeps base lowered.after
    pub returns : (o : Outcome V W M) → o.call.at_return ≡ lowered.after → o.call.callee_words ≡ lowered.results → o.call.words ≡ ws ++ addresses → Returns D J f reply o

  -- what stands when the result's part begins
  pub record Before (f : Function) (to : Receiver) (own addresses : List W) (slots : List (ℕ × W)) (base memory : M) : Type 0 where
    pub found : SlotsAt slots 0 addresses
    pub pointers : PointersAt L base memory (return_pointers f) addresses
    pub keeps : L.Keeps base memory
    pub types : T (typed D (words_of_params to.function.params) own)
    pub room : L.Room 1 memory

  module _ (m : List ℕ) (f : Function) (to : Receiver) (ways : Ways f.params) (own_ways : Ways to.function.params) where
    abbrev callee : List Event
    callee = callee_events to.module_name to.function

    -- parameters and return pointers are in place
    record Placed (vs : List V) (reply : Option V) (n : ℕ) (before : M) : Type 0 where
      pub ws : List W
      pub first : M
      pub addresses : List W
      pub slots : List (ℕ × W)
      pub after : M
      pub passed : PassedAll L first f.params ways vs ws
      pub keeps : L.Keeps before first
      pub found : SlotsAt slots 0 addresses
      pub pointers : PointersAt L first after (return_pointers f) addresses
      pub keeps_first : L.Keeps first after
      pub room : L.Room 1 after
      pub goes : Runs (Caller.rule L m f to callee vs reply n) (lower_params 0 f.params ++ make_spaces 0 (return_pointers f)) (Caller.early L m f to callee vs reply [] [] before) (Caller.early L m f to callee vs reply slots (pushed (map word_item (ws ++ addresses)) []) after)

    placed : (vs : List V) (reply : Option V) (n : ℕ) (before : M) → AreArguments L f.params vs → L.Room (1 + length (return_pointers f) + length f.params) before → Placed vs reply n before
    placed vs reply n before h room =
        let side = Caller.side L m f to callee vs reply in
        let deep = Caller.deep L m f to callee vs reply n in
        let pointers = return_pointers f in
        let p = params_lowered L side deep outside [] [] None None f.params ways vs 0 (1 + length pointers) [] before h (stand_all (argument_items f.params vs)) room in
        let sp = spaces_made L side deep outside [] None None pointers 1 (pushed (map word_item p.words) []) p.memory p.room in
        record {
          ws = p.words;
          first = p.memory;
          addresses = sp.addresses;
          slots = sp.after_slots;
          after = sp.memory;
          passed = p.passed;
          keeps = p.keeps;
          found = sp.found;
          pointers = sp.pointers;
          keeps_first = sp.keeps;
          room = sp.room;
          goes = subst (λ st. Runs (Caller.rule L m f to callee vs reply n) (lower_params 0 f.params ++ make_spaces 0 pointers) (Caller.early L m f to callee vs reply [] [] before) (Caller.early L m f to callee vs reply sp.after_slots st sp.memory)) (pushed_words p.words sp.addresses []) (runs_then {s' = Caller.early L m f to callee vs reply [] (pushed (map word_item p.words) []) p.memory} p.goes sp.goes);
        }

    -- where the words are handed on as they should be and the result does its part, the traces run well
    pub run_well_by_parts : (arranged : List V → Option (List V)) → signature_results f ≡ signature_results to.function →
        ((base : M) (vs : List V) (ws addresses : List W) → AreArguments L f.params vs → PassedAll L base f.params ways vs ws → length (return_pointers f) ≡ length addresses → Handed to own_ways (arranged vs) base ws addresses) →
        ((vs noted : List V) (reply : Option V) (ws own addresses : List W) (slots : List (ℕ × W)) (base memory : M) → IsReply f.abi f.results reply → Before f to own addresses slots base memory → ResultPart m f to vs noted reply ws own addresses slots base memory) →
        RunWell m f to arranged (caller_events m f) callee
    run_well_by_parts arranged same hand part vs reply before h is_r room =
        let n = 1 + length (return_pointers f) + length f.params in
        let more : length (caller_events m f) + length callee ≡ (length (caller_events m f) + length callee - n) + n = let r = room_for m f in omega arith in
        let p = placed vs reply (length (caller_events m f)) before h (room_at_least (length (caller_events m f) + length callee - n) n before (subst (λ k. L.Room k before) more room)) in
        let d = hand p.first vs p.ws p.addresses h p.passed (pointer_count L p.first p.after (return_pointers f) p.addresses p.pointers) in
        let own_types = passed_types p.first to.function.params own_ways d.noted d.own d.passed in
        let r = part vs d.noted reply p.ws d.own p.addresses p.slots p.first p.after is_r (record { found = p.found; pointers = p.pointers; keeps = p.keeps_first; types = own_types; room = p.room }) in
        let passed = passed_all_kept L p.first p.after f.params ways vs p.ws p.keeps_first p.passed in
        let own_passed = passed_all_kept L p.first p.after to.function.params own_ways d.noted d.own p.keeps_first d.passed in
        let words = p.ws ++ p.addresses in
        let own = d.own ++ p.addresses in
        let stands = stand_front (as_items V own) 0 d.own p.addresses (stand_all (map word_item own)) in
        let ran = callee_runs L to.module_name to.function reply own own_ways d.noted d.own p.after d.are own_passed stands r.lowered in
        let all_types : T (typed D (signature_params f) words) = typed_append D (words_of_params f.params) (map (λ _. WasmType.I32) (return_pointers f)) p.ws p.addresses (passed_types p.first f.params ways vs p.ws p.passed) (pointer_types L p.first p.after (return_pointers f) p.addresses p.pointers) in
        let answer : CalleeRan L m f to callee reply words p.after = record { own = own; handed = d.handed; noted = d.noted; results = r.lowered.results; end = record (Callee.late L to.module_name to.function reply own d.noted [] r.lowered.after) { answer = Some (map word_item r.lowered.results) }; ran = ran; types = subst (λ ts. T (typed D ts r.lowered.results)) (sym same) r.lowered.types } in
        let params : ParamsPassed L m f to callee vs reply (length (caller_events m f)) before = record { words = words; slots = p.slots; after = p.after; types = all_types; goes = p.goes } in
        let call = Caller.call_of L m f to callee vs reply {words = words} {before = p.after} answer in
        let l = r.lifted call in
        let o : Outcome V W M = record { call = call; back = l.items; memory = r.lowered.after } in (
          o,
          caller_runs L m f to callee vs reply before params answer l,
          record {
            passes = passes_words p.after (return_pointers f) f.params ways vs p.ws p.addresses passed (pointer_words L p.first p.after (return_pointers f) p.addresses p.pointers);
            gives_back = r.returns o refl refl refl;
            noted = d.arguments;
            back = values_in_items l.items (option_to_list reply) l.values;
          },
          L.keeps_then before p.first r.lowered.after p.keeps r.keeps,
        )
