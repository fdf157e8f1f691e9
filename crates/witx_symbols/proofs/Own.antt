-- The traces of a function that can be lowered, and whose types fit their tags, raise no doubt.
use Rattle.std.proofs.Common.{◌≡◌, ℕ, ◌+◌, ◌≤◌, Bool, true, false, cond, not, T, refl, sym, ap, ◌∙◌, subst, arith, Option, Some, None, option_map, option_to_list, is_none, List, [], ◌∷◌, ◌++◌, length, nat_le, position}
use Rattle.std.specs.List.{position_from}
use Rattle.std.proofs.lemmas.Iterator.Adapters.{position_from-zero}
use Rattle.witx_ast.specs.declared.function.Abi.{Abi}
use Rattle.witx_ast.specs.Tree.{Tree, Arms, Arm, arm_list}
use Rattle.witx_ast.specs.Plain.{plain, plain_arms}
use Rattle.witx_ast.specs.Tags.{fits}
use Rattle.witx_ast.specs.Words.{is_expected}
use Rattle.witx_machine.specs.Events.{Event}
use Rattle.witx_machine.specs.Functions.{Function, has_payload, ok_of, err_of, result_cases}
use Rattle.witx_machine.specs.Signature.{return_pointers}
use Rattle.witx_machine.specs.Lowerable.{lowerable, unlowerable, can_be_result, can_return, is_narrow}
use Rattle.witx_machine.specs.Traces.{caller_events, callee_events}
use Rattle.witx_machine.specs.Machine.{Domain, went, Item, word_item, value_item}
use Rattle.witx_machine.specs.Run.{Outcome, argument_items, reply_items, itself, run}
use Rattle.witx_machine.specs.Positions.{Spot, in_caller, in_callee, numbered, spotted_run}
use Rattle.witx_symbols.specs.declared.surface.Doubt.{Doubt}
use Rattle.witx_symbols.specs.Symbols.{argument, reply, same_symbols}
use Rattle.witx_symbols.specs.Symbolic.{SymbolMemory, SymbolWorld, symbols, reply_from, payload_from, world_if, unknown_world, known_world, worlds_by, worlds_of}
use Rattle.witx_symbols.specs.Verdicts.{are_values, arguments_from, unless, or_else, judged, doubt_in, first_doubt, misfit_place, doubt}
use Rattle.witx_machine.proofs.Scalars.{left_true, right_true}
use Rattle.witx_machine.proofs.Params.{AreArguments}
use Rattle.witx_machine.proofs.Whole.{IsReply}
use Rattle.witx_machine.proofs.All.{all_fit, params_lower, result_lowers, traces_run_well}
use Rattle.witx_machine.proofs.Simulation.{Each, Simulates, Backwards, Items}
use Rattle.witx_machine.proofs.RunSimulation.{Outcomes}
use Rattle.witx_machine.proofs.Following.{Named≡, Same, Any, self, items_self, each_self, follows_self, each_same, run_follows}
use Rattle.witx_symbols.proofs.SymbolLaws.{FitsUnder, symbols_refl, from_is, symbol_laws}
use Rattle.witx_symbols.proofs.Denotes.{some_same}
use Rattle.witx_symbols.proofs.Tests.{passes_test, returns_test}

-- a run is the same where the places of its events are known
module _ {V W M : Type 0} (D : Domain V W M) where
  abbrev Known : M → Type 0
  Known m = Unit {0}

  events_same : (spot : ℕ → Spot) (i : ℕ) (es : List Event) → Each (λ (e : Event) (p : Spot × Event). e ≡ p.1) es (numbered spot i es)
  events_same spot i [] = tt
  events_same spot i (e ∷ es) = (refl, events_same spot (i + 1) es)

  pub spotted_also : (m : List ℕ) (f : Function) (caller callee : List Event) (arguments : List V) (given_back : Option V) (a : M) (o : Outcome V W M) → run {P = Unit {0}} (λ e. e) (λ e. tt) D m f tt tt caller callee arguments given_back a ≡ went o → spotted_run D m f caller callee arguments given_back a ≡ went o
  spotted_also m f caller callee arguments given_back a o ran =
      let H : Simulates D D ◌≡◌ (Named≡ D Known) ◌≡◌ (Same D Known a) (Any D Known) = self D Known a (λ t m r e g. tt) (λ t v m r e g. tt) (λ t w v m n e g. tt) in
      let back : Backwards D D ◌≡◌ (Named≡ D Known) ◌≡◌ (Same D Known a) (Any D Known) = record { give = λ t m r e g. tt; put = λ t v m r e g. tt; set = λ t x v m n e g. tt } in
      let r = run_follows D D ◌≡◌ (Named≡ D Known) ◌≡◌ (Same D Known a) (Any D Known) H back {P = Unit {0}} {P' = Spot} (λ e. e) (λ e. e.1) (λ e. tt) (λ e. e.0) m f (itself m f) tt tt (in_caller (length caller)) (in_callee (length callee)) caller callee (numbered in_caller 0 caller) (numbered in_callee 0 callee) arguments arguments given_back given_back a a
      (events_same in_caller 0 caller) (events_same in_callee 0 callee) (each_self _ (items_self D Known a) (argument_items f.params arguments)) (follows_self _ (each_self _ (items_self D Known a)) (reply_items f.results given_back)) (refl, λ g. g) o ran tt in
      r.1 ∙ ap went (sym (outcome_same a o r.0 r.2))
    where
      items_same : (xs ys : List (Item V W)) → Each (Items D D ◌≡◌ (Named≡ D Known) ◌≡◌ (Same D Known a) (Any D Known)) xs ys → xs ≡ ys
      items_same [] [] h = refl
      items_same [] (y ∷ ys) h = absurd h
      items_same (x ∷ xs) [] h = absurd h
      items_same (word_item w ∷ xs) (word_item w' ∷ ys) h = let r = items_same xs ys h.1 in λ i. word_item (h.0 i) ∷ r i
      items_same (value_item v t ∷ xs) (value_item v' t' ∷ ys) h = let r = items_same xs ys h.1 in λ i. value_item (h.0.0 i) (h.0.1 i) ∷ r i
      items_same (word_item w ∷ xs) (value_item v t ∷ ys) h = absurd h.0
      items_same (value_item v t ∷ xs) (word_item w ∷ ys) h = absurd h.0

      outcome_same : (a : M) (o o' : Outcome V W M) → Outcomes D D ◌≡◌ (Named≡ D Known) ◌≡◌ (Same D Known a) (Any D Known) o o' → o ≡ o'
      outcome_same a o o' h =
          let words = each_same o.call.words o'.call.words h.call.words in
          let noted = each_same o.call.noted o'.call.noted h.call.noted in
          let callee_words = each_same o.call.callee_words o'.call.callee_words h.call.callee_words in
          let back = items_same o.back o'.back h.back in
          λ i. record { call = record { words = words i; at_call = h.call.at_call.0 i; noted = noted i; callee_words = callee_words i; at_return = h.call.at_return.0 i }; back = back i; memory = h.memory.0 i }

none_some : {A : Type 0} {x : A} → None ≡ Some x → ⊥
none_some e = cc

unless_true : (b : Bool) (d : Doubt) (rest : Option Doubt) → T b → unless b d rest ≡ rest
unless_true true d rest h = refl
unless_true false d rest h = absurd h

module _ (w : SymbolWorld) where
  arguments_are : (i : ℕ) (ts : List Tree) → AreArguments (symbol_laws w) ts (arguments_from i ts)
  unfolding symbol_laws
  arguments_are i [] = tt
  arguments_are i (t ∷ ts) = (from_is (plain t) (argument i), arguments_are (i + 1) ts)

  -- in one world
  no_doubt_in : (m : List ℕ) (f : Function) → T (lowerable f) → T (all_fit f.params) → T (all_fit f.results) → IsReply (symbol_laws w) f.abi f.results (reply_from f.results) → doubt_in w m f (caller_events m f) (callee_events m f) ≡ None
  unfolding symbol_laws
  no_doubt_in m f low fit fit' is =
      let caller = caller_events m f in
      let callee = callee_events m f in
      let args = arguments_from 0 f.params in
      let whole = reply_from f.results in
      let memory : SymbolMemory = record { made = []; left = length caller + length callee } in
      let room : length caller + length callee ≤ length caller + length callee = omega arith in
      let r = traces_run_well (symbol_laws w) m f low fit fit' args whole memory (arguments_are 0 f.params) is room in
      let o = r.0 in
      let e = r.2 in
      ap (judged w f args whole) (spotted_also (symbols w) m f caller callee args whole memory o r.1)
      ∙ unless_true _ _ _ (passes_test w o.call.at_call (return_pointers f) f.params args o.call.words e.passes)
      ∙ unless_true _ _ _ (returns_test w f.abi f.results whole o e.gives_back)
      ∙ unless_true _ _ _ (subst (λ vs. T (same_symbols vs args)) (some_same e.noted) (symbols_refl args))
      ∙ unless_true _ _ _ (subst (λ vs. T (are_values vs (option_to_list whole))) (sym e.back) (symbols_refl (option_to_list whole)))

  reply_world : (abi : Abi) (t : Tree) → w.whole ≡ reply_from (t ∷ []) → FitsUnder abi w t → IsReply (symbol_laws w) abi (t ∷ []) (reply_from (t ∷ []))
  unfolding symbol_laws
  reply_world abi t whole fits = (whole, from_is (plain t) reply, fits)

  nothing_world : (abi : Abi) → IsReply (symbol_laws w) abi [] None
  unfolding symbol_laws
  nothing_world abi = tt

-- a result that can be lowered under Preview1 has the two cases
expected_cases : (b : Bool) (t : Tree) (cs : Arms) → T (can_return b t) → result_cases t ≡ Some cs → T (is_expected (arm_list cs))
expected_cases b (Tree.named n t d) cs h e = expected_cases true t cs h e
expected_cases b (Tree.variant_of r ds) cs h e = go (has_payload (plain_arms ds)) e
  where
    go : (x : Bool) → cond x (Some ds) None ≡ Some cs → T (is_expected (arm_list cs))
    go false e = absurd (none_some e)
    go true e = subst (λ cs. T (is_expected (arm_list cs))) (some_same e) (left_true (is_expected (arm_list ds)) _ (right_true (is_narrow r) _ h))
expected_cases b (Tree.builtin k) cs h e = absurd (none_some e)
expected_cases b Tree.handle cs h e = absurd (none_some e)
expected_cases b (Tree.pointer_to t) cs h e = absurd (none_some e)
expected_cases b (Tree.const_pointer_to t) cs h e = absurd (none_some e)
expected_cases b (Tree.list_of t) cs h e = absurd (none_some e)
expected_cases b (Tree.record_of k ms) cs h e = absurd (none_some e)

two_cases : (cs : List Arm) → T (is_expected cs) → length cs ≡ 2
two_cases [] h = absurd h
two_cases (a ∷ []) h = absurd h
two_cases (a ∷ b ∷ []) h = refl
two_cases (a ∷ b ∷ c ∷ cs) h = absurd h

no_place : {A B : Type 0} (f : A → B) (o : Option A) → T (is_none o) → option_map f o ≡ None
no_place f None h = refl
no_place f (Some x) h = absurd h

no_misfit_from : (i : ℕ) (ts : List Tree) → T (all_fit ts) → position_from (λ t. not (fits (plain t))) i ts ≡ None
no_misfit_from i [] h = refl
no_misfit_from i (t ∷ ts) h = here (fits (plain t)) (left_true (fits (plain t)) _ h) (no_misfit_from (i + 1) ts (right_true (fits (plain t)) _ h))
  where
    here : (b : Bool) → T b → position_from (λ t. not (fits (plain t))) (i + 1) ts ≡ None → cond (not b) (Some i) (position_from (λ t. not (fits (plain t))) (i + 1) ts) ≡ None
    here true h e = e
    here false h e = absurd h

no_misfit_at : (ts : List Tree) → T (all_fit ts) → position (λ t. not (fits (plain t))) ts ≡ None
no_misfit_at ts h = position_from-zero (λ t. not (fits (plain t))) ts ∙ no_misfit_from 0 ts h

nothing_misfits : (a b : Option ℕ) → a ≡ None → b ≡ None → misfit_place a b ≡ None
nothing_misfits None None e h = refl
nothing_misfits None (Some i) e h = absurd (none_some (sym h))
nothing_misfits (Some i) b e h = absurd (none_some (sym e))

or_both : (d e : Option Doubt) → d ≡ None → e ≡ None → or_else d e ≡ None
or_both None e h k = k
or_both (Some d) e h k = absurd (none_some (sym h))

module _ (m name : List ℕ) (abi : Abi) (params : List Tree) where
  abbrev g : List Tree → Function
  g results = record { abi = abi; name = name; params = params; results = results }

  abbrev InAll : List Tree → List SymbolWorld → Type 0
  InAll results ws = first_doubt ws m (g results) (caller_events m (g results)) (callee_events m (g results)) ≡ None

  in_one : (results : List Tree) (w : SymbolWorld) (ws : List SymbolWorld) → T (lowerable (g results)) → T (all_fit params) → T (all_fit results) → IsReply (symbol_laws w) abi results (reply_from results) → InAll results ws → InAll results (w ∷ ws)
  in_one results w ws low fit fit' is rest = or_both _ _ (no_doubt_in w m (g results) low fit fit' is) rest

  in_some : (results : List Tree) (b : Bool) (w : SymbolWorld) (ws : List SymbolWorld) → T (lowerable (g results)) → T (all_fit params) → T (all_fit results) → IsReply (symbol_laws w) abi results (reply_from results) → InAll results ws → InAll results (world_if b w ++ ws)
  in_some results true w ws low fit fit' is rest = in_one results w ws low fit fit' is rest
  in_some results false w ws low fit fit' is rest = rest

-- in all worlds of a result: under Preview1 there are two where it has a payload, under Stored any number
module _ (m name : List ℕ) (params : List Tree) (t : Tree) where
  at_stored : (c : Option Arms) → T (lowerable (g m name Abi.Stored params (t ∷ []))) → T (all_fit params) → T (all_fit (t ∷ [])) → InAll m name Abi.Stored params (t ∷ []) (worlds_by Abi.Stored (reply_from (t ∷ [])) c)
  at_stored c low fit fit' = go c
    where
      is : (w : SymbolWorld) → w.whole ≡ reply_from (t ∷ []) → IsReply (symbol_laws w) Abi.Stored (t ∷ []) (reply_from (t ∷ []))
      is w whole = reply_world w Abi.Stored t whole tt

      last : (b : Bool) (w : SymbolWorld) → w.whole ≡ reply_from (t ∷ []) → InAll m name Abi.Stored params (t ∷ []) (world_if b w)
      last true w whole = in_one m name Abi.Stored params (t ∷ []) w [] low fit fit' (is w whole) refl
      last false w whole = refl

      go : (c : Option Arms) → InAll m name Abi.Stored params (t ∷ []) (worlds_by Abi.Stored (reply_from (t ∷ [])) c)
      go None = in_one m name Abi.Stored params (t ∷ []) (unknown_world Abi.Stored (reply_from (t ∷ []))) [] low fit fit' (is (unknown_world Abi.Stored (reply_from (t ∷ []))) refl) refl
      go (Some cs) =
          let second = known_world Abi.Stored (reply_from (t ∷ [])) cs true in
          let third = unknown_world Abi.Stored (reply_from (t ∷ [])) in
          let has_third = nat_le 3 (length (arm_list cs)) in
          let has_second = nat_le 2 (length (arm_list cs)) in
          in_one m name Abi.Stored params (t ∷ []) (known_world Abi.Stored (reply_from (t ∷ [])) cs false) (world_if has_second second ++ world_if has_third third) low fit fit' (is (known_world Abi.Stored (reply_from (t ∷ [])) cs false) refl)
          (in_some m name Abi.Stored params (t ∷ []) has_second second (world_if has_third third) low fit fit' (is second refl) (last has_third third refl))

  at_preview1 : (c : Option Arms) → result_cases t ≡ c → T (lowerable (g m name Abi.Preview1 params (t ∷ []))) → T (all_fit params) → T (all_fit (t ∷ [])) → InAll m name Abi.Preview1 params (t ∷ []) (worlds_by Abi.Preview1 (reply_from (t ∷ [])) c)
  at_preview1 None e low fit fit' =
      in_one m name Abi.Preview1 params (t ∷ []) (unknown_world Abi.Preview1 (reply_from (t ∷ []))) [] low fit fit'
      (reply_world (unknown_world Abi.Preview1 (reply_from (t ∷ []))) Abi.Preview1 t refl (refl, λ cs i. absurd (none_some (sym e ∙ i)))) refl
  at_preview1 (Some cs) e low fit fit' =
      let can : T (can_be_result Abi.Preview1 t) = result_lowers Abi.Preview1 t (params_lower params _ low).1 in
      let two = two_cases (arm_list cs) (expected_cases false t cs can e) in
      let o = reply_from (t ∷ []) in
      let ok = known_world Abi.Preview1 o cs false in
      let err = known_world Abi.Preview1 o cs true in
      let is_ok = reply_world ok Abi.Preview1 t refl (refl, λ cs' i. (false, refl, ap (λ c. payload_from (ok_of c)) (some_same (sym e ∙ i)))) in
      let is_err = reply_world err Abi.Preview1 t refl (refl, λ cs' i. (true, refl, ap (λ c. payload_from (err_of c)) (some_same (sym e ∙ i)))) in
      in_one m name Abi.Preview1 params (t ∷ []) ok (world_if (nat_le 2 (length (arm_list cs))) err ++ world_if (nat_le 3 (length (arm_list cs))) (unknown_world Abi.Preview1 o)) low fit fit' is_ok
      (subst (λ n. InAll m name Abi.Preview1 params (t ∷ []) (world_if (nat_le 2 n) err ++ world_if (nat_le 3 n) (unknown_world Abi.Preview1 o))) (sym two)
      (in_one m name Abi.Preview1 params (t ∷ []) err [] low fit fit' is_err refl))

in_worlds : (m name : List ℕ) (abi : Abi) (params results : List Tree) → T (lowerable (g m name abi params results)) → T (all_fit params) → T (all_fit results) → InAll m name abi params results (worlds_of abi results)
in_worlds m name abi params [] low fit fit' = in_one m name abi params [] (unknown_world abi None) [] low fit fit' (nothing_world (unknown_world abi None) abi) refl
in_worlds m name Abi.Preview1 params (t ∷ []) low fit fit' = at_preview1 m name params t (result_cases t) refl low fit fit'
in_worlds m name Abi.Stored params (t ∷ []) low fit fit' = at_stored m name params t (result_cases t) low fit fit'
in_worlds m name abi params (t ∷ u ∷ ts) low fit fit' = absurd (params_lower params _ low).1

no_doubt : (m name : List ℕ) (abi : Abi) (params results : List Tree) → T (lowerable (g m name abi params results)) → T (all_fit params) → T (all_fit results) → doubt m (g m name abi params results) (caller_events m (g m name abi params results)) (callee_events m (g m name abi params results)) ≡ None
no_doubt m name abi params results low fit fit' =
    or_both _ _ (no_place Doubt.Function (unlowerable (g m name abi params results)) low)
    (or_both _ _ (ap (option_map Doubt.Function) (nothing_misfits _ _ (no_misfit_at params fit) (no_misfit_at results fit')))
    (in_worlds m name abi params results low fit fit'))

-- THE LAW
pub own_raise_no_doubt : (m : List ℕ) (f : Function) → T (lowerable f) → T (all_fit f.params) → T (all_fit f.results) → doubt m f (caller_events m f) (callee_events m f) ≡ None
own_raise_no_doubt m f low fit fit' = no_doubt m f.name f.abi f.params f.results low fit fit'
