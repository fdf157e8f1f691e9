-- A yes implies Faithful, for the very traces and function.
use Rattle.std.proofs.Common.{◌≡◌, ℕ, zero, suc, ◌+◌, ◌<◌, Bool, true, false, cond, not, T, refl, sym, ap, ◌∙◌, subst, arith, Option, Some, None, option_map, option_to_list, option_and_then, List, [], ◌∷◌, ◌++◌, length, slice_get, drop, nat_eq, nat_le, position}
use Rattle.std.specs.List.{position_from}
use Rattle.std.proofs.lemmas.Iterator.Adapters.{position_from-zero}
use Rattle.witx_ast.specs.declared.function.Abi.{Abi}
use Rattle.witx_ast.specs.Tree.{Tree, Arms, arm_list}
use Rattle.witx_ast.specs.Plain.{Plain, plain, plain_arms}
use Rattle.witx_ast.specs.Values.{Value}
use Rattle.witx_ast.specs.ValueTests.{is_value}
use Rattle.witx_ast.specs.Tags.{fits, arms_fit, node_fits}
use Rattle.witx_machine.specs.declared.surface.Place.{Place}
use Rattle.witx_machine.specs.Words.{Word}
use Rattle.witx_machine.specs.Events.{Event}
use Rattle.witx_machine.specs.Functions.{Function, ok_of, err_of, result_cases}
use Rattle.witx_machine.specs.Signature.{return_pointers}
use Rattle.witx_machine.specs.Lowerable.{unlowerable}
use Rattle.witx_machine.specs.Machine.{Tried, went, no_rule, stuck_at}
use Rattle.witx_machine.specs.Run.{Outcome, values_in}
use Rattle.witx_machine.specs.Cells.{Cell, Cells, Memory, get, cells, result_value, run_cells, outcome}
use Rattle.witx_machine.specs.Passage.{ReturnsOf}
use Rattle.witx_machine.specs.Faithful.{EndsWell, Faithful, cell_meaning, are_arguments, is_reply, zero_under, zero_in, zero_by, zero_of, is_zero, direct_words, AreFree, AreOther}
use Rattle.witx_machine.specs.Positions.{Spot, in_caller, in_callee}
use Rattle.witx_symbols.specs.declared.surface.Doubt.{Doubt}
use Rattle.witx_symbols.specs.Symbols.{Source, argument, payload, reply, Symbol, atom, SymbolWord, symbol_from, same_symbols}
use Rattle.witx_symbols.specs.Symbolic.{SymbolMemory, SymbolWorld, symbols, reply_from, payload_from, world_if, unknown_world, known_world, worlds_by, worlds_of}
use Rattle.witx_symbols.specs.Verdicts.{passes, gives_back, are_values, arguments_from, unless, or_else, judged, doubt_in, first_doubt, misfit_place, misfit, doubt}
use Rattle.witx_machine.proofs.Scalars.{truth, left_true, right_true, both_true}
use Rattle.witx_machine.proofs.All.{all_fit}
use Rattle.witx_machine.proofs.Laws.{PayloadIs}
use Rattle.witx_machine.proofs.Simulation.{Follows, Both, Each, Simulates}
use Rattle.witx_symbols.proofs.SymbolLaws.{from_is, symbols_same}
use Rattle.witx_symbols.proofs.Denotes.{Denotes, AtomIs, WordIs, MemoryIs, denotes_one, some_same}
use Rattle.witx_symbols.proofs.Passing.{AllOf, passes_follow, returns_follow, nil_follows}
use Rattle.witx_symbols.proofs.Replies.{cases_variant, Case, first, second, later, case_of, payload_fits, atom_from}
use Rattle.witx_symbols.proofs.Yes.{value_at, payload_value, from_denotes, arguments_denote, one_each, values_follow, Follow, yes_runs}

some_none : {A : Type 0} {x : A} → Some x ≡ None → ⊥
some_none e = cc

none_some : {A : Type 0} {x : A} → None ≡ Some x → ⊥
none_some e = cc

-- what no doubt says
unless_none : (b : Bool) (d : Doubt) (rest : Option Doubt) → unless b d rest ≡ None → T b × (rest ≡ None)
unless_none true d rest e = (tt, e)
unless_none false d rest e = absurd (some_none e)

or_none : (d e : Option Doubt) → or_else d e ≡ None → (d ≡ None) × (e ≡ None)
or_none None e h = (refl, h)
or_none (Some d) e h = absurd (some_none h)

mapped_none : {A B : Type 0} (f : A → B) (o : Option A) → option_map f o ≡ None → o ≡ None
mapped_none f None e = refl
mapped_none f (Some x) e = absurd (some_none e)

abbrev Judged : SymbolWorld → Function → List Symbol → Option Symbol → Outcome Symbol SymbolWord SymbolMemory → Type 0
Judged w f arguments whole o =
    T (passes o.call.at_call (return_pointers f) f.params arguments o.call.words) × T (gives_back f.abi w f.results whole o) × T (same_symbols o.call.noted arguments) × T (are_values (values_in o.back) (option_to_list whole))

judged_none : (w : SymbolWorld) (f : Function) (arguments : List Symbol) (whole : Option Symbol) (t : Tried Spot (Outcome Symbol SymbolWord SymbolMemory)) → judged w f arguments whole t ≡ None → (o : Outcome Symbol SymbolWord SymbolMemory) × (t ≡ went o) × Judged w f arguments whole o
judged_none w f arguments whole (went o) e =
    let a = unless_none _ _ _ e in let b = unless_none _ _ _ a.1 in let c = unless_none _ _ _ b.1 in let d = unless_none _ _ _ c.1 in
    (o, refl, (a.0, b.0, c.0, d.0))
judged_none w f arguments whole no_rule e = absurd (some_none e)
judged_none w f arguments whole (stuck_at (in_caller i)) e = absurd (some_none e)
judged_none w f arguments whole (stuck_at (in_callee i)) e = absurd (some_none e)

doubts_both : (xs ys : List SymbolWorld) (m : List ℕ) (f : Function) (caller callee : List Event) → first_doubt (xs ++ ys) m f caller callee ≡ None → (first_doubt xs m f caller callee ≡ None) × (first_doubt ys m f caller callee ≡ None)
doubts_both [] ys m f caller callee e = (refl, e)
doubts_both (x ∷ xs) ys m f caller callee e =
    let p = or_none (doubt_in x m f caller callee) _ e in
    let r = doubts_both xs ys m f caller callee p.1 in
    (ap (λ d. or_else d (first_doubt xs m f caller callee)) p.0 ∙ r.0, r.1)

if_doubt : (b : Bool) (w : SymbolWorld) (m : List ℕ) (f : Function) (caller callee : List Event) → T b → first_doubt (world_if b w) m f caller callee ≡ None → doubt_in w m f caller callee ≡ None
if_doubt true w m f caller callee h e = (or_none (doubt_in w m f caller callee) None e).0
if_doubt false w m f caller callee h e = absurd h

-- the free addresses
distinct_at : (b : ℕ) (bs : List ℕ) (k : ℕ) → AreOther b bs → slice_get bs k ≡ Some b → ⊥
distinct_at b [] k o e = absurd (none_some e)
distinct_at b (x ∷ bs) zero o e = o.0 (sym (some_same e))
distinct_at b (x ∷ bs) (suc k) o e = distinct_at b bs k o.1 e

distinct : (memory : Cells) (xs : List ℕ) → AreFree memory xs → (j k a : ℕ) → slice_get xs j ≡ Some a → slice_get xs k ≡ Some a → j ≡ k
distinct memory [] f j k a e g = absurd (none_some e)
distinct memory (x ∷ xs) f zero zero a e g = refl
distinct memory (x ∷ xs) f zero (suc k) a e g = absurd (distinct_at x xs k f.3 (g ∙ sym e))
distinct memory (x ∷ xs) f (suc j) zero a e g = absurd (distinct_at x xs j f.3 (e ∙ sym g))
distinct memory (x ∷ xs) f (suc j) (suc k) a e g = ap suc (distinct memory xs f.4 j k a e g)

positive : (memory : Cells) (xs : List ℕ) → AreFree memory xs → (k a : ℕ) → slice_get xs k ≡ Some a → 0 < a
positive memory [] f k a e = absurd (none_some e)
positive memory (x ∷ xs) f zero a e = subst (λ a. 0 < a) (some_same e) f.0
positive memory (x ∷ xs) f (suc k) a e = positive memory xs f.4 k a e

unused : (memory : Cells) (xs : List ℕ) → AreFree memory xs → (k a : ℕ) → slice_get xs k ≡ Some a → get memory a ≡ None
unused memory [] f k a e = absurd (none_some e)
unused memory (x ∷ xs) f zero a e = subst (λ a. get memory a ≡ None) (some_same e) f.2
unused memory (x ∷ xs) f (suc k) a e = unused memory xs f.4 k a e

drop_none : {A : Type 0} (xs : List A) → drop 0 xs ≡ xs
drop_none [] = refl
drop_none (x ∷ xs) = refl

module _ (arguments : List Value) (whole : Option Value) where
  abbrev at : Source → Option Value
  at = value_at arguments whole

  -- a world that is the reply's
  record IsWorld (w : SymbolWorld) : Type 0 where
    pub world : (e : Bool) (v : Symbol) (u : Value) → w.error ≡ Some e → w.whole ≡ Some v → Denotes at v u → (p : Option Value) × (u ≡ result_value e p) × Both (Denotes at) w.load p
    pub known : (e : Bool) (v : Symbol) → w.error ≡ Some e → w.whole ≡ Some v → (u : Value) × Denotes at v u
    pub nonzero : (s : Source) (t : Plain) (u : Value) (x : Word) → w.abi ≡ Abi.Preview1 → w.error ≡ Some true → w.load ≡ Some (atom s t) → AtomIs at s t u → direct_words t u ≡ Some (x ∷ []) → T (nat_eq x.bits 0) → ⊥

  is_unknown : (abi : Abi) (o : Option Symbol) → IsWorld (unknown_world abi o)
  is_unknown abi o = record { world = λ e v u i j d. absurd (none_some i); known = λ e v i j. absurd (none_some i); nonzero = λ s t u x a i j d k z. absurd (none_some i) }

  load_denotes : (c : Option Tree) (p : Option Value) → at payload ≡ p → ((t : Tree) → c ≡ Some t → T (fits (plain t))) → PayloadIs (λ t v. T (is_value t v)) c p → Both (Denotes at) (payload_from c) p
  load_denotes None None e f h = tt
  load_denotes None (Some p) e f h = absurd h
  load_denotes (Some t) None e f h = absurd h
  load_denotes (Some t) (Some p) e f h = from_denotes arguments whole (plain t) payload p e h (f t refl)

  zero_payload : (c : Option Tree) (p : Option Value) (s : Source) (q : Plain) (u : Value) (x : Word) → Both (Denotes at) (payload_from c) p → payload_from c ≡ Some (atom s q) → AtomIs at s q u → direct_words q u ≡ Some (x ∷ []) → T (nat_eq x.bits 0) → (p' : Value) × (p ≡ Some p') × T (zero_of c p')
  zero_payload None p s q u x b e h d z = absurd (none_some e)
  zero_payload (Some t) None s q u x b e h d z = absurd b
  zero_payload (Some t) (Some p) s q u x b e h d z =
      let is : symbol_from (plain t) payload ≡ atom s q = some_same e in
      let there = subst (λ v. Denotes at v p) is b in
      let same : u ≡ p = some_same (sym h.0 ∙ there.0) in
      let ty : q ≡ plain t = sym (atom_from (plain t) q payload s is) in
      (p, refl, subst (λ t. T (is_zero (direct_words t p))) ty (subst (λ p. T (is_zero (direct_words q p))) same (subst (λ o. T (is_zero o)) (sym d) z)))

  payload_at : (e : Bool) (p : Option Value) → option_and_then payload_value (Some (result_value e p)) ≡ p
  payload_at e None = refl
  payload_at e (Some p) = refl

  is_case : (abi : Abi) (t : Tree) (cs : Arms) (e : Bool) (p : Option Value) → result_cases t ≡ Some cs → whole ≡ Some (result_value e p) → T (is_value (plain t) (result_value e p)) → T (fits (plain t)) → T (arms_fit (plain_arms cs)) → PayloadIs (λ t v. T (is_value t v)) (cond e (err_of cs) (ok_of cs)) p → (T (zero_under abi (t ∷ []) whole) → ⊥) →
      IsWorld (known_world abi (reply_from (t ∷ [])) cs e)
  is_case abi t cs e p rc is v f af pay z =
      let own : Denotes at (symbol_from (plain t) reply) (result_value e p) = from_denotes arguments whole (plain t) reply (result_value e p) is v f in
      let load = load_denotes (cond e (err_of cs) (ok_of cs)) p (ap (option_and_then payload_value) is ∙ payload_at e p) (λ u i. payload_fits e cs u i af) pay in
      record {
        world = λ e' v u i j d. (p, denotes_one at v u (result_value e p) d (subst (λ v. Denotes at v (result_value e p)) (some_same j) own) ∙ ap (λ e. result_value e p) (some_same i), load);
        known = λ e' v i j. (result_value e p, subst (λ v. Denotes at v (result_value e p)) (some_same j) own);
        nonzero = λ s q u x a i j h d k. not_zero e load a i s q u x j h d k is;
      }
    where
      not_zero : (e : Bool) → Both (Denotes at) (payload_from (cond e (err_of cs) (ok_of cs))) p → abi ≡ Abi.Preview1 → Some e ≡ Some true → (s : Source) (q : Plain) (u : Value) (x : Word) → payload_from (cond e (err_of cs) (ok_of cs)) ≡ Some (atom s q) → AtomIs at s q u → direct_words q u ≡ Some (x ∷ []) → T (nat_eq x.bits 0) → whole ≡ Some (result_value e p) → ⊥
      not_zero false load a i s q u x j h d k is = false_true (some_same i)
        where
          false_true : false ≡ true → ⊥
          false_true e = cc
      not_zero true load a i s q u x j h d k is =
          let r = zero_payload (err_of cs) p s q u x load j h d k in
          z (subst (λ abi. T (zero_under abi (t ∷ []) whole)) (sym a) (subst (λ o. T (zero_in (t ∷ []) o)) (sym (is ∙ ap (λ p. Some (result_value true p)) r.1)) (subst (λ c. T (zero_by c r.0)) (sym rc) r.2)))

  -- a run without doubt, in the reply's world
  module _ (m name : List ℕ) (abi : Abi) (params results : List Tree) (caller callee : List Event) (memory : Cells) (addresses : List ℕ) where
    abbrev f : Function
    f = record { abi = abi; name = name; params = params; results = results }

    abbrev Ended : Type 0
    Ended = (o : Outcome Value Word Memory) × (run_cells m f caller callee arguments whole memory addresses ≡ Some o) × EndsWell cells cell_meaning f arguments (Some arguments) whole o × ((a : ℕ) (c : Cell) → get memory a ≡ Some c → get o.memory.cells a ≡ Some c)

    all_of : (i : ℕ) (ts : List Tree) → AllOf at addresses memory ts (arguments_from i ts)
    all_of i [] = tt
    all_of i (t ∷ ts) = (from_is (plain t) (argument i), all_of (i + 1) ts)

    no_stands : {A : Type 0} (B : Type 0) (k : ℕ) (c : A) → slice_get [] k ≡ Some c → B
    no_stands B zero c e = absurd (none_some e)
    no_stands B (suc k) c e = absurd (none_some e)

    abbrev any : SymbolMemory → Type 0
    any m = Unit {0}

    module _ (w : SymbolWorld) (is : IsWorld w) (free : AreFree memory addresses) where
      back : (ts : List Tree) (v : Option Value) → results ≡ ts → whole ≡ v → T (is_reply ts v) → T (all_fit ts) → (o : Outcome Symbol SymbolWord SymbolMemory) (o' : Outcome Value Word Memory) → T (gives_back abi w ts (reply_from ts) o) → MemoryIs at addresses memory o.call.at_return o'.call.at_return → Each (WordIs at addresses memory) o.call.words o'.call.words → Each (WordIs at addresses memory) o.call.callee_words o'.call.callee_words →
          Simulates (symbols w) cells (Denotes at) (λ t. Denotes at) (WordIs at addresses memory) (MemoryIs at addresses memory) any → ReturnsOf cells cell_meaning abi ts v o'
      back [] None i j h fit o o' t r g k H = nil_follows at addresses memory w any H o.call.callee_words o'.call.callee_words k t
      back [] (Some v) i j h fit o o' t r g k H = absurd h
      back (t ∷ []) None i j h fit o o' tst r g k H = absurd h
      back (t ∷ []) (Some v) i j h fit o o' tst r g k H =
          returns_follow at addresses memory w any H abi t (symbol_from (plain t) reply) v o o' (from_is (plain t) reply) (from_denotes arguments whole (plain t) reply v j h (left_true (fits (plain t)) _ fit)) r g k tst
      back (t ∷ u ∷ ts) v i j h fit o o' tst r g k H = absurd h

      came : (ts : List Tree) (v : Option Value) → results ≡ ts → whole ≡ v → T (is_reply ts v) → T (all_fit ts) → (a : Option (List Symbol)) (b : Option (List Value)) → Follows (Each (Denotes at)) a b → T (are_values a (option_to_list (reply_from ts))) → b ≡ Some (option_to_list v)
      came ts v i j h fit None b k t = absurd t
      came ts v i j h fit (Some xs) None k t = absurd k
      came [] None i j h fit (Some xs) (Some us) k t = ap Some (one_each arguments whole addresses memory (distinct memory addresses free) (positive memory addresses free) (unused memory addresses free) w is.world is.known is.nonzero xs us [] k (nothing xs t))
        where
          nothing : (xs : List Symbol) → T (same_symbols xs []) → Each (Denotes at) xs []
          nothing [] t = tt
          nothing (x ∷ xs) t = absurd t
      came [] (Some v) i j h fit (Some xs) (Some us) k t = absurd h
      came (t ∷ []) None i j h fit (Some xs) (Some us) k tst = absurd h
      came (t ∷ []) (Some v) i j h fit (Some xs) (Some us) k tst =
          let e = symbols_same xs (symbol_from (plain t) reply ∷ []) tst in
          ap Some (one_each arguments whole addresses memory (distinct memory addresses free) (positive memory addresses free) (unused memory addresses free) w is.world is.known is.nonzero xs us (v ∷ []) k (subst (λ xs. Each (Denotes at) xs (v ∷ [])) (sym e) (from_denotes arguments whole (plain t) reply v j h (left_true (fits (plain t)) _ fit), tt)))
      came (t ∷ u ∷ ts) v i j h fit (Some xs) (Some us) k tst = absurd h

      ended : T (are_arguments params arguments) → T (is_reply results whole) → T (all_fit params) → T (all_fit results) → length addresses ≡ length caller + length callee → doubt_in w m f caller callee ≡ None → Ended
      ended are rep fit fit' long none =
          let before : Memory = record { cells = memory; fresh = addresses; taken = [] } in
          let start : SymbolMemory = record { made = []; left = length caller + length callee } in
          let related : MemoryIs at addresses memory start before = record { stands = λ k c e. no_stands _ k c e; fresh = sym (drop_none addresses); left = sym long; kept = λ a c e. e } in
          let j = judged_none w f (arguments_from 0 params) (reply_from results) _ none in
          let o = j.0 in
          let tests = j.2 in
          let dist = distinct memory addresses free in
          let pos = positive memory addresses free in
          let un = unused memory addresses free in
          let r = yes_runs arguments whole addresses memory dist pos un w is.world is.known is.nonzero m f caller callee start before are rep fit fit' related o j.1 tests.2 in
          let o' = r.0 in
          let out = r.2 in
          let H = Follow arguments whole addresses memory dist pos un w is.world is.known is.nonzero in
          let denote = (arguments_denote arguments whole addresses memory dist pos un w is.world is.known is.nonzero 0 params arguments are fit (λ k. let z : 0 + k ≡ k = omega arith in ap (slice_get arguments) z)).1 in (
            o',
            ap outcome r.1,
            record {
              passes = passes_follow at addresses memory o.call.at_call o'.call.at_call (return_pointers f) params (arguments_from 0 params) arguments o.call.words o'.call.words out.call.at_call (all_of 0 params) denote out.call.words tests.0;
              gives_back = back results whole refl refl rep fit' o o' tests.1 out.call.at_return out.call.words out.call.callee_words H;
              noted = ap Some (sym r.3);
              back = came results whole refl refl rep fit' (values_in o.back) (values_in o'.back) (values_follow arguments whole addresses memory dist pos un w is.world is.known is.nonzero o.back o'.back out.back) tests.3;
            },
            out.memory.kept,
          )

-- all types fit where there is no misfit
none_from : (i : ℕ) (ts : List Tree) → position_from (λ t. not (fits (plain t))) i ts ≡ None → T (all_fit ts)
none_from i [] e = tt
none_from i (t ∷ ts) e = let r = here (fits (plain t)) e in both_true _ _ r.0 (none_from (i + 1) ts r.1)
  where
    here : (b : Bool) → cond (not b) (Some i) (position_from (λ t. not (fits (plain t))) (i + 1) ts) ≡ None → T b × (position_from (λ t. not (fits (plain t))) (i + 1) ts ≡ None)
    here true e = (tt, e)
    here false e = absurd (some_none e)

no_position : (ts : List Tree) → position (λ t. not (fits (plain t))) ts ≡ None → T (all_fit ts)
no_position ts e = none_from 0 ts (sym (position_from-zero (λ t. not (fits (plain t))) ts) ∙ e)

no_misfit : (a b : Option ℕ) → misfit_place a b ≡ None → (a ≡ None) × (b ≡ None)
no_misfit None b e = (refl, mapped_none Place.Result b e)
no_misfit (Some i) b e = absurd (some_none e)

module _ (m name : List ℕ) (abi : Abi) (params results : List Tree) (caller callee : List Event) where
  abbrev g : Function
  g = record { abi = abi; name = name; params = params; results = results }

  in_its_world : (ts : List Tree) (whole : Option Value) → results ≡ ts → (arguments : List Value) → T (is_reply ts whole) → (T (zero_under abi ts whole) → ⊥) → T (all_fit ts) → first_doubt (worlds_of abi ts) m g caller callee ≡ None → (w : SymbolWorld) × IsWorld arguments whole w × (doubt_in w m g caller callee ≡ None)
  in_its_world [] whole i arguments h z fit none = (unknown_world abi None, is_unknown arguments whole abi None, (or_none (doubt_in (unknown_world abi None) m g caller callee) None none).0)
  in_its_world (t ∷ u ∷ ts) whole i arguments h z fit none = absurd h
  in_its_world (t ∷ []) None i arguments h z fit none = absurd h
  in_its_world (t ∷ []) (Some v) i arguments h z fit none = go (result_cases t) refl none
    where
      first_of : (o : Option Symbol) (cs : Arms) → first_doubt (worlds_by abi o (Some cs)) m g caller callee ≡ None → (doubt_in (known_world abi o cs false) m g caller callee ≡ None) × (first_doubt (world_if (nat_le 2 (length (arm_list cs))) (known_world abi o cs true)) m g caller callee ≡ None) × (first_doubt (world_if (nat_le 3 (length (arm_list cs))) (unknown_world abi o)) m g caller callee ≡ None)
      first_of o cs e = let p = or_none (doubt_in (known_world abi o cs false) m g caller callee) _ e in let q = doubts_both (world_if (nat_le 2 (length (arm_list cs))) (known_world abi o cs true)) (world_if (nat_le 3 (length (arm_list cs))) (unknown_world abi o)) m g caller callee p.1 in (p.0, q.0, q.1)

      picked : (cs : Arms) → result_cases t ≡ Some cs → T (fits (plain t)) → T (arms_fit (plain_arms cs)) → (v : Value) → Case cs v → T (is_value (plain t) v) → (T (zero_under abi (t ∷ []) (Some v)) → ⊥) → first_doubt (worlds_by abi (reply_from (t ∷ [])) (Some cs)) m g caller callee ≡ None → (w : SymbolWorld) × IsWorld arguments (Some v) w × (doubt_in w m g caller callee ≡ None)
      picked cs e f af v (first p pay) is z none =
          let o = reply_from (t ∷ []) in let d = first_of o cs none in
          (known_world abi o cs false, is_case arguments (Some (result_value false p)) abi t cs false p e refl is f af pay z, d.0)
      picked cs e f af v (second two p pay) is z none =
          let o = reply_from (t ∷ []) in let d = first_of o cs none in
          (known_world abi o cs true, is_case arguments (Some (result_value true p)) abi t cs true p e refl is f af pay z, if_doubt _ (known_world abi o cs true) m g caller callee two d.1)
      picked cs e f af v (later three u) is z none =
          let o = reply_from (t ∷ []) in let d = first_of o cs none in
          (unknown_world abi o, is_unknown arguments (Some u) abi o, if_doubt _ (unknown_world abi o) m g caller callee three d.2)

      go : (c : Option Arms) → result_cases t ≡ c → first_doubt (worlds_by abi (reply_from (t ∷ [])) c) m g caller callee ≡ None → (w : SymbolWorld) × IsWorld arguments (Some v) w × (doubt_in w m g caller callee ≡ None)
      go None e none = let o = reply_from (t ∷ []) in (unknown_world abi o, is_unknown arguments (Some v) abi o, (or_none (doubt_in (unknown_world abi o) m g caller callee) None none).0)
      go (Some cs) e none =
          let q = cases_variant t cs e in
          let f = left_true (fits (plain t)) _ fit in
          let af = right_true (node_fits (Plain.variant_of q.0 (plain_arms cs))) _ (subst (λ p. T (fits p)) q.1 f) in
          picked cs e f af v (case_of q.0 cs v q.2 (subst (λ p. T (is_value p v)) q.1 h)) h z none

  pub faithful_by : doubt m g caller callee ≡ None → Faithful m g caller callee
  faithful_by e arguments whole memory addresses are rep nonzero free long =
      let p = or_none (option_map Doubt.Function (unlowerable g)) _ e in
      let q = or_none (option_map Doubt.Function (misfit g)) _ p.1 in
      let fit = no_misfit (position (λ t. not (fits (plain t))) params) (position (λ t. not (fits (plain t))) results) (mapped_none Doubt.Function (misfit g) q.0) in
      let fit_params = no_position params fit.0 in
      let fit_results = no_position results fit.1 in
      let w = in_its_world results whole refl arguments (truth rep) (λ z. subst T nonzero z) fit_results q.1 in
      ended arguments whole m name abi params results caller callee memory addresses w.0 w.1 free (truth are) (truth rep) fit_params fit_results long w.2

-- THE LAW: where no doubt is raised, the traces are faithful
pub yes_is_faithful : (m : List ℕ) (f : Function) (caller callee : List Event) → doubt m f caller callee ≡ None → Faithful m f caller callee
yes_is_faithful m f caller callee e = faithful_by m f.name f.abi f.params f.results caller callee e
