-- Where the symbols run to an end, so do the cells, and what is noted and brought back is what the symbols denote.
use Rattle.std.proofs.Common.{◌≡◌, ℕ, suc, ◌+◌, ◌<◌, Bool, true, false, cond, T, refl, sym, ap, ◌∙◌, subst, arith, Option, Some, None, option_and_then, List, [], ◌∷◌, length, nat_eq, slice_get}
use Rattle.witx_ast.specs.declared.function.Abi.{Abi}
use Rattle.witx_ast.specs.declared.types.RecordKind.{RecordKind}
use Rattle.witx_ast.specs.Tree.{Tree}
use Rattle.witx_ast.specs.Plain.{Plain, Fields, plain}
use Rattle.witx_ast.specs.Values.{Value, Values}
use Rattle.witx_ast.specs.ValueTests.{is_value, are_values}
use Rattle.witx_ast.specs.Tags.{fits, fields_fit}
use Rattle.witx_machine.specs.Words.{Word}
use Rattle.witx_machine.specs.Events.{Event}
use Rattle.witx_machine.specs.Functions.{Function}
use Rattle.witx_machine.specs.Machine.{Item, word_item, value_item, went}
use Rattle.witx_machine.specs.Run.{argument_items, reply_items, Outcome, itself, run, values_in}
use Rattle.witx_machine.specs.Cells.{Cells, Memory, get, cells, list_of_values, result_value}
use Rattle.witx_machine.specs.Faithful.{direct_words, are_arguments, is_reply}
use Rattle.witx_machine.specs.Positions.{Spot, in_caller, in_callee, numbered, spotted_run}
use Rattle.witx_symbols.specs.Symbols.{Source, argument, payload, reply, part, Symbol, SymbolWord, atom, symbol_from, parts_from, same_symbols}
use Rattle.witx_symbols.specs.Symbolic.{SymbolMemory, SymbolWorld, symbols, reply_from}
use Rattle.witx_symbols.specs.Verdicts.{arguments_from}
use Rattle.witx_machine.proofs.Scalars.{left_true, right_true}
use Rattle.witx_machine.proofs.All.{all_fit}
use Rattle.witx_symbols.proofs.SymbolLaws.{symbols_same}
use Rattle.witx_symbols.proofs.Denotes.{Denotes, DenoteAll, AtomIs, WordIs, MemoryIs, denotes_one, cells_follow_symbols}
use Rattle.witx_machine.proofs.Simulation.{Follows, Both, Each, Simulates, Backwards}
use Rattle.witx_machine.proofs.Simulation as sim
use Rattle.witx_machine.proofs.RunSimulation.{Outcomes}
use Rattle.witx_machine.proofs.Following.{run_follows}

abbrev pub payload_value : Value → Option Value
payload_value (Value.case_with i p) = Some p
payload_value _ = None

abbrev pub member_at : ℕ → Value → Option Value
member_at j (Value.tuple_values us) = slice_get (list_of_values us) j
member_at j _ = None

-- what each source stands for, in a run with these arguments and this reply
abbrev pub value_at : List Value → Option Value → Source → Option Value
value_at arguments whole (argument i) = slice_get arguments i
value_at arguments whole payload = option_and_then payload_value whole
value_at arguments whole reply = whole
value_at arguments whole (part s j) = option_and_then (member_at j) (value_at arguments whole s)

module _ (arguments : List Value) (whole : Option Value) where
  abbrev pub at : Source → Option Value
  at = value_at arguments whole

  abbrev mutual
    pub from_denotes : (t : Plain) (s : Source) (v : Value) → at s ≡ Some v → T (is_value t v) → T (fits t) → Denotes at (symbol_from t s) v
    from_denotes (Plain.builtin k) s v e is f = (e, is, f)
    from_denotes Plain.handle s v e is f = (e, is, f)
    from_denotes (Plain.pointer_to t) s v e is f = (e, is, f)
    from_denotes (Plain.const_pointer_to t) s v e is f = (e, is, f)
    from_denotes (Plain.list_of t) s v e is f = (e, is, f)
    from_denotes (Plain.record_of (RecordKind.Bitflags r) ms) s v e is f = (e, is, f)
    from_denotes (Plain.record_of RecordKind.Other ms) s v e is f = (e, is, f)
    from_denotes (Plain.variant_of r cs) s v e is f = (e, is, f)
    from_denotes (Plain.record_of RecordKind.Tuple ms) s (Value.tuple_values us) e is f = (us, refl, parts_denote ms s 0 us is f (λ k. let z : 0 + k ≡ k = omega arith in ap (λ j. at (part s j)) z ∙ ap (option_and_then (member_at k)) e))
    from_denotes (Plain.record_of RecordKind.Tuple ms) s (Value.number k z) e is f = absurd is
    from_denotes (Plain.record_of RecordKind.Tuple ms) s (Value.handle_number n) e is f = absurd is
    from_denotes (Plain.record_of RecordKind.Tuple ms) s (Value.address n) e is f = absurd is
    from_denotes (Plain.record_of RecordKind.Tuple ms) s (Value.const_address n) e is f = absurd is
    from_denotes (Plain.record_of RecordKind.Tuple ms) s (Value.list_at a l) e is f = absurd is
    from_denotes (Plain.record_of RecordKind.Tuple ms) s (Value.flag_bits bs) e is f = absurd is
    from_denotes (Plain.record_of RecordKind.Tuple ms) s (Value.record_values us) e is f = absurd is
    from_denotes (Plain.record_of RecordKind.Tuple ms) s (Value.enum_index i) e is f = absurd is
    from_denotes (Plain.record_of RecordKind.Tuple ms) s (Value.case_with i p) e is f = absurd is
    from_denotes (Plain.record_of RecordKind.Tuple ms) s (Value.bare_case i) e is f = absurd is

    pub parts_denote : (ms : Fields) (s : Source) (j : ℕ) (us : Values) → T (are_values ms us) → T (fields_fit ms) → ((k : ℕ) → at (part s (j + k)) ≡ slice_get (list_of_values us) k) → DenoteAll at (parts_from ms s j) us
    parts_denote Fields.no_fields s j Values.no_values is f h = tt
    parts_denote Fields.no_fields s j (Values.value_then u us) is f h = absurd is
    parts_denote (Fields.field n t ms) s j Values.no_values is f h = absurd is
    parts_denote (Fields.field n t ms) s j (Values.value_then u us) is f h =
        let z : j ≡ j + 0 = omega arith in (
          from_denotes t (part s j) u (ap (λ j. at (part s j)) z ∙ h 0) (left_true (is_value t u) _ is) (left_true (fits t) _ f),
          parts_denote ms s (j + 1) us (right_true (is_value t u) _ is) (right_true (fits t) _ f) (λ k. let y : j + 1 + k ≡ j + suc k = omega arith in ap (λ j. at (part s j)) y ∙ h (suc k)),
        )

  module _ (addresses : List ℕ) (first : Cells) (distinct : (j k a : ℕ) → slice_get addresses j ≡ Some a → slice_get addresses k ≡ Some a → j ≡ k) (positive : (k a : ℕ) → slice_get addresses k ≡ Some a → 0 < a) (free : (k a : ℕ) → slice_get addresses k ≡ Some a → get first a ≡ None) (w : SymbolWorld)
      (world : (e : Bool) (v : Symbol) (u : Value) → w.error ≡ Some e → w.whole ≡ Some v → Denotes at v u → (p : Option Value) × (u ≡ result_value e p) × Both (Denotes at) w.load p)
      (known : (e : Bool) (v : Symbol) → w.error ≡ Some e → w.whole ≡ Some v → (u : Value) × Denotes at v u)
      (nonzero : (s : Source) (t : Plain) (u : Value) (x : Word) → w.abi ≡ Abi.Preview1 → w.error ≡ Some true → w.load ≡ Some (atom s t) → AtomIs at s t u → direct_words t u ≡ Some (x ∷ []) → T (nat_eq x.bits 0) → ⊥) where
    abbrev pub Any : SymbolMemory → Type 0
    Any m = Unit {0}

    abbrev pub Follow : Simulates (symbols w) cells (Denotes at) (λ t. Denotes at) (WordIs at addresses first) (MemoryIs at addresses first) Any
    Follow = cells_follow_symbols at addresses first distinct positive free w world known nonzero

    abbrev pub Items : Item Symbol SymbolWord → Item Value Word → Type 0
    Items = sim.Items (symbols w) cells (Denotes at) (λ t. Denotes at) (WordIs at addresses first) (MemoryIs at addresses first) Any

    pub arguments_denote : (i : ℕ) (ts : List Tree) (vs : List Value) → T (are_arguments ts vs) → T (all_fit ts) → ((k : ℕ) → slice_get arguments (i + k) ≡ slice_get vs k) → Each Items (argument_items ts (arguments_from i ts)) (argument_items ts vs) × Each (Denotes at) (arguments_from i ts) vs
    arguments_denote i [] [] h f g = (tt, tt)
    arguments_denote i [] (v ∷ vs) h f g = absurd h
    arguments_denote i (t ∷ ts) [] h f g = absurd h
    arguments_denote i (t ∷ ts) (v ∷ vs) h f g =
        let z : i ≡ i + 0 = omega arith in
        let b = both (is_value (plain t) v) (are_arguments ts vs) h in
        let d = from_denotes (plain t) (argument i) v (ap (slice_get arguments) z ∙ g 0) b.0 (left_true (fits (plain t)) _ f) in
        let r = arguments_denote (i + 1) ts vs b.1 (right_true (fits (plain t)) _ f) (λ k. let y : i + 1 + k ≡ i + suc k = omega arith in ap (slice_get arguments) y ∙ g (suc k)) in
        (((d, refl), r.0), (d, r.1))
      where
        both : (x y : Bool) → T (cond x y false) → T x × T y
        both true y h = (tt, h)
        both false y h = absurd h

    pub reply_denotes : (ts : List Tree) → T (is_reply ts whole) → T (all_fit ts) → Follows (Each Items) (reply_items ts (reply_from ts)) (reply_items ts whole)
    reply_denotes ts h f = go ts whole refl h f
      where
        go : (ts : List Tree) (o : Option Value) → whole ≡ o → T (is_reply ts o) → T (all_fit ts) → Follows (Each Items) (reply_items ts (reply_from ts)) (reply_items ts o)
        go [] None e h f = tt
        go [] (Some v) e h f = absurd h
        go (t ∷ []) None e h f = absurd h
        go (t ∷ []) (Some v) e h f = ((from_denotes (plain t) reply v e h (left_true (fits (plain t)) _ f), refl), tt)
        go (t ∷ u ∷ ts) o e h f = absurd h

    pub events_same : (spot : ℕ → Spot) (i : ℕ) (es : List Event) → Each (λ (p : Spot × Event) (e : Event). p.1 ≡ e) (numbered spot i es) es
    events_same spot i [] = tt
    events_same spot i (e ∷ es) = (refl, events_same spot (i + 1) es)

    pub one_each : (xs : List Symbol) (us vs : List Value) → Each (Denotes at) xs us → Each (Denotes at) xs vs → us ≡ vs
    one_each [] [] [] h k = refl
    one_each [] [] (v ∷ vs) h k = absurd k
    one_each [] (u ∷ us) vs h k = absurd h
    one_each (x ∷ xs) [] vs h k = absurd h
    one_each (x ∷ xs) (u ∷ us) [] h k = absurd k
    one_each (x ∷ xs) (u ∷ us) (v ∷ vs) h k = λ i. denotes_one at x u v h.0 k.0 i ∷ one_each xs us vs h.1 k.1 i

    pub values_follow : (xs : List (Item Symbol SymbolWord)) (ys : List (Item Value Word)) → Each Items xs ys → Follows (Each (Denotes at)) (values_in xs) (values_in ys)
    values_follow [] [] h = tt
    values_follow [] (y ∷ ys) h = absurd h
    values_follow (x ∷ xs) [] h = absurd h
    values_follow (word_item w ∷ xs) (y ∷ ys) h = tt
    values_follow (value_item v t ∷ xs) (word_item w ∷ ys) h = absurd h.0
    values_follow (value_item v t ∷ xs) (value_item v' t' ∷ ys) h = go (values_in xs) (values_in ys) (values_follow xs ys h.1)
      where
        go : (a : Option (List Symbol)) (b : Option (List Value)) → Follows (Each (Denotes at)) a b → Follows (Each (Denotes at)) (option_and_then (λ vs. Some (v ∷ vs)) a) (option_and_then (λ vs. Some (v' ∷ vs)) b)
        go None b k = tt
        go (Some vs) None k = absurd k
        go (Some vs) (Some us) k = (h.0.0, k)

    -- the cells run to an end too, and note the arguments
    pub yes_runs : (m : List ℕ) (f : Function) (caller callee : List Event) (a : SymbolMemory) (b : Memory) → T (are_arguments f.params arguments) → T (is_reply f.results whole) → T (all_fit f.params) → T (all_fit f.results) → MemoryIs at addresses first a b →
        (o : Outcome Symbol SymbolWord SymbolMemory) → spotted_run (symbols w) m f caller callee (arguments_from 0 f.params) (reply_from f.results) a ≡ went o → T (same_symbols o.call.noted (arguments_from 0 f.params)) →
        (o' : Outcome Value Word Memory) × (run {P = Unit {0}} (λ e. e) (λ e. tt) cells m f tt tt caller callee arguments whole b ≡ went o') × Outcomes (symbols w) cells (Denotes at) (λ t. Denotes at) (WordIs at addresses first) (MemoryIs at addresses first) Any o o' × (o'.call.noted ≡ arguments)
    yes_runs m f caller callee a b are is fit fit' related o ran notes =
        let d = arguments_denote 0 f.params arguments are fit (λ k. let z : 0 + k ≡ k = omega arith in ap (slice_get arguments) z) in
        let back : Backwards (symbols w) cells (Denotes at) (λ t. Denotes at) (WordIs at addresses first) (MemoryIs at addresses first) Any = record { give = λ t m r e g. tt; put = λ t v m r e g. tt; set = λ t x v m n e g. tt } in
        let r = run_follows (symbols w) cells (Denotes at) (λ t. Denotes at) (WordIs at addresses first) (MemoryIs at addresses first) Any Follow back {P = Spot} {P' = Unit {0}} (λ e. e.1) (λ e. e) (λ e. e.0) (λ e. tt) m f (itself m f) (in_caller (length caller)) (in_callee (length callee)) tt tt (numbered in_caller 0 caller) (numbered in_callee 0 callee) caller callee (arguments_from 0 f.params) arguments (reply_from f.results) whole a b
        (events_same in_caller 0 caller) (events_same in_callee 0 callee) d.0 (reply_denotes f.results is fit') related o ran tt in
        (r.0, r.1, r.2, one_each o.call.noted r.0.call.noted arguments r.2.call.noted (subst (λ xs. Each (Denotes at) xs arguments) (sym (symbols_same o.call.noted (arguments_from 0 f.params) notes)) d.1))
