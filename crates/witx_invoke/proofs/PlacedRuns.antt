-- What a run with the stated addresses tells of the runs by which a call is defined: what it ends in is what the call comes to,
-- and where it gets stuck there is no run to define the call.
use Rattle.std.proofs.Common.{◌≡◌, ℕ, ◌+◌, ◌^◌, ◌≤◌, Bool, true, false, cond, refl, sym, ap, ◌∙◌, subst, arith, Option, Some, None, List, [], ◌∷◌, ◌++◌, append-nil, length, inl, inr}
use Rattle.std.specs.Prelude.{IsTrue, IsFalse, option_to_list, take, drop}
use Rattle.std.proofs.lemmas.List.{take-append-drop}
use Rattle.witx_ast.specs.Tree.{Tree}
use Rattle.witx_ast.specs.Plain.{plain}
use Rattle.witx_ast.specs.Values.{Value}
use Rattle.witx_ast.specs.ValueTests.{is_value}
use Rattle.witx_base.specs.SameBytes.{false-true}
use Rattle.witx_machine.specs.Words.{Word}
use Rattle.witx_machine.specs.Events.{Event}
use Rattle.witx_machine.specs.Functions.{Function, name_of}
use Rattle.witx_machine.specs.Machine.{Domain, Tried, went, no_rule, stuck_at, Item, word_item, value_item}
use Rattle.witx_machine.specs.Run.{Outcome, itself, run, numbers, argument_items, reply_items, values_in}
use Rattle.witx_machine.specs.Positions.{Spot, in_caller, in_callee, numbered}
use Rattle.witx_machine.specs.Cells.{Memory, Taken, cells, outcome, run_cells}
use Rattle.witx_machine.specs.Faithful.{Faithful, EndsWell, cell_meaning, are_arguments, is_reply, zero_error}
use Rattle.witx_bytes.specs.ByteMachine.{Store, bytes, run_bytes}
use Rattle.witx_bytes.specs.Follow.{AreUnused, AreWritable}
use Rattle.witx_invoke.specs.Answering.{stated_run}
use Rattle.witx_invoke.specs.Invoking.{AllocatesWritable}
use Rattle.witx_invoke.specs.Laws.{SameSeen}
use Rattle.witx_call.specs.Ranges.{AreStated, addresses, ranges}
use Rattle.witx_call.specs.Room.{no_bytes, Room}
use Rattle.witx_call.specs.CallSeen.{CallSeen}
use Rattle.witx_invoke.specs.Runs.{RunsAsStated, ComesTo, NoRoom}
use Rattle.witx_invoke.specs.Placing.{placing}
use Rattle.witx_machine.proofs.Simulation.{Follows, Each, went_same}
use Rattle.witx_machine.proofs.Simulation as sim
use Rattle.witx_machine.proofs.RunSimulation as two
use Rattle.witx_machine.proofs.Following.{run_follows, each_self, each_same, follows_self}
use Rattle.witx_bytes.proofs.BytesFollow.{carried}
use Rattle.witx_invoke.proofs.BothEnd.{Joins, Outcomes, run_joins}
use Rattle.witx_invoke.proofs.StatedRanges.{reserved, reserved-free, reserved-long}
use Rattle.witx_invoke.proofs.Answers.{some-none, some-same}
use Rattle.witx_invoke.proofs.Listing.{listing, Listed, Front, listing_follows, fronts_back, SameStore, AnyStore, bytes_follow_list, any_back}
use Rattle.witx_invoke.proofs.CellsBeside.{CellsStand, cells_answer_alike}
use Rattle.witx_invoke.proofs.CellsPlaced.{fit, unused, Known, Typed, Placed, placing_follows_cells, known_back}

ended_as : {A : Type 0} (t : Tried (Unit {0}) A) (o : A) → outcome t ≡ Some o → t ≡ went o
ended_as (went x) o e = ap went (some-same e)
ended_as no_rule o e = absurd (some-none e)
ended_as (stuck_at p) o e = absurd (some-none e)

joined : {P P' A B : Type 0} (R : A → B → Type 0) (t : Tried P A) (t' : Tried P' B) (x : A) (y : B) → Joins R t t' → t ≡ went x → t' ≡ went y → R x y
joined {P} {P'} R t t' x y h e e' = subst (λ t'. Joins {P = P} {P' = P'} R (went x) t') e' (subst (λ t. Joins R t t') e h)

one_of : {A : Type 0} (x y : Option A) → option_to_list x ≡ option_to_list y → x ≡ y
one_of None None e = refl
one_of None (Some y) e = absurd (clash e)
  where
    clash : [] ≡ y ∷ [] → ⊥
    clash e = cc
one_of (Some x) None e = absurd (clash e)
  where
    clash : x ∷ [] ≡ [] → ⊥
    clash e = cc
one_of (Some x) (Some y) e = ap Some (heads e)
  where
    first : {A : Type 0} → A → List A → A
    first d [] = d
    first d (x ∷ xs) = x

    heads : x ∷ [] ≡ y ∷ [] → x ≡ y
    heads e = ap (first x) e

-- outcomes of domains with the same values and words
module _ {V W M M' : Type 0} (D : Domain V W M) (D' : Domain V W M') (RI : Option Tree → V → V → Type 0) (RM : M → M' → Type 0) (G : M → Type 0) (forget : (t : Option Tree) (v v' : V) → RI t v v' → v ≡ v') where
  item_same : (x y : Item V W) → sim.Items D D' ◌≡◌ RI ◌≡◌ RM G x y → x ≡ y
  item_same (word_item w) (word_item u) h = ap word_item h
  item_same (word_item w) (value_item v t) h = absurd h
  item_same (value_item v t) (word_item w) h = absurd h
  item_same (value_item v t) (value_item u q) h = λ i. value_item (forget t v u h.0 i) (h.1 i)

  items_same : (xs ys : List (Item V W)) → Each (sim.Items D D' ◌≡◌ RI ◌≡◌ RM G) xs ys → xs ≡ ys
  items_same [] [] h = refl
  items_same [] (y ∷ ys) h = absurd h
  items_same (x ∷ xs) [] h = absurd h
  items_same (x ∷ xs) (y ∷ ys) h = λ i. item_same x y h.0 i ∷ items_same xs ys h.1 i

  outcome_same : (o : Outcome V W M) (o' : Outcome V W M') → two.Outcomes D D' ◌≡◌ RI ◌≡◌ RM G o o' → Outcomes D D' RM o o'
  outcome_same o o' h = record {
    call = record { words = sym (each_same _ _ h.call.words); at_call = h.call.at_call; noted = sym (each_same _ _ h.call.noted); callee_words = sym (each_same _ _ h.call.callee_words); at_return = h.call.at_return };
    back = sym (items_same _ _ h.back);
    memory = h.memory;
  }

abbrev Equal : Option Tree → Value → Value → Type 0
Equal t v v' = v ≡ v'

module _ {M M' : Type 0} (D : Domain Value Word M) (D' : Domain Value Word M') (RM : M → M' → Type 0) (G : M → Type 0) where
  item_self : (x : Item Value Word) → sim.Items D D' ◌≡◌ Equal ◌≡◌ RM G x x
  item_self (word_item w) = refl
  item_self (value_item v t) = (refl, refl)

  items_self : (xs : List (Item Value Word)) → Each (sim.Items D D' ◌≡◌ Equal ◌≡◌ RM G) xs xs
  items_self = each_self (sim.Items D D' ◌≡◌ Equal ◌≡◌ RM G) item_self

  reply_self : (o : Option (List (Item Value Word))) → Follows (Each (sim.Items D D' ◌≡◌ Equal ◌≡◌ RM G)) o o
  reply_self = follows_self (Each (sim.Items D D' ◌≡◌ Equal ◌≡◌ RM G)) items_self

numbered_first : (spot : ℕ → Spot) (i : ℕ) (es : List Event) → Each (λ e e'. e.1 ≡ e') (numbered spot i es) es
numbered_first spot i [] = tt
numbered_first spot i (e ∷ es) = (refl, numbered_first spot (i + 1) es)

numbered_second : (spot : ℕ → Spot) (i : ℕ) (es : List Event) → Each (λ e e'. e ≡ e'.1) es (numbered spot i es)
numbered_second spot i [] = tt
numbered_second spot i (e ∷ es) = (refl, numbered_second spot (i + 1) es)

abbrev empty_room : Room
empty_room = record { bytes = no_bytes; taken = [] }

abbrev empty_store : List ℕ → Store
empty_store addresses = record { bytes = no_bytes; fresh = addresses; taken = [] }

abbrev no_cells : List ℕ → Memory
no_cells addresses = record { cells = []; fresh = addresses; taken = [] }

both_meet : (b c : Bool) → cond b c false ≡ true → (b ≡ true) × (c ≡ true)
both_meet true c h = (refl, h)
both_meet false c h = absurd (false-true h)

-- arguments and replies carry values of their types
module _ (whole : Taken) (stated : AreStated whole) (writable : AreWritable whole) where
  abbrev Carry : Item Value Word → Item Value Word → Type 0
  Carry = sim.Items cells placing ◌≡◌ (Typed whole stated writable) ◌≡◌ (Placed whole stated writable) (Known whole stated writable)

  carries : (t : Tree) (v : Value) → is_value (plain t) v ≡ true → Carry (value_item v (name_of t)) (value_item v (name_of t))
  carries t v e = ((refl, carried whole no_bytes (fit whole stated writable) (unused whole stated writable) writable t v e), refl)

  arguments_carry : (ts : List Tree) (vs : List Value) → are_arguments ts vs ≡ true → Each Carry (argument_items ts vs) (argument_items ts vs)
  arguments_carry [] [] h = tt
  arguments_carry [] (v ∷ vs) h = absurd (false-true h)
  arguments_carry (t ∷ ts) [] h = absurd (false-true h)
  arguments_carry (t ∷ ts) (v ∷ vs) h =
      let p = both_meet (is_value (plain t) v) (are_arguments ts vs) h in
      (carries t v p.0, arguments_carry ts vs p.1)

  reply_carries : (ts : List Tree) (reply : Option Value) → is_reply ts reply ≡ true → Follows (Each Carry) (reply_items ts reply) (reply_items ts reply)
  reply_carries [] None h = tt
  reply_carries [] (Some v) h = absurd (false-true h)
  reply_carries (t ∷ []) None h = absurd (false-true h)
  reply_carries (t ∷ []) (Some v) h = (carries t v h, tt)
  reply_carries (t ∷ u ∷ ts) reply h = absurd (false-true h)

  no_cells_placed : (addresses : List ℕ) → Placed whole stated writable (no_cells addresses) empty_room
  no_cells_placed addresses = record {
    store = empty_store addresses;
    related = record { fresh = refl; taken = refl; stands = λ a c e. absurd (some-none e); coming = λ rest e. subst (AreUnused no_bytes) (sym e) (unused whole stated writable); stay = λ x y e. e; no_further = λ x h. inl h };
    bytes = refl;
    taken = refl;
  }

no_cells_stand : (all list tail : List ℕ) → list ≡ all ++ tail → CellsStand all (empty_store list) (no_cells all)
no_cells_stand all list tail e = record { tail = tail; fresh = e; taken = refl; all = refl; stands = λ a c e. absurd (some-none e); apart = λ a b c d e f differs. absurd (some-none e) }

module _ (m : List ℕ) (f : Function) (caller callee : List Event) (arguments : List Value) (reply : Option Value) where
  abbrev Ran : Outcome Value Word Room → Type 0
  Ran q = stated_run m f caller callee arguments reply ≡ went q

  abbrev Stated : List ℕ → Outcome Value Word Memory → Type 0
  Stated = RunsAsStated m f caller callee arguments reply

  abbrev list_run : List ℕ → Tried (Unit {0}) (Outcome Value Word Store)
  list_run addresses = run {P = Unit {0}} (λ e. e) (λ e. tt) listing m f tt tt caller callee arguments reply (empty_store addresses)

  -- the run over bytes with the addresses in a list
  record OverList (q : Outcome Value Word Room) (more : List ℕ) : Type 0 where
    s : Outcome Value Word Store
    run : list_run (addresses q.memory.taken ++ more) ≡ went s
    same : Outcomes placing listing (Listed q.memory.taken more) q s

  over_list : (q : Outcome Value Word Room) (more : List ℕ) → Ran q → OverList q more
  over_list q more e =
      let whole = q.memory.taken in
      let start : Listed whole more empty_room (empty_store (addresses whole ++ more)) = record { bytes = refl; taken = refl; fresh = λ rest e. ap (λ l. addresses l ++ more) (sym e); stated = record { stand = tt; room = tt } } in
      let r = run_follows placing listing ◌≡◌ Equal ◌≡◌ (Listed whole more) (Front whole more) (listing_follows whole more) (fronts_back whole more) {P = Spot} {P' = Unit {0}} (λ e. e.1) (λ e. e) (λ e. e.0) (λ e. tt) m f (itself m f) (in_caller (length caller)) (in_callee (length callee)) tt tt
      (numbered in_caller 0 caller) (numbered in_callee 0 callee) caller callee arguments arguments reply reply empty_room (empty_store (addresses whole ++ more)) (numbered_first in_caller 0 caller) (numbered_first in_callee 0 callee)
      (items_self placing listing (Listed whole more) (Front whole more) (argument_items f.params arguments)) (reply_self placing listing (Listed whole more) (Front whole more) (reply_items f.results reply)) start q e ([], append-nil whole) in
      record { s = r.0; run = r.1; same = outcome_same placing listing Equal (Listed whole more) (Front whole more) (λ t v v' e. e) q r.0 r.2 }

  -- the run over bytes
  record OverBytes (q : Outcome Value Word Room) (more : List ℕ) : Type 0 where
    p : Outcome Value Word Store
    run : run_bytes m f caller callee arguments reply no_bytes (addresses q.memory.taken ++ more) ≡ Some p
    bytes : p.memory.bytes ≡ q.memory.bytes

  over_bytes : (q : Outcome Value Word Room) (more : List ℕ) → Ran q → OverBytes q more
  over_bytes q more e =
      let l = over_list q more e in
      let store = empty_store (addresses q.memory.taken ++ more) in
      let r = run_follows listing bytes ◌≡◌ Equal ◌≡◌ SameStore AnyStore bytes_follow_list any_back {P = Unit {0}} {P' = Unit {0}} (λ e. e) (λ e. e) (λ e. tt) (λ e. tt) m f (itself m f) tt tt tt tt caller callee caller callee arguments arguments reply reply store store
      (each_self ◌≡◌ (λ e. refl) caller) (each_self ◌≡◌ (λ e. refl) callee) (items_self listing bytes SameStore AnyStore (argument_items f.params arguments)) (reply_self listing bytes SameStore AnyStore (reply_items f.results reply)) refl l.s l.run tt in
      record { p = r.0; run = ap outcome r.1; bytes = ap (λ m. m.bytes) (sym r.2.memory) ∙ l.same.memory.bytes }

  -- the run over cells with the stated addresses
  record OverCells (q : Outcome Value Word Room) : Type 0 where
    o : Outcome Value Word Memory
    runs : Stated o.memory.fresh o
    words : o.call.words ≡ q.call.words
    noted : o.call.noted ≡ q.call.noted
    callee_words : o.call.callee_words ≡ q.call.callee_words
    back : o.back ≡ q.back
    taken : o.memory.taken ≡ q.memory.taken
    well : EndsWell cells cell_meaning f arguments (Some arguments) reply o

  -- what is told by a run with the stated addresses that ends in q
  pub record EndsIn (q : Outcome Value Word Room) : Type 0 where
    pub comes_to :
        (s : CallSeen) → s.pass ≡ q.call.words → s.notes ≡ q.call.noted → s.back ≡ q.call.callee_words →
        Some (option_to_list s.returned) ≡ values_in q.back → s.taken ≡ ranges q.memory.taken → ((at : ℕ) → s.bytes at ≡ q.memory.bytes at) →
        ComesTo m f caller callee arguments reply s
    pub noted : q.call.noted ≡ arguments
    pub back : values_in q.back ≡ Some (option_to_list reply)
    pub more : List ℕ
    pub o : Outcome Value Word Memory
    pub runs : RunsAsStated m f caller callee arguments reply more o

  module _ (faithful : Faithful m f caller callee) (are : IsTrue (are_arguments f.params arguments)) (is : IsTrue (is_reply f.results reply)) (nonzero : IsFalse (zero_error f reply)) (few : length caller + length callee ≤ 2 ^ 30) where
    over_cells : (q : Outcome Value Word Room) → Ran q → OverCells q
    over_cells q e =
        let n = length caller + length callee in
        let whole = q.memory.taken in
        let all = take n (reserved n whole) in
        let l = over_list q (numbers (2 ^ 20 + 1) n) e in
        let stated : AreStated whole = l.same.memory.stated in
        let c = faithful arguments reply [] all are is nonzero (reserved-free n whole few stated) (reserved-long n whole) in
        let start : CellsStand all (empty_store (reserved n whole)) (no_cells all) = no_cells_stand all (reserved n whole) (drop n (reserved n whole)) (sym (take-append-drop n (reserved n whole))) in
        let j : Outcomes listing cells (CellsStand all) l.s c.0 =
        joined (Outcomes listing cells (CellsStand all)) (list_run (reserved n whole)) (run {P = Unit {0}} (λ e. e) (λ e. tt) cells m f tt tt caller callee arguments reply (no_cells all)) l.s c.0
        (run_joins listing cells (CellsStand all) (cells_answer_alike all) {P = Unit {0}} {P' = Unit {0}} (λ e. e) (λ e. tt) (λ e. tt) m f (itself m f) tt tt callee arguments reply tt tt caller (empty_store (reserved n whole)) (no_cells all) start) l.run (ended_as _ c.0 c.1) in
        let taken : c.0.memory.taken ≡ whole = sym j.memory.taken ∙ l.same.memory.taken in
        record {
          o = c.0;
          runs = record { stated = subst AreStated (sym taken) stated; run = subst (λ l. run_cells m f caller callee arguments reply [] l ≡ Some c.0) (sym j.memory.all) c.1 };
          words = j.call.words ∙ l.same.call.words;
          noted = j.call.noted ∙ l.same.call.noted;
          callee_words = j.call.callee_words ∙ l.same.call.callee_words;
          back = j.back ∙ l.same.back;
          taken = taken;
          well = c.2;
        }

    -- THE FIRST LAW: what it ends in is what the call comes to
    pub ends-in : (q : Outcome Value Word Room) → stated_run m f caller callee arguments reply ≡ went q → EndsIn q
    ends-in q e =
        let c = over_cells q e in
        let p = over_bytes q c.o.memory.fresh e in
        record {
          comes_to = λ s pass notes back returned taken bytes. record {
            more = c.o.memory.fresh;
            o = c.o;
            p = p.p;
            runs = c.runs;
            pass = pass ∙ sym c.words;
            notes = notes ∙ sym c.noted;
            back = back ∙ sym c.callee_words;
            returned = returned ∙ ap values_in (sym c.back);
            taken = taken ∙ ap ranges (sym c.taken);
            run = ap (λ l. run_bytes m f caller callee arguments reply no_bytes (addresses l ++ c.o.memory.fresh)) c.taken ∙ p.run;
            bytes = λ at. bytes at ∙ ap (λ b. b at) (sym p.bytes);
          };
          noted = sym c.noted ∙ sym (some-same c.well.noted);
          back = ap values_in (sym c.back) ∙ c.well.back;
          more = c.o.memory.fresh;
          o = c.o;
          runs = c.runs;
        }

  module _ (writable : AllocatesWritable m f caller callee arguments reply) (are : IsTrue (are_arguments f.params arguments)) (is : IsTrue (is_reply f.results reply)) where
    -- the run as the program makes it, where there is one with the stated addresses
    record AsPlaced (o : Outcome Value Word Memory) : Type 0 where
      q : Outcome Value Word Room
      ran : Ran q
      words : o.call.words ≡ q.call.words
      noted : o.call.noted ≡ q.call.noted
      callee_words : o.call.callee_words ≡ q.call.callee_words
      back : o.back ≡ q.back
      taken : o.memory.taken ≡ q.memory.taken

    as_placed : (more : List ℕ) (o : Outcome Value Word Memory) → Stated more o → AsPlaced o
    as_placed more o r =
        let whole = o.memory.taken in
        let fits = writable more o r in
        let memory = no_cells (addresses whole ++ more) in
        let RM = Placed whole r.stated fits in
        let G = Known whole r.stated fits in
        let RI = Typed whole r.stated fits in
        let k = run_follows cells placing ◌≡◌ RI ◌≡◌ RM G (placing_follows_cells whole r.stated fits) (known_back whole r.stated fits) {P = Unit {0}} {P' = Spot} (λ e. e) (λ e. e.1) (λ e. tt) (λ e. e.0) m f (itself m f) tt tt (in_caller (length caller)) (in_callee (length callee))
        caller callee (numbered in_caller 0 caller) (numbered in_callee 0 callee) arguments arguments reply reply memory empty_room (numbered_second in_caller 0 caller) (numbered_second in_callee 0 callee)
        (arguments_carry whole r.stated fits f.params arguments are) (reply_carries whole r.stated fits f.results reply is) (no_cells_placed whole r.stated fits (addresses whole ++ more)) o (ended_as _ o r.run) ([], append-nil whole) in
        let s = outcome_same cells placing RI RM G (λ t v v' e. e.0) o k.0 k.2 in
        record {
          q = k.0;
          ran = k.1;
          words = sym s.call.words;
          noted = sym s.call.noted;
          callee_words = sym s.call.callee_words;
          back = sym s.back;
          taken = sym s.memory.related.taken ∙ s.memory.taken;
        }

    -- THE SECOND LAW: where it doesn't end, there is no run with the stated addresses
    pub no-run :
        ((q : Outcome Value Word Room) → stated_run m f caller callee arguments reply ≡ went q → ⊥) →
        (more : List ℕ) (o : Outcome Value Word Memory) → RunsAsStated m f caller callee arguments reply more o → ⊥
    no-run h more o r = let p = as_placed more o r in h p.q p.ran

    -- what is seen of a call is what the program's run ends in
    record SeenAs (s : CallSeen) : Type 0 where
      q : Outcome Value Word Room
      ran : Ran q
      pass : s.pass ≡ q.call.words
      notes : s.notes ≡ q.call.noted
      back : s.back ≡ q.call.callee_words
      returned : Some (option_to_list s.returned) ≡ values_in q.back
      taken : s.taken ≡ ranges q.memory.taken
      bytes : (at : ℕ) → s.bytes at ≡ q.memory.bytes at

    seen_as : (s : CallSeen) → ComesTo m f caller callee arguments reply s → SeenAs s
    seen_as s c =
        let a = as_placed c.more c.o c.runs in
        let p = over_bytes a.q c.more a.ran in
        let same : c.p ≡ p.p = some-same (sym c.run ∙ ap (λ l. run_bytes m f caller callee arguments reply no_bytes (addresses l ++ c.more)) a.taken ∙ p.run) in
        record {
          q = a.q;
          ran = a.ran;
          pass = c.pass ∙ a.words;
          notes = c.notes ∙ a.noted;
          back = c.back ∙ a.callee_words;
          returned = c.returned ∙ ap values_in a.back;
          taken = c.taken ∙ ap ranges a.taken;
          bytes = λ at. c.bytes at ∙ ap (λ p. p.memory.bytes at) same ∙ ap (λ b. b at) p.bytes;
        }

    -- THE THIRD LAW: a call comes to one thing
    pub one-answer : (a b : CallSeen) → ComesTo m f caller callee arguments reply a → ComesTo m f caller callee arguments reply b → SameSeen a b
    one-answer a b c d =
        let x = seen_as a c in
        let y = seen_as b d in
        let e : x.q ≡ y.q = went_same (sym x.ran ∙ y.ran) in
        record {
          pass = x.pass ∙ ap (λ q. q.call.words) e ∙ sym y.pass;
          notes = x.notes ∙ ap (λ q. q.call.noted) e ∙ sym y.notes;
          back = x.back ∙ ap (λ q. q.call.callee_words) e ∙ sym y.back;
          returned = one_of a.returned b.returned (some-same (x.returned ∙ ap (λ q. values_in q.back) e ∙ sym y.returned));
          taken = x.taken ∙ ap (λ q. ranges q.memory.taken) e ∙ sym y.taken;
          bytes = λ at. x.bytes at ∙ ap (λ q. q.memory.bytes at) e ∙ sym (y.bytes at);
        }

    -- THE FOURTH LAW: a run with the stated addresses hands over the arguments and brings back the reply
    pub hands-on :
        Faithful m f caller callee → IsFalse (zero_error f reply) → length caller + length callee ≤ 2 ^ 30 →
        (more : List ℕ) (o : Outcome Value Word Memory) → RunsAsStated m f caller callee arguments reply more o →
        (o.call.noted ≡ arguments) × (values_in o.back ≡ Some (option_to_list reply))
    hands-on faithful nonzero few more o r =
        let p = as_placed more o r in
        let e = ends-in faithful are is nonzero few p.q p.ran in
        (p.noted ∙ e.noted, ap values_in p.back ∙ e.back)

  -- what a call comes to leaves no want of room
  pub has-room : length caller + length callee ≤ 2 ^ 30 → (s : CallSeen) → ComesTo m f caller callee arguments reply s → NoRoom m f caller callee arguments reply → ⊥
  has-room few s c (inl l) = omega (arith, few, l)
  has-room few s c (inr h) = h c.more c.o c.runs
