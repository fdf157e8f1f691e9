-- A whole run over cells from an empty memory is followed by the run over bytes.
use Rattle.std.proofs.Common.{◌≡◌, ℕ, Bool, true, false, cond, refl, sym, ap, ◌∙◌, subst, Option, Some, None, List, [], ◌∷◌, append-nil, inl}
use Rattle.witx_ast.specs.Tree.{Tree}
use Rattle.witx_ast.specs.Plain.{plain}
use Rattle.witx_ast.specs.Values.{Value}
use Rattle.witx_ast.specs.ValueTests.{is_value}
use Rattle.witx_base.specs.SameBytes.{false-true}
use Rattle.witx_machine.specs.Words.{Word}
use Rattle.witx_machine.specs.Events.{Event}
use Rattle.witx_machine.specs.Functions.{Function}
use Rattle.witx_machine.specs.Machine.{Tried, went, no_rule, stuck_at, Item, word_item, value_item}
use Rattle.witx_machine.specs.Run.{Outcome, itself, run, argument_items, reply_items}
use Rattle.witx_machine.specs.Cells.{Cell, Memory, Taken, cells, outcome}
use Rattle.witx_machine.specs.Faithful.{are_arguments, is_reply}
use Rattle.witx_bytes.specs.Bytes.{Bytes}
use Rattle.witx_bytes.specs.ByteMachine.{Store, bytes, run_bytes}
use Rattle.witx_bytes.specs.Follow.{AreRangesApart, AreUnused, AreWritable, SameOutcome, BytesFollowCells}
use Rattle.witx_machine.proofs.Simulation.{Follows, Each}
use Rattle.witx_machine.proofs.Simulation as sim
use Rattle.witx_machine.proofs.Following.{run_follows, each_self, each_same}
use Rattle.witx_bytes.proofs.BytesFollow.{Related, Same, Front, carried, bytes_simulate_cells, fronts_go_back}

ended_as : {A : Type 0} (t : Tried (Unit {0}) A) (o : A) → outcome t ≡ Some o → t ≡ went o
ended_as (went x) o e = ap (of x) e
  where
    of : {A : Type 0} → A → Option A → Tried (Unit {0}) A
    of d None = went d
    of d (Some x) = went x
ended_as no_rule o e = absurd (clash e)
  where
    clash : None ≡ Some o → ⊥
    clash e = cc
ended_as (stuck_at p) o e = absurd (clash e)
  where
    clash : None ≡ Some o → ⊥
    clash e = cc

module _ (whole : Taken) (before : Bytes) (fit : AreRangesApart whole) (unused : AreUnused before whole) (writable : AreWritable whole) where
  abbrev Items : Item Value Word → Item Value Word → Type 0
  Items = sim.Items cells bytes ◌≡◌ (Same whole before fit unused writable) ◌≡◌ (Related whole before fit unused writable) (Front whole before fit unused writable)

  arguments_are : (ts : List Tree) (vs : List Value) → are_arguments ts vs ≡ true → Each Items (argument_items ts vs) (argument_items ts vs)
  arguments_are [] [] h = tt
  arguments_are [] (v ∷ vs) h = absurd (false-true h)
  arguments_are (t ∷ ts) [] h = absurd (false-true h)
  arguments_are (t ∷ ts) (v ∷ vs) h = both (is_value (plain t) v) refl h (arguments_are ts vs)
    where
      both : (b : Bool) → is_value (plain t) v ≡ b → cond b (are_arguments ts vs) false ≡ true → (are_arguments ts vs ≡ true → Each Items (argument_items ts vs) (argument_items ts vs)) → Each Items (argument_items (t ∷ ts) (v ∷ vs)) (argument_items (t ∷ ts) (v ∷ vs))
      both true e h f = (((refl, carried whole before fit unused writable t v e), refl), f h)
      both false e h f = absurd (false-true h)

  reply_is : (ts : List Tree) (reply : Option Value) → is_reply ts reply ≡ true → Follows (Each Items) (reply_items ts reply) (reply_items ts reply)
  reply_is [] None h = tt
  reply_is [] (Some v) h = absurd (false-true h)
  reply_is (t ∷ []) None h = absurd (false-true h)
  reply_is (t ∷ []) (Some v) h = (((refl, carried whole before fit unused writable t v h), refl), tt)
  reply_is (t ∷ u ∷ ts) reply h = absurd (false-true h)

  -- items that are the same
  items_same : (x y : Item Value Word) → Items x y → x ≡ y
  items_same (word_item w) (word_item u) h = ap word_item h
  items_same (word_item w) (value_item v t) h = absurd h
  items_same (value_item v t) (word_item w) h = absurd h
  items_same (value_item v t) (value_item u q) h = λ i. value_item (h.0.0 i) (h.1 i)

  all_same : (xs ys : List (Item Value Word)) → Each Items xs ys → xs ≡ ys
  all_same [] [] h = refl
  all_same [] (y ∷ ys) h = absurd h
  all_same (x ∷ xs) [] h = absurd h
  all_same (x ∷ xs) (y ∷ ys) h = cons_both (items_same x y h.0) (all_same xs ys h.1)
    where
      cons_both : {A : Type 0} {x y : A} {xs ys : List A} → x ≡ y → xs ≡ ys → x ∷ xs ≡ y ∷ ys
      cons_both p q i = p i ∷ q i

  bytes_run : (m : List ℕ) (f : Function) (caller callee : List Event) (arguments : List Value) (reply : Option Value) (addresses : List ℕ) → are_arguments f.params arguments ≡ true → is_reply f.results reply ≡ true →
      (o : Outcome Value Word Memory) → run {P = Unit {0}} (λ e. e) (λ e. tt) cells m f tt tt caller callee arguments reply (record { cells = []; fresh = addresses; taken = [] }) ≡ went o → o.memory.taken ≡ whole →
      (p : Outcome Value Word Store) × (run_bytes m f caller callee arguments reply before addresses ≡ Some p) × SameOutcome before o p
  bytes_run m f caller callee arguments reply addresses are is o ran all =
      let empty : Memory = record { cells = []; fresh = addresses; taken = [] } in
      let start : Store = record { bytes = before; fresh = addresses; taken = [] } in
      let related : Related whole before fit unused writable empty start = record { fresh = refl; taken = refl; stands = λ a c e. absurd (clash c e); coming = λ rest e. subst (AreUnused before) (sym e) unused; stay = λ x y e. e; no_further = λ x h. inl h } in
      let r = run_follows cells bytes ◌≡◌ (Same whole before fit unused writable) ◌≡◌ (Related whole before fit unused writable) (Front whole before fit unused writable) (bytes_simulate_cells whole before fit unused writable) (fronts_go_back whole before fit unused writable) {P = Unit {0}} {P' = Unit {0}} (λ e. e) (λ e. e) (λ e. tt) (λ e. tt) m f (itself m f) tt tt tt tt caller callee caller callee arguments arguments reply reply empty start
      (each_self ◌≡◌ (λ e. refl) caller) (each_self ◌≡◌ (λ e. refl) callee) (arguments_are f.params arguments are) (reply_is f.results reply is) related o ran ([], append-nil o.memory.taken ∙ all) in (
        r.0,
        ap outcome r.1,
        record {
          words = sym (each_same _ _ r.2.call.words);
          noted = sym (each_same _ _ r.2.call.noted);
          callee_words = sym (each_same _ _ r.2.call.callee_words);
          back = sym (all_same _ _ r.2.back);
          unchanged = r.2.memory.stay;
          no_further = r.2.memory.no_further;
        },
      )
    where
      clash : (c : Cell) → None ≡ Some c → ⊥
      clash c e = cc

-- THE LAW
pub bytes_follow_cells : BytesFollowCells
bytes_follow_cells m f caller callee arguments reply memory addresses o are is ran fit writable =
    bytes_run o.memory.taken memory fit.0 fit.1 writable m f caller callee arguments reply addresses are is o (ended_as _ o ran) refl
