-- The caller's return pointers.
use Rattle.std.proofs.Common.{◌≡◌, ◌≢◌, ℕ, suc, ◌+◌, ◌<◌, ◌≤◌, Bool, true, false, cond, T, refl, sym, ap, ◌∙◌, subst, arith, Option, Some, None, List, [], ◌∷◌, map, length, nat_eq, eqb→eq}
use lib.Dec.{eqb_refl}
use Rattle.witx_ast.specs.Tree.{Tree}
use Rattle.witx_machine.specs.declared.surface.WasmType.{WasmType}
use Rattle.witx_machine.specs.Events.{Step, Event, emit, space}
use Rattle.witx_machine.specs.Rows.{return_pointer_get}
use Rattle.witx_machine.specs.Traces.{make_spaces}
use Rattle.witx_machine.specs.Machine.{Domain, went, State, Side, Inside, Item, word_item, Block, if_found, pushed, slot_word, give_slot}
use Rattle.witx_machine.specs.Run.{typed}
use Rattle.witx_machine.specs.Passage.{Meaning, PointerWords}
use Rattle.witx_machine.proofs.Scalars.{both_true}
use Rattle.witx_machine.proofs.Laws.{Laws}
use Rattle.witx_machine.proofs.Runs.{Try, Runs, runs_none, runs_then, plays, runs_space}
use Rattle.witx_machine.proofs.Params.{row_goes}

module _ {W : Type 0} where
  -- the slots from k on have these addresses
  abbrev pub SlotsAt : List (ℕ × W) → ℕ → List W → Type 0
  SlotsAt slots k [] = Unit {0}
  SlotsAt slots k (a ∷ rest) = (slot_word k slots ≡ Some a) × SlotsAt slots (k + 1) rest

  abbrev pub AreOther : W → List W → Type 0
  AreOther a [] = Unit {0}
  AreOther a (b ∷ bs) = (a ≢ b) × AreOther a bs

  own_slot : (k : ℕ) (a : W) (slots : List (ℕ × W)) → slot_word k ((k, a) ∷ slots) ≡ Some a
  own_slot k a slots = go (nat_eq k k) (eqb_refl k)
    where
      go : (x : Bool) → T x → cond x (Some a) (slot_word k slots) ≡ Some a
      go true h = refl
      go false h = absurd h

  other_slot : (j k : ℕ) (a : W) (slots : List (ℕ × W)) → j ≢ k → slot_word j ((k, a) ∷ slots) ≡ slot_word j slots
  other_slot j k a slots n = go (nat_eq j k) refl
    where
      go : (x : Bool) → nat_eq j k ≡ x → cond x (Some a) (slot_word j slots) ≡ slot_word j slots
      go true is = absurd (n (eqb→eq j k (subst T (sym is) tt)))
      go false is = refl

module _ {V W M : Type 0} {D : Domain V W M} {J : Meaning V W M} (L : Laws D J) where
  -- addresses that are new to base, made for these types, and all different
  pub record Pointer (base m : M) (t : Tree) (a : W) : Type 0 where
    pub new : L.New base a
    pub made : J.made_for m a t
    pub given : J.given m a
    pub is_32 : T (D.has_type WasmType.I32 a)

  abbrev pub PointersAt : M → M → List Tree → List W → Type 0
  PointersAt base m [] [] = Unit {0}
  PointersAt base m (t ∷ ts) (a ∷ rest) = Pointer base m t a × AreOther a rest × PointersAt base m ts rest
  PointersAt base m [] (a ∷ rest) = ⊥
  PointersAt base m (t ∷ ts) [] = ⊥

  -- pointers over a later base are pointers over an earlier one, and differ from what was made for the later
  pub earlier_base : (base later m : M) (a : W) (q : Tree) (ts : List Tree) (rest : List W) → L.Keeps base later → J.made_for later a q → PointersAt later m ts rest → AreOther a rest × PointersAt base m ts rest
  earlier_base base later m a q [] [] g made h = (tt, tt)
  earlier_base base later m a q (t ∷ ts) (b ∷ rest) g made h =
      let more = earlier_base base later m a q ts rest g made h.2 in
      ((L.new_other later a b q made h.0.new, more.0), (record { new = L.new_before base later b g h.0.new; made = h.0.made; given = h.0.given; is_32 = h.0.is_32 }, h.1, more.1))
  earlier_base base later m a q [] (b ∷ rest) g made h = absurd h
  earlier_base base later m a q (t ∷ ts) [] g made h = absurd h

  pub pointer_words : (base m : M) (ts : List Tree) (rest : List W) → PointersAt base m ts rest → PointerWords D J m ts rest
  pointer_words base m [] [] h = refl
  pointer_words base m (t ∷ ts) (a ∷ rest) h = (a, rest, refl, h.0.given, h.0.made, pointer_words base m ts rest h.2)
  pointer_words base m [] (b ∷ rest) h = absurd h
  pointer_words base m (t ∷ ts) [] h = absurd h

  pub pointer_types : (base m : M) (ts : List Tree) (rest : List W) → PointersAt base m ts rest → T (typed D (map (λ _. WasmType.I32) ts) rest)
  pointer_types base m [] [] h = tt
  pointer_types base m (t ∷ ts) (a ∷ rest) h = both_true _ _ h.0.is_32 (pointer_types base m ts rest h.2)
  pointer_types base m [] (a ∷ rest) h = absurd h
  pointer_types base m (t ∷ ts) [] h = absurd h

  pub pointer_count : (base m : M) (ts : List Tree) (rest : List W) → PointersAt base m ts rest → length ts ≡ length rest
  pointer_count base m [] [] h = refl
  pointer_count base m (t ∷ ts) (a ∷ rest) h = ap suc (pointer_count base m ts rest h.2)
  pointer_count base m [] (a ∷ rest) h = absurd h
  pointer_count base m (t ∷ ts) [] h = absurd h

  module _ {C : Type 0} (side : Side (Unit {0}) Event V W M C) (runs : Inside V W → List Event → State Event V W M C → Try (State Event V W M C)) (inside : Inside V W) (blocks : List (Block Event)) (returned : Option W) (called : Option C) where
    abbrev pub with_slots : List (ℕ × W) → List (Item V W) → M → State Event V W M C
    with_slots slots stack memory = record { stack = stack; slots = slots; memory = memory; blocks = blocks; returned = returned; called = called; answer = None }

    abbrev Goes : List Event → State Event V W M C → State Event V W M C → Type 0
    Goes = Runs (plays D side runs inside)

    pub record SpacesMade (ts : List Tree) (k n : ℕ) (slots : List (ℕ × W)) (stack : List (Item V W)) (m : M) : Type 0 where
      pub addresses : List W
      pub after_slots : List (ℕ × W)
      pub memory : M
      pub goes : Goes (make_spaces k ts) (with_slots slots stack m) (with_slots after_slots (pushed (map word_item addresses) stack) memory)
      pub found : SlotsAt after_slots k addresses
      pub kept : (j : ℕ) → j < k → slot_word j after_slots ≡ slot_word j slots
      pub pointers : PointersAt m memory ts addresses
      pub keeps : L.Keeps m memory
      pub room : L.Room n memory

    space_goes : (k : ℕ) (t : Tree) (slots : List (ℕ × W)) (stack : List (Item V W)) (m m' : M) (a : W) → D.give t m ≡ Some (a, m') → slot_word k slots ≡ None → Goes (space k t ∷ emit (Step.ReturnPointerGet k) ∷ []) (with_slots slots stack m) (with_slots ((k, a) ∷ slots) (word_item a ∷ stack) m')
    space_goes k t slots stack m m' a gives none =
        let s = with_slots slots stack m in
        runs_then {b = emit (Step.ReturnPointerGet k) ∷ []} {s' = with_slots ((k, a) ∷ slots) stack m'}
        (runs_space D side runs inside k t s (with_slots ((k, a) ∷ slots) stack m') (ap (λ o. give_slot (λ e. e) (λ e. tt) D side runs inside k t o s) none ∙ ap (λ o. if_found o (λ r. went (with_slots ((k, r.0) ∷ slots) stack r.1))) gives) refl)
        (row_goes L side runs inside ((k, a) ∷ slots) blocks returned called (Step.ReturnPointerGet k) (return_pointer_get k) stack (word_item a ∷ stack) m' m' refl (ap (λ o. if_found o (λ w. went (with_slots ((k, a) ∷ slots) (word_item w ∷ stack) m'))) (own_slot k a slots)))

    made : (ts : List Tree) (k n : ℕ) (slots : List (ℕ × W)) (stack : List (Item V W)) (m : M) → ((j : ℕ) → k ≤ j → slot_word j slots ≡ None) → L.Room (n + length ts) m → SpacesMade ts k n slots stack m
    made [] k n slots stack m unused room =
        let e : n + 0 ≡ n = omega arith in
        record { addresses = []; after_slots = slots; memory = m; goes = runs_none _; found = tt; kept = λ j lt. refl; pointers = tt; keeps = L.keeps_all m; room = subst (λ k. L.Room k m) e room }
    made (t ∷ ts) k n slots stack m unused room =
        let e : n + length (t ∷ ts) ≡ suc (n + length ts) = omega arith in
        let d = L.give t (n + length ts) m (subst (λ k. L.Room k m) e room) in
        let a = d.0 in
        let rest = made ts (k + 1) n ((k, a) ∷ slots) (word_item a ∷ stack) d.1 (λ j le. other_slot j k a slots (λ e. absurd (omega arith)) ∙ unused j (omega arith)) d.7 in
        let back = earlier_base m d.1 rest.memory a t ts rest.addresses d.6 d.4 rest.pointers in
        record {
          addresses = a ∷ rest.addresses;
          after_slots = rest.after_slots;
          memory = rest.memory;
          goes = runs_then (space_goes k t slots stack m d.1 a d.2 (unused k (omega arith))) rest.goes;
          found = (rest.kept k (omega arith) ∙ own_slot k a slots, rest.found);
          kept = λ j lt. rest.kept j (omega arith) ∙ other_slot j k a slots (λ e. absurd (omega arith));
          pointers = (record { new = d.8; made = L.keeps_made d.1 rest.memory a t rest.keeps d.4; given = L.keeps_given d.1 rest.memory a rest.keeps d.3; is_32 = d.5 }, back.0, back.1);
          keeps = L.keeps_then m d.1 rest.memory d.6 rest.keeps;
          room = rest.room;
        }

    pub spaces_made : (ts : List Tree) (n : ℕ) (stack : List (Item V W)) (m : M) → L.Room (n + length ts) m → SpacesMade ts 0 n [] stack m
    spaces_made ts n stack m room = made ts 0 n [] stack m (λ j le. refl) room
