-- What the callee stores through the return pointers, and what the caller loads.
use Rattle.std.proofs.Common.{◌≡◌, ◌≢◌, ℕ, ◌+◌, refl, sym, ap, ◌∙◌, subst, Option, Some, None, List, [], ◌∷◌, map}
use Rattle.witx_ast.specs.Tree.{Tree}
use Rattle.witx_ast.specs.Plain.{plain}
use Rattle.witx_machine.specs.Events.{Step, Event}
use Rattle.witx_machine.specs.Rows.{load, store, return_pointer_get}
use Rattle.witx_machine.specs.Traces.{store_all, load_all}
use Rattle.witx_machine.specs.Machine.{Domain, went, State, Side, Inside, Item, word_item, value_item, Block, if_found, pushed}
use Rattle.witx_machine.specs.Passage.{Meaning, HoldAll}
use Rattle.witx_machine.proofs.Laws.{Laws}
use Rattle.witx_machine.specs.Shims.{Alike}
use Rattle.witx_machine.proofs.Runs.{Try, Runs, runs_none, runs_then, plays, AreItemsOf}
use Rattle.witx_machine.proofs.Params.{row_goes, get_goes, StandAt}
use Rattle.witx_machine.proofs.Spaces.{SlotsAt, AreOther, PointersAt}
use Rattle.witx_machine.proofs.Blocks.{AllSteps, steps_append}

pub store_steps : (w : ℕ) (ts : List Tree) → AllSteps (store_all w ts)
store_steps w [] = tt
store_steps w (t ∷ ts) = steps_append (store_all (w + 1) ts) _ (store_steps (w + 1) ts) tt

pub load_steps : (k : ℕ) (ts : List Tree) → AllSteps (load_all k ts)
load_steps k [] = tt
load_steps k (t ∷ ts) = load_steps (k + 1) ts

module _ {V W M : Type 0} {D : Domain V W M} {J : Meaning V W M} (L : Laws D J) where
  -- each address holds a value, which loads
  abbrev pub LoadsAll : M → List Tree → List W → List V → Type 0
  LoadsAll m [] [] [] = Unit {0}
  LoadsAll m (t ∷ ts) (a ∷ rest) (v ∷ vs) = (D.get t a m ≡ Some v) × J.holds m a v × LoadsAll m ts rest vs
  LoadsAll m _ _ _ = ⊥

  -- each is a value of its type
  abbrev pub AreOf : List Tree → List V → Type 0
  AreOf [] [] = Unit {0}
  AreOf (t ∷ ts) (v ∷ vs) = L.Is (plain t) v × AreOf ts vs
  AreOf [] (v ∷ vs) = ⊥
  AreOf (t ∷ ts) [] = ⊥

  pub hold_all : (m : M) (ts : List Tree) (rest : List W) (vs : List V) → LoadsAll m ts rest vs → HoldAll D J m rest vs
  hold_all m [] [] [] h = tt
  hold_all m (t ∷ ts) (a ∷ rest) (v ∷ vs) h = (h.1, hold_all m ts rest vs h.2)
  hold_all m [] [] (v ∷ vs) h = absurd h
  hold_all m [] (a ∷ rest) vs h = absurd h
  hold_all m (t ∷ ts) [] vs h = absurd h
  hold_all m (t ∷ ts) (a ∷ rest) [] h = absurd h

  -- what loads under a type loads under an alike one
  pub loads_alike : (m : M) (ts us : List Tree) (rest : List W) (vs : List V) → Alike ts us → LoadsAll m ts rest vs → LoadsAll m us rest vs
  loads_alike m [] [] [] [] a h = tt
  loads_alike m (t ∷ ts) (u ∷ us) (w ∷ rest) (v ∷ vs) a h = (L.got_alike m t u w v a.0 h.0, h.1, loads_alike m ts us rest vs a.1 h.2)
  loads_alike m [] (u ∷ us) rest vs a h = absurd a
  loads_alike m (t ∷ ts) [] rest vs a h = absurd a
  loads_alike m [] [] [] (v ∷ vs) a h = absurd h
  loads_alike m [] [] (w ∷ rest) vs a h = absurd h
  loads_alike m (t ∷ ts) (u ∷ us) [] vs a h = absurd h
  loads_alike m (t ∷ ts) (u ∷ us) (w ∷ rest) [] a h = absurd h

  pub are_alike : (ts us : List Tree) (vs : List V) → Alike ts us → AreOf ts vs → AreOf us vs
  are_alike [] [] [] a h = tt
  are_alike (t ∷ ts) (u ∷ us) (v ∷ vs) a h = (subst (λ p. L.Is p v) a.0 h.0, are_alike ts us vs a.1 h.1)
  are_alike [] [] (v ∷ vs) a h = absurd h
  are_alike (t ∷ ts) (u ∷ us) [] a h = absurd h
  are_alike [] (u ∷ us) vs a h = absurd a
  are_alike (t ∷ ts) [] vs a h = absurd a

  -- what loads and is held elsewhere stays
  loads_elsewhere : (m m' : M) (a : W) (ts : List Tree) (rest : List W) (vs : List V) → ((u : W) (x : V) → u ≢ a → J.holds m u x → J.holds m' u x) → ((q : Tree) (u : W) (x : V) → u ≢ a → D.get q u m ≡ Some x → D.get q u m' ≡ Some x) → AreOther a rest → LoadsAll m ts rest vs → LoadsAll m' ts rest vs
  loads_elsewhere m m' a [] [] [] f g o h = tt
  loads_elsewhere m m' a (t ∷ ts) (b ∷ rest) (v ∷ vs) f g o h =
      (g t b v (λ p. o.0 (sym p)) h.0, f b v (λ p. o.0 (sym p)) h.1, loads_elsewhere m m' a ts rest vs f g o.1 h.2)
  loads_elsewhere m m' a [] [] (v ∷ vs) f g o h = absurd h
  loads_elsewhere m m' a [] (b ∷ rest) vs f g o h = absurd h
  loads_elsewhere m m' a (t ∷ ts) [] vs f g o h = absurd h
  loads_elsewhere m m' a (t ∷ ts) (b ∷ rest) [] f g o h = absurd h

  module _ {C : Type 0} (side : Side (Unit {0}) Event V W M C) (runs : Inside V W → List Event → State Event V W M C → Try (State Event V W M C)) (inside : Inside V W) (slots : List (ℕ × W)) (blocks : List (Block Event)) (returned : Option W) (called : Option C) where
    abbrev st : List (Item V W) → M → State Event V W M C
    st stack memory = record { stack = stack; slots = slots; memory = memory; blocks = blocks; returned = returned; called = called; answer = None }

    abbrev Goes : List Event → State Event V W M C → State Event V W M C → Type 0
    Goes = Runs (plays D side runs inside)

    pub record StoredAll (base : M) (w : ℕ) (ts : List Tree) (rest : List W) (vs : List V) (items stack : List (Item V W)) (m : M) : Type 0 where
      pub memory : M
      pub goes : Goes (store_all w ts) (st (pushed items stack) m) (st stack memory)
      pub loads : LoadsAll memory ts rest vs
      pub keeps : L.Keeps base memory
      pub given : (u : W) → J.given m u → J.given memory u
      pub made : (u : W) (q : Tree) → AreOther u rest → J.made_for m u q → J.made_for memory u q

    -- the cells were made for types that are alike to those under which they are stored
    pub stores : (base : M) (w : ℕ) (qs ts : List Tree) → Alike qs ts → (rest : List W) (vs : List V) (items stack : List (Item V W)) (m : M) → L.Keeps base m → PointersAt L base m qs rest → AreOf ts vs → AreItemsOf items vs → StandAt side.arguments w (map word_item rest) → StoredAll base w ts rest vs items stack m
    stores base w [] (t ∷ ts) alike rest vs items' stack m keeps p are items stand = absurd alike
    stores base w (q ∷ qs) [] alike rest vs items' stack m keeps p are items stand = absurd alike
    stores base w [] [] alike [] [] [] stack m keeps p are items stand = record { memory = m; goes = runs_none (st stack m); loads = tt; keeps = keeps; given = λ u g. g; made = λ u q o g. g }
    stores base w (q ∷ qs) (t ∷ ts) alike (a ∷ rest) (v ∷ vs) (value_item u c ∷ xs) stack m keeps p are items stand =
        let more = stores base (w + 1) qs ts alike.1 rest vs xs (value_item u c ∷ stack) m keeps p.2 are.1 items.1 stand.1 in
        let m1 = more.memory in
        let d = L.set base m1 q t a v alike.0 more.keeps p.0.new (more.made a q p.1 p.0.made) are.0 in
        let puts = row_goes L side runs inside slots blocks returned called (Step.Store t) (store t) (word_item a ∷ value_item u c ∷ stack) stack m1 d.0 refl (ap (λ o. if_found o (λ m. went (st stack m))) (ap (λ u. D.set t a u m1) items.0 ∙ d.1)) in
        record {
          memory = d.0;
          goes = runs_then {s' = st (value_item u c ∷ stack) m1} more.goes (runs_then {s' = st (word_item a ∷ value_item u c ∷ stack) m1} (get_goes L side runs inside slots blocks returned called w (word_item a) (value_item u c ∷ stack) m1 stand.0) puts);
          loads = (d.2, d.3, loads_elsewhere m1 d.0 a ts rest vs d.7 d.8 p.1 more.loads);
          keeps = d.4;
          given = λ u g. d.5 u (more.given u g);
          made = λ u q o g. d.6 u q o.0 (more.made u q o.1 g);
        }
    stores base w [] [] alike [] [] (word_item u ∷ xs) stack m keeps p are items stand = absurd items
    stores base w [] [] alike [] [] (value_item u c ∷ xs) stack m keeps p are items stand = absurd items
    stores base w [] [] alike [] (v ∷ vs) items' stack m keeps p are items stand = absurd are
    stores base w [] [] alike (a ∷ rest) vs items' stack m keeps p are items stand = absurd p
    stores base w (q ∷ qs) (t ∷ ts) alike [] vs items' stack m keeps p are items stand = absurd p
    stores base w (q ∷ qs) (t ∷ ts) alike (a ∷ rest) [] items' stack m keeps p are items stand = absurd are
    stores base w (q ∷ qs) (t ∷ ts) alike (a ∷ rest) (v ∷ vs) [] stack m keeps p are items stand = absurd items
    stores base w (q ∷ qs) (t ∷ ts) alike (a ∷ rest) (v ∷ vs) (word_item u ∷ xs) stack m keeps p are items stand = absurd items

    -- the caller
    pub record LoadedAll (k : ℕ) (ts : List Tree) (vs : List V) (stack : List (Item V W)) (m : M) : Type 0 where
      pub items : List (Item V W)
      pub goes : Goes (load_all k ts) (st stack m) (st (pushed items stack) m)
      pub values : AreItemsOf items vs

    pub loads : (k : ℕ) (ts : List Tree) (rest : List W) (vs : List V) (stack : List (Item V W)) (m : M) → SlotsAt slots k rest → LoadsAll m ts rest vs → LoadedAll k ts vs stack m
    loads k [] [] [] stack m s h = record { items = []; goes = runs_none (st stack m); values = tt }
    loads k (t ∷ ts) (a ∷ rest) (v ∷ vs) stack m s h =
        let one = row_goes L side runs inside slots blocks returned called (Step.ReturnPointerGet k) (return_pointer_get k) stack (word_item a ∷ stack) m m refl (ap (λ o. if_found o (λ w. went (st (word_item w ∷ stack) m))) s.0) in
        let two = row_goes L side runs inside slots blocks returned called (Step.Load t) (load t) (word_item a ∷ stack) (value_item v (Some t) ∷ stack) m m refl (ap (λ o. if_found o (λ v. went (st (value_item v (Some t) ∷ stack) m))) h.0) in
        let more = loads (k + 1) ts rest vs (value_item v (Some t) ∷ stack) m s.1 h.2 in
        record { items = value_item v (Some t) ∷ more.items; goes = runs_then one (runs_then two more.goes); values = (refl, more.values) }
    loads k [] [] (v ∷ vs) stack m s h = absurd h
    loads k [] (a ∷ rest) vs stack m s h = absurd h
    loads k (t ∷ ts) [] vs stack m s h = absurd h
    loads k (t ∷ ts) (a ∷ rest) [] stack m s h = absurd h
