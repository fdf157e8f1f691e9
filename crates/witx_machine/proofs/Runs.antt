-- Runs of a part of a trace, and how they are put together.
use Rattle.std.proofs.Common.{◌≡◌, ℕ, suc, ◌+◌, Bool, true, false, cond, ◌||◌, T, refl, ap, ◌∙◌, arith, Some, None, is_none, List, [], ◌∷◌, ◌++◌, append_assoc, append-nil, map, length}
use Rattle.witx_ast.specs.Tree.{Tree}
use Rattle.witx_machine.specs.Events.{Step, Event, emit, space}
use Rattle.witx_machine.specs.Rows.{Row, row}
use Rattle.witx_machine.specs.Machine.{Domain, Tried, went, stuck_at, only, State, Side, Inside, Item, word_item, value_item, Flow, flowing, play, act, give_slot, after, is_nil, slot_word, pushed, words_off, values_off, items_off}

abbrev pub Try : Type 0 → Type 0
Try = Tried (Unit {0})

pub only_true : {A : Type 0} (b : Bool) (t : Try A) → T b → only b t ≡ t
only_true true t h = refl
only_true false t h = absurd h

-- from s these events lead to s', whatever comes after
pub record Runs {S : Type 0} (h : List Event → Flow Event → S → Try S) (es : List Event) (s s' : S) : Type 0 where
  pub by : (rest : List Event) → h (es ++ rest) flowing s ≡ h rest flowing s'

module _ {S : Type 0} {h : List Event → Flow Event → S → Try S} where
  pub runs_none : (s : S) → Runs h [] s s
  runs_none s = record { by = λ rest. refl }

  pub runs_then : {a b : List Event} {s s' s'' : S} → Runs h a s s' → Runs h b s' s'' → Runs h (a ++ b) s s''
  runs_then {a} {b} {s} r q = record { by = λ rest. ap (λ es. h es flowing s) (append_assoc a b rest) ∙ r.by (b ++ rest) ∙ q.by rest }

module _ {V W M C : Type 0} (D : Domain V W M) (side : Side (Unit {0}) Event V W M C) (runs : Inside V W → List Event → State Event V W M C → Try (State Event V W M C)) (inside : Inside V W) where
  abbrev pub plays : List Event → Flow Event → State Event V W M C → Try (State Event V W M C)
  plays = play (λ e. e) (λ e. tt) D side runs inside

  abbrev pub acts : Row → State Event V W M C → Try (State Event V W M C)
  acts = act (λ e. e) (λ e. tt) D side runs inside

  onward : (rest : List Event) (t : Try (State Event V W M C)) (s' : State Event V W M C) → t ≡ went s' → s'.answer ≡ None → after tt (is_nil rest) t (plays rest flowing) ≡ plays rest flowing s'
  onward rest t s' e a = ap (λ t. after tt (is_nil rest) t (plays rest flowing)) e ∙ ap (λ n. cond (is_none n || is_nil rest) (plays rest flowing s') (stuck_at tt)) a

  -- where the step has a rule, and isn't the return
  pub runs_act : (x : Step) (s s' : State Event V W M C) → acts (row x) s ≡ went s' → s'.answer ≡ None → Runs plays (emit x ∷ []) s s'
  runs_act x s s' e a = record { by = λ rest. onward rest (acts (row x) s) s' e a }

  pub runs_space : (k : ℕ) (t : Tree) (s s' : State Event V W M C) → give_slot (λ e. e) (λ e. tt) D side runs inside k t (slot_word k s.slots) s ≡ went s' → s'.answer ≡ None → Runs plays (space k t ∷ []) s s'
  runs_space k t s s' e a = record { by = λ rest. onward rest (give_slot (λ e. e) (λ e. tt) D side runs inside k t (slot_word k s.slots) s) s' e a }

-- words, values and items come off the stack as they went on
module _ {V W : Type 0} where
  pub words_come_off : (ws acc : List W) (k : ℕ) (stack : List (Item V W)) → words_off (length ws + k) acc (pushed (map word_item ws) stack) ≡ words_off k (ws ++ acc) stack
  words_come_off [] acc k stack = ap (λ n. words_off n acc stack) (omega arith)
  words_come_off (w ∷ ws) acc k stack =
      let e : length (w ∷ ws) + k ≡ length ws + suc k = omega arith in
      ap (λ n. words_off n acc (pushed (map word_item ws) (word_item w ∷ stack))) e ∙ words_come_off ws acc (suc k) (word_item w ∷ stack)

  pub all_words_off : (ws : List W) (n : ℕ) → n ≡ length ws → words_off {V = V} n [] (pushed (map word_item ws) []) ≡ Some (ws, [])
  all_words_off ws n e =
      let k : n ≡ length ws + 0 = omega arith in
      ap (λ n. words_off n [] (pushed (map word_item ws) [])) k ∙ words_come_off ws [] 0 [] ∙ ap (λ ws. Some (ws, [])) (append-nil ws)

  -- these items hold these values
  abbrev pub AreItemsOf : List (Item V W) → List V → Type 0
  AreItemsOf [] [] = Unit {0}
  AreItemsOf (value_item x t ∷ xs) (v ∷ vs) = (x ≡ v) × AreItemsOf xs vs
  AreItemsOf (word_item w ∷ xs) (v ∷ vs) = ⊥
  AreItemsOf [] (v ∷ vs) = ⊥
  AreItemsOf (value_item x t ∷ xs) [] = ⊥
  AreItemsOf (word_item w ∷ xs) [] = ⊥

  pub values_come_off : (xs : List (Item V W)) (vs acc : List V) (k : ℕ) (stack : List (Item V W)) → AreItemsOf xs vs → values_off (length vs + k) acc (pushed xs stack) ≡ values_off k (vs ++ acc) stack
  values_come_off [] [] acc k stack h = ap (λ n. values_off n acc stack) (omega arith)
  values_come_off (value_item x t ∷ xs) (v ∷ vs) acc k stack h =
      let e : length (v ∷ vs) + k ≡ length vs + suc k = omega arith in
      ap (λ n. values_off n acc (pushed xs (value_item x t ∷ stack))) e
      ∙ values_come_off xs vs acc (suc k) (value_item x t ∷ stack) h.1
      ∙ ap (λ x. values_off k (x ∷ (vs ++ acc)) stack) h.0
  values_come_off (word_item w ∷ xs) (v ∷ vs) acc k stack h = absurd h
  values_come_off [] (v ∷ vs) acc k stack h = absurd h
  values_come_off (value_item x t ∷ xs) [] acc k stack h = absurd h
  values_come_off (word_item w ∷ xs) [] acc k stack h = absurd h

  pub items_come_off : (xs acc : List (Item V W)) (k : ℕ) (stack : List (Item V W)) → items_off (length xs + k) acc (pushed xs stack) ≡ items_off k (xs ++ acc) stack
  items_come_off [] acc k stack = ap (λ n. items_off n acc stack) (omega arith)
  items_come_off (x ∷ xs) acc k stack =
      let e : length (x ∷ xs) + k ≡ length xs + suc k = omega arith in
      ap (λ n. items_off n acc (pushed xs (x ∷ stack))) e ∙ items_come_off xs acc (suc k) (x ∷ stack)

  pub all_items_off : (xs : List (Item V W)) (n : ℕ) → n ≡ length xs → items_off n [] (pushed xs []) ≡ Some (xs, [])
  all_items_off xs n e =
      let k : n ≡ length xs + 0 = omega arith in
      ap (λ n. items_off n [] (pushed xs [])) k ∙ items_come_off xs [] 0 [] ∙ ap (λ xs. Some (xs, [])) (append-nil xs)

  pub all_values_off : (xs : List (Item V W)) (vs : List V) (n : ℕ) → n ≡ length vs → AreItemsOf xs vs → values_off n [] (pushed xs []) ≡ Some (vs, [])
  all_values_off xs vs n e h =
      let k : n ≡ length vs + 0 = omega arith in
      ap (λ n. values_off n [] (pushed xs [])) k ∙ values_come_off xs vs [] 0 [] h ∙ ap (λ vs. Some (vs, [])) (append-nil vs)
