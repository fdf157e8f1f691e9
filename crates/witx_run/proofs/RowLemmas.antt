-- The rows of the machine's table are what the program makes of its stack, memory and slots.
use Rattle.std.proofs.Common.{◌≡◌, ℕ, Bool, true, false, List, [], ◌∷◌, map, refl, ap, sym, Option, Some, None, slice_get}
use Rattle.witx_ast.specs.Tree.{Tree}
use Rattle.witx_machine.specs.Words.{Scalar, when}
use Rattle.witx_machine.specs.Events.{Event}
use Rattle.witx_machine.specs.Rows.{get_arg, addr_of, lowering, lifting, list_pointer_length, list_from_pointer_length, return_pointer_get, load, store, tuple_lift, tuple_lower, reuse_return}
use Rattle.witx_machine.specs.Machine.{Domain, Tried, went, if_found, Item, word_item, value_item, plain_item, State, Inside, Side, with_stack, values_off, slot_word, top_word, top_value, pushed, act}
use Rattle.witx_run.specs.StackRows.{top_word_of, top_value_of, pushed_item, pushed_word, pushed_value, pushed_words, lowering_row, lifting_row, list_words_row, list_value_row, list_below, load_row, loaded, store_row, stored_below, stored, addr_row, put_named, placed, tuple_row, tupled, parts_row, parts_pushed, tried_if}

module _ {P E V W M C : Type 0} (D : Domain V W M) (s : State E V W M C) where
  abbrev pub on_stack : Option (List (Item V W)) → Tried P (State E V W M C)
  on_stack o = if_found o (λ stack. went (with_stack stack s))

  abbrev pub on_memory : Option (List (Item V W) × M) → Tried P (State E V W M C)
  on_memory o = if_found o (λ r. went (record s { stack = r.0; memory = r.1 }))

  -- what the program says of a row
  pub went-stack : (went : Bool) (stack : List (Item V W)) (o : Option (List (Item V W))) → when went (Some stack) ≡ o → on_stack o ≡ tried_if went (with_stack stack s)
  went-stack true stack o e = ap on_stack (sym e)
  went-stack false stack o e = ap on_stack (sym e)

  pub went-memory : (went : Bool) (stack : List (Item V W)) (m : M) (o : Option (List (Item V W) × M)) → when went (Some (stack, m)) ≡ o → on_memory o ≡ tried_if went (record s { stack = stack; memory = m })
  went-memory true stack m o e = ap on_memory (sym e)
  went-memory false stack m o e = ap on_memory (sym e)

  item-is : (o : Option (Item V W)) → if_found {P = P} o (λ x. went (with_stack (x ∷ s.stack) s)) ≡ on_stack (pushed_item o s.stack)
  item-is None = refl
  item-is (Some x) = refl

  word-is : (o : Option W) (rest : List (Item V W)) → if_found {P = P} o (λ w. went (with_stack (word_item w ∷ rest) s)) ≡ on_stack (pushed_word o rest)
  word-is None rest = refl
  word-is (Some w) rest = refl

  value-is : (o : Option V) (rest : List (Item V W)) → if_found {P = P} o (λ v. went (with_stack (plain_item v ∷ rest) s)) ≡ on_stack (pushed_value o rest)
  value-is None rest = refl
  value-is (Some v) rest = refl

  words-are : (o : Option (W × W)) (rest : List (Item V W)) → if_found {P = P} o (λ ws. went (with_stack (word_item ws.1 ∷ word_item ws.0 ∷ rest) s)) ≡ on_stack (pushed_words o rest)
  words-are None rest = refl
  words-are (Some ws) rest = refl

  parts-are : (o : Option (List V)) (rest : List (Item V W)) → if_found {P = P} o (λ vs. went (with_stack (pushed (map plain_item vs) rest) s)) ≡ on_stack (parts_pushed o rest)
  parts-are None rest = refl
  parts-are (Some vs) rest = refl

  loaded-is : (t : Tree) (o : Option V) (rest : List (Item V W)) → if_found {P = P} o (λ v. went (with_stack (value_item v (Some t) ∷ rest) s)) ≡ on_stack (loaded t o rest)
  loaded-is t None rest = refl
  loaded-is t (Some v) rest = refl

  tuple-is : (o : Option (List V × List (Item V W))) → if_found {P = P} o (λ r. went (with_stack (plain_item (D.tuple r.0) ∷ r.1) s)) ≡ on_stack (tupled D o)
  tuple-is None = refl
  tuple-is (Some r) = refl

  placed-is : (o : Option (W × M)) (rest : List (Item V W)) → if_found {P = P} o (λ r. went (record s { stack = word_item r.0 ∷ rest; memory = r.1 })) ≡ on_memory (placed o rest)
  placed-is None rest = refl
  placed-is (Some r) rest = refl

  named-is : (n : Option Tree) (v : V) (rest : List (Item V W)) →
      if_found {P = P} n (λ t. if_found (D.put t v s.memory) (λ r. went (record s { stack = word_item r.0 ∷ rest; memory = r.1 }))) ≡ on_memory (put_named D n v s.memory rest)
  named-is None v rest = refl
  named-is (Some t) v rest = placed-is (D.put t v s.memory) rest

  stored-is : (o : Option M) (rest : List (Item V W)) → if_found {P = P} o (λ m. went (record s { stack = rest; memory = m })) ≡ on_memory (stored o rest)
  stored-is None rest = refl
  stored-is (Some m) rest = refl

  below-is : (t : Tree) (a : W) (rest : List (Item V W)) →
      top_value {P = P} rest (λ v n rest. if_found (D.set t a v s.memory) (λ m. went (record s { stack = rest; memory = m }))) ≡ on_memory (stored_below D t a s.memory (top_value_of rest))
  below-is t a [] = refl
  below-is t a (word_item w ∷ rest) = refl
  below-is t a (value_item v n ∷ rest) = stored-is (D.set t a v s.memory) rest

  list-is : (l : W) (rest : List (Item V W)) → top_word {P = P} rest (λ a rest. if_found (D.list_value a l) (λ v. went (with_stack (plain_item v ∷ rest) s))) ≡ on_stack (list_below D l (top_word_of rest))
  list-is l [] = refl
  list-is l (word_item a ∷ rest) = value-is (D.list_value a l) rest
  list-is l (value_item v t ∷ rest) = refl

module _ {P E V W M C : Type 0} (event : E → Event) (place : E → P) (D : Domain V W M) (side : Side P E V W M C) (runs : Inside V W → List E → State E V W M C → Tried P (State E V W M C)) (inside : Inside V W) (s : State E V W M C) where
  pub arg-row : (i : ℕ) → act event place D side runs inside (get_arg i) s ≡ on_stack D s (pushed_item (slice_get side.arguments i) s.stack)
  arg-row i = item-is D s (slice_get side.arguments i)

  pub pointer-row : (k : ℕ) → act event place D side runs inside (return_pointer_get k) s ≡ on_stack D s (pushed_word (slot_word k s.slots) s.stack)
  pointer-row k = word-is D s (slot_word k s.slots) s.stack

  pub reuse-row : act event place D side runs inside reuse_return s ≡ on_stack D s (pushed_word s.returned s.stack)
  reuse-row = word-is D s s.returned s.stack

  pub lowering-row : (x : Scalar) → act event place D side runs inside (lowering x) s ≡ on_stack D s (lowering_row D x s.stack)
  lowering-row x = by s.stack
    where
      by : (stack : List (Item V W)) → top_value {P = P} stack (λ v t rest. if_found (D.lower x v) (λ w. went (with_stack (word_item w ∷ rest) s))) ≡ on_stack D s (lowering_row D x stack)
      by [] = refl
      by (word_item a ∷ rest) = refl
      by (value_item v t ∷ rest) = word-is D s (D.lower x v) rest

  pub lifting-row : (x : Scalar) → act event place D side runs inside (lifting x) s ≡ on_stack D s (lifting_row D x s.stack)
  lifting-row x = by s.stack
    where
      by : (stack : List (Item V W)) → top_word {P = P} stack (λ w rest. if_found (D.lift x w) (λ v. went (with_stack (plain_item v ∷ rest) s))) ≡ on_stack D s (lifting_row D x stack)
      by [] = refl
      by (word_item a ∷ rest) = value-is D s (D.lift x a) rest
      by (value_item v t ∷ rest) = refl

  pub list-words-row : act event place D side runs inside list_pointer_length s ≡ on_stack D s (list_words_row D s.stack)
  list-words-row = by s.stack
    where
      by : (stack : List (Item V W)) → top_value {P = P} stack (λ v t rest. if_found (D.list_words v) (λ ws. went (with_stack (word_item ws.1 ∷ word_item ws.0 ∷ rest) s))) ≡ on_stack D s (list_words_row D stack)
      by [] = refl
      by (word_item a ∷ rest) = refl
      by (value_item v t ∷ rest) = words-are D s (D.list_words v) rest

  pub list-value-row : act event place D side runs inside list_from_pointer_length s ≡ on_stack D s (list_value_row D s.stack)
  list-value-row = by s.stack
    where
      by : (stack : List (Item V W)) → top_word {P = P} stack (λ l rest. top_word rest (λ a rest. if_found (D.list_value a l) (λ v. went (with_stack (plain_item v ∷ rest) s)))) ≡ on_stack D s (list_value_row D stack)
      by [] = refl
      by (word_item l ∷ rest) = list-is D s l rest
      by (value_item v t ∷ rest) = refl

  pub load-row : (t : Tree) → act event place D side runs inside (load t) s ≡ on_stack D s (load_row D t s.memory s.stack)
  load-row t = by s.stack
    where
      by : (stack : List (Item V W)) → top_word {P = P} stack (λ a rest. if_found (D.get t a s.memory) (λ v. went (with_stack (value_item v (Some t) ∷ rest) s))) ≡ on_stack D s (load_row D t s.memory stack)
      by [] = refl
      by (word_item a ∷ rest) = loaded-is D s t (D.get t a s.memory) rest
      by (value_item v n ∷ rest) = refl

  pub store-row : (t : Tree) → act event place D side runs inside (store t) s ≡ on_memory D s (store_row D t s.memory s.stack)
  store-row t = by s.stack
    where
      by : (stack : List (Item V W)) → top_word {P = P} stack (λ a rest. top_value rest (λ v n rest. if_found (D.set t a v s.memory) (λ m. went (record s { stack = rest; memory = m })))) ≡ on_memory D s (store_row D t s.memory stack)
      by [] = refl
      by (word_item a ∷ rest) = below-is D s t a rest
      by (value_item v n ∷ rest) = refl

  pub addr-row : act event place D side runs inside addr_of s ≡ on_memory D s (addr_row D s.memory s.stack)
  addr-row = by s.stack
    where
      by : (stack : List (Item V W)) → top_value {P = P} stack (λ v n rest. if_found n (λ t. if_found (D.put t v s.memory) (λ r. went (record s { stack = word_item r.0 ∷ rest; memory = r.1 })))) ≡ on_memory D s (addr_row D s.memory stack)
      by [] = refl
      by (word_item a ∷ rest) = refl
      by (value_item v n ∷ rest) = named-is D s n v rest

  pub tuple-row : (n : ℕ) → act event place D side runs inside (tuple_lift n) s ≡ on_stack D s (tuple_row D n s.stack)
  tuple-row n = tuple-is D s (values_off n [] s.stack)

  pub parts-row : (n : ℕ) → act event place D side runs inside (tuple_lower n) s ≡ on_stack D s (parts_row D n s.stack)
  parts-row n = by s.stack
    where
      by : (stack : List (Item V W)) → top_value {P = P} stack (λ v t rest. if_found (D.parts n v) (λ vs. went (with_stack (pushed (map plain_item vs) rest) s))) ≡ on_stack D s (parts_row D n stack)
      by [] = refl
      by (word_item a ∷ rest) = refl
      by (value_item v t ∷ rest) = parts-are D s (D.parts n v) rest
