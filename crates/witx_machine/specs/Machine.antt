-- The machine that runs a trace: a stack, slots of addresses, blocks that were set aside, and a memory.
-- What values, words and memories are is a parameter, a record of operations; so is what stands for an
-- event, so that each event may carry its place. Each event has one row; where its condition fails there
-- is no rule, and the run is stuck at that event. The machine consumes traces, and knows nothing of how
-- they are made.
use Rattle.std.specs.Prelude.{ℕ, zero, suc, List, [], ◌∷◌, ◌++◌, length, Bool, true, false, ◌&&◌, ◌||◌, cond, Option, Some, None, is_none, is_some, slice_get, map, nat_eq}
use Rattle.witx_ast.specs.Tree.{Tree}
use Rattle.witx_machine.specs.declared.surface.WasmType.{WasmType}
use Rattle.witx_machine.specs.Words.{Scalar}
use Rattle.witx_machine.specs.Events.{Event, emit, space, push, finish}
use Rattle.witx_machine.specs.Rows.{Row, row, get_arg, addr_of, lowering, lifting, list_pointer_length, list_from_pointer_length, return_pointer_get, load, store, tuple_lift, tuple_lower, variant_payload, reuse_return, result_lower, result_lift, call_wasm, call_interface, returns}

pub record Domain (V W M : Type 0) : Type 0 where
  -- the one word of a value, and the value of a word
  pub lower : Scalar → V → Option W
  pub lift : Scalar → W → Option V
  -- a list's address and length
  pub list_words : V → Option (W × W)
  pub list_value : W → W → Option V
  pub tuple : List V → V
  pub parts : ℕ → V → Option (List V)
  -- the next address, made for a named type, with nothing there or with a value
  pub give : Tree → M → Option (W × M)
  pub put : Tree → V → M → Option (W × M)
  pub get : Tree → W → M → Option V
  pub set : Tree → W → V → M → Option M
  -- which case a result has, true for the error, and its payload with the name of its type
  pub picks : Option Tree → Option Tree → V → Option (Bool × Option (V × Option Tree))
  pub case_word : Bool → W
  -- which case a word stands for, and the result with that case and payload
  pub chooses : W → Option Bool
  pub result : Bool → Option V → V
  pub has_type : WasmType → W → Bool

-- what comes of an event: a state; or it has no rule; or something that it ran has none, at that place
pub data Tried (P A : Type 0) : Type 0 where
  went : A → Tried P A
  no_rule : Tried P A
  stuck_at : P → Tried P A

abbrev pub if_found : {P A B : Type 0} → Option A → (A → Tried P B) → Tried P B
if_found None f = no_rule
if_found (Some x) f = f x

abbrev pub goes_on : {P A B : Type 0} → Tried P A → (A → Tried P B) → Tried P B
goes_on (went x) f = f x
goes_on no_rule f = no_rule
goes_on (stuck_at p) f = stuck_at p

abbrev pub only : {P A : Type 0} → Bool → Tried P A → Tried P A
only true t = t
only false t = no_rule

-- a stack item: a word, or a value that may carry the named type under which it came
pub data Item (V W : Type 0) : Type 0 where
  word_item : W → Item V W
  value_item : V → Option Tree → Item V W

abbrev pub plain_item : {V W : Type 0} → V → Item V W
plain_item v = value_item v None

-- events set aside between a push and its finish
pub record Block (E : Type 0) : Type 0 where
  pub events : List E
  pub has_value : Bool
  pub end : E

-- E: an event with what else is known of it; C: what is noted at the call. The top of the stack comes first, and so does the block set aside last
pub record State (E V W M C : Type 0) : Type 0 where
  pub stack : List (Item V W)
  pub slots : List (ℕ × W)
  pub memory : M
  pub blocks : List (Block E)
  pub returned : Option W
  pub called : Option C
  pub answer : Option (List (Item V W))

-- where an event stands: in no block, in one that result_lower runs on a payload or none, or in one that result_lift runs
pub data Inside (V W : Type 0) : Type 0 where
  outside : Inside V W
  in_lower : Option (Item V W) → Inside V W
  in_lift : Inside V W

abbrev pub is_nil : {A : Type 0} → List A → Bool
is_nil [] = true
is_nil (x ∷ xs) = false

abbrev pub slot_word : {W : Type 0} → ℕ → List (ℕ × W) → Option W
slot_word k [] = None
slot_word k (s ∷ slots) = cond (nat_eq k s.0) (Some s.1) (slot_word k slots)

-- items pushed one after the other
abbrev pub pushed : {A : Type 0} → List A → List A → List A
pushed [] stack = stack
pushed (x ∷ xs) stack = pushed xs (x ∷ stack)

-- n words, values or items off the stack, in the order in which they were pushed
abbrev pub words_off : {V W : Type 0} → ℕ → List W → List (Item V W) → Option (List W × List (Item V W))
words_off zero ws stack = Some (ws, stack)
words_off (suc n) ws (word_item w ∷ stack) = words_off n (w ∷ ws) stack
words_off (suc n) ws (value_item v t ∷ stack) = None
words_off (suc n) ws [] = None

abbrev pub values_off : {V W : Type 0} → ℕ → List V → List (Item V W) → Option (List V × List (Item V W))
values_off zero vs stack = Some (vs, stack)
values_off (suc n) vs (value_item v t ∷ stack) = values_off n (v ∷ vs) stack
values_off (suc n) vs (word_item w ∷ stack) = None
values_off (suc n) vs [] = None

abbrev pub items_off : {A : Type 0} → ℕ → List A → List A → Option (List A × List A)
items_off zero xs stack = Some (xs, stack)
items_off (suc n) xs (x ∷ stack) = items_off n (x ∷ xs) stack
items_off (suc n) xs [] = None

abbrev pub payload_item : {V W : Type 0} → Option (V × Option Tree) → Option (Item V W)
payload_item None = None
payload_item (Some p) = Some (value_item p.0 p.1)

abbrev pub payload_in : {V W : Type 0} → Inside V W → Option (Item V W)
payload_in outside = None
payload_in in_lift = None
payload_in (in_lower x) = x

-- what result_lower pushes, from what its block left
abbrev pub block_word : {V W M : Type 0} → Domain V W M → Bool → Option (Item V W) → Option W
block_word D e None = Some (D.case_word e)
block_word D e (Some (word_item w)) = cond (D.has_type WasmType.I32 w) (Some w) None
block_word D e (Some (value_item v t)) = None

-- the payload of what result_lift pushes, from what its block left
abbrev pub lifted_payload : {V W : Type 0} → Option (Item V W) → Option (Option V)
lifted_payload None = Some None
lifted_payload (Some (value_item v t)) = Some (Some v)
lifted_payload (Some (word_item w)) = None

module _ {P V W A : Type 0} where
  abbrev pub top_word : List (Item V W) → (W → List (Item V W) → Tried P A) → Tried P A
  top_word (word_item w ∷ rest) f = f w rest
  top_word (value_item v t ∷ rest) f = no_rule
  top_word [] f = no_rule

  abbrev pub top_value : List (Item V W) → (V → Option Tree → List (Item V W) → Tried P A) → Tried P A
  top_value (value_item v t ∷ rest) f = f v t rest
  top_value (word_item w ∷ rest) f = no_rule
  top_value [] f = no_rule

-- the two blocks set aside last
abbrev pub two_blocks : {P E A : Type 0} → List (Block E) → (Block E → Block E → List (Block E) → Tried P A) → Tried P A
two_blocks (b ∷ a ∷ more) f = f a b more
two_blocks (b ∷ []) f = no_rule
two_blocks [] f = no_rule

abbrev pub with_stack : {E V W M C : Type 0} → List (Item V W) → State E V W M C → State E V W M C
with_stack stack s = record s { stack = stack }

module _ {P E V W M C : Type 0} where
  -- one item where a block's finish has a value, else none; the finish has no rule where the stack holds anything else
  abbrev pub left_over : P → Bool → List (Item V W) → State E V W M C → Tried P (Option (Item V W) × State E V W M C)
  left_over p true (x ∷ []) s = went (Some x, s)
  left_over p true (x ∷ y ∷ xs) s = stuck_at p
  left_over p true [] s = stuck_at p
  left_over p false [] s = went (None, s)
  left_over p false (x ∷ xs) s = stuck_at p

  -- the call was made, the stack has exactly these items, and no block is left
  abbrev pub return_items : ℕ → Inside V W → State E V W M C → Tried P (State E V W M C)
  return_items n outside s =
      if_found (items_off n [] s.stack) (λ r. only (is_some s.called && (is_nil s.blocks && is_nil r.1)) (went (record s { stack = r.1; answer = Some r.0 })))
  return_items n (in_lower x) s = no_rule
  return_items n in_lift s = no_rule

-- what the trace's side knows: the arguments, the cases of the result, and what a call does
pub record Side (P E V W M C : Type 0) : Type 0 where
  pub arguments : List (Item V W)
  -- whether each of the two cases of the function's result has a type exactly where one is given here
  pub has_cases : Option Tree → Option Tree → Bool
  pub on_wasm : List ℕ → List ℕ → List WasmType → List WasmType → State E V W M C → Tried P (State E V W M C)
  pub on_interface : List ℕ → List ℕ → List Tree → List Tree → State E V W M C → Tried P (State E V W M C)

-- the events so far of a block that is being set aside, how many inner ones are open, and its push
pub data Flow (E : Type 0) : Type 0 where
  flowing : Flow E
  gathering : E → ℕ → List E → Flow E

abbrev pub set_aside : {E V W M C : Type 0} → List E → Bool → E → State E V W M C → State E V W M C
set_aside es v e s = record s { blocks = record { events = es; has_value = v; end = e } ∷ s.blocks }

module _ {P E V W M C : Type 0} where
  -- An event that has no rule is named by its place. A return has one only as the last event
  abbrev pub after : P → Bool → Tried P (State E V W M C) → (State E V W M C → Tried P (State E V W M C)) → Tried P (State E V W M C)
  after p last (went s) go = cond (is_none s.answer || last) (go s) (stuck_at p)
  after p last no_rule go = stuck_at p
  after p last (stuck_at q) go = stuck_at q

  -- the trace has reached its return; p: the place after its last event
  abbrev pub ended : P → Option C → Option (List (Item V W)) → State E V W M C → Tried P (C × List (Item V W) × State E V W M C)
  ended p (Some c) (Some xs) s = went (c, xs, s)
  ended p None xs s = stuck_at p
  ended p (Some c) None s = stuck_at p

module _ {P E V W M C : Type 0} (event : E → Event) (place : E → P) (D : Domain V W M) (side : Side P E V W M C) where
  module _ (runs : Inside V W → List E → State E V W M C → Tried P (State E V W M C)) where
    -- a block, on an empty stack of its own
    abbrev pub run_block : Inside V W → Block E → State E V W M C → Tried P (Option (Item V W) × State E V W M C)
    run_block inside b s = goes_on (runs inside b.events (with_stack [] s)) (λ s. left_over (place b.end) b.has_value s.stack s)

    module _ (inside : Inside V W) where
      -- the table: what each step takes from the stack, under which condition, and what it leaves
      abbrev pub act : Row → State E V W M C → Tried P (State E V W M C)
      act (get_arg i) s = if_found (slice_get side.arguments i) (λ x. went (with_stack (x ∷ s.stack) s))
      act addr_of s =
          top_value s.stack (λ v t rest. if_found t (λ t. if_found (D.put t v s.memory) (λ r. went (record s { stack = word_item r.0 ∷ rest; memory = r.1 }))))
      act (lowering x) s = top_value s.stack (λ v t rest. if_found (D.lower x v) (λ w. went (with_stack (word_item w ∷ rest) s)))
      act (lifting x) s = top_word s.stack (λ w rest. if_found (D.lift x w) (λ v. went (with_stack (plain_item v ∷ rest) s)))
      act list_pointer_length s = top_value s.stack (λ v t rest. if_found (D.list_words v) (λ ws. went (with_stack (word_item ws.1 ∷ word_item ws.0 ∷ rest) s)))
      act list_from_pointer_length s =
          top_word s.stack (λ l rest. top_word rest (λ a rest. if_found (D.list_value a l) (λ v. went (with_stack (plain_item v ∷ rest) s))))
      act (return_pointer_get k) s = if_found (slot_word k s.slots) (λ w. went (with_stack (word_item w ∷ s.stack) s))
      act (load t) s = top_word s.stack (λ a rest. if_found (D.get t a s.memory) (λ v. went (with_stack (value_item v (Some t) ∷ rest) s)))
      act (store t) s =
          top_word s.stack (λ a rest. top_value rest (λ v n rest. if_found (D.set t a v s.memory) (λ m. went (record s { stack = rest; memory = m }))))
      act (tuple_lift n) s = if_found (values_off n [] s.stack) (λ r. went (with_stack (plain_item (D.tuple r.0) ∷ r.1) s))
      act (tuple_lower n) s = top_value s.stack (λ v t rest. if_found (D.parts n v) (λ vs. went (with_stack (pushed (map plain_item vs) rest) s)))
      act variant_payload s = if_found (payload_in inside) (λ x. went (with_stack (x ∷ s.stack) s))
      act reuse_return s = if_found s.returned (λ w. went (with_stack (word_item w ∷ s.stack) s))
      act (result_lower ok err) s =
          only (side.has_cases ok err) (top_value s.stack (λ v t rest. two_blocks s.blocks (λ a b more. if_found (D.picks ok err v) (λ c.
          goes_on (run_block (in_lower (payload_item c.1)) (cond c.0 b a) (record s { blocks = more })) (λ r.
          if_found (block_word D c.0 r.0) (λ w. went (with_stack (word_item w ∷ rest) r.1)))))))
      act result_lift s =
          top_word s.stack (λ w rest. two_blocks s.blocks (λ a b more. if_found (D.chooses w) (λ e.
          goes_on (run_block in_lift (cond e b a) (record s { blocks = more })) (λ r.
          if_found (lifted_payload r.0) (λ p. went (with_stack (plain_item (D.result e p) ∷ rest) r.1))))))
      act (call_wasm m n ps rs) s = side.on_wasm m n ps rs s
      act (call_interface m n ps rs) s = side.on_interface m n ps rs s
      act (returns n) s = return_items n inside s

      -- a slot gets the next address, unless it has one
      abbrev pub give_slot : ℕ → Tree → Option W → State E V W M C → Tried P (State E V W M C)
      give_slot k t (Some w) s = no_rule
      give_slot k t None s = if_found (D.give t s.memory) (λ r. went (record s { slots = (k, r.0) ∷ s.slots; memory = r.1 }))

      -- an event while no block is being set aside; go: the rest of the trace
      abbrev pub flows : Event → E → Bool → (Flow E → State E V W M C → Tried P (State E V W M C)) → State E V W M C → Tried P (State E V W M C)
      flows (emit x) e last go s = after (place e) last (act (row x) s) (go flowing)
      flows (space k t) e last go s = after (place e) last (give_slot k t (slot_word k s.slots) s) (go flowing)
      flows push e last go s = go (gathering e 0 []) s
      flows (finish v) e last go s = stuck_at (place e)

  -- an event inside a block that is being set aside
  abbrev pub gathers : Event → E → E → ℕ → List E → (Flow E → State E V W M C → Tried P (State E V W M C)) → State E V W M C → Tried P (State E V W M C)
  gathers (emit x) e b d es go s = go (gathering b d (es ++ e ∷ [])) s
  gathers (space k t) e b d es go s = go (gathering b d (es ++ e ∷ [])) s
  gathers push e b d es go s = go (gathering b (suc d) (es ++ e ∷ [])) s
  gathers (finish v) e b zero es go s = go flowing (set_aside es v e s)
  gathers (finish v) e b (suc d) es go s = go (gathering b d (es ++ e ∷ [])) s

  module _ (runs : Inside V W → List E → State E V W M C → Tried P (State E V W M C)) (inside : Inside V W) where
    abbrev pub play : List E → Flow E → State E V W M C → Tried P (State E V W M C)
    play [] flowing s = went s
    play [] (gathering b d es) s = stuck_at (place b)
    play (e ∷ more) flowing s = flows runs inside (event e) e (is_nil more) (play more) s
    play (e ∷ more) (gathering b d es) s = gathers (event e) e b d es (play more) s

  -- blocks that run blocks, at most n deep
  abbrev pub runs_within : ℕ → Inside V W → List E → State E V W M C → Tried P (State E V W M C)
  runs_within zero inside es s = no_rule
  runs_within (suc n) inside es s = play (runs_within n) inside es flowing s

  -- A whole trace. No block is run twice, so they are nested at most as deep as there are events
  abbrev pub run_trace : P → List E → State E V W M C → Tried P (C × List (Item V W) × State E V W M C)
  run_trace p es s = goes_on (runs_within (suc (length es)) outside es s) (λ s. ended p s.called s.answer s)
