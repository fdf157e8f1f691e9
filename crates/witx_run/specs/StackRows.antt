-- The rows of the machine's table that look at the stack, and at the memory and the slots that they name:
-- what each makes of the stack, top first; nothing where the step has no rule.
use Rattle.std.specs.Prelude.{ℕ, List, [], ◌∷◌, map, Bool, true, false, Option, Some, None}
use Rattle.witx_ast.specs.Tree.{Tree}
use Rattle.witx_machine.specs.Machine.{Domain, Tried, went, no_rule, Item, word_item, value_item, plain_item, pushed, values_off}
use Rattle.witx_machine.specs.Words.{Scalar}

-- what comes of an event that makes this state, where it has a rule
abbrev pub tried_if : {P A : Type 0} → Bool → A → Tried P A
tried_if true s = went s
tried_if false s = no_rule

module _ {V W : Type 0} where
  -- the word on top, and what lies below
  abbrev pub top_word_of : List (Item V W) → Option (W × List (Item V W))
  top_word_of [] = None
  top_word_of (word_item w ∷ rest) = Some (w, rest)
  top_word_of (value_item v t ∷ rest) = None

  -- the value on top with the type under which it came, and what lies below
  abbrev pub top_named_of : List (Item V W) → Option (V × Option Tree × List (Item V W))
  top_named_of [] = None
  top_named_of (value_item v t ∷ rest) = Some (v, t, rest)
  top_named_of (word_item w ∷ rest) = None

  -- the value on top, and what lies below
  abbrev pub top_value_of : List (Item V W) → Option (V × List (Item V W))
  top_value_of [] = None
  top_value_of (value_item v t ∷ rest) = Some (v, rest)
  top_value_of (word_item w ∷ rest) = None

  abbrev pub pushed_item : Option (Item V W) → List (Item V W) → Option (List (Item V W))
  pushed_item None rest = None
  pushed_item (Some x) rest = Some (x ∷ rest)

  abbrev pub pushed_word : Option W → List (Item V W) → Option (List (Item V W))
  pushed_word None rest = None
  pushed_word (Some w) rest = Some (word_item w ∷ rest)

  abbrev pub pushed_value : Option V → List (Item V W) → Option (List (Item V W))
  pushed_value None rest = None
  pushed_value (Some v) rest = Some (plain_item v ∷ rest)

  -- a list becomes its two words
  abbrev pub pushed_words : Option (W × W) → List (Item V W) → Option (List (Item V W))
  pushed_words None rest = None
  pushed_words (Some ws) rest = Some (word_item ws.1 ∷ word_item ws.0 ∷ rest)

  -- a tuple becomes its members
  abbrev pub parts_pushed : Option (List V) → List (Item V W) → Option (List (Item V W))
  parts_pushed None rest = None
  parts_pushed (Some vs) rest = Some (pushed (map plain_item vs) rest)

  -- what stands at an address, under the type by which it is read
  abbrev pub loaded : Tree → Option V → List (Item V W) → Option (List (Item V W))
  loaded t None rest = None
  loaded t (Some v) rest = Some (value_item v (Some t) ∷ rest)

module _ {V W M : Type 0} where
  abbrev pub stored : Option M → List (Item V W) → Option (List (Item V W) × M)
  stored None rest = None
  stored (Some m) rest = Some (rest, m)

  abbrev pub placed : Option (W × M) → List (Item V W) → Option (List (Item V W) × M)
  placed None rest = None
  placed (Some r) rest = Some (word_item r.0 ∷ rest, r.1)

module _ {V W M : Type 0} (D : Domain V W M) where
  -- a value becomes its one word
  abbrev pub lowered : Scalar → Option (V × List (Item V W)) → Option (List (Item V W))
  lowered x None = None
  lowered x (Some p) = pushed_word (D.lower x p.0) p.1

  abbrev pub lowering_row : Scalar → List (Item V W) → Option (List (Item V W))
  lowering_row x stack = lowered x (top_value_of stack)

  -- a word becomes the value whose word it is
  abbrev pub lifted : Scalar → Option (W × List (Item V W)) → Option (List (Item V W))
  lifted x None = None
  lifted x (Some p) = pushed_value (D.lift x p.0) p.1

  abbrev pub lifting_row : Scalar → List (Item V W) → Option (List (Item V W))
  lifting_row x stack = lifted x (top_word_of stack)

  abbrev pub list_lowered : Option (V × List (Item V W)) → Option (List (Item V W))
  list_lowered None = None
  list_lowered (Some p) = pushed_words (D.list_words p.0) p.1

  abbrev pub list_words_row : List (Item V W) → Option (List (Item V W))
  list_words_row stack = list_lowered (top_value_of stack)

  -- an address and a length become their list
  abbrev pub list_below : W → Option (W × List (Item V W)) → Option (List (Item V W))
  list_below l None = None
  list_below l (Some p) = pushed_value (D.list_value p.0 l) p.1

  abbrev pub list_lifted : Option (W × List (Item V W)) → Option (List (Item V W))
  list_lifted None = None
  list_lifted (Some p) = list_below p.0 (top_word_of p.1)

  abbrev pub list_value_row : List (Item V W) → Option (List (Item V W))
  list_value_row stack = list_lifted (top_word_of stack)

  -- an address becomes what stands there
  abbrev pub load_at : Tree → M → Option (W × List (Item V W)) → Option (List (Item V W))
  load_at t m None = None
  load_at t m (Some p) = loaded t (D.get t p.0 m) p.1

  abbrev pub load_row : Tree → M → List (Item V W) → Option (List (Item V W))
  load_row t m stack = load_at t m (top_word_of stack)

  -- a value is put at an address
  abbrev pub stored_below : Tree → W → M → Option (V × List (Item V W)) → Option (List (Item V W) × M)
  stored_below t a m None = None
  stored_below t a m (Some p) = stored (D.set t a p.0 m) p.1

  abbrev pub stored_at : Tree → M → Option (W × List (Item V W)) → Option (List (Item V W) × M)
  stored_at t m None = None
  stored_at t m (Some p) = stored_below t p.0 m (top_value_of p.1)

  abbrev pub store_row : Tree → M → List (Item V W) → Option (List (Item V W) × M)
  store_row t m stack = stored_at t m (top_word_of stack)

  -- a value becomes the next address, at which it is put
  abbrev pub put_named : Option Tree → V → M → List (Item V W) → Option (List (Item V W) × M)
  put_named None v m rest = None
  put_named (Some t) v m rest = placed (D.put t v m) rest

  abbrev pub put_at : M → Option (V × Option Tree × List (Item V W)) → Option (List (Item V W) × M)
  put_at m None = None
  put_at m (Some p) = put_named p.1 p.0 m p.2

  abbrev pub addr_row : M → List (Item V W) → Option (List (Item V W) × M)
  addr_row m stack = put_at m (top_named_of stack)

  -- so many values become their tuple
  abbrev pub tupled : Option (List V × List (Item V W)) → Option (List (Item V W))
  tupled None = None
  tupled (Some r) = Some (plain_item (D.tuple r.0) ∷ r.1)

  abbrev pub tuple_row : ℕ → List (Item V W) → Option (List (Item V W))
  tuple_row n stack = tupled (values_off n [] stack)

  abbrev pub parts_at : ℕ → Option (V × List (Item V W)) → Option (List (Item V W))
  parts_at n None = None
  parts_at n (Some p) = parts_pushed (D.parts n p.0) p.1

  abbrev pub parts_row : ℕ → List (Item V W) → Option (List (Item V W))
  parts_row n stack = parts_at n (top_value_of stack)
