-- What the program's machine does is what the machine's rows do, whatever the side.
use Rattle.std.proofs.Common.{◌≡◌, ℕ, Bool, true, false, List, ◌∷◌, map, sym, ap, ◌∙◌, Option, Some, None, slice_get}
use Rattle.std.specs.Prelude.{Result, IfOk, Ok, Err, option_map, reverse}
use Rattle.std.specs.Global.{Vec}
use Rattle.witx_base.specs.declared.memory.OutOfMemory.{OutOfMemory}
use Rattle.witx_ast.specs.Tree.{Tree}
use Rattle.witx_machine.specs.Events.{Event}
use Rattle.witx_machine.specs.Machine as machine
use Rattle.witx_machine.specs.Machine.{Domain, if_found, went, slot_word, give_slot, runs_within, act}
use Rattle.witx_machine.specs.Rows.{Row, get_arg, addr_of, lowering, lifting, list_pointer_length, list_from_pointer_length, return_pointer_get, load, store, tuple_lift, tuple_lower, reuse_return, returns}
use Rattle.witx_machine.specs.Words.{Scalar, when}
use Rattle.witx_run.specs.MachineViews.{GivesSlot, Numbered, Performs, Setting, inside_of, state_in}
use Rattle.witx_run.specs.SlotViews.{given_slots}
use Rattle.witx_run.specs.StackRows.{pushed_item, pushed_word, lowering_row, lifting_row, list_words_row, list_value_row, load_row, store_row, addr_row, tuple_row, parts_row}
use Rattle.witx_run.specs.Views.{items_of, stack_of}
use Rattle.witx_run.specs.declared.item.Item as declared_item
use Rattle.witx_run.specs.declared.machine.Inside as declared_inside
use Rattle.witx_run.specs.declared.machine.Machine as declared_machine
use Rattle.witx_run.specs.declared.slots.Slots as declared_slots
use Rattle.witx_run.proofs.RowLemmas as rows
use Rattle.witx_run.proofs.RowLemmas.{on_stack, on_memory, went-stack, went-memory}
use Rattle.witx_run.proofs.SlotLemmas.{given-word}

-- a clause on each answer follows from another
pub moved : {A E : Type 0} (r : Result A E) (P Q : A → Type 0) → ((a : A) → P a → Q a) → IfOk r P → IfOk r Q
moved (Ok a) P Q f p = f a p
moved (Err e) P Q f p = p

module _ {v w m V W M : Type 0} (D : Domain V W M) (value : v → V) (word : w → W) (memory : m → M)
    (arguments : List (declared_item.Item v w)) (called : Bool) (within : declared_inside.Inside v w) (s : declared_machine.Machine v w m) where
  abbrev Stack : Type 0
  Stack = List (machine.Item V W)

  abbrev top : Stack
  top = stack_of value word s.stack.items

  -- a row that changes the stack alone, and one that changes the memory too
  performs-stack : (row : Row) (stack : Vec (declared_item.Item v w)) (o : Option Stack) (r : Result Bool OutOfMemory) →
      ((x : Setting V W M) (es : List Event) (n : ℕ) → x.side.arguments ≡ items_of value word arguments →
      act (λ e. e.1) (λ e. e.0) D x.side (runs_within (λ e. e.1) (λ e. e.0) D x.side n) (inside_of value word within) row (state_in value word memory x es s) ≡ on_stack D (state_in value word memory x es s) o) →
      IfOk r (λ went. when went (Some (stack_of value word stack.items)) ≡ o) → IfOk r (Performs D value word memory arguments called within row s (record s { stack = stack }))
  performs-stack row stack o r row-is h =
      moved r _ _ (λ went e x es n a k. row-is x es n a ∙ went-stack D (state_in value word memory x es s) went (stack_of value word stack.items) o e) h

  performs-memory : (row : Row) (stack : Vec (declared_item.Item v w)) (new : m) (o : Option (Stack × M)) (r : Result Bool OutOfMemory) →
      ((x : Setting V W M) (es : List Event) (n : ℕ) →
      act (λ e. e.1) (λ e. e.0) D x.side (runs_within (λ e. e.1) (λ e. e.0) D x.side n) (inside_of value word within) row (state_in value word memory x es s) ≡ on_memory D (state_in value word memory x es s) o) →
      IfOk r (λ went. when went (Some (stack_of value word stack.items, memory new)) ≡ o) → IfOk r (Performs D value word memory arguments called within row s (record s { stack = stack; memory = new }))
  performs-memory row stack new o r row-is h =
      moved r _ _ (λ went e x es n a k. row-is x es n ∙ went-memory D (state_in value word memory x es s) went (stack_of value word stack.items) (memory new) o e) h

  module _ (stack : Vec (declared_item.Item v w)) (r : Result Bool OutOfMemory) where
    pub arg-performs : (i : ℕ) → IfOk r (λ went. when went (Some (stack_of value word stack.items)) ≡ pushed_item (slice_get (items_of value word arguments) i) top) → IfOk r (Performs D value word memory arguments called within (get_arg i) s (record s { stack = stack }))
    arg-performs i = performs-stack (get_arg i) stack (pushed_item (slice_get (items_of value word arguments) i) top) r
        (λ x es n a. rows.arg-row (λ (e : Numbered). e.1) (λ (e : Numbered). e.0) D x.side (runs_within (λ e. e.1) (λ e. e.0) D x.side n) (inside_of value word within) (state_in value word memory x es s) i
        ∙ ap (λ l. on_stack D (state_in value word memory x es s) (pushed_item (slice_get l i) top)) a)

    pub lowering-performs : (c : Scalar) → IfOk r (λ went. when went (Some (stack_of value word stack.items)) ≡ lowering_row D c top) → IfOk r (Performs D value word memory arguments called within (lowering c) s (record s { stack = stack }))
    lowering-performs c = performs-stack (lowering c) stack (lowering_row D c top) r
        (λ x es n a. rows.lowering-row (λ (e : Numbered). e.1) (λ (e : Numbered). e.0) D x.side (runs_within (λ e. e.1) (λ e. e.0) D x.side n) (inside_of value word within) (state_in value word memory x es s) c)

    pub lifting-performs : (c : Scalar) → IfOk r (λ went. when went (Some (stack_of value word stack.items)) ≡ lifting_row D c top) → IfOk r (Performs D value word memory arguments called within (lifting c) s (record s { stack = stack }))
    lifting-performs c = performs-stack (lifting c) stack (lifting_row D c top) r
        (λ x es n a. rows.lifting-row (λ (e : Numbered). e.1) (λ (e : Numbered). e.0) D x.side (runs_within (λ e. e.1) (λ e. e.0) D x.side n) (inside_of value word within) (state_in value word memory x es s) c)

    pub words-performs : IfOk r (λ went. when went (Some (stack_of value word stack.items)) ≡ list_words_row D top) → IfOk r (Performs D value word memory arguments called within list_pointer_length s (record s { stack = stack }))
    words-performs = performs-stack list_pointer_length stack (list_words_row D top) r
        (λ x es n a. rows.list-words-row (λ (e : Numbered). e.1) (λ (e : Numbered). e.0) D x.side (runs_within (λ e. e.1) (λ e. e.0) D x.side n) (inside_of value word within) (state_in value word memory x es s))

    pub list-performs : IfOk r (λ went. when went (Some (stack_of value word stack.items)) ≡ list_value_row D top) → IfOk r (Performs D value word memory arguments called within list_from_pointer_length s (record s { stack = stack }))
    list-performs = performs-stack list_from_pointer_length stack (list_value_row D top) r
        (λ x es n a. rows.list-value-row (λ (e : Numbered). e.1) (λ (e : Numbered). e.0) D x.side (runs_within (λ e. e.1) (λ e. e.0) D x.side n) (inside_of value word within) (state_in value word memory x es s))

    pub pointer-performs : (k : ℕ) → IfOk r (λ went. when went (Some (stack_of value word stack.items)) ≡ pushed_word (slot_word k (given_slots word s.slots.in_order.items)) top) → IfOk r (Performs D value word memory arguments called within (return_pointer_get k) s (record s { stack = stack }))
    pointer-performs k = performs-stack (return_pointer_get k) stack (pushed_word (slot_word k (given_slots word s.slots.in_order.items)) top) r
        (λ x es n a. rows.pointer-row (λ (e : Numbered). e.1) (λ (e : Numbered). e.0) D x.side (runs_within (λ e. e.1) (λ e. e.0) D x.side n) (inside_of value word within) (state_in value word memory x es s) k)

    pub load-performs : (t : Tree) → IfOk r (λ went. when went (Some (stack_of value word stack.items)) ≡ load_row D t (memory s.memory) top) → IfOk r (Performs D value word memory arguments called within (load t) s (record s { stack = stack }))
    load-performs t = performs-stack (load t) stack (load_row D t (memory s.memory) top) r
        (λ x es n a. rows.load-row (λ (e : Numbered). e.1) (λ (e : Numbered). e.0) D x.side (runs_within (λ e. e.1) (λ e. e.0) D x.side n) (inside_of value word within) (state_in value word memory x es s) t)

    pub tuple-performs : (n : ℕ) → IfOk r (λ went. when went (Some (stack_of value word stack.items)) ≡ tuple_row D n top) → IfOk r (Performs D value word memory arguments called within (tuple_lift n) s (record s { stack = stack }))
    tuple-performs k = performs-stack (tuple_lift k) stack (tuple_row D k top) r
        (λ x es n a. rows.tuple-row (λ (e : Numbered). e.1) (λ (e : Numbered). e.0) D x.side (runs_within (λ e. e.1) (λ e. e.0) D x.side n) (inside_of value word within) (state_in value word memory x es s) k)

    pub parts-performs : (n : ℕ) → IfOk r (λ went. when went (Some (stack_of value word stack.items)) ≡ parts_row D n top) → IfOk r (Performs D value word memory arguments called within (tuple_lower n) s (record s { stack = stack }))
    parts-performs k = performs-stack (tuple_lower k) stack (parts_row D k top) r
        (λ x es n a. rows.parts-row (λ (e : Numbered). e.1) (λ (e : Numbered). e.0) D x.side (runs_within (λ e. e.1) (λ e. e.0) D x.side n) (inside_of value word within) (state_in value word memory x es s) k)

    pub reuse-performs : IfOk r (λ went. when went (Some (stack_of value word stack.items)) ≡ pushed_word (option_map word s.returned) top) → IfOk r (Performs D value word memory arguments called within reuse_return s (record s { stack = stack }))
    reuse-performs = performs-stack reuse_return stack (pushed_word (option_map word s.returned) top) r
        (λ x es n a. rows.reuse-row (λ (e : Numbered). e.1) (λ (e : Numbered). e.0) D x.side (runs_within (λ e. e.1) (λ e. e.0) D x.side n) (inside_of value word within) (state_in value word memory x es s))

    pub addr-performs : (new : m) → IfOk r (λ went. when went (Some (stack_of value word stack.items, memory new)) ≡ addr_row D (memory s.memory) top) → IfOk r (Performs D value word memory arguments called within addr_of s (record s { stack = stack; memory = new }))
    addr-performs new = performs-memory addr_of stack new (addr_row D (memory s.memory) top) r
        (λ x es n. rows.addr-row (λ (e : Numbered). e.1) (λ (e : Numbered). e.0) D x.side (runs_within (λ e. e.1) (λ e. e.0) D x.side n) (inside_of value word within) (state_in value word memory x es s))

    pub store-performs : (new : m) (t : Tree) → IfOk r (λ went. when went (Some (stack_of value word stack.items, memory new)) ≡ store_row D t (memory s.memory) top) → IfOk r (Performs D value word memory arguments called within (store t) s (record s { stack = stack; memory = new }))
    store-performs new t = performs-memory (store t) stack new (store_row D t (memory s.memory) top) r
        (λ x es n. rows.store-row (λ (e : Numbered). e.1) (λ (e : Numbered). e.0) D x.side (runs_within (λ e. e.1) (λ e. e.0) D x.side n) (inside_of value word within) (state_in value word memory x es s) t)

  pub return-performs : (count : ℕ) (new : declared_machine.Machine v w m) (r : Result Bool OutOfMemory) →
      IfOk r (λ went. (D : Domain V W M) (arguments : List (declared_item.Item v w)) → Performs D value word memory arguments called within (returns count) s new went) → IfOk r (Performs D value word memory arguments called within (returns count) s new)
  return-performs count new (Ok does) h = h D arguments
  return-performs count new (Err e) h = h

-- a slot gets the next address, unless it has one
module _ {v w m V W M : Type 0} (D : Domain V W M) (value : v → V) (word : w → W) (memory : m → M) (k : ℕ) (t : Tree) (s : declared_machine.Machine v w m) where
  slot-is : (o : Option w) → o ≡ slot_word k (reverse s.slots.in_order.items) → slot_word k (given_slots word s.slots.in_order.items) ≡ option_map word o
  slot-is o e = given-word word k (reverse s.slots.in_order.items) ∙ ap (option_map word) (sym e)

  pub slot-taken : (new : declared_machine.Machine v w m) (a : w) → Some a ≡ slot_word k (reverse s.slots.in_order.items) → GivesSlot D value word memory k t s new false
  slot-taken new a e = λ x es n inside. ap (λ o. give_slot (λ e. e.1) (λ e. e.0) D x.side (runs_within (λ e. e.1) (λ e. e.0) D x.side n) inside k t o (state_in value word memory x es s)) (slot-is (Some a) e)

  pub slot-none : (new : declared_machine.Machine v w m) → None ≡ slot_word k (reverse s.slots.in_order.items) → None ≡ D.give t (memory s.memory) → GivesSlot D value word memory k t s new false
  slot-none new e f = λ x es n inside.
      ap (λ o. give_slot (λ e. e.1) (λ e. e.0) D x.side (runs_within (λ e. e.1) (λ e. e.0) D x.side n) inside k t o (state_in value word memory x es s)) (slot-is None e)
      ∙ ap (λ o. if_found o (λ r. went (record (state_in value word memory x es s) { slots = (k, r.0) ∷ given_slots word s.slots.in_order.items; memory = r.1 }))) (sym f)

  pub slot-given : (a : w) (slots : declared_slots.Slots w) (new : m) →
      None ≡ slot_word k (reverse s.slots.in_order.items) → Some (word a, memory new) ≡ D.give t (memory s.memory) → reverse slots.in_order.items ≡ (k, a) ∷ reverse s.slots.in_order.items →
      GivesSlot D value word memory k t s (record s { slots = slots; memory = new }) true
  slot-given a slots new e f g = λ x es n inside.
      ap (λ o. give_slot (λ e. e.1) (λ e. e.0) D x.side (runs_within (λ e. e.1) (λ e. e.0) D x.side n) inside k t o (state_in value word memory x es s)) (slot-is None e)
      ∙ ap (λ o. if_found o (λ r. went (record (state_in value word memory x es s) { slots = (k, r.0) ∷ given_slots word s.slots.in_order.items; memory = r.1 }))) (sym f)
      ∙ ap (λ l. went (record (state_in value word memory x es s) { slots = map (λ (p : ℕ × w). (p.0, word p.1)) l; memory = memory new })) (sym g)

pub ruleset machine_rules = (slot-taken, slot-none, slot-given)
