-- The machine with the stated addresses follows the machine over cells, where what the whole run takes stands where it is to stand and fits its tags.
use Rattle.std.proofs.Common.{◌≡◌, ℕ, ◌+◌, ◌^◌, ◌≤◌, true, ◌&&◌, refl, sym, ap, ◌∙◌, subst, arith, Option, Some, None, option_map, List, [], ◌∷◌, ◌++◌, append_assoc, nat_lt, nat_le}
use Rattle.witx_ast.specs.Tree.{Tree}
use Rattle.witx_ast.specs.Plain.{Plain, plain}
use Rattle.witx_ast.specs.Alike.{same_plain}
use Rattle.witx_ast.specs.Values.{Value}
use Rattle.witx_ast.specs.ValueTests.{is_value}
use Rattle.witx_ast.specs.Tags.{fits, AllFit}
use Rattle.witx_base.specs.SameBytes.{both}
use Rattle.witx_ast.proofs.Decided.{both-then, decides-lt, decides-le}
use Rattle.witx_ast.proofs.AlikeLaws.{alike-decides}
use Rattle.witx_ast.proofs.TagLaws.{fits-decides}
use Rattle.witx_layout.specs.Numbers.{size_of}
use Rattle.witx_machine.specs.Words.{Word, i32, is_u32, when}
use Rattle.witx_machine.specs.Functions.{by_address}
use Rattle.witx_machine.specs.Cells.{Cell, Memory, Taken, get, insert, loaded, stored, is_i32, cells}
use Rattle.witx_bytes.specs.Bytes.{Bytes, image_written, with_zeros, in_bounds, all_held, holds, is_free}
use Rattle.witx_bytes.specs.Images.{image}
use Rattle.witx_bytes.specs.Reading.{value_at}
use Rattle.witx_bytes.specs.ByteMachine.{Store, bytes, range_size, range_given, value_written, has_room}
use Rattle.witx_bytes.specs.Follow.{AreRangesApart, AreUnused, AreWritable}
use Rattle.witx_call.specs.Ranges.{StandFrom, EndBelow, AreStated}
use Rattle.witx_call.specs.Room.{no_bytes, Room, is_range_place, range_placed, next_address}
use Rattle.witx_invoke.specs.Placing.{is_writable, is_readable, is_address, value_put, placing}
use Rattle.witx_machine.proofs.Simulation.{Follows, Makes, Simulates, Backwards}
use Rattle.witx_bytes.proofs.BytesFollow.{Related, Same, Front, bytes_simulate_cells, fronts_go_back}
use Rattle.witx_invoke.proofs.StatedRanges.{stand-at, below-at, stated-apart, stated-unused, free-place}
use Rattle.witx_invoke.proofs.NewMemories.{follows_anew}
use Rattle.witx_invoke.proofs.Answers.{some-none, some-same, makes-from, made-of, follows-from, followed-of, when-some, when-true, map-some}

-- a range that the machine over bytes gives
record Given (t : Tree) (m : Bytes) (fresh : List ℕ) (before : Taken) (q : Word × Store) : Type 0 where
  at : ℕ
  word : q.0 ≡ i32 at
  free : is_free at (range_size (plain t)) m ≡ true
  bytes : q.1.bytes ≡ with_zeros at (range_size (plain t)) m
  taken : q.1.taken ≡ before ++ (at, t) ∷ []

given-is : (t : Tree) (m : Bytes) (fresh : List ℕ) (taken : Taken) (q : Word × Store) → range_given t m fresh taken ≡ Some q → Given t m fresh taken q
given-is t m [] taken q e = absurd (some-none e)
given-is t m (a ∷ more) taken q e =
    let p = when-some (is_free a (range_size (plain t)) m) (Some (i32 a, record { bytes = with_zeros a (range_size (plain t)) m; fresh = more; taken = taken ++ (a, t) ∷ [] })) q e in
    let is = some-same p.1 in
    record { at = a; word = ap (λ q. q.0) (sym is); free = p.0; bytes = ap (λ q. q.1.bytes) (sym is); taken = ap (λ q. q.1.taken) (sym is) }

-- the cell that a load or a store has
abbrev CellAt : Tree → Word → Memory → Type 0
CellAt t w m = (c : Cell) × (get m.cells w.bits ≡ Some c) × (plain c.made_for ≡ plain t)

loaded-cell : (t : Tree) (o : Option Cell) (v : Value) → loaded t o ≡ Some v → (c : Cell) × (o ≡ Some c) × (plain c.made_for ≡ plain t)
loaded-cell t None v e = absurd (some-none e)
loaded-cell t (Some c) v e = (c, refl, (alike-decides (plain c.made_for) (plain t)).0 (when-some (same_plain (plain c.made_for) (plain t)) c.content v e).0)

stored-cell : (t : Tree) (v : Value) (o : Option Cell) (d : Cell) → stored t v o ≡ Some d → (c : Cell) × (o ≡ Some c) × (plain c.made_for ≡ plain t)
stored-cell t v None d e = absurd (some-none e)
stored-cell t v (Some c) d e = (c, refl, (alike-decides (plain c.made_for) (plain t)).0 (both (same_plain (plain c.made_for) (plain t)) (is_value (plain t) v) (when-some (same_plain (plain c.made_for) (plain t) && is_value (plain t) v) (Some (record c { content = Some v })) d e).0).0)

-- what is held begins at an address, and its size is a machine's number
held-address : (a : ℕ) (t : Plain) (m : Bytes) → holds a (range_size t) m ≡ true → (is_u32 a ≡ true) × (nat_lt (size_of t) (2 ^ 64) ≡ true)
held-address a t m h =
    let p = both (nat_lt 0 a) (nat_le (a + range_size t) (2 ^ 32)) (both (in_bounds a (range_size t)) (all_held a (range_size t) m) h).0 in
    let l = (decides-le (a + range_size t) (2 ^ 32)).0 p.1 in
    ((decides-lt a (2 ^ 32)).1 (omega (arith, l)), (decides-lt (size_of t) (2 ^ 64)).1 (omega (arith, l)))

-- what was taken before, one more and the rest are the whole
in-front : (xs ys zs : Taken) (x : ℕ × Tree) (rest whole : Taken) → xs ≡ ys → zs ≡ xs ++ x ∷ [] → zs ++ rest ≡ whole → ys ++ x ∷ rest ≡ whole
in-front xs ys zs x rest whole e f g =
    subst (λ ys. ys ++ x ∷ rest ≡ whole) e (sym (append_assoc xs (x ∷ []) rest) ∙ subst (λ zs. zs ++ rest ≡ whole) f g)

writable-at : (xs : Taken) (x : ℕ × Tree) (ys : Taken) → AreWritable (xs ++ x ∷ ys) → AllFit (plain x.1)
writable-at [] x ys h = h.0
writable-at (y ∷ xs) x ys h = writable-at xs x ys h.1

-- whole: what the whole run takes
module _ (whole : Taken) (stated : AreStated whole) (writable : AreWritable whole) where
  abbrev pub fit : AreRangesApart whole
  fit = stated-apart 16 whole stated.stand

  abbrev pub unused : AreUnused no_bytes whole
  unused = stated-unused 16 whole (omega arith) stated.stand stated.room

  abbrev pub Known : Memory → Type 0
  Known = Front whole no_bytes fit unused writable

  abbrev pub Typed : Option Tree → Value → Value → Type 0
  Typed = Same whole no_bytes fit unused writable

  abbrev Over : Memory → Store → Type 0
  Over = Related whole no_bytes fit unused writable

  abbrev base : Simulates cells bytes ◌≡◌ Typed ◌≡◌ Over Known
  base = bytes_simulate_cells whole no_bytes fit unused writable

  -- THE RELATION: the same bytes and ranges as a memory of bytes that follows the cells
  pub record Placed (m : Memory) (r : Room) : Type 0 where
    pub store : Store
    pub related : Over m store
    pub bytes : store.bytes ≡ r.bytes
    pub taken : store.taken ≡ r.taken

  abbrev Gives : Word × Memory → Word × Room → Type 0
  Gives p q = (p.0 ≡ q.0) × Placed p.1 q.1

  abbrev GivesOver : Word × Memory → Word × Store → Type 0
  GivesOver p q = (p.0 ≡ q.0) × Over p.1 q.1

  abbrev KnownGiven : Word × Memory → Type 0
  KnownGiven p = Known p.1

  abbrev room_at : ℕ → Tree → Room → Room
  room_at a t r = record { bytes = with_zeros a (range_size (plain t)) r.bytes; taken = r.taken ++ (a, t) ∷ [] }

  -- the range stands where it is to stand, and its type fits
  record Comes (t : Tree) (r : Room) (a : ℕ) : Type 0 where
    gives : placing.give t r ≡ Some (i32 a, room_at a t r)
    fit : fits (plain t) ≡ true

  comes : (t : Tree) (s : Store) (r : Room) (q : Word × Store) (g : Given t s.bytes s.fresh s.taken q) → s.bytes ≡ r.bytes → s.taken ≡ r.taken → (rest : Taken) → q.1.taken ++ rest ≡ whole → Comes t r g.at
  comes t s r q g b k rest e =
      let a = g.at in
      let size = range_size (plain t) in
      let is : r.taken ++ (a, t) ∷ rest ≡ whole = in-front s.taken r.taken q.1.taken (a, t) rest whole k g.taken e in
      let here : a ≡ next_address r.taken = stand-at 16 r.taken (a, t) rest (subst (λ l. StandFrom 16 l) (sym is) stated.stand) in
      let limit : a + size ≤ 2 ^ 20 = below-at (2 ^ 20) r.taken (a, t) rest (subst (λ l. EndBelow (2 ^ 20) l) (sym is) stated.room) in
      let place : is_range_place a size r.bytes ≡ true = free-place a size r.bytes limit (subst (λ m. is_free a size m ≡ true) b g.free) in
      record {
        gives = ap (λ a. range_placed t a size r) (sym here) ∙ when-true (is_range_place a size r.bytes) (Some (i32 a, room_at a t r)) place;
        fit = (fits-decides (plain t)).1 (writable-at r.taken (a, t) rest (subst AreWritable (sym is) writable));
      }

  give_placed : (t : Tree) (m : Memory) (r : Room) → Placed m r → Makes KnownGiven Gives (cells.give t m) (placing.give t r)
  give_placed t m r p = makes-from KnownGiven Gives (cells.give t m) (placing.give t r) (λ x e k.
      let s = p.store in
      let o = made-of KnownGiven GivesOver (cells.give t m) (bytes.give t s) (base.give t m s p.related) x e k in
      let g = given-is t s.bytes s.fresh s.taken o.0 o.1 in
      let c = comes t s r o.0 g p.bytes p.taken k.0 (ap (λ l. l ++ k.0) o.2.1.taken ∙ k.1) in (
        (i32 g.at, room_at g.at t r),
        c.gives,
        (o.2.0 ∙ g.word, record { store = o.0.1; related = o.2.1; bytes = g.bytes ∙ ap (with_zeros g.at (range_size (plain t))) p.bytes; taken = g.taken ∙ ap (λ l. l ++ (g.at, t) ∷ []) p.taken }),
      ))

  abbrev put_in : Tree → Value → Word × Store → Word × Store
  put_in t v r = (r.0, value_written (plain t) v r.0.bits r.1)

  put-gives : (t : Tree) (v : Value) (r : Room) (q : Word × Room) → by_address (plain t) && is_writable (plain t) v ≡ true → placing.give t r ≡ Some q → placing.put t v r ≡ Some (q.0, value_put (plain t) v q.0.bits q.1)
  put-gives t v r q h e = when-true (by_address (plain t) && is_writable (plain t) v) (option_map (λ r. (r.0, value_put (plain t) v r.0.bits r.1)) (placing.give t r)) h ∙ ap (option_map (λ r. (r.0, value_put (plain t) v r.0.bits r.1))) e

  put-bytes : (t : Tree) (v : Value) (given q : Word × Store) (a : ℕ) (m : Bytes) → put_in t v given ≡ q → given.0 ≡ i32 a → given.1.bytes ≡ m → q.1.bytes ≡ image_written a (image (plain t) v) m
  put-bytes t v given q a m e w b = ap (λ q. q.1.bytes) (sym e) ∙ (λ i. image_written (w i).bits (image (plain t) v) (b i))

  put-taken : (t : Tree) (v : Value) (given q : Word × Store) (l : Taken) → put_in t v given ≡ q → given.1.taken ≡ l → q.1.taken ≡ l
  put-taken t v given q l e k = ap (λ q. q.1.taken) (sym e) ∙ k

  put_placed : (t : Tree) (v : Value) (m : Memory) (r : Room) → is_value (plain t) v ≡ true → Placed m r → Makes KnownGiven Gives (cells.put t v m) (placing.put t v r)
  put_placed t v m r is p = makes-from KnownGiven Gives (cells.put t v m) (placing.put t v r) (λ x e k.
      let s = p.store in
      let o = made-of KnownGiven GivesOver (cells.put t v m) (bytes.put t v s) (base.put t v v m s (refl, is) p.related) x e k in
      let w = when-some (by_address (plain t)) (option_map (put_in t v) (range_given t s.bytes s.fresh s.taken)) o.0 o.1 in
      let f = map-some (put_in t v) (range_given t s.bytes s.fresh s.taken) o.0 w.1 in
      let g = given-is t s.bytes s.fresh s.taken f.0 f.1 in
      let c = comes t s r f.0 g p.bytes p.taken k.0 (ap (λ l. l ++ k.0) (ap (λ q. q.1.taken) f.2 ∙ o.2.1.taken) ∙ k.1) in
      let writes : is_writable (plain t) v ≡ true = both-then (is_value (plain t) v) (fits (plain t)) is c.fit in
      let tests : by_address (plain t) && is_writable (plain t) v ≡ true = both-then (by_address (plain t)) (is_writable (plain t) v) w.0 writes in (
        (i32 g.at, value_put (plain t) v g.at (room_at g.at t r)),
        put-gives t v r (i32 g.at, room_at g.at t r) tests c.gives,
        (
          o.2.0 ∙ ap (λ q. q.0) (sym f.2) ∙ g.word,
          record {
            store = o.0.1;
            related = o.2.1;
            bytes = put-bytes t v f.0 o.0 g.at (with_zeros g.at (range_size (plain t)) r.bytes) f.2 g.word (g.bytes ∙ ap (with_zeros g.at (range_size (plain t))) p.bytes);
            taken = put-taken t v f.0 o.0 (s.taken ++ (g.at, t) ∷ []) f.2 g.taken ∙ ap (λ l. l ++ (g.at, t) ∷ []) p.taken;
          },
        ),
      ))

  -- the address of a cell, whose type fits
  record Reached (t : Tree) (w : Word) : Type 0 where
    address : is_u32 w.bits ≡ true
    fit : fits (plain t) ≡ true
    size : nat_lt (size_of (plain t)) (2 ^ 64) ≡ true

  reached : (t : Tree) (w : Word) (m : Memory) (s : Store) → Over m s → CellAt t w m → Reached t w
  reached t w m s r c =
      let stands = r.stands w.bits c.0 c.1 in
      let held = held-address w.bits (plain c.0.made_for) s.bytes stands.2 in
      record { address = held.0; fit = (fits-decides (plain t)).1 (subst AllFit c.2 stands.1); size = subst (λ q. nat_lt (size_of q) (2 ^ 64) ≡ true) c.2 held.1 }

  get_placed : (t : Tree) (w : Word) (m : Memory) (r : Room) → Placed m r → Follows (Typed (Some t)) (cells.get t w m) (placing.get t w r)
  get_placed t w m r p = follows-from (Typed (Some t)) (cells.get t w m) (placing.get t w r) (λ x e.
      let s = p.store in
      let o = followed-of (Typed (Some t)) (cells.get t w m) (bytes.get t w s) (base.get t w w m s refl p.related) x e in
      let i = when-some (is_i32 w) (value_at (plain t) s.bytes w.bits) o.0 o.1 in
      let c = loaded-cell t (get m.cells w.bits) x (when-some (is_i32 w) (loaded t (get m.cells w.bits)) x e).1 in
      let h = reached t w m s p.related c in
      let tests : is_address w && is_readable (plain t) ≡ true = both-then (is_address w) (is_readable (plain t)) (both-then (is_i32 w) (is_u32 w.bits) i.0 h.address) (both-then (fits (plain t)) (nat_lt (size_of (plain t)) (2 ^ 64)) h.fit h.size) in
      (o.0, when-true (is_address w && is_readable (plain t)) (value_at (plain t) r.bytes w.bits) tests ∙ ap (λ b. value_at (plain t) b w.bits) (sym p.bytes) ∙ i.1, o.2))

  set_placed : (t : Tree) (w : Word) (v : Value) (m : Memory) (r : Room) → Placed m r → Makes Known Placed (cells.set t w v m) (placing.set t w v r)
  set_placed t w v m r p = makes-from Known Placed (cells.set t w v m) (placing.set t w v r) (λ x e k.
      let s = p.store in
      let o = made-of Known Over (cells.set t w v m) (bytes.set t w v s) (base.set t w w v v m s refl refl p.related) x e k in
      let i = when-some (is_i32 w) (when (has_room (plain t) w.bits s.bytes && is_value (plain t) v) (Some (value_written (plain t) v w.bits s))) o.0 o.1 in
      let j = when-some (has_room (plain t) w.bits s.bytes && is_value (plain t) v) (Some (value_written (plain t) v w.bits s)) o.0 i.1 in
      let room = both (has_room (plain t) w.bits s.bytes) (is_value (plain t) v) j.0 in
      let d = map-some (λ c. record { cells = insert m.cells w.bits c; fresh = m.fresh; taken = m.taken }) (stored t v (get m.cells w.bits)) x (when-some (is_i32 w) (option_map (λ c. record { cells = insert m.cells w.bits c; fresh = m.fresh; taken = m.taken }) (stored t v (get m.cells w.bits))) x e).1 in
      let c = stored-cell t v (get m.cells w.bits) d.0 d.1 in
      let h = reached t w m s p.related c in
      let tests : is_address w && (has_room (plain t) w.bits r.bytes && is_writable (plain t) v) ≡ true =
      both-then (is_address w) (has_room (plain t) w.bits r.bytes && is_writable (plain t) v) (both-then (is_i32 w) (is_u32 w.bits) i.0 h.address)
      (both-then (has_room (plain t) w.bits r.bytes) (is_writable (plain t) v) (ap (has_room (plain t) w.bits) (sym p.bytes) ∙ room.0) (both-then (is_value (plain t) v) (fits (plain t)) room.1 h.fit)) in
      let is = sym (some-same j.1) in (
        value_put (plain t) v w.bits r,
        when-true (is_address w && (has_room (plain t) w.bits r.bytes && is_writable (plain t) v)) (Some (value_put (plain t) v w.bits r)) tests,
        record { store = o.0; related = o.2; bytes = ap (λ s. s.bytes) is ∙ ap (λ b. (value_put (plain t) v w.bits (record { bytes = b; taken = [] })).bytes) p.bytes; taken = ap (λ s. s.taken) is ∙ p.taken },
      ))

  pub placing_follows_cells : Simulates cells placing ◌≡◌ Typed ◌≡◌ Placed Known
  placing_follows_cells =
      follows_anew cells bytes ◌≡◌ Typed ◌≡◌ Over Known Placed Known placing.give placing.put placing.get placing.set base
      give_placed
      (λ t v v' m r e p. subst (λ v'. Makes KnownGiven Gives (cells.put t v m) (placing.put t v' r)) e.0 (put_placed t v m r e.1 p))
      (λ t w w' m r e p. subst (λ w'. Follows (Typed (Some t)) (cells.get t w m) (placing.get t w' r)) e (get_placed t w m r p))
      (λ t w w' v v' m r e f p. subst (λ w'. Makes Known Placed (cells.set t w v m) (placing.set t w' v' r)) e (subst (λ v'. Makes Known Placed (cells.set t w v m) (placing.set t w v' r)) f (set_placed t w v m r p)))

  pub known_back : Backwards cells placing ◌≡◌ Typed ◌≡◌ Placed Known
  known_back = let b = fronts_go_back whole no_bytes fit unused writable in record { give = b.give; put = b.put; set = b.set }
