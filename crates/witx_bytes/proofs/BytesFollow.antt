-- The machine over bytes follows the machine over cells, where the whole run takes what is fit for the bytes.
use Rattle.std.proofs.Common.{◌≡◌, ◌≢◌, ℕ, zero, suc, ◌+◌, ◌<◌, ◌≤◌, Bool, true, false, cond, ◌&&◌, T, refl, sym, ap, ◌∙◌, subst, arith, Option, Some, None, is_some, option_map, List, [], ◌∷◌, ◌++◌, append_assoc, length, nat_eq, ◌⊎◌, inl, inr}
use Rattle.witx_ast.specs.Tree.{Tree}
use Rattle.witx_ast.specs.Plain.{Plain, plain}
use Rattle.witx_ast.specs.Alike.{same_plain}
use Rattle.witx_ast.specs.Values.{Value}
use Rattle.witx_ast.specs.ValueTests.{is_value}
use Rattle.witx_ast.specs.Tags.{AllFit}
use Rattle.witx_base.specs.SameBytes.{false-true, both}
use Rattle.witx_ast.proofs.Decided.{both-then, decides-eq}
use Rattle.witx_ast.proofs.ValueLaws.{value-decides}
use Rattle.witx_ast.proofs.AlikeLaws.{alike-decides}
use Rattle.witx_machine.specs.Words.{Word, i32, word_of, value_of, when}
use Rattle.witx_machine.specs.Functions.{by_address, name_of}
use Rattle.witx_machine.specs.Cells.{Cell, Cells, Memory, Taken, get, insert, cell_given, loaded, stored, is_i32, cells, picked, case_picked, result_value}
use Rattle.witx_machine.proofs.CellLaws.{own_cell}
use Rattle.witx_bytes.specs.Bytes.{Bytes, Agrees, image_written, with_zeros, holds, is_free}
use Rattle.witx_bytes.specs.Images.{image}
use Rattle.witx_bytes.specs.Reading.{value_at}
use Rattle.witx_bytes.specs.ByteMachine.{Store, range_size, range_given, value_written, has_room, bytes}
use Rattle.witx_bytes.specs.Follow.{LiesIn, Apart, ApartFrom, AreRangesApart, AreUnused, AreWritable}
use Rattle.witx_bytes.proofs.Agreement.{written-own, placed-outside, written-outside}
use Rattle.witx_bytes.proofs.ReadBack.{read-back, when-true}
use Rattle.witx_bytes.proofs.RangeLaws.{Disjoint, image-fits, agrees-placed, agrees-written, held-own, held-placed, held-written, free-placed, free-written, byte-outside, room-of, placed-only, written-only}
use Rattle.witx_machine.proofs.Simulation.{Follows, Both, Each, Makes, Simulates, Backwards}
use Rattle.witx_machine.proofs.Following.{follows_at, each_self, each_same, both_same}

abbrev Among : ℕ × Tree → Taken → Type 0
Among x [] = ⊥
Among x (y ∷ ys) = (x ≡ y) ⊎ Among x ys

other_way : (x y : ℕ × Tree) → Apart x y → Apart y x
other_way x y (inl h) = inr h
other_way x y (inr h) = inl h

apart_from : (x y : ℕ × Tree) (ys : Taken) → ApartFrom x ys → Among y ys → Apart x y
apart_from x y [] h k = absurd k
apart_from x y (z ∷ ys) h (inl e) = subst (Apart x) (sym e) h.0
apart_from x y (z ∷ ys) h (inr k) = apart_from x y ys h.1 k

apart_members : (xs : Taken) (x y : ℕ × Tree) → AreRangesApart xs → Among x xs → Among y xs → x.0 ≢ y.0 → Apart x y
apart_members [] x y f h k n = absurd h
apart_members (z ∷ xs) x y f (inl e) (inl e') n = absurd (n (ap (λ p. p.0) (e ∙ sym e')))
apart_members (z ∷ xs) x y f (inl e) (inr k) n = subst (λ x. Apart x y) (sym e) (apart_from z y xs f.0 k)
apart_members (z ∷ xs) x y f (inr h) (inl e) n = other_way y x (subst (λ y. Apart y x) (sym e) (apart_from z x xs f.0 h))
apart_members (z ∷ xs) x y f (inr h) (inr k) n = apart_members xs x y f.1 h k n

among_front : (x : ℕ × Tree) (xs ys : Taken) → Among x xs → Among x (xs ++ ys)
among_front x [] ys h = absurd h
among_front x (z ∷ xs) ys (inl e) = inl e
among_front x (z ∷ xs) ys (inr h) = inr (among_front x xs ys h)

among_last : (x : ℕ × Tree) (xs : Taken) → Among x (xs ++ x ∷ [])
among_last x [] = inl refl
among_last x (z ∷ xs) = inr (among_last x xs)

-- what comes before an entry, and what comes after it, is apart from it
apart_before : (xs : Taken) (y x : ℕ × Tree) (ys : Taken) → AreRangesApart (xs ++ x ∷ ys) → Among y xs → Apart x y
apart_before [] y x ys f h = absurd h
apart_before (z ∷ xs) y x ys f (inl e) = other_way y x (subst (λ y. Apart y x) (sym e) (first xs x ys z f.0))
  where
    first : (xs : Taken) (x : ℕ × Tree) (ys : Taken) (z : ℕ × Tree) → ApartFrom z (xs ++ x ∷ ys) → Apart z x
    first [] x ys z h = h.0
    first (w ∷ xs) x ys z h = first xs x ys z h.1
apart_before (z ∷ xs) y x ys f (inr h) = apart_before xs y x ys f.1 h

lies_front : (x : ℕ) (xs ys : Taken) → LiesIn x xs → LiesIn x (xs ++ ys)
lies_front x [] ys h = absurd h
lies_front x (z ∷ xs) ys (inl e) = inl e
lies_front x (z ∷ xs) ys (inr h) = inr (lies_front x xs ys h)

lies_last : (x : ℕ) (z : ℕ × Tree) (xs : Taken) → z.0 ≤ x → x < z.0 + range_size (plain z.1) → LiesIn x (xs ++ z ∷ [])
lies_last x z [] lo hi = inl (lo, hi)
lies_last x z (y ∷ xs) lo hi = inr (lies_last x z xs lo hi)

apart_after : (xs : Taken) (x : ℕ × Tree) (ys : Taken) → AreRangesApart (xs ++ x ∷ ys) → ApartFrom x ys
apart_after [] x ys f = f.0
apart_after (z ∷ xs) x ys f = apart_after xs x ys f.1

writable_at : (xs : Taken) (z : ℕ × Tree) → AreWritable xs → Among z xs → AllFit (plain z.1)
writable_at [] z f h = absurd h
writable_at (x ∷ xs) z f (inl e) = subst (λ z. AllFit (plain z.1)) (sym e) f.0
writable_at (x ∷ xs) z f (inr h) = writable_at xs z f.1 h

unused_at : (m : Bytes) (xs : Taken) (z : ℕ × Tree) → AreUnused m xs → Among z xs → is_free z.0 (range_size (plain z.1)) m ≡ true
unused_at m [] z f h = absurd h
unused_at m (x ∷ xs) z f (inl e) = subst (λ z. is_free z.0 (range_size (plain z.1)) m ≡ true) (sym e) f.0
unused_at m (x ∷ xs) z f (inr h) = unused_at m xs z f.1 h

free_after : (x : ℕ × Tree) (ys : Taken) (m : Bytes) → ApartFrom x ys → AreUnused m ys → AreUnused (with_zeros x.0 (range_size (plain x.1)) m) ys
free_after x [] m h f = tt
free_after x (y ∷ ys) m h f = (free-placed x.0 (range_size (plain x.1)) y.0 (range_size (plain y.1)) m h.0 f.0, free_after x ys m h.1 f.1)

free_still : (a : ℕ) (t : Plain) (v : Value) (ys : Taken) (m : Bytes) → is_value t v ≡ true → holds a (range_size t) m ≡ true → AreUnused m ys → AreUnused (image_written a (image t v) m) ys
free_still a t v [] m is h f = tt
free_still a t v (y ∷ ys) m is h f = (free-written a (range_size t) y.0 (range_size (plain y.1)) (image t v) m (image-fits t v is) f.0 h, free_still a t v ys m is h f.1)

some_same : {A : Type 0} {x y : A} → Some x ≡ Some y → x ≡ y
some_same {A} {x} e = ap of e
  where
    of : Option A → A
    of (Some z) = z
    of None = x

-- whole: what the whole run takes; before: the bytes as they were given
module _ (whole : Taken) (before : Bytes) (fit : AreRangesApart whole) (unused : AreUnused before whole) (writable : AreWritable whole) where
  -- the bytes that were there before stand
  abbrev pub Stay : Bytes → Type 0
  Stay m = (x y : ℕ) → before x ≡ Some y → m x ≡ Some y

  -- a front of what the whole run takes
  abbrev pub Front : Memory → Type 0
  Front m = (rest : Taken) × (m.taken ++ rest ≡ whole)

  -- the range of a cell is held, and where the cell has a value the image of that value stands there
  abbrev StandsAt : Taken → Bytes → ℕ → Cell → Type 0
  StandsAt taken m a c =
      Among (a, c.made_for) taken × AllFit (plain c.made_for) × (holds a (range_size (plain c.made_for)) m ≡ true) ×
      ((v : Value) → c.content ≡ Some v → (is_value (plain c.made_for) v ≡ true) × Agrees m a (image (plain c.made_for) v))

  abbrev Stands : Cells → Taken → Bytes → Type 0
  Stands cs taken m = (a : ℕ) (c : Cell) → get cs a ≡ Some c → StandsAt taken m a c

  abbrev Coming : Taken → Bytes → Type 0
  Coming taken m = (rest : Taken) → taken ++ rest ≡ whole → AreUnused m rest

  -- no further byte is held than those that were there before, and those in what was taken
  abbrev NoFurther : Taken → Bytes → Type 0
  NoFurther taken m = (x : ℕ) → is_some (m x) ≡ true → (is_some (before x) ≡ true) ⊎ LiesIn x taken

  -- THE RELATION of the two memories
  pub record Related (m : Memory) (m' : Store) : Type 0 where
    pub fresh : m'.fresh ≡ m.fresh
    pub taken : m'.taken ≡ m.taken
    pub stands : Stands m.cells m.taken m'.bytes
    pub coming : Coming m.taken m'.bytes
    pub stay : Stay m'.bytes
    pub no_further : NoFurther m.taken m'.bytes

  abbrev pub Carried : Option Tree → Value → Type 0
  Carried None v = Unit {0}
  Carried (Some t) v = is_value (plain t) v ≡ true

  -- the same value, and one of the named type that it carries
  abbrev pub Same : Option Tree → Value → Value → Type 0
  Same t v v' = (v ≡ v') × Carried t v

  abbrev Gives : (Word × Memory) → (Word × Store) → Type 0
  Gives p q = (p.0 ≡ q.0) × Related p.1 q.1

  abbrev Known : (Word × Memory) → Type 0
  Known p = Front p.1

  written_stay : (a : ℕ) (q : Tree) (t : Plain) (v : Value) (m : Bytes) → Among (a, q) whole → plain q ≡ t → is_value t v ≡ true → Stay m → Stay (image_written a (image t v) m)
  written_stay a q t v m h is val stay x y e = written-outside a (image t v) m x (shorter (byte-outside a (range_size (plain q)) x y before (unused_at before whole (a, q) unused h) e)) ∙ stay x y e
    where
      shorter : (x < a) ⊎ (a + range_size (plain q) ≤ x) → (x < a) ⊎ (a + length (image t v) ≤ x)
      shorter (inl k) = inl k
      shorter (inr k) = let same : range_size (plain q) ≡ range_size t = ap range_size is in inr (omega (arith, k, same, image-fits t v val))

  -- the range of the next address is free and apart from all the others
  made : (t : Tree) (cs : Cells) (a : ℕ) (more : List ℕ) (taken : Taken) (m : Bytes) → Stands cs taken m → Coming taken m → Stay m → NoFurther taken m → Front (record { cells = cs; fresh = more; taken = taken ++ (a, t) ∷ [] }) →
      (is_free a (range_size (plain t)) m ≡ true) × Related (record { cells = insert cs a (record { made_for = t; content = None }); fresh = more; taken = taken ++ (a, t) ∷ [] }) (record { bytes = with_zeros a (range_size (plain t)) m; fresh = more; taken = taken ++ (a, t) ∷ [] })
  made t cs a more taken m stands coming stay further front =
      let is : taken ++ (a, t) ∷ front.0 ≡ whole = sym (append_assoc taken ((a, t) ∷ []) front.0) ∙ front.1 in
      let f = subst AreRangesApart (sym is) fit in
      let free = (coming ((a, t) ∷ front.0) is).0 in
      let fits : AllFit (plain t) = writable_at whole (a, t) writable (subst (Among (a, t)) front.1 (among_front (a, t) (taken ++ (a, t) ∷ []) front.0 (among_last (a, t) taken))) in (
        free,
        record {
          fresh = refl;
          taken = refl;
          stands = λ c d e. stood c d f free fits (nat_eq c a) refl e;
          coming = λ rest e. let is' : taken ++ (a, t) ∷ rest ≡ whole = sym (append_assoc taken ((a, t) ∷ []) rest) ∙ e in free_after (a, t) rest m (apart_after taken (a, t) rest (subst AreRangesApart (sym is') fit)) (coming ((a, t) ∷ rest) is').1;
          stay = λ x y e. placed-outside a (range_size (plain t)) m x (byte-outside a (range_size (plain t)) x y m free (stay x y e)) ∙ stay x y e;
          no_further = λ x h. placed_further x (placed-only a (range_size (plain t)) m x h);
        },
      )
    where
      placed_further : (x : ℕ) → (is_some (m x) ≡ true) ⊎ ((a ≤ x) × (x < a + range_size (plain t))) → (is_some (before x) ≡ true) ⊎ LiesIn x (taken ++ (a, t) ∷ [])
      placed_further x (inl h) = kept (further x h)
        where
          kept : (is_some (before x) ≡ true) ⊎ LiesIn x taken → (is_some (before x) ≡ true) ⊎ LiesIn x (taken ++ (a, t) ∷ [])
          kept (inl h) = inl h
          kept (inr h) = inr (lies_front x taken ((a, t) ∷ []) h)
      placed_further x (inr h) = inr (lies_last x (a, t) taken h.0 h.1)

      none : (v : Value) → None ≡ Some v → ⊥
      none v e = cc

      stood : (c : ℕ) (d : Cell) → AreRangesApart (taken ++ (a, t) ∷ front.0) → is_free a (range_size (plain t)) m ≡ true → AllFit (plain t) → (x : Bool) → nat_eq c a ≡ x → cond x (Some (record { made_for = t; content = None })) (get cs c) ≡ Some d → StandsAt (taken ++ (a, t) ∷ []) (with_zeros a (range_size (plain t)) m) c d
      stood c d f free fits true x e =
          let here : c ≡ a = (decides-eq c a).0 x in
          let new : record { made_for = t; content = None } ≡ d = some_same e in
          subst (λ d. StandsAt (taken ++ (a, t) ∷ []) (with_zeros a (range_size (plain t)) m) c d) new
          (subst (λ c. StandsAt (taken ++ (a, t) ∷ []) (with_zeros a (range_size (plain t)) m) c (record { made_for = t; content = None })) (sym here)
          (among_last (a, t) taken, fits, held-own a (range_size (plain t)) m free, λ v e. absurd (none v e)))
      stood c d f free fits false x e =
          let s = stands c d e in
          let apart = apart_before taken (c, d.made_for) (a, t) front.0 f s.0 in (
            among_front (c, d.made_for) taken ((a, t) ∷ []) s.0,
            s.1,
            held-placed a (range_size (plain t)) c (range_size (plain d.made_for)) m s.2,
            λ v e. ((s.3 v e).0, agrees-placed a (range_size (plain t)) c (plain d.made_for) v m apart (s.3 v e).0 (s.3 v e).1),
          )

  -- a value is written where a cell stands
  filled : (cs : Cells) (taken : Taken) (m : Bytes) (t : Tree) (a : ℕ) (c : Cell) (v : Value) → Stands cs taken m → get cs a ≡ Some c → plain c.made_for ≡ plain t → is_value (plain t) v ≡ true → (rest : Taken) → taken ++ rest ≡ whole → Stands (insert cs a (record c { content = Some v })) taken (image_written a (image (plain t) v) m)
  filled cs taken m t a c v stands found alike_t is rest front x d e = go (nat_eq x a) refl e
    where
      go : (y : Bool) → nat_eq x a ≡ y → cond y (Some (record c { content = Some v })) (get cs x) ≡ Some d → StandsAt taken (image_written a (image (plain t) v) m) x d
      go true y e =
          let s = stands a c found in
          let here : x ≡ a = (decides-eq x a).0 y in
          subst (λ x. StandsAt taken (image_written a (image (plain t) v) m) x d) (sym here)
          (subst (StandsAt taken (image_written a (image (plain t) v) m) a) (some_same e) (
            s.0,
            s.1,
            held-written a (image (plain t) v) a (range_size (plain c.made_for)) m s.2,
            λ u q. subst (λ u. (is_value (plain c.made_for) u ≡ true) × Agrees (image_written a (image (plain t) v) m) a (image (plain c.made_for) u)) (some_same q)
                (subst (λ p. (is_value p v ≡ true) × Agrees (image_written a (image (plain t) v) m) a (image p v)) (sym alike_t) (is, written-own a (image (plain t) v) m)),
          ))
      go false y e =
          let s = stands a c found in
          let o = stands x d e in
          let in_whole : (z : ℕ × Tree) → Among z taken → Among z whole = λ z h. subst (Among z) front (among_front z taken rest h) in
          let differs : a ≢ x = λ p. false-true (sym y ∙ (decides-eq x a).1 (sym p)) in
          let apart : Disjoint a (range_size (plain c.made_for)) x (range_size (plain d.made_for)) = apart_members whole (a, c.made_for) (x, d.made_for) fit (in_whole _ s.0) (in_whole _ o.0) differs in
          let apart' : Disjoint a (range_size (plain t)) x (range_size (plain d.made_for)) = subst (λ p. Disjoint a (range_size p) x (range_size (plain d.made_for))) alike_t apart in (
            o.0,
            o.1,
            held-written a (image (plain t) v) x (range_size (plain d.made_for)) m o.2,
            λ u q. ((o.3 u q).0, agrees-written a x (plain t) (plain d.made_for) v u m apart' is (o.3 u q).0 (o.3 u q).1),
          )

  give_follows : (t : Tree) (cs : Cells) (fresh : List ℕ) (taken : Taken) (m : Bytes) → Stands cs taken m → Coming taken m → Stay m → NoFurther taken m → Makes Known Gives (cell_given t None cs fresh taken) (range_given t m fresh taken)
  give_follows t cs [] taken m stands coming stay further = tt
  give_follows t cs (a ∷ more) taken m stands coming stay further = go (is_free a (range_size (plain t)) m) refl
    where
      go : (x : Bool) → is_free a (range_size (plain t)) m ≡ x → Makes Known Gives (Some (i32 a, record { cells = insert cs a (record { made_for = t; content = None }); fresh = more; taken = taken ++ (a, t) ∷ [] })) (when x (Some (i32 a, record { bytes = with_zeros a (range_size (plain t)) m; fresh = more; taken = taken ++ (a, t) ∷ [] })))
      go true e = λ g. (refl, (made t cs a more taken m stands coming stay further g).1)
      go false e = λ g. false-true (sym e ∙ (made t cs a more taken m stands coming stay further g).0)

  abbrev put_in : Tree → Value → Word × Store → Word × Store
  put_in t v r = (r.0, value_written (plain t) v r.0.bits r.1)

  put_follows : (t : Tree) (v : Value) (cs : Cells) (fresh : List ℕ) (taken : Taken) (m : Bytes) → is_value (plain t) v ≡ true → Stands cs taken m → Coming taken m → Stay m → NoFurther taken m → Makes Known Gives (cell_given t (Some v) cs fresh taken) (option_map (put_in t v) (range_given t m fresh taken))
  put_follows t v cs [] taken m is stands coming stay further = tt
  put_follows t v cs (a ∷ more) taken m is stands coming stay further = go (is_free a (range_size (plain t)) m) refl
    where
      front_of : Front (record { cells = insert cs a (record { made_for = t; content = Some v }); fresh = more; taken = taken ++ (a, t) ∷ [] }) → Front (record { cells = cs; fresh = more; taken = taken ++ (a, t) ∷ [] })
      front_of g = (g.0, g.1)

      filled_in : Front (record { cells = cs; fresh = more; taken = taken ++ (a, t) ∷ [] }) → Related (record { cells = insert cs a (record { made_for = t; content = Some v }); fresh = more; taken = taken ++ (a, t) ∷ [] }) (record { bytes = image_written a (image (plain t) v) (with_zeros a (range_size (plain t)) m); fresh = more; taken = taken ++ (a, t) ∷ [] })
      filled_in g =
          let p = made t cs a more taken m stands coming stay further g in
          let r = p.1 in
          let empty : Cell = record { made_for = t; content = None } in
          let own = own_cell cs a empty in
          let f = filled (insert cs a empty) (taken ++ (a, t) ∷ []) (with_zeros a (range_size (plain t)) m) t a empty v r.stands own refl is g.0 g.1 in
          record {
            fresh = refl;
            taken = refl;
            stands = λ x d e. f x d (over x (nat_eq x a) e);
            coming = λ rest e. free_still a (plain t) v rest (with_zeros a (range_size (plain t)) m) is (held-own a (range_size (plain t)) m p.0) (r.coming rest e);
            stay = written_stay a t (plain t) v (with_zeros a (range_size (plain t)) m) (subst (Among (a, t)) g.1 (among_front (a, t) (taken ++ (a, t) ∷ []) g.0 (among_last (a, t) taken))) refl is r.stay;
            no_further = λ x h. r.no_further x (written-only a (range_size (plain t)) (image (plain t) v) (with_zeros a (range_size (plain t)) m) x (image-fits (plain t) v is) (held-own a (range_size (plain t)) m p.0) h);
          }
        where
          over : (x : ℕ) {d : Cell} (y : Bool) → cond y (Some (record { made_for = t; content = Some v })) (get cs x) ≡ Some d → cond y (Some (record { made_for = t; content = Some v })) (cond y (Some (record { made_for = t; content = None })) (get cs x)) ≡ Some d
          over x true e = e
          over x false e = e

      go : (x : Bool) → is_free a (range_size (plain t)) m ≡ x → Makes Known Gives (Some (i32 a, record { cells = insert cs a (record { made_for = t; content = Some v }); fresh = more; taken = taken ++ (a, t) ∷ [] })) (option_map (put_in t v) (when x (Some (i32 a, record { bytes = with_zeros a (range_size (plain t)) m; fresh = more; taken = taken ++ (a, t) ∷ [] }))))
      go true e = λ g. (refl, filled_in (front_of g))
      go false e = λ g. false-true (sym e ∙ (made t cs a more taken m stands coming stay further (front_of g)).0)

  get_follows : (t : Tree) (w : Word) (m : Memory) (m' : Store) → Related m m' → Follows (Same (Some t)) (cells.get t w m) (bytes.get t w m')
  get_follows t w m m' r = by_type (is_i32 w)
    where
      content : (c : Cell) (o : Option Value) → c.content ≡ o → get m.cells w.bits ≡ Some c → plain c.made_for ≡ plain t → Follows (Same (Some t)) o (value_at (plain t) m'.bytes w.bits)
      content c None e found is = tt
      content c (Some v) e found is =
          let s = r.stands w.bits c found in
          let p = s.3 v e in
          let read : value_at (plain c.made_for) m'.bytes w.bits ≡ Some v = read-back (plain c.made_for) v m'.bytes w.bits ((value-decides (plain c.made_for) v).0 p.0) s.1 p.1 in
          subst (λ o. Follows (Same (Some t)) (Some v) o) (sym (subst (λ q. value_at q m'.bytes w.bits ≡ Some v) is read)) (refl, subst (λ q. is_value q v ≡ true) is p.0)

      here : (c : Cell) → get m.cells w.bits ≡ Some c → (x : Bool) → same_plain (plain c.made_for) (plain t) ≡ x → Follows (Same (Some t)) (when x c.content) (value_at (plain t) m'.bytes w.bits)
      here c found false e = tt
      here c found true e = content c c.content refl found ((alike-decides (plain c.made_for) (plain t)).0 e)

      at_cell : (o : Option Cell) → get m.cells w.bits ≡ o → Follows (Same (Some t)) (loaded t o) (value_at (plain t) m'.bytes w.bits)
      at_cell None e = tt
      at_cell (Some c) e = here c e (same_plain (plain c.made_for) (plain t)) refl

      by_type : (x : Bool) → Follows (Same (Some t)) (when x (loaded t (get m.cells w.bits))) (when x (value_at (plain t) m'.bytes w.bits))
      by_type false = tt
      by_type true = at_cell (get m.cells w.bits) refl

  set_follows : (t : Tree) (w : Word) (v : Value) (m : Memory) (m' : Store) → Related m m' → Makes Front Related (cells.set t w v m) (bytes.set t w v m')
  set_follows t w v m m' r = by_type (is_i32 w)
    where
      after : (c : Cell) → get m.cells w.bits ≡ Some c → (same_plain (plain c.made_for) (plain t) && is_value (plain t) v) ≡ true → Makes Front Related (Some (record { cells = insert m.cells w.bits (record c { content = Some v }); fresh = m.fresh; taken = m.taken })) (when (has_room (plain t) w.bits m'.bytes && is_value (plain t) v) (Some (value_written (plain t) v w.bits m')))
      after c found h =
          let tests = both (same_plain (plain c.made_for) (plain t)) _ h in
          let is = (alike-decides (plain c.made_for) (plain t)).0 tests.0 in
          let s = r.stands w.bits c found in
          let held : holds w.bits (range_size (plain t)) m'.bytes ≡ true = subst (λ q. holds w.bits (range_size q) m'.bytes ≡ true) is s.2 in
          subst (λ o. Makes Front Related (Some (record { cells = insert m.cells w.bits (record c { content = Some v }); fresh = m.fresh; taken = m.taken })) o) (sym (when-true _ (Some (value_written (plain t) v w.bits m')) (both-then _ _ (room-of (plain t) w.bits m'.bytes held) tests.1)))
          (λ g. record {
            fresh = r.fresh;
            taken = r.taken;
            stands = filled m.cells m.taken m'.bytes t w.bits c v r.stands found is tests.1 g.0 g.1;
            coming = λ rest e. free_still w.bits (plain t) v rest m'.bytes tests.1 held (r.coming rest e);
            stay = written_stay w.bits c.made_for (plain t) v m'.bytes (subst (Among (w.bits, c.made_for)) g.1 (among_front (w.bits, c.made_for) m.taken g.0 s.0)) is tests.1 r.stay;
            no_further = λ x h. r.no_further x (written-only w.bits (range_size (plain t)) (image (plain t) v) m'.bytes x (image-fits (plain t) v tests.1) held h);
          })

      here : (c : Cell) → get m.cells w.bits ≡ Some c → (x : Bool) → (same_plain (plain c.made_for) (plain t) && is_value (plain t) v) ≡ x → Makes Front Related (option_map (λ c. record { cells = insert m.cells w.bits c; fresh = m.fresh; taken = m.taken }) (when x (Some (record c { content = Some v })))) (when (has_room (plain t) w.bits m'.bytes && is_value (plain t) v) (Some (value_written (plain t) v w.bits m')))
      here c found false e = tt
      here c found true e = after c found e

      at_cell : (o : Option Cell) → get m.cells w.bits ≡ o → Makes Front Related (option_map (λ c. record { cells = insert m.cells w.bits c; fresh = m.fresh; taken = m.taken }) (stored t v o)) (when (has_room (plain t) w.bits m'.bytes && is_value (plain t) v) (Some (value_written (plain t) v w.bits m')))
      at_cell None e = tt
      at_cell (Some c) e = here c e _ refl

      by_type : (x : Bool) → Makes Front Related (when x (option_map (λ c. record { cells = insert m.cells w.bits c; fresh = m.fresh; taken = m.taken }) (stored t v (get m.cells w.bits)))) (when x (when (has_room (plain t) w.bits m'.bytes && is_value (plain t) v) (Some (value_written (plain t) v w.bits m'))))
      by_type false = tt
      by_type true = at_cell (get m.cells w.bits) refl

  abbrev Two : Word × Word → Word × Word → Type 0
  Two p q = (p.0 ≡ q.0) × (p.1 ≡ q.1)

  abbrev Pays : Value × Option Tree → Value × Option Tree → Type 0
  Pays p q = Same p.1 p.0 q.0 × (p.1 ≡ q.1)

  abbrev Picks : Bool × Option (Value × Option Tree) → Bool × Option (Value × Option Tree) → Type 0
  Picks p q = (p.0 ≡ q.0) × Both Pays p.1 q.1

  pub carried : (t : Tree) (v : Value) → is_value (plain t) v ≡ true → Carried (name_of t) v
  carried (Tree.named n t d) v h = h
  carried _ v h = tt

  payload_self : (e : Bool) (t : Option Tree) (p : Option Value) → Follows Picks (picked e t p) (picked e t p)
  payload_self e None None = (refl, tt)
  payload_self e None (Some p) = tt
  payload_self e (Some t) None = tt
  payload_self e (Some t) (Some p) = go (is_value (plain t) p) refl
    where
      go : (b : Bool) → is_value (plain t) p ≡ b → Follows Picks (option_map (λ x. (e, x)) (when b (Some (Some (p, name_of t))))) (option_map (λ x. (e, x)) (when b (Some (Some (p, name_of t)))))
      go false h = tt
      go true h = (refl, ((refl, carried t p h), refl))

  picks_self : (ok err : Option Tree) (v : Value) → Follows Picks (case_picked ok err v) (case_picked ok err v)
  picks_self ok err (Value.case_with zero p) = payload_self false ok (Some p)
  picks_self ok err (Value.case_with (suc zero) p) = payload_self true err (Some p)
  picks_self ok err (Value.bare_case zero) = payload_self false ok None
  picks_self ok err (Value.bare_case (suc zero)) = payload_self true err None
  picks_self ok err (Value.case_with (suc (suc i)) p) = tt
  picks_self ok err (Value.bare_case (suc (suc i))) = tt
  picks_self ok err _ = tt

  put_by : (x : Bool) (t : Tree) (v v' : Value) (m : Memory) (m' : Store) → Same (Some t) v v' → Related m m' → Makes Known Gives (when x (cell_given t (Some v) m.cells m.fresh m.taken)) (when x (option_map (put_in t v') (range_given t m'.bytes m'.fresh m'.taken)))
  put_by false t v v' m m' e r = tt
  put_by true t v v' m m' e r =
      subst (λ v'. Makes Known Gives (cell_given t (Some v) m.cells m.fresh m.taken) (option_map (put_in t v') (range_given t m'.bytes m'.fresh m'.taken))) e.0
      (subst (λ f. Makes Known Gives (cell_given t (Some v) m.cells m.fresh m.taken) (option_map (put_in t v) (range_given t m'.bytes f m'.taken))) (sym r.fresh)
      (subst (λ k. Makes Known Gives (cell_given t (Some v) m.cells m.fresh m.taken) (option_map (put_in t v) (range_given t m'.bytes m.fresh k))) (sym r.taken)
      (put_follows t v m.cells m.fresh m.taken m'.bytes e.1 r.stands r.coming r.stay r.no_further)))

  -- THE OBLIGATIONS of "the bytes follow the cells"
  pub bytes_simulate_cells : Simulates cells bytes ◌≡◌ Same ◌≡◌ Related Front
  bytes_simulate_cells = record {
    plain = λ v v' e. (e, tt);
    forget = λ t v v' e. e.0;
    lower = λ x v v' e. follows_at ◌≡◌ (λ x. refl) (word_of x) v v' e;
    lift = λ x w w' e. follows_at ◌≡◌ (λ x. refl) (value_of x) w w' e;
    list_words = λ v v' e. follows_at Two (λ x. (refl, refl)) cells.list_words v v' e;
    list_value = λ a a' l l' e k. subst (λ a'. Follows ◌≡◌ (cells.list_value a l) (cells.list_value a' l')) e (follows_at ◌≡◌ (λ x. refl) (cells.list_value a) l l' k);
    tuple = λ vs vs' e. ap cells.tuple (each_same vs vs' e);
    parts = λ n v v' e. follows_at (Each ◌≡◌) (each_self ◌≡◌ (λ x. refl)) (cells.parts n) v v' e;
    give = λ t m m' r. subst (λ f. Makes Known Gives (cells.give t m) (range_given t m'.bytes f m'.taken)) (sym r.fresh) (subst (λ k. Makes Known Gives (cells.give t m) (range_given t m'.bytes m.fresh k)) (sym r.taken) (give_follows t m.cells m.fresh m.taken m'.bytes r.stands r.coming r.stay r.no_further));
    put = λ t v v' m m' e r. put_by (by_address (plain t)) t v v' m m' e r;
    get = λ t w w' m m' e r. subst (λ w'. Follows (Same (Some t)) (cells.get t w m) (bytes.get t w' m')) e (get_follows t w m m' r);
    set = λ t w w' v v' m m' e k r. subst (λ w'. Makes Front Related (cells.set t w v m) (bytes.set t w' v' m')) e (subst (λ v'. Makes Front Related (cells.set t w v m) (bytes.set t w v' m')) k (set_follows t w v m m' r));
    picks = λ ok err v v' e. subst (λ v'. Follows Picks (case_picked ok err v) (case_picked ok err v')) e (picks_self ok err v);
    case_word = λ ok err v c e. refl;
    chooses = λ w w' e. follows_at ◌≡◌ (λ x. refl) cells.chooses w w' e;
    result = λ e p p' h. ap (result_value e) (both_same p p' h);
    has_type = λ t w w' e h. subst (λ w. T (cells.has_type t w)) e h;
  }

  -- a front goes backwards
  given_front : (t : Tree) (v : Option Value) (cs : Cells) (fresh : List ℕ) (taken : Taken) (r : Word × Memory) → cell_given t v cs fresh taken ≡ Some r → Front r.1 → (rest : Taken) × (taken ++ rest ≡ whole)
  given_front t v cs [] taken r e g = absurd (clash e)
    where
      clash : None ≡ Some r → ⊥
      clash e = cc
  given_front t v cs (a ∷ more) taken r e g = ((a, t) ∷ g.0, sym (append_assoc taken ((a, t) ∷ []) g.0) ∙ ap (λ k. k ++ g.0) (ap (taken_of taken) e) ∙ g.1)
    where
      taken_of : Taken → Option (Word × Memory) → Taken
      taken_of d None = d
      taken_of d (Some r) = r.1.taken

  put_front : (x : Bool) (t : Tree) (v : Value) (m : Memory) (r : Word × Memory) → when x (cell_given t (Some v) m.cells m.fresh m.taken) ≡ Some r → Front r.1 → Front m
  put_front true t v m r e g = given_front t (Some v) m.cells m.fresh m.taken r e g
  put_front false t v m r e g = absurd (clash e)
    where
      clash : None ≡ Some r → ⊥
      clash e = cc

  set_front : (x : Bool) (o : Option Cell) (w : Word) (m m1 : Memory) → when x (option_map (λ c. record { cells = insert m.cells w.bits c; fresh = m.fresh; taken = m.taken }) o) ≡ Some m1 → Front m1 → Front m
  set_front true (Some c) w m m1 e g = (g.0, ap (λ k. k ++ g.0) (ap (taken_in m.taken) e) ∙ g.1)
    where
      taken_in : Taken → Option Memory → Taken
      taken_in d None = d
      taken_in d (Some m) = m.taken
  set_front true None w m m1 e g = absurd (clash e)
    where
      clash : None ≡ Some m1 → ⊥
      clash e = cc
  set_front false o w m m1 e g = absurd (clash e)
    where
      clash : None ≡ Some m1 → ⊥
      clash e = cc

  pub fronts_go_back : Backwards cells bytes ◌≡◌ Same ◌≡◌ Related Front
  fronts_go_back = record {
    give = λ t m r e g. given_front t None m.cells m.fresh m.taken r e g;
    put = λ t v m r e g. put_front (by_address (plain t)) t v m r e g;
    set = λ t w v m m1 e g. set_front (is_i32 w) (stored t v (get m.cells w.bits)) w m m1 e g;
  }
