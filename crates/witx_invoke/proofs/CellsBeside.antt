-- Over cells, and over bytes with the addresses of a list, where both runs go on: the values of the cells stand in their ranges.
use Rattle.std.proofs.Common.{◌≡◌, ◌≢◌, ℕ, ◌+◌, ◌<◌, ◌≤◌, Bool, true, false, cond, ◌&&◌, refl, sym, ap, ◌∙◌, subst, arith, Option, Some, None, is_some, option_map, List, [], ◌∷◌, ◌++◌, append_assoc, nat_eq, nat_le, inl, inr}
use Rattle.std.proofs.lemmas.List.{map-append}
use Rattle.witx_ast.specs.Tree.{Tree}
use Rattle.witx_ast.specs.Plain.{Plain, plain}
use Rattle.witx_ast.specs.Alike.{same_plain}
use Rattle.witx_ast.specs.Values.{Value}
use Rattle.witx_ast.specs.ValueTests.{is_value}
use Rattle.witx_ast.specs.Tags.{fits, AllFit}
use Rattle.witx_base.specs.SameBytes.{false-true, both}
use Rattle.witx_ast.proofs.Decided.{decides-eq, decides-le}
use Rattle.witx_ast.proofs.ValueLaws.{value-decides}
use Rattle.witx_ast.proofs.AlikeLaws.{alike-decides}
use Rattle.witx_ast.proofs.TagLaws.{fits-decides}
use Rattle.witx_machine.specs.Words.{Word, i32, when}
use Rattle.witx_machine.specs.Functions.{by_address}
use Rattle.witx_machine.specs.Cells.{Cell, Cells, Memory, get, insert, cell_given, loaded, stored, is_i32, cells}
use Rattle.witx_machine.proofs.CellLaws.{own_cell}
use Rattle.witx_bytes.specs.Bytes.{Bytes, Agrees, image_written, with_zeros, in_bounds, none_held, all_held, holds, is_free}
use Rattle.witx_bytes.specs.Images.{image}
use Rattle.witx_bytes.specs.Reading.{value_at}
use Rattle.witx_bytes.specs.ByteMachine.{Store, range_size, range_given, value_written, has_room}
use Rattle.witx_bytes.proofs.Agreement.{written-own, held-at, free-at}
use Rattle.witx_bytes.proofs.ReadBack.{read-back}
use Rattle.witx_bytes.proofs.RangeLaws.{Disjoint, agrees-placed, agrees-written, held-own, held-placed, held-written}
use Rattle.witx_call.specs.Ranges.{addresses}
use Rattle.witx_invoke.specs.Placing.{is_writable, is_readable, is_address}
use Rattle.witx_invoke.proofs.BothEnd.{Meets, Alike, meets_self}
use Rattle.witx_invoke.proofs.Answers.{some-none, some-same}
use Rattle.witx_invoke.proofs.Listing.{listing}

meets-none : {A B : Type 0} (R : A → B → Type 0) (o : Option A) → Meets R o None
meets-none R None = tt
meets-none R (Some x) = tt

-- a free range and a held one don't overlap
apart-held : (a n b k : ℕ) (m : Bytes) → 0 < n → 0 < k → is_free a n m ≡ true → holds b k m ≡ true → Disjoint a n b k
apart-held a n b k m some some' free held = by (nat_le (a + n) b) refl (nat_le (b + k) a) refl (nat_le a b) refl
  where
    not-le : (x y : ℕ) → nat_le x y ≡ false → y < x
    not-le x y h = let no' : ¬ (x ≤ y) = λ l. false-true (sym h ∙ (decides-le x y).1 l) in omega (arith, no')

    clash : (x : ℕ) → a ≤ x → x < a + n → b ≤ x → x < b + k → ⊥
    clash x l u l' u' = false-true (sym (ap is_some (free-at a n m (both (in_bounds a n) (none_held a n m) free).1 x l u)) ∙ held-at b k m (both (in_bounds b k) (all_held b k m) held).1 x l' u')

    by : (p : Bool) → nat_le (a + n) b ≡ p → (q : Bool) → nat_le (b + k) a ≡ q → (r : Bool) → nat_le a b ≡ r → Disjoint a n b k
    by true e q f r g = inl ((decides-le (a + n) b).0 e)
    by false e true f r g = inr ((decides-le (b + k) a).0 f)
    by false e false f true g = let l = (decides-le a b).0 g in let u = not-le (a + n) b e in absurd (clash b l u (omega arith) (omega (arith, some')))
    by false e false f false g = let l = not-le a b g in let u = not-le (b + k) a f in absurd (clash a (omega arith) (omega (arith, some)) (omega (arith, l)) u)

some-size : (t : Plain) → 0 < range_size t
some-size t = omega arith

-- the range of a cell is held, and where the cell has a value its image stands there
abbrev pub StandsAt : Bytes → ℕ → Cell → Type 0
StandsAt m a c = (holds a (range_size (plain c.made_for)) m ≡ true) × ((v : Value) → c.content ≡ Some v → (is_value (plain c.made_for) v ≡ true) × Agrees m a (image (plain c.made_for) v))

abbrev empty_cell : Tree → Cell
empty_cell t = record { made_for = t; content = None }

abbrev full_cell : Cell → Value → Cell
full_cell c v = record c { content = Some v }

-- list: the addresses of the cells, given and still to give
module _ (list : List ℕ) where
  -- THE RELATION of the two memories
  pub record CellsStand (n : Store) (m : Memory) : Type 0 where
    pub tail : List ℕ
    pub fresh : n.fresh ≡ m.fresh ++ tail
    pub taken : n.taken ≡ m.taken
    pub all : addresses m.taken ++ m.fresh ≡ list
    pub stands : (a : ℕ) (c : Cell) → get m.cells a ≡ Some c → StandsAt n.bytes a c
    pub apart : (a b : ℕ) (c d : Cell) → get m.cells a ≡ Some c → get m.cells b ≡ Some d → a ≢ b → Disjoint a (range_size (plain c.made_for)) b (range_size (plain d.made_for))

  abbrev cells_with : Tree → Option Value → ℕ → List ℕ → Memory → Memory
  cells_with t v a more m = record { cells = insert m.cells a (record { made_for = t; content = v }); fresh = more; taken = m.taken ++ (a, t) ∷ [] }

  abbrev store_with : Tree → ℕ → List ℕ → Store → Store
  store_with t a more n = record { bytes = with_zeros a (range_size (plain t)) n.bytes; fresh = more; taken = n.taken ++ (a, t) ∷ [] }

  -- one more cell, empty, and its range
  one_more : (t : Tree) (n : Store) (m : Memory) (a : ℕ) (more : List ℕ) (r : CellsStand n m) → m.fresh ≡ a ∷ more → is_free a (range_size (plain t)) n.bytes ≡ true → CellsStand (store_with t a (more ++ r.tail) n) (cells_with t None a more m)
  one_more t n m a more r is free = record {
    tail = r.tail;
    fresh = refl;
    taken = ap (λ l. l ++ (a, t) ∷ []) r.taken;
    all = ap (λ l. l ++ more) (map-append (λ x. x.0) m.taken ((a, t) ∷ [])) ∙ append_assoc (addresses m.taken) (a ∷ []) more ∙ ap (λ l. addresses m.taken ++ l) (sym is) ∙ r.all;
    stands = λ x c e. stood x c (nat_eq x a) refl e;
    apart = λ x y c d e f differs. parted x y c d (nat_eq x a) refl (nat_eq y a) refl e f differs;
  }
    where
      stood : (x : ℕ) (c : Cell) (b : Bool) → nat_eq x a ≡ b → cond b (Some (empty_cell t)) (get m.cells x) ≡ Some c → StandsAt (with_zeros a (range_size (plain t)) n.bytes) x c
      stood x c true h e =
          subst (StandsAt (with_zeros a (range_size (plain t)) n.bytes) x) (some-same e) (subst (λ x. StandsAt (with_zeros a (range_size (plain t)) n.bytes) x (empty_cell t)) (sym ((decides-eq x a).0 h)) (held-own a (range_size (plain t)) n.bytes free, λ v e. absurd (some-none e)))
      stood x c false h e =
          let s = r.stands x c e in
          let k = range_size (plain c.made_for) in (
            held-placed a (range_size (plain t)) x k n.bytes s.0,
            λ v f. let p = s.1 v f in (p.0, agrees-placed a (range_size (plain t)) x (plain c.made_for) v n.bytes (apart-held a (range_size (plain t)) x k n.bytes (some-size (plain t)) (some-size (plain c.made_for)) free s.0) p.0 p.1),
          )

      other_way : (x n y k : ℕ) → Disjoint x n y k → Disjoint y k x n
      other_way x n y k (inl h) = inr h
      other_way x n y k (inr h) = inl h

      new-old : (x : ℕ) (c d : Cell) → get m.cells x ≡ Some d → Some (empty_cell t) ≡ Some c → Disjoint a (range_size (plain c.made_for)) x (range_size (plain d.made_for))
      new-old x c d e f = subst (λ c. Disjoint a (range_size (plain c.made_for)) x (range_size (plain d.made_for))) (some-same f) (apart-held a (range_size (plain t)) x (range_size (plain d.made_for)) n.bytes (some-size (plain t)) (some-size (plain d.made_for)) free (r.stands x d e).0)

      parted : (x y : ℕ) (c d : Cell) (b : Bool) → nat_eq x a ≡ b → (b' : Bool) → nat_eq y a ≡ b' → cond b (Some (empty_cell t)) (get m.cells x) ≡ Some c → cond b' (Some (empty_cell t)) (get m.cells y) ≡ Some d → x ≢ y → Disjoint x (range_size (plain c.made_for)) y (range_size (plain d.made_for))
      parted x y c d true h true k e f differs = absurd (differs ((decides-eq x a).0 h ∙ sym ((decides-eq y a).0 k)))
      parted x y c d true h false k e f differs = subst (λ x. Disjoint x (range_size (plain c.made_for)) y (range_size (plain d.made_for))) (sym ((decides-eq x a).0 h)) (new-old y c d f e)
      parted x y c d false h true k e f differs = subst (λ y. Disjoint x (range_size (plain c.made_for)) y (range_size (plain d.made_for))) (sym ((decides-eq y a).0 k)) (other_way a (range_size (plain d.made_for)) x (range_size (plain c.made_for)) (new-old x d c e f))
      parted x y c d false h false k e f differs = r.apart x y c d e f differs

  -- a value is written where a cell stands
  filled : (n : Store) (m : Memory) (t : Tree) (a : ℕ) (c : Cell) (v : Value) → CellsStand n m → get m.cells a ≡ Some c → plain c.made_for ≡ plain t → is_value (plain t) v ≡ true → CellsStand (value_written (plain t) v a n) (record { cells = insert m.cells a (record c { content = Some v }); fresh = m.fresh; taken = m.taken })
  filled n m t a c v r found alike is = record {
    tail = r.tail;
    fresh = r.fresh;
    taken = r.taken;
    all = r.all;
    stands = λ x d e. stood x d (nat_eq x a) refl e;
    apart = λ x y d d' e f differs. parted x y d d' (nat_eq x a) refl (nat_eq y a) refl e f differs;
  }
    where
      stood : (x : ℕ) (d : Cell) (b : Bool) → nat_eq x a ≡ b → cond b (Some (full_cell c v)) (get m.cells x) ≡ Some d → StandsAt (image_written a (image (plain t) v) n.bytes) x d
      stood x d true h e =
          subst (StandsAt (image_written a (image (plain t) v) n.bytes) x) (some-same e) (subst (λ x. StandsAt (image_written a (image (plain t) v) n.bytes) x (full_cell c v)) (sym ((decides-eq x a).0 h)) (
            held-written a (image (plain t) v) a (range_size (plain c.made_for)) n.bytes (r.stands a c found).0,
            λ u q. subst (λ u. (is_value (plain c.made_for) u ≡ true) × Agrees (image_written a (image (plain t) v) n.bytes) a (image (plain c.made_for) u)) (some-same q) (subst (λ p. (is_value p v ≡ true) × Agrees (image_written a (image (plain t) v) n.bytes) a (image p v)) (sym alike) (is, written-own a (image (plain t) v) n.bytes)),
          ))
      stood x d false h e =
          let o = r.stands x d e in
          let differs : a ≢ x = λ p. false-true (sym h ∙ (decides-eq x a).1 (sym p)) in
          let apart = subst (λ p. Disjoint a (range_size p) x (range_size (plain d.made_for))) alike (r.apart a x c d found e differs) in (
            held-written a (image (plain t) v) x (range_size (plain d.made_for)) n.bytes o.0,
            λ u q. ((o.1 u q).0, agrees-written a x (plain t) (plain d.made_for) v u n.bytes apart is (o.1 u q).0 (o.1 u q).1),
          )

      -- the cell as it was before: made for the same type
      before : (x : ℕ) (d : Cell) (b : Bool) → nat_eq x a ≡ b → cond b (Some (full_cell c v)) (get m.cells x) ≡ Some d → (c : Cell) × (get m.cells x ≡ Some c) × (c.made_for ≡ d.made_for)
      before x d true h e = (c, ap (get m.cells) ((decides-eq x a).0 h) ∙ found, ap (λ c. c.made_for) (some-same e))
      before x d false h e = (d, e, refl)

      parted : (x y : ℕ) (d d' : Cell) (b : Bool) → nat_eq x a ≡ b → (b' : Bool) → nat_eq y a ≡ b' → cond b (Some (full_cell c v)) (get m.cells x) ≡ Some d → cond b' (Some (full_cell c v)) (get m.cells y) ≡ Some d' → x ≢ y → Disjoint x (range_size (plain d.made_for)) y (range_size (plain d'.made_for))
      parted x y d d' b h b' k e f differs =
          let p = before x d b h e in let q = before y d' b' k f in
          subst (λ u. Disjoint x (range_size (plain u)) y (range_size (plain d'.made_for))) p.2 (subst (λ u. Disjoint x (range_size (plain p.0.made_for)) y (range_size (plain u))) q.2 (r.apart x y p.0 q.0 p.1 q.1 differs))

  -- cells in which the same is found
  same_found : (n : Store) (m : Memory) (cs : Cells) → CellsStand n m → ((x : ℕ) (d : Cell) → get cs x ≡ Some d → get m.cells x ≡ Some d) → CellsStand n (record { cells = cs; fresh = m.fresh; taken = m.taken })
  same_found n m cs r h = record { tail = r.tail; fresh = r.fresh; taken = r.taken; all = r.all; stands = λ a c e. r.stands a c (h a c e); apart = λ a b c d e f. r.apart a b c d (h a c e) (h b d f) }

  one_full : (t : Tree) (v : Value) (n : Store) (m : Memory) (a : ℕ) (more : List ℕ) (r : CellsStand n m) → m.fresh ≡ a ∷ more → is_free a (range_size (plain t)) n.bytes ≡ true → is_value (plain t) v ≡ true → CellsStand (value_written (plain t) v a (store_with t a (more ++ r.tail) n)) (cells_with t (Some v) a more m)
  one_full t v n m a more r is free val =
      let empty : Cell = record { made_for = t; content = None } in
      let full : Cell = record { made_for = t; content = Some v } in
      same_found (value_written (plain t) v a (store_with t a (more ++ r.tail) n)) (record { cells = insert (insert m.cells a empty) a full; fresh = more; taken = m.taken ++ (a, t) ∷ [] }) (insert m.cells a full)
      (filled (store_with t a (more ++ r.tail) n) (cells_with t None a more m) t a empty v (one_more t n m a more r is free) (own_cell m.cells a empty) refl val)
      (λ x d e. over x d (nat_eq x a) e)
    where
      over : (x : ℕ) (d : Cell) (b : Bool) → cond b (Some (record { made_for = t; content = Some v })) (get m.cells x) ≡ Some d → cond b (Some (record { made_for = t; content = Some v })) (cond b (Some (record { made_for = t; content = None })) (get m.cells x)) ≡ Some d
      over x d true e = e
      over x d false e = e

  abbrev GivesCell : Word × Store → Word × Memory → Type 0
  GivesCell p q = (p.0 ≡ q.0) × CellsStand p.1 q.1

  give_alike : (t : Tree) (n : Store) (m : Memory) → CellsStand n m → Meets GivesCell (listing.give t n) (cells.give t m)
  give_alike t n m r = go m.fresh refl
    where
      by : (a : ℕ) (more : List ℕ) → m.fresh ≡ a ∷ more → (b : Bool) → is_free a (range_size (plain t)) n.bytes ≡ b → Meets GivesCell (when b (Some (i32 a, store_with t a (more ++ r.tail) n))) (Some (i32 a, cells_with t None a more m))
      by a more is false free = tt
      by a more is true free = (refl, one_more t n m a more r is free)

      go : (fs : List ℕ) → m.fresh ≡ fs → Meets GivesCell (range_given t n.bytes n.fresh n.taken) (cell_given t None m.cells fs m.taken)
      go [] is = meets-none GivesCell (range_given t n.bytes n.fresh n.taken)
      go (a ∷ more) is = subst (λ l. Meets GivesCell (range_given t n.bytes l n.taken) (cell_given t None m.cells (a ∷ more) m.taken)) (sym (r.fresh ∙ ap (λ l. l ++ r.tail) is)) (by a more is (is_free a (range_size (plain t)) n.bytes) refl)

  abbrev put_in : Tree → Value → Word × Store → Word × Store
  put_in t v r = (r.0, value_written (plain t) v r.0.bits r.1)

  put_alike : (t : Tree) (v : Value) (n : Store) (m : Memory) → CellsStand n m → Meets GivesCell (listing.put t v n) (cells.put t v m)
  put_alike t v n m r = tested (by_address (plain t)) (is_writable (plain t) v) refl
    where
      by : is_value (plain t) v ≡ true → (a : ℕ) (more : List ℕ) → m.fresh ≡ a ∷ more → (b : Bool) → is_free a (range_size (plain t)) n.bytes ≡ b → Meets GivesCell (option_map (put_in t v) (when b (Some (i32 a, store_with t a (more ++ r.tail) n)))) (Some (i32 a, cells_with t (Some v) a more m))
      by val a more is false free = tt
      by val a more is true free = (refl, one_full t v n m a more r is free val)

      go : is_value (plain t) v ≡ true → (fs : List ℕ) → m.fresh ≡ fs → Meets GivesCell (option_map (put_in t v) (range_given t n.bytes n.fresh n.taken)) (cell_given t (Some v) m.cells fs m.taken)
      go val [] is = meets-none GivesCell (option_map (put_in t v) (range_given t n.bytes n.fresh n.taken))
      go val (a ∷ more) is = subst (λ l. Meets GivesCell (option_map (put_in t v) (range_given t n.bytes l n.taken)) (cell_given t (Some v) m.cells (a ∷ more) m.taken)) (sym (r.fresh ∙ ap (λ l. l ++ r.tail) is)) (by val a more is (is_free a (range_size (plain t)) n.bytes) refl)

      tested : (b w : Bool) → is_writable (plain t) v ≡ w → Meets GivesCell (when (b && w) (option_map (put_in t v) (range_given t n.bytes n.fresh n.taken))) (when b (cell_given t (Some v) m.cells m.fresh m.taken))
      tested false w e = tt
      tested true false e = tt
      tested true true e = go (both (is_value (plain t) v) (fits (plain t)) e).0 m.fresh refl

  get_alike : (t : Tree) (w : Word) (n : Store) (m : Memory) → CellsStand n m → Meets ◌≡◌ (listing.get t w n) (cells.get t w m)
  get_alike t w n m r = tested (is_address w) (is_readable (plain t)) refl (is_i32 w)
    where
      read : fits (plain t) ≡ true → (c : Cell) → get m.cells w.bits ≡ Some c → plain c.made_for ≡ plain t → (o : Option Value) → c.content ≡ o → Meets ◌≡◌ (value_at (plain t) n.bytes w.bits) o
      read fit c found is None e = meets-none ◌≡◌ (value_at (plain t) n.bytes w.bits)
      read fit c found is (Some v) e =
          let p = (r.stands w.bits c found).1 v e in
          let own : AllFit (plain c.made_for) = subst AllFit (sym is) ((fits-decides (plain t)).0 fit) in
          let value : value_at (plain c.made_for) n.bytes w.bits ≡ Some v = read-back (plain c.made_for) v n.bytes w.bits ((value-decides (plain c.made_for) v).0 p.0) own p.1 in
          subst (λ o. Meets ◌≡◌ o (Some v)) (sym (subst (λ q. value_at q n.bytes w.bits ≡ Some v) is value)) refl

      alike : fits (plain t) ≡ true → (c : Cell) → get m.cells w.bits ≡ Some c → (b : Bool) → same_plain (plain c.made_for) (plain t) ≡ b → Meets ◌≡◌ (value_at (plain t) n.bytes w.bits) (when b c.content)
      alike fit c found false e = meets-none ◌≡◌ (value_at (plain t) n.bytes w.bits)
      alike fit c found true e = read fit c found ((alike-decides (plain c.made_for) (plain t)).0 e) c.content refl

      cell : fits (plain t) ≡ true → (o : Option Cell) → get m.cells w.bits ≡ o → Meets ◌≡◌ (value_at (plain t) n.bytes w.bits) (loaded t o)
      cell fit None found = meets-none ◌≡◌ (value_at (plain t) n.bytes w.bits)
      cell fit (Some c) found = alike fit c found (same_plain (plain c.made_for) (plain t)) refl

      tested : (a b : Bool) → is_readable (plain t) ≡ b → (c : Bool) → Meets ◌≡◌ (when (a && b) (value_at (plain t) n.bytes w.bits)) (when c (loaded t (get m.cells w.bits)))
      tested false b e c = tt
      tested true false e c = tt
      tested true true e false = meets-none ◌≡◌ (value_at (plain t) n.bytes w.bits)
      tested true true e true = cell (both (fits (plain t)) _ e).0 (get m.cells w.bits) refl

  abbrev in_cell : Word → Memory → Cell → Memory
  in_cell w m c = record { cells = insert m.cells w.bits c; fresh = m.fresh; taken = m.taken }

  set_alike : (t : Tree) (w : Word) (v : Value) (n : Store) (m : Memory) → CellsStand n m → Meets CellsStand (listing.set t w v n) (cells.set t w v m)
  set_alike t w v n m r = tested (is_address w && (has_room (plain t) w.bits n.bytes && is_writable (plain t) v)) (is_i32 w)
    where
      here : (c : Cell) → get m.cells w.bits ≡ Some c → (b : Bool) → (same_plain (plain c.made_for) (plain t) && is_value (plain t) v) ≡ b → Meets CellsStand (Some (value_written (plain t) v w.bits n)) (option_map (in_cell w m) (when b (Some (record c { content = Some v }))))
      here c found false e = tt
      here c found true e =
          let p = both (same_plain (plain c.made_for) (plain t)) (is_value (plain t) v) e in
          filled n m t w.bits c v r found ((alike-decides (plain c.made_for) (plain t)).0 p.0) p.1

      cell : (o : Option Cell) → get m.cells w.bits ≡ o → Meets CellsStand (Some (value_written (plain t) v w.bits n)) (option_map (in_cell w m) (stored t v o))
      cell None found = tt
      cell (Some c) found = here c found (same_plain (plain c.made_for) (plain t) && is_value (plain t) v) refl

      tested : (a b : Bool) → Meets CellsStand (when a (Some (value_written (plain t) v w.bits n))) (when b (option_map (in_cell w m) (stored t v (get m.cells w.bits))))
      tested false b = tt
      tested true false = tt
      tested true true = cell (get m.cells w.bits) refl

  pub cells_answer_alike : Alike listing cells CellsStand
  cells_answer_alike = record {
    lower = λ x v. meets_self (cells.lower x v);
    lift = λ x w. meets_self (cells.lift x w);
    list_words = λ v. meets_self (cells.list_words v);
    list_value = λ a l. meets_self (cells.list_value a l);
    tuple = λ vs. refl;
    parts = λ n v. meets_self (cells.parts n v);
    give = give_alike;
    put = put_alike;
    get = get_alike;
    set = set_alike;
    picks = λ ok err v. meets_self (cells.picks ok err v);
    case_word = λ e. refl;
    chooses = λ w. meets_self (cells.chooses w);
    result = λ e p. refl;
  }
