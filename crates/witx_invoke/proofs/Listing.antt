-- The machine with the stated addresses gives what the machine over bytes gives that takes those addresses from a list.
use Rattle.std.proofs.Common.{◌≡◌, ℕ, ◌+◌, ◌^◌, Bool, true, false, ◌&&◌, refl, sym, ap, ◌∙◌, subst, arith, Option, Some, None, option_map, List, [], ◌∷◌, ◌++◌, append_assoc}
use Rattle.witx_ast.specs.Tree.{Tree}
use Rattle.witx_ast.specs.Plain.{plain}
use Rattle.witx_ast.specs.Values.{Value}
use Rattle.witx_ast.specs.ValueTests.{is_value}
use Rattle.witx_ast.specs.Tags.{fits}
use Rattle.witx_base.specs.SameBytes.{both}
use Rattle.witx_ast.proofs.Decided.{both-then, decides-le}
use Rattle.witx_machine.specs.Words.{Word, i32, is_u32, when}
use Rattle.witx_machine.specs.Functions.{by_address}
use Rattle.witx_machine.specs.Machine.{Domain}
use Rattle.witx_machine.specs.Cells.{Taken, is_i32}
use Rattle.witx_bytes.specs.Bytes.{with_zeros, is_free}
use Rattle.witx_bytes.specs.Reading.{value_at}
use Rattle.witx_bytes.specs.ByteMachine.{Store, bytes, has_room, range_size, range_given, value_written}
use Rattle.witx_call.specs.Ranges.{AreStated, addresses}
use Rattle.witx_call.specs.Room.{Room, is_range_place, next_address}
use Rattle.witx_invoke.specs.Placing.{is_writable, is_readable, is_address, value_put, placing}
use Rattle.witx_machine.proofs.Simulation.{Follows, Makes, Simulates, Backwards}
use Rattle.witx_machine.proofs.Following.{follows_at}
use Rattle.witx_machine.proofs.Following as following
use Rattle.witx_invoke.proofs.NewMemories.{follows_anew}
use Rattle.witx_invoke.proofs.Answers.{some-none, some-same, makes-if, when-true}
use Rattle.witx_invoke.proofs.StatedRanges.{behind-positive, stand-more, below-more, place-free}

-- the machine over bytes with the addresses of a list, which asks of values and types what the machine with the stated addresses asks
abbrev pub listing : Domain Value Word Store
listing = record bytes {
  put = λ t v m. when (by_address (plain t) && is_writable (plain t) v)
      (option_map (λ r. (r.0, value_written (plain t) v r.0.bits r.1)) (range_given t m.bytes m.fresh m.taken));
  get = λ t w m. when (is_address w && is_readable (plain t)) (value_at (plain t) m.bytes w.bits);
  set = λ t w v m. when (is_address w && (has_room (plain t) w.bits m.bytes && is_writable (plain t) v)) (Some (value_written (plain t) v w.bits m));
}

makes-map : {A B A' B' : Type 0} (K : A → Type 0) (R : A → B → Type 0) (K' : A' → Type 0) (R' : A' → B' → Type 0) (f : A → A') (g : B → B') (o : Option A) (p : Option B) → Makes K R o p → ((x : A) → K' (f x) → K x) → ((x : A) (y : B) → R x y → R' (f x) (g y)) → Makes K' R' (option_map f o) (option_map g p)
makes-map K R K' R' f g None p h b k = tt
makes-map K R K' R' f g (Some x) None h b k = λ g. h (b x g)
makes-map K R K' R' f g (Some x) (Some y) h b k = λ g. k x y (h (b x g))

makes-when : {A B : Type 0} (K : A → Type 0) (R : A → B → Type 0) (b c : Bool) (o : Option A) (p : Option B) → (b ≡ true → c ≡ true) → Makes K R o p → Makes K R (when b o) (when c p)
makes-when K R false c o p h k = tt
makes-when K R true c o p h k = subst (λ c. Makes K R o (when c p)) (sym (h refl)) k

follows-when : {A : Type 0} (b c : Bool) (o p : Option A) → (b ≡ true → c ≡ true) → o ≡ p → Follows ◌≡◌ (when b o) (when c p)
follows-when false c o p h e = tt
follows-when true c o p h e = subst (λ c. Follows ◌≡◌ o (when c p)) (sym (h refl)) (subst (Follows ◌≡◌ o) e (self o))
  where
    self : {A : Type 0} (o : Option A) → Follows ◌≡◌ o o
    self None = tt
    self (Some x) = refl

abbrev second : List ℕ → List ℕ
second [] = []
second (x ∷ xs) = xs

-- any memory: what the pure operations do doesn't ask for one
abbrev nowhere : Room
nowhere = record { bytes = λ at. None; taken = [] }

abbrev pure : Simulates placing placing ◌≡◌ (λ t v v'. v ≡ v') ◌≡◌ (λ m m'. (m ≡ m') × (Unit {0} → Unit {0})) (λ m. Unit {0})
pure = following.self placing (λ m. Unit {0}) nowhere (λ t m r e g. tt) (λ t v m r e g. tt) (λ t w v m n e g. tt)

-- whole: what the whole run takes; more: addresses that it doesn't take
module _ (whole : Taken) (more : List ℕ) where
  abbrev pub Front : Room → Type 0
  Front m = (rest : Taken) × (m.taken ++ rest ≡ whole)

  -- THE RELATION: the same bytes, the same ranges, which stand where they are to stand, and the list has the addresses that are still to come
  pub record Listed (m : Room) (n : Store) : Type 0 where
    pub bytes : n.bytes ≡ m.bytes
    pub taken : n.taken ≡ m.taken
    pub fresh : (rest : Taken) → m.taken ++ rest ≡ whole → n.fresh ≡ addresses rest ++ more
    pub stated : AreStated m.taken

  abbrev Known : Word × Room → Type 0
  Known p = Front p.1

  abbrev Gives : Word × Room → Word × Store → Type 0
  Gives p q = (p.0 ≡ q.0) × Listed p.1 q.1

  abbrev room_with : Tree → Room → Room
  room_with t m = record { bytes = with_zeros (next_address m.taken) (range_size (plain t)) m.bytes; taken = m.taken ++ (next_address m.taken, t) ∷ [] }

  given : (t : Tree) (m : Room) (n : Store) → Listed m n → is_range_place (next_address m.taken) (range_size (plain t)) m.bytes ≡ true → Known (i32 (next_address m.taken), room_with t m) →
      (q : Word × Store) × (range_given t n.bytes n.fresh n.taken ≡ Some q) × Gives (i32 (next_address m.taken), room_with t m) q
  given t m n r p k =
      let at = next_address m.taken in
      let size = range_size (plain t) in
      let is : m.taken ++ (at, t) ∷ k.0 ≡ whole = sym (append_assoc m.taken ((at, t) ∷ []) k.0) ∙ k.1 in
      let list : n.fresh ≡ at ∷ (addresses k.0 ++ more) = r.fresh ((at, t) ∷ k.0) is in
      let free : is_free at size m.bytes ≡ true = place-free at size m.bytes (behind-positive 16 m.taken (omega arith)) p in
      let new : Store = record { bytes = with_zeros at size m.bytes; fresh = addresses k.0 ++ more; taken = m.taken ++ (at, t) ∷ [] } in
      let limit = (decides-le (at + size) (2 ^ 20)).0 (both _ _ p).0 in (
        (i32 at, new),
        (λ i. range_given t (r.bytes i) (list i) (r.taken i)) ∙ when-true (is_free at size m.bytes) (Some (i32 at, new)) free,
        (
          refl,
          record {
            bytes = refl;
            taken = refl;
            fresh = λ rest e. ap second (sym list ∙ r.fresh ((at, t) ∷ rest) (sym (append_assoc m.taken ((at, t) ∷ []) rest) ∙ e));
            stated = record { stand = stand-more 16 m.taken t r.stated.stand; room = below-more (2 ^ 20) m.taken (at, t) r.stated.room limit };
          },
        ),
      )

  give_listed : (t : Tree) (m : Room) (n : Store) → Listed m n → Makes Known Gives (placing.give t m) (listing.give t n)
  give_listed t m n r = go (is_range_place (next_address m.taken) (range_size (plain t)) m.bytes) refl
    where
      go : (b : Bool) → is_range_place (next_address m.taken) (range_size (plain t)) m.bytes ≡ b → Makes Known Gives (when b (Some (i32 (next_address m.taken), room_with t m))) (range_given t n.bytes n.fresh n.taken)
      go false e = tt
      go true e = makes-if Known Gives (i32 (next_address m.taken), room_with t m) (range_given t n.bytes n.fresh n.taken) (given t m n r e)

  written : (t : Tree) (v : Value) (a : ℕ) (m : Room) (n : Store) → Listed m n → Listed (value_put (plain t) v a m) (value_written (plain t) v a n)
  written t v a m n r = record { bytes = ap (λ b. (value_put (plain t) v a (record { bytes = b; taken = m.taken })).bytes) r.bytes; taken = r.taken; fresh = r.fresh; stated = r.stated }

  put_listed : (t : Tree) (v : Value) (m : Room) (n : Store) → Listed m n → Makes Known Gives (placing.put t v m) (listing.put t v n)
  put_listed t v m n r =
      makes-when Known Gives (by_address (plain t) && is_writable (plain t) v) (by_address (plain t) && is_writable (plain t) v) _ _ (λ e. e)
      (makes-map Known Gives Known Gives (λ r. (r.0, value_put (plain t) v r.0.bits r.1)) (λ r. (r.0, value_written (plain t) v r.0.bits r.1)) (placing.give t m) (listing.give t n) (give_listed t m n r) (λ x k. k)
      (λ x y g. (g.0, subst (λ w. Listed (value_put (plain t) v x.0.bits x.1) (value_written (plain t) v w.bits y.1)) g.0 (written t v x.0.bits x.1 y.1 g.1))))

  get_listed : (t : Tree) (w : Word) (m : Room) (n : Store) → Listed m n → Follows ◌≡◌ (placing.get t w m) (listing.get t w n)
  get_listed t w m n r = follows-when (is_address w && is_readable (plain t)) (is_address w && is_readable (plain t)) _ _ (λ e. e) (ap (λ b. value_at (plain t) b w.bits) (sym r.bytes))

  set_listed : (t : Tree) (w : Word) (v : Value) (m : Room) (n : Store) → Listed m n → Makes Front Listed (placing.set t w v m) (listing.set t w v n)
  set_listed t w v m n r =
      makes-when Front Listed (is_address w && (has_room (plain t) w.bits m.bytes && is_writable (plain t) v)) (is_address w && (has_room (plain t) w.bits n.bytes && is_writable (plain t) v)) (Some (value_put (plain t) v w.bits m)) (Some (value_written (plain t) v w.bits n))
      (λ e. ap (λ b. is_address w && (has_room (plain t) w.bits b && is_writable (plain t) v)) r.bytes ∙ e)
      (λ k. written t v w.bits m n r)

  pub listing_follows : Simulates placing listing ◌≡◌ (λ t v v'. v ≡ v') ◌≡◌ Listed Front
  listing_follows =
      follows_anew placing placing ◌≡◌ (λ t v v'. v ≡ v') ◌≡◌ (λ m m'. (m ≡ m') × (Unit {0} → Unit {0})) (λ m. Unit {0}) Listed Front listing.give listing.put listing.get listing.set pure
      give_listed
      (λ t v v' m n e r. subst (λ v'. Makes Known Gives (placing.put t v m) (listing.put t v' n)) e (put_listed t v m n r))
      (λ t w w' m n e r. subst (λ w'. Follows ◌≡◌ (placing.get t w m) (listing.get t w' n)) e (get_listed t w m n r))
      (λ t w w' v v' m n e f r. subst (λ w'. Makes Front Listed (placing.set t w v m) (listing.set t w' v' n)) e (subst (λ v'. Makes Front Listed (placing.set t w v m) (listing.set t w v' n)) f (set_listed t w v m n r)))

  -- what is taken is a front of what is taken later
  front_of : {A : Type 0} (b : Bool) (r x : A) (m n : Room) (of : A → Room) → when b (Some x) ≡ Some r → ((rest : Taken) → (of x).taken ++ rest ≡ whole → Front m) → Front (of r) → Front m
  front_of false r x m n of e h g = absurd (some-none e)
  front_of true r x m n of e h g = let k = subst (λ r. Front (of r)) (sym (some-same e)) g in h k.0 k.1

  one_less : (t : Tree) (m : Room) (rest : Taken) → (room_with t m).taken ++ rest ≡ whole → Front m
  one_less t m rest e = ((next_address m.taken, t) ∷ rest, sym (append_assoc m.taken ((next_address m.taken, t) ∷ []) rest) ∙ e)

  give_back : (t : Tree) (m : Room) (r : Word × Room) → placing.give t m ≡ Some r → Front r.1 → Front m
  give_back t m r e g = front_of (is_range_place (next_address m.taken) (range_size (plain t)) m.bytes) r (i32 (next_address m.taken), room_with t m) m m (λ p. p.1) e (one_less t m) g

  put_back : (t : Tree) (v : Value) (m : Room) (r : Word × Room) → placing.put t v m ≡ Some r → Front r.1 → Front m
  put_back t v m r e g = go (by_address (plain t) && is_writable (plain t) v) (is_range_place (next_address m.taken) (range_size (plain t)) m.bytes) e
    where
      go : (b c : Bool) → when b (option_map (λ (r : Word × Room). (r.0, value_put (plain t) v r.0.bits r.1)) (when c (Some (i32 (next_address m.taken), room_with t m)))) ≡ Some r → Front m
      go false c e = absurd (some-none e)
      go true false e = absurd (some-none e)
      go true true e = front_of true r (i32 (next_address m.taken), value_put (plain t) v (next_address m.taken) (room_with t m)) m m (λ p. p.1) e (one_less t m) g

  set_back : (t : Tree) (w : Word) (v : Value) (m n : Room) → placing.set t w v m ≡ Some n → Front n → Front m
  set_back t w v m n e g = front_of (is_address w && (has_room (plain t) w.bits m.bytes && is_writable (plain t) v)) n (value_put (plain t) v w.bits m) m m (λ m. m) e (λ rest k. (rest, k)) g

  pub fronts_back : Backwards placing listing ◌≡◌ (λ t v v'. v ≡ v') ◌≡◌ Listed Front
  fronts_back = record { give = give_back; put = put_back; set = set_back }

-- what asks more is followed by what asks less
abbrev pub SameStore : Store → Store → Type 0
SameStore m n = m ≡ n

abbrev pub AnyStore : Store → Type 0
AnyStore m = Unit {0}

address-i32 : (w : Word) (b : Bool) → is_address w && b ≡ true → is_i32 w ≡ true
address-i32 w b e = (both (is_i32 w) (is_u32 w.bits) (both (is_address w) b e).0).0

abbrev GivesSame : Word × Store → Word × Store → Type 0
GivesSame p q = (p.0 ≡ q.0) × (p.1 ≡ q.1)

abbrev AnyGiven : Word × Store → Type 0
AnyGiven p = Unit {0}

given-self : (o : Option (Word × Store)) → Makes AnyGiven GivesSame o o
given-self None = tt
given-self (Some x) = λ k. (refl, refl)

put_less : (t : Tree) (v : Value) (m : Store) → Makes AnyGiven GivesSame (listing.put t v m) (bytes.put t v m)
put_less t v m = makes-when AnyGiven GivesSame (by_address (plain t) && is_writable (plain t) v) (by_address (plain t)) _ _ (λ e. (both (by_address (plain t)) (is_writable (plain t) v) e).0) (given-self (option_map (λ r. (r.0, value_written (plain t) v r.0.bits r.1)) (range_given t m.bytes m.fresh m.taken)))

get_less : (t : Tree) (w : Word) (m : Store) → Follows ◌≡◌ (listing.get t w m) (bytes.get t w m)
get_less t w m = follows-when (is_address w && is_readable (plain t)) (is_i32 w) _ _ (address-i32 w (is_readable (plain t))) refl

set_less : (t : Tree) (w : Word) (v : Value) (m : Store) → Makes AnyStore SameStore (listing.set t w v m) (bytes.set t w v m)
set_less t w v m =
    subst (Makes AnyStore SameStore (listing.set t w v m)) (one_test (is_i32 w))
    (makes-when AnyStore SameStore (is_address w && (has_room (plain t) w.bits m.bytes && is_writable (plain t) v)) (is_i32 w && (has_room (plain t) w.bits m.bytes && is_value (plain t) v)) (Some (value_written (plain t) v w.bits m)) (Some (value_written (plain t) v w.bits m))
    less (λ k. refl))
  where
    less : is_address w && (has_room (plain t) w.bits m.bytes && is_writable (plain t) v) ≡ true → is_i32 w && (has_room (plain t) w.bits m.bytes && is_value (plain t) v) ≡ true
    less e =
        let p = both (is_address w) (has_room (plain t) w.bits m.bytes && is_writable (plain t) v) e in
        let q = both (has_room (plain t) w.bits m.bytes) (is_writable (plain t) v) p.1 in
        both-then (is_i32 w) (has_room (plain t) w.bits m.bytes && is_value (plain t) v) (both (is_i32 w) (is_u32 w.bits) p.0).0 (both-then (has_room (plain t) w.bits m.bytes) (is_value (plain t) v) q.0 (both (is_value (plain t) v) (fits (plain t)) q.1).0)

    one_test : (b : Bool) → when (b && (has_room (plain t) w.bits m.bytes && is_value (plain t) v)) (Some (value_written (plain t) v w.bits m)) ≡ when b (when (has_room (plain t) w.bits m.bytes && is_value (plain t) v) (Some (value_written (plain t) v w.bits m)))
    one_test true = refl
    one_test false = refl

abbrev pure_list : Simulates listing listing ◌≡◌ (λ t v v'. v ≡ v') ◌≡◌ (λ m m'. (m ≡ m') × (Unit {0} → Unit {0})) (λ m. Unit {0})
pure_list = following.self listing (λ m. Unit {0}) (record { bytes = λ at. None; fresh = []; taken = [] }) (λ t m r e g. tt) (λ t v m r e g. tt) (λ t w v m n e g. tt)

pub bytes_follow_list : Simulates listing bytes ◌≡◌ (λ t v v'. v ≡ v') ◌≡◌ SameStore AnyStore
bytes_follow_list =
    follows_anew listing listing ◌≡◌ (λ t v v'. v ≡ v') ◌≡◌ (λ m m'. (m ≡ m') × (Unit {0} → Unit {0})) (λ m. Unit {0}) SameStore AnyStore bytes.give bytes.put bytes.get bytes.set pure_list
    (λ t m n r. subst (λ n. Makes AnyGiven GivesSame (listing.give t m) (bytes.give t n)) r (given-self (listing.give t m)))
    (λ t v v' m n e r. subst (λ n. Makes AnyGiven GivesSame (listing.put t v m) (bytes.put t v' n)) r (subst (λ v'. Makes AnyGiven GivesSame (listing.put t v m) (bytes.put t v' m)) e (put_less t v m)))
    (λ t w w' m n e r. subst (λ n. Follows ◌≡◌ (listing.get t w m) (bytes.get t w' n)) r (subst (λ w'. Follows ◌≡◌ (listing.get t w m) (bytes.get t w' m)) e (get_less t w m)))
    (λ t w w' v v' m n e f r. subst (λ n. Makes AnyStore SameStore (listing.set t w v m) (bytes.set t w' v' n)) r (subst (λ w'. Makes AnyStore SameStore (listing.set t w v m) (bytes.set t w' v' m)) e (subst (λ v'. Makes AnyStore SameStore (listing.set t w v m) (bytes.set t w v' m)) f (set_less t w v m))))

pub any_back : Backwards listing bytes ◌≡◌ (λ t v v'. v ≡ v') ◌≡◌ SameStore AnyStore
any_back = record { give = λ t m r e g. tt; put = λ t v m r e g. tt; set = λ t w v m n e g. tt }
