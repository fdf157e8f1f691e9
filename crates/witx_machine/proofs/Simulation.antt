-- A run over one domain is followed by a run over another, where their values, words and memories are related.
-- G: what is known of the first run's last memory, and so of each before it.
use Rattle.std.proofs.Common.{◌≡◌, ℕ, zero, suc, Bool, true, false, cond, ◌||◌, ◌&&◌, T, refl, sym, ap, ◌∙◌, subst, Option, Some, None, is_none, is_some, List, [], ◌∷◌, ◌++◌, slice_get, nat_eq, map, length}
use Rattle.witx_ast.specs.Tree.{Tree}
use Rattle.witx_machine.specs.declared.surface.WasmType.{WasmType}
use Rattle.witx_machine.specs.Words.{Scalar}
use Rattle.witx_machine.specs.Events.{Event, emit, space, push, finish}
use Rattle.witx_machine.specs.Rows.{Row, row, get_arg, addr_of, lowering, lifting, list_pointer_length, list_from_pointer_length, return_pointer_get, load, store, tuple_lift, tuple_lower, variant_payload, reuse_return, result_lower, result_lift, call_wasm, call_interface, returns}
use Rattle.witx_machine.specs.Machine.{Domain, Tried, went, no_rule, stuck_at, if_found, goes_on, only, Item, word_item, value_item, plain_item, Block, State, Inside, outside, in_lower, in_lift, Side, is_nil, slot_word, pushed, values_off, items_off, top_word, top_value, two_blocks, payload_item, payload_in, with_stack, left_over, return_items, run_block, block_word, lifted_payload, act, give_slot, Flow, flowing, gathering, after, set_aside, flows, gathers, play, runs_within, ended, run_trace}

-- where the first has an answer, the second has a related one
abbrev pub Follows : {A B : Type 0} → (A → B → Type 0) → Option A → Option B → Type 0
Follows R None o = Unit {0}
Follows R (Some x) None = ⊥
Follows R (Some x) (Some y) = R x y

-- both have none, or related ones
abbrev pub Both : {A B : Type 0} → (A → B → Type 0) → Option A → Option B → Type 0
Both R None None = Unit {0}
Both R None (Some y) = ⊥
Both R (Some x) None = ⊥
Both R (Some x) (Some y) = R x y

abbrev pub Each : {A B : Type 0} → (A → B → Type 0) → List A → List B → Type 0
Each R [] [] = Unit {0}
Each R [] (y ∷ ys) = ⊥
Each R (x ∷ xs) [] = ⊥
Each R (x ∷ xs) (y ∷ ys) = R x y × Each R xs ys

-- where the first went on to what meets G, the second went on to what is related
abbrev pub Goes : {P P' A B : Type 0} → (A → Type 0) → (A → B → Type 0) → Tried P A → Tried P' B → Type 0
Goes G R (went x) (went y) = G x → R x y
Goes G R (went x) no_rule = G x → ⊥
Goes G R (went x) (stuck_at p) = G x → ⊥
Goes G R no_rule t = Unit {0}
Goes G R (stuck_at p) t = Unit {0}

-- an operation on memories, in the same sense
abbrev pub Makes : {A B : Type 0} → (A → Type 0) → (A → B → Type 0) → Option A → Option B → Type 0
Makes G R None o = Unit {0}
Makes G R (Some x) None = G x → ⊥
Makes G R (Some x) (Some y) = G x → R x y

-- from where the first goes on to what meets the one, it was at what meets the other
abbrev pub Back : {P A B : Type 0} → (A → Type 0) → (B → Type 0) → (A → Tried P B) → Type 0
Back {P} {A} {B} G K f = (x : A) (z : B) → f x ≡ went z → K z → G x

pub only_if : {P P' A B : Type 0} (G : A → Type 0) (R : A → B → Type 0) (t : Tried P A) (t' : Tried P' B) → ((z : A) → t ≡ went z → G z → Goes G R t t') → Goes G R t t'
only_if G R (went x) (went y) h = λ g. h x refl g g
only_if G R (went x) no_rule h = λ g. h x refl g g
only_if G R (went x) (stuck_at p) h = λ g. h x refl g g
only_if G R no_rule t' h = tt
only_if G R (stuck_at p) t' h = tt

pub found_goes : {P P' A B C D : Type 0} (R : A → B → Type 0) (G : C → Type 0) (S : C → D → Type 0) (f : A → Tried P C) (g : B → Tried P' D) (o : Option A) (p : Option B) → Follows R o p → ((x : A) (y : B) → R x y → Goes G S (f x) (g y)) → Goes G S (if_found o f) (if_found p g)
found_goes R G S f g None p h k = tt
found_goes R G S f g (Some x) None h k = absurd h
found_goes R G S f g (Some x) (Some y) h k = k x y h

pub makes_goes : {P P' A B C D : Type 0} (K : A → Type 0) (R : A → B → Type 0) (G : C → Type 0) (S : C → D → Type 0) (f : A → Tried P C) (g : B → Tried P' D) (o : Option A) (p : Option B) → Makes K R o p → Back K G f → ((x : A) (y : B) → R x y → Goes G S (f x) (g y)) → Goes G S (if_found o f) (if_found p g)
makes_goes K R G S f g None p h b k = tt
makes_goes K R G S f g (Some x) None h b k = only_if G S (f x) no_rule (λ z e gz. absurd (h (b x z e gz)))
makes_goes K R G S f g (Some x) (Some y) h b k = only_if G S (f x) (g y) (λ z e gz. k x y (h (b x z e gz)))

pub next_goes : {P P' A B C D : Type 0} (K : A → Type 0) (R : A → B → Type 0) (G : C → Type 0) (S : C → D → Type 0) (f : A → Tried P C) (g : B → Tried P' D) (t : Tried P A) (t' : Tried P' B) → Goes K R t t' → Back K G f → ((x : A) (y : B) → R x y → Goes G S (f x) (g y)) → Goes G S (goes_on t f) (goes_on t' g)
next_goes K R G S f g (went x) (went y) h b k = only_if G S (f x) (g y) (λ z e gz. k x y (h (b x z e gz)))
next_goes K R G S f g (went x) no_rule h b k = only_if G S (f x) no_rule (λ z e gz. absurd (h (b x z e gz)))
next_goes K R G S f g (went x) (stuck_at p) h b k = only_if G S (f x) (stuck_at p) (λ z e gz. absurd (h (b x z e gz)))
next_goes K R G S f g no_rule t' h b k = tt
next_goes K R G S f g (stuck_at p) t' h b k = tt

pub only_goes : {P P' A B : Type 0} (G : A → Type 0) (R : A → B → Type 0) (b b' : Bool) (t : Tried P A) (t' : Tried P' B) → (T b → T b') → Goes G R t t' → Goes G R (only b t) (only b' t')
only_goes G R false b' t t' h k = tt
only_goes G R true true t t' h k = k
only_goes G R true false t t' h k = absurd (h tt)

abbrev pub Gone : {P A : Type 0} → Tried P A → A → Type 0
Gone t z = t ≡ went z

pub not_went : {P A : Type 0} {z : A} → Gone {P = P} no_rule z → ⊥
not_went e = cc

pub not_stuck : {P A : Type 0} {z : A} {p : P} → Gone (stuck_at p) z → ⊥
not_stuck e = cc

abbrev went_or : {P A : Type 0} → A → Tried P A → A
went_or d (went y) = y
went_or d no_rule = d
went_or d (stuck_at p) = d

pub went_same : {P A : Type 0} {x z : A} → Gone {P = P} (went x) z → x ≡ z
went_same {P} {A} {x} e = ap (went_or x) e

pub both_follows : {A B : Type 0} (R : A → B → Type 0) (o : Option A) (p : Option B) → Both R o p → Follows R o p
both_follows R None None h = tt
both_follows R None (Some y) h = absurd h
both_follows R (Some x) None h = absurd h
both_follows R (Some x) (Some y) h = h

pub each_at : {A B : Type 0} (R : A → B → Type 0) (xs : List A) (ys : List B) (i : ℕ) → Each R xs ys → Follows R (slice_get xs i) (slice_get ys i)
each_at R [] [] i h = tt
each_at R [] (y ∷ ys) i h = tt
each_at R (x ∷ xs) [] i h = absurd h
each_at R (x ∷ xs) (y ∷ ys) zero h = h.0
each_at R (x ∷ xs) (y ∷ ys) (suc i) h = each_at R xs ys i h.1

pub each_append : {A B : Type 0} (R : A → B → Type 0) (xs xs' : List A) (ys ys' : List B) → Each R xs ys → Each R xs' ys' → Each R (xs ++ xs') (ys ++ ys')
each_append R [] xs' [] ys' h k = k
each_append R [] xs' (y ∷ ys) ys' h k = absurd h
each_append R (x ∷ xs) xs' [] ys' h k = absurd h
each_append R (x ∷ xs) xs' (y ∷ ys) ys' h k = (h.0, each_append R xs xs' ys ys' h.1 k)

pub each_pushed : {A B : Type 0} (R : A → B → Type 0) (xs xs' : List A) (ys ys' : List B) → Each R xs ys → Each R xs' ys' → Each R (pushed xs xs') (pushed ys ys')
each_pushed R [] xs' [] ys' h k = k
each_pushed R [] xs' (y ∷ ys) ys' h k = absurd h
each_pushed R (x ∷ xs) xs' [] ys' h k = absurd h
each_pushed R (x ∷ xs) xs' (y ∷ ys) ys' h k = each_pushed R xs (x ∷ xs') ys (y ∷ ys') h.1 (h.0, k)

pub each_length : {A B : Type 0} (R : A → B → Type 0) (xs : List A) (ys : List B) → Each R xs ys → length xs ≡ length ys
each_length R [] [] h = refl
each_length R [] (y ∷ ys) h = absurd h
each_length R (x ∷ xs) [] h = absurd h
each_length R (x ∷ xs) (y ∷ ys) h = ap suc (each_length R xs ys h.1)

pub each_nil : {A B : Type 0} (R : A → B → Type 0) (xs : List A) (ys : List B) → Each R xs ys → is_nil xs ≡ is_nil ys
each_nil R [] [] h = refl
each_nil R [] (y ∷ ys) h = absurd h
each_nil R (x ∷ xs) [] h = absurd h
each_nil R (x ∷ xs) (y ∷ ys) h = refl

pub both_none : {A B : Type 0} (R : A → B → Type 0) (o : Option A) (p : Option B) → Both R o p → is_none o ≡ is_none p
both_none R None None h = refl
both_none R None (Some y) h = absurd h
both_none R (Some x) None h = absurd h
both_none R (Some x) (Some y) h = refl

pub both_some : {A B : Type 0} (R : A → B → Type 0) (o : Option A) (p : Option B) → Both R o p → is_some o ≡ is_some p
both_some R None None h = refl
both_some R None (Some y) h = absurd h
both_some R (Some x) None h = absurd h
both_some R (Some x) (Some y) h = refl

pub off_items : {A B : Type 0} (R : A → B → Type 0) (n : ℕ) (as' : List A) (bs : List B) (xs : List A) (ys : List B) → Each R as' bs → Each R xs ys → Follows (λ p q. Each R p.0 q.0 × Each R p.1 q.1) (items_off n as' xs) (items_off n bs ys)
off_items R zero as' bs xs ys g h = (g, h)
off_items R (suc n) as' bs [] ys g h = tt
off_items R (suc n) as' bs (x ∷ xs) [] g h = absurd h
off_items R (suc n) as' bs (x ∷ xs) (y ∷ ys) g h = off_items R n (x ∷ as') (y ∷ bs) xs ys (h.0, g) h.1

abbrev pub FlowsOf : {E E' : Type 0} → (E → Event) → (E' → Event) → Flow E → Flow E' → Type 0
FlowsOf event event' flowing flowing = Unit {0}
FlowsOf event event' flowing (gathering b d es) = ⊥
FlowsOf event event' (gathering b d es) flowing = ⊥
FlowsOf event event' (gathering b d es) (gathering b' d' es') = (d ≡ d') × Each (λ e e'. event e ≡ event' e') es es'

-- RI: values that carry a name or none
module _ {V W M V' W' M' : Type 0} (D : Domain V W M) (D' : Domain V' W' M') (RV : V → V' → Type 0) (RI : Option Tree → V → V' → Type 0) (RW : W → W' → Type 0) (RM : M → M' → Type 0) (G : M → Type 0) where
  abbrev pub Pays : (V × Option Tree) → (V' × Option Tree) → Type 0
  Pays p q = RI p.1 p.0 q.0 × (p.1 ≡ q.1)

  abbrev pub Gives : (W × M) → (W' × M') → Type 0
  Gives p q = RW p.0 q.0 × RM p.1 q.1

  abbrev pub Known : (W × M) → Type 0
  Known p = G p.1

  abbrev pub Picks : (Bool × Option (V × Option Tree)) → (Bool × Option (V' × Option Tree)) → Type 0
  Picks p q = (p.0 ≡ q.0) × Both Pays p.1 q.1

  pub record Simulates : Type 0 where
    pub plain : (v : V) (v' : V') → RV v v' → RI None v v'
    pub forget : (t : Option Tree) (v : V) (v' : V') → RI t v v' → RV v v'
    pub lower : (x : Scalar) (v : V) (v' : V') → RV v v' → Follows RW (D.lower x v) (D'.lower x v')
    pub lift : (x : Scalar) (w : W) (w' : W') → RW w w' → Follows RV (D.lift x w) (D'.lift x w')
    pub list_words : (v : V) (v' : V') → RV v v' → Follows (λ p q. RW p.0 q.0 × RW p.1 q.1) (D.list_words v) (D'.list_words v')
    pub list_value : (a : W) (a' : W') (l : W) (l' : W') → RW a a' → RW l l' → Follows RV (D.list_value a l) (D'.list_value a' l')
    pub tuple : (vs : List V) (vs' : List V') → Each RV vs vs' → RV (D.tuple vs) (D'.tuple vs')
    pub parts : (n : ℕ) (v : V) (v' : V') → RV v v' → Follows (Each RV) (D.parts n v) (D'.parts n v')
    pub give : (t : Tree) (m : M) (m' : M') → RM m m' → Makes Known Gives (D.give t m) (D'.give t m')
    pub put : (t : Tree) (v : V) (v' : V') (m : M) (m' : M') → RI (Some t) v v' → RM m m' → Makes Known Gives (D.put t v m) (D'.put t v' m')
    pub get : (t : Tree) (w : W) (w' : W') (m : M) (m' : M') → RW w w' → RM m m' → Follows (RI (Some t)) (D.get t w m) (D'.get t w' m')
    pub set : (t : Tree) (w : W) (w' : W') (v : V) (v' : V') (m : M) (m' : M') → RW w w' → RV v v' → RM m m' → Makes G RM (D.set t w v m) (D'.set t w' v' m')
    pub picks : (ok err : Option Tree) (v : V) (v' : V') → RV v v' → Follows Picks (D.picks ok err v) (D'.picks ok err v')
    pub case_word : (ok err : Option Tree) (v : V) (c : Bool × Option (V × Option Tree)) → D.picks ok err v ≡ Some c → RW (D.case_word c.0) (D'.case_word c.0)
    pub chooses : (w : W) (w' : W') → RW w w' → Follows ◌≡◌ (D.chooses w) (D'.chooses w')
    pub result : (e : Bool) (p : Option V) (p' : Option V') → Both RV p p' → RV (D.result e p) (D'.result e p')
    pub has_type : (t : WasmType) (w : W) (w' : W') → RW w w' → T (D.has_type t w) → T (D'.has_type t w')

  -- what is known of a later memory is known of an earlier one
  pub record Backwards : Type 0 where
    pub give : (t : Tree) (m : M) (r : W × M) → D.give t m ≡ Some r → G r.1 → G m
    pub put : (t : Tree) (v : V) (m : M) (r : W × M) → D.put t v m ≡ Some r → G r.1 → G m
    pub set : (t : Tree) (w : W) (v : V) (m m1 : M) → D.set t w v m ≡ Some m1 → G m1 → G m

  abbrev pub Items : Item V W → Item V' W' → Type 0
  Items (word_item w) (word_item w') = RW w w'
  Items (value_item v t) (value_item v' t') = RI t v v' × (t ≡ t')
  Items (word_item w) (value_item v' t') = ⊥
  Items (value_item v t) (word_item w') = ⊥

  abbrev pub Insides : Inside V W → Inside V' W' → Type 0
  Insides outside outside = Unit {0}
  Insides in_lift in_lift = Unit {0}
  Insides (in_lower x) (in_lower y) = Both Items x y
  Insides _ _ = ⊥

  top_words : {P P' A B : Type 0} (K : A → Type 0) (R : A → B → Type 0) (f : W → List (Item V W) → Tried P A) (g : W' → List (Item V' W') → Tried P' B) (xs : List (Item V W)) (ys : List (Item V' W')) → Each Items xs ys → ((w : W) (w' : W') (r : List (Item V W)) (r' : List (Item V' W')) → RW w w' → Each Items r r' → Goes K R (f w r) (g w' r')) → Goes K R (top_word xs f) (top_word ys g)
  top_words K R f g [] ys h k = tt
  top_words K R f g (value_item v t ∷ xs) ys h k = tt
  top_words K R f g (word_item w ∷ xs) [] h k = absurd h
  top_words K R f g (word_item w ∷ xs) (value_item v' t' ∷ ys) h k = absurd h.0
  top_words K R f g (word_item w ∷ xs) (word_item w' ∷ ys) h k = k w w' xs ys h.0 h.1

  top_values : {P P' A B : Type 0} (K : A → Type 0) (R : A → B → Type 0) (f : V → Option Tree → List (Item V W) → Tried P A) (g : V' → Option Tree → List (Item V' W') → Tried P' B) (xs : List (Item V W)) (ys : List (Item V' W')) → Each Items xs ys → ((v : V) (v' : V') (t : Option Tree) (r : List (Item V W)) (r' : List (Item V' W')) → RI t v v' → Each Items r r' → Goes K R (f v t r) (g v' t r')) → Goes K R (top_value xs f) (top_value ys g)
  top_values K R f g [] ys h k = tt
  top_values K R f g (word_item w ∷ xs) ys h k = tt
  top_values K R f g (value_item v t ∷ xs) [] h k = absurd h
  top_values K R f g (value_item v t ∷ xs) (word_item w' ∷ ys) h k = absurd h.0
  top_values K R f g (value_item v t ∷ xs) (value_item v' t' ∷ ys) h k = subst (λ c. Goes K R (f v t xs) (g v' c ys)) h.0.1 (k v v' t xs ys h.0.0 h.1)

  module _ (H : Simulates) where
    pub off_values : (n : ℕ) (vs : List V) (vs' : List V') (xs : List (Item V W)) (ys : List (Item V' W')) → Each RV vs vs' → Each Items xs ys → Follows (λ p q. Each RV p.0 q.0 × Each Items p.1 q.1) (values_off n vs xs) (values_off n vs' ys)
    off_values zero vs vs' xs ys g h = (g, h)
    off_values (suc n) vs vs' [] ys g h = tt
    off_values (suc n) vs vs' (word_item w ∷ xs) ys g h = tt
    off_values (suc n) vs vs' (value_item v t ∷ xs) [] g h = absurd h
    off_values (suc n) vs vs' (value_item v t ∷ xs) (word_item w ∷ ys) g h = absurd h.0
    off_values (suc n) vs vs' (value_item v t ∷ xs) (value_item v' t' ∷ ys) g h = off_values n (v ∷ vs) (v' ∷ vs') xs ys (H.forget t v v' h.0.0, g) h.1

    plain_each : (vs : List V) (vs' : List V') → Each RV vs vs' → Each Items (map plain_item vs) (map plain_item vs')
    plain_each [] [] h = tt
    plain_each [] (v' ∷ vs') h = absurd h
    plain_each (v ∷ vs) [] h = absurd h
    plain_each (v ∷ vs) (v' ∷ vs') h = ((H.plain v v' h.0, refl), plain_each vs vs' h.1)

    lifted_follow : (x : Option (Item V W)) (y : Option (Item V' W')) → Both Items x y → Follows (Both RV) (lifted_payload x) (lifted_payload y)
    lifted_follow None None h = tt
    lifted_follow None (Some y) h = absurd h
    lifted_follow (Some x) None h = absurd h
    lifted_follow (Some (value_item v t)) (Some (value_item v' t')) h = H.forget t v v' h.0
    lifted_follow (Some (word_item w)) (Some y) h = tt
    lifted_follow (Some (value_item v t)) (Some (word_item w)) h = absurd h

    picked_word : (e : Bool) (x : Option (Item V W)) (y : Option (Item V' W')) → RW (D.case_word e) (D'.case_word e) → Both Items x y → Follows RW (block_word D e x) (block_word D' e y)
    picked_word e None None c h = c
    picked_word e None (Some y) c h = absurd h
    picked_word e (Some x) None c h = absurd h
    picked_word e (Some (value_item v t)) (Some y) c h = tt
    picked_word e (Some (word_item w)) (Some (value_item v t)) c h = absurd h
    picked_word e (Some (word_item w)) (Some (word_item w')) c h = go (D.has_type WasmType.I32 w) (D'.has_type WasmType.I32 w') (H.has_type WasmType.I32 w w' h)
      where
        go : (b b' : Bool) → (T b → T b') → Follows RW (cond b (Some w) None) (cond b' (Some w') None)
        go false b' k = tt
        go true true k = h
        go true false k = absurd (k tt)

    payload_both : (x : Option (V × Option Tree)) (y : Option (V' × Option Tree)) → Both Pays x y → Both Items (payload_item x) (payload_item y)
    payload_both None None h = tt
    payload_both None (Some q) h = absurd h
    payload_both (Some p) None h = absurd h
    payload_both (Some p) (Some q) h = h

    payload_follows : (i : Inside V W) (i' : Inside V' W') → Insides i i' → Follows Items (payload_in i) (payload_in i')
    payload_follows outside i' h = tt
    payload_follows in_lift i' h = tt
    payload_follows (in_lower x) (in_lower y) h = both_follows Items x y h
    payload_follows (in_lower x) outside h = absurd h
    payload_follows (in_lower x) in_lift h = absurd h

    slot_follows : (k : ℕ) (a : List (ℕ × W)) (b : List (ℕ × W')) → Each (λ p q. (p.0 ≡ q.0) × RW p.1 q.1) a b → Both RW (slot_word k a) (slot_word k b)
    slot_follows k [] [] h = tt
    slot_follows k [] (q ∷ b) h = absurd h
    slot_follows k (p ∷ a) [] h = absurd h
    slot_follows k (p ∷ a) (q ∷ b) h = subst (λ j. Both RW (cond (nat_eq k p.0) (Some p.1) (slot_word k a)) (cond (nat_eq k j) (Some q.1) (slot_word k b))) h.0.0 (go (nat_eq k p.0) (slot_follows k a b h.1))
      where
        go : (x : Bool) → Both RW (slot_word k a) (slot_word k b) → Both RW (cond x (Some p.1) (slot_word k a)) (cond x (Some q.1) (slot_word k b))
        go true r = h.0.1
        go false r = r

    module _ {P P' E E' C C' : Type 0} (event : E → Event) (event' : E' → Event) (place : E → P) (place' : E' → P') (RC : C → C' → Type 0) where
      abbrev pub Events : List E → List E' → Type 0
      Events = Each (λ e e'. event e ≡ event' e')

      abbrev pub Blocks : Block E → Block E' → Type 0
      Blocks b b' = Events b.events b'.events × (b.has_value ≡ b'.has_value)

      pub record States (s : State E V W M C) (s' : State E' V' W' M' C') : Type 0 where
        pub stack : Each Items s.stack s'.stack
        pub slots : Each (λ p q. (p.0 ≡ q.0) × RW p.1 q.1) s.slots s'.slots
        pub memory : RM s.memory s'.memory
        pub blocks : Each Blocks s.blocks s'.blocks
        pub returned : Both RW s.returned s'.returned
        pub called : Both RC s.called s'.called
        pub answer : Both (Each Items) s.answer s'.answer

      abbrev pub KnownOf : State E V W M C → Type 0
      KnownOf s = G s.memory

      abbrev pub Rules : Tried P (State E V W M C) → Tried P' (State E' V' W' M' C') → Type 0
      Rules = Goes KnownOf States

      stacked : (s : State E V W M C) (s' : State E' V' W' M' C') (xs : List (Item V W)) (ys : List (Item V' W')) → States s s' → Each Items xs ys → States (with_stack xs s) (with_stack ys s')
      stacked s s' xs ys r h = record { stack = h; slots = r.slots; memory = r.memory; blocks = r.blocks; returned = r.returned; called = r.called; answer = r.answer }

      onto : (s : State E V W M C) (s' : State E' V' W' M' C') (xs : List (Item V W)) (ys : List (Item V' W')) → States s s' → Each Items xs ys → Rules (went (with_stack xs s)) (went (with_stack ys s'))
      onto s s' xs ys r h = λ g. stacked s s' xs ys r h

      blocks_go : {A B : Type 0} (K : A → Type 0) (R : A → B → Type 0) (f : Block E → Block E → List (Block E) → Tried P A) (g : Block E' → Block E' → List (Block E') → Tried P' B) (xs : List (Block E)) (ys : List (Block E')) → Each Blocks xs ys → ((a b : Block E) (m : List (Block E)) (a' b' : Block E') (m' : List (Block E')) → Blocks a a' → Blocks b b' → Each Blocks m m' → Goes K R (f a b m) (g a' b' m')) → Goes K R (two_blocks xs f) (two_blocks ys g)
      blocks_go K R f g [] ys h k = tt
      blocks_go K R f g (b ∷ []) ys h k = tt
      blocks_go K R f g (b ∷ a ∷ m) [] h k = absurd h
      blocks_go K R f g (b ∷ a ∷ m) (b' ∷ []) h k = absurd h.1
      blocks_go K R f g (b ∷ a ∷ m) (b' ∷ a' ∷ m') h k = k a b m a' b' m' h.1.0 h.0 h.1.1

      chosen : (e : Bool) (a b : Block E) (a' b' : Block E') → Blocks a a' → Blocks b b' → Blocks (cond e b a) (cond e b' a')
      chosen true a b a' b' h k = k
      chosen false a b a' b' h k = h

      abbrev Left : Option (Item V W) × State E V W M C → Option (Item V' W') × State E' V' W' M' C' → Type 0
      Left p q = Both Items p.0 q.0 × States p.1 q.1

      abbrev KnownLeft : Option (Item V W) × State E V W M C → Type 0
      KnownLeft p = G p.1.memory

      left_go : (p : P) (p' : P') (v : Bool) (xs : List (Item V W)) (ys : List (Item V' W')) (s : State E V W M C) (s' : State E' V' W' M' C') → Each Items xs ys → States s s' → Goes KnownLeft Left (left_over p v xs s) (left_over p' v ys s')
      left_go p p' true [] ys s s' h r = tt
      left_go p p' true (x ∷ []) [] s s' h r = absurd h
      left_go p p' true (x ∷ []) (y ∷ []) s s' h r = λ g. (h.0, r)
      left_go p p' true (x ∷ []) (y ∷ z ∷ ys) s s' h r = absurd h.1
      left_go p p' true (x ∷ x' ∷ xs) ys s s' h r = tt
      left_go p p' false [] [] s s' h r = λ g. (tt, r)
      left_go p p' false [] (y ∷ ys) s s' h r = absurd h
      left_go p p' false (x ∷ xs) ys s s' h r = tt

      left_back : (p : P) (v : Bool) (xs : List (Item V W)) (s : State E V W M C) (z : Option (Item V W) × State E V W M C) → left_over p v xs s ≡ went z → G z.1.memory → G s.memory
      left_back p true [] s z e g = absurd (not_stuck e)
      left_back p true (x ∷ []) s z e g = subst (λ z. G z.1.memory) (sym (went_same e)) g
      left_back p true (x ∷ x' ∷ xs) s z e g = absurd (not_stuck e)
      left_back p false [] s z e g = subst (λ z. G z.1.memory) (sym (went_same e)) g
      left_back p false (x ∷ xs) s z e g = absurd (not_stuck e)

      -- where the memory stays
      found_back : {A : Type 0} (o : Option A) (k : A → State E V W M C) (m : M) → ((x : A) → (k x).memory ≡ m) → (z : State E V W M C) → Gone {P = P} (if_found o (λ x. went (k x))) z → G z.memory → G m
      found_back None k m h z e g = absurd (not_went e)
      found_back (Some x) k m h z e g = subst G (ap (λ s. s.memory) (sym (went_same e)) ∙ h x) g

      went_back : {A : Type 0} (k : A → State E V W M C) (K : A → Type 0) → ((x : A) → G (k x).memory → K x) → Back {P = P} K KnownOf (λ x. went (k x))
      went_back k K h x z e g = h x (subst (λ s. G s.memory) (sym (went_same e)) g)

      module _ (side : Side P E V W M C) (side' : Side P' E' V' W' M' C') (arguments : Each Items side.arguments side'.arguments)
          (cases : (ok err : Option Tree) → T (side.has_cases ok err) → T (side'.has_cases ok err))
          (wasm : (m n : List ℕ) (ps rs : List WasmType) (s : State E V W M C) (s' : State E' V' W' M' C') → States s s' → Rules (side.on_wasm m n ps rs s) (side'.on_wasm m n ps rs s'))
          (interface : (m n : List ℕ) (ps rs : List Tree) (s : State E V W M C) (s' : State E' V' W' M' C') → States s s' → Rules (side.on_interface m n ps rs s) (side'.on_interface m n ps rs s')) where
        module _ (runs : Inside V W → List E → State E V W M C → Tried P (State E V W M C)) (runs' : Inside V' W' → List E' → State E' V' W' M' C' → Tried P' (State E' V' W' M' C'))
            (runs_go : (i : Inside V W) (i' : Inside V' W') (es : List E) (es' : List E') (s : State E V W M C) (s' : State E' V' W' M' C') → Insides i i' → Events es es' → States s s' → Rules (runs i es s) (runs' i' es' s'))
            (inside : Inside V W) (inside' : Inside V' W') (insides : Insides inside inside') where
          block_goes : (i : Inside V W) (i' : Inside V' W') (b : Block E) (b' : Block E') (s : State E V W M C) (s' : State E' V' W' M' C') → Insides i i' → Blocks b b' → States s s' → Goes KnownLeft Left (run_block event place D side runs i b s) (run_block event' place' D' side' runs' i' b' s')
          block_goes i i' b b' s s' h k r =
              next_goes KnownOf States KnownLeft Left (λ s. left_over (place b.end) b.has_value s.stack s) (λ s. left_over (place' b'.end) b'.has_value s.stack s) (runs i b.events (with_stack [] s)) (runs' i' b'.events (with_stack [] s'))
              (runs_go i i' b.events b'.events (with_stack [] s) (with_stack [] s') h k.0 (stacked s s' [] [] r tt))
              (λ x z e g. left_back (place b.end) b.has_value x.stack x z e g)
              (λ x y q. subst (λ v. Goes KnownLeft Left (left_over (place b.end) b.has_value x.stack x) (left_over (place' b'.end) v y.stack y)) k.1 (left_go (place b.end) (place' b'.end) b.has_value x.stack y.stack x y q.stack q))

          return_goes : (n : ℕ) (i : Inside V W) (i' : Inside V' W') (s : State E V W M C) (s' : State E' V' W' M' C') → Insides i i' → States s s' → Rules (return_items n i s) (return_items n i' s')
          return_goes n outside outside s s' h r =
              found_goes _ KnownOf States _ _ (items_off n [] s.stack) (items_off n [] s'.stack) (off_items Items n [] [] s.stack s'.stack tt r.stack) (λ p q k.
              only_goes KnownOf States _ _ _ _ (λ t. subst (λ b. T (b && (is_nil s'.blocks && is_nil q.1))) (both_some RC s.called s'.called r.called) (subst (λ b. T (is_some s.called && (b && is_nil q.1))) (each_nil Blocks s.blocks s'.blocks r.blocks) (subst (λ b. T (is_some s.called && (is_nil s.blocks && b))) (each_nil Items p.1 q.1 k.1) t)))
              (λ g. record { stack = k.1; slots = r.slots; memory = r.memory; blocks = r.blocks; returned = r.returned; called = r.called; answer = k.0 }))
          return_goes n (in_lower x) i' s s' h r = tt
          return_goes n in_lift i' s s' h r = tt
          return_goes n outside (in_lower x) s s' h r = absurd h
          return_goes n outside in_lift s s' h r = absurd h

          abbrev ends : State E V W M C → (a b : Block E) (m : List (Block E)) (rest : List (Item V W)) (e : Bool) → Tried P (State E V W M C)
          ends s a b m rest e = goes_on (run_block event place D side runs in_lift (cond e b a) (record s { blocks = m })) (λ r. if_found (lifted_payload r.0) (λ p. went (with_stack (plain_item (D.result e p) ∷ rest) r.1)))

          abbrev ends' : State E' V' W' M' C' → (a b : Block E') (m : List (Block E')) (rest : List (Item V' W')) (e : Bool) → Tried P' (State E' V' W' M' C')
          ends' s' a b m rest e = goes_on (run_block event' place' D' side' runs' in_lift (cond e b a) (record s' { blocks = m })) (λ r. if_found (lifted_payload r.0) (λ p. went (with_stack (plain_item (D'.result e p) ∷ rest) r.1)))

          lifted : (s : State E V W M C) (s' : State E' V' W' M' C') → States s s' → (a b : Block E) (m : List (Block E)) (rest : List (Item V W)) (a' b' : Block E') (m' : List (Block E')) (rest' : List (Item V' W')) (e : Bool) → Each Items rest rest' → Blocks a a' → Blocks b b' → Each Blocks m m' → Rules (ends s a b m rest e) (ends' s' a' b' m' rest' e)
          lifted s s' r a b m rest a' b' m' rest' e k ha hb hm =
              next_goes KnownLeft Left KnownOf States _ _ _ _
              (block_goes in_lift in_lift (cond e b a) (cond e b' a') (record s { blocks = m }) (record s' { blocks = m' }) tt (chosen e a b a' b' ha hb) (record { stack = r.stack; slots = r.slots; memory = r.memory; blocks = hm; returned = r.returned; called = r.called; answer = r.answer }))
              (λ x z q g. found_back (lifted_payload x.0) (λ p. with_stack (plain_item (D.result e p) ∷ rest) x.1) x.1.memory (λ w. refl) z q g)
              (λ x y l. found_goes (Both RV) KnownOf States _ _ (lifted_payload x.0) (lifted_payload y.0) (lifted_follow x.0 y.0 l.0) (λ p p' u. onto x.1 y.1 _ _ l.1 ((H.plain (D.result e p) (D'.result e p') (H.result e p p' u), refl), k)))

          act_goes : (x : Row) (s : State E V W M C) (s' : State E' V' W' M' C') → States s s' → Rules (act event place D side runs inside x s) (act event' place' D' side' runs' inside' x s')
          act_goes (get_arg i) s s' r = found_goes Items KnownOf States _ _ (slice_get side.arguments i) (slice_get side'.arguments i) (each_at Items side.arguments side'.arguments i arguments) (λ x y h. onto s s' _ _ r (h, r.stack))
          act_goes addr_of s s' r =
              top_values KnownOf States _ _ s.stack s'.stack r.stack (λ v v' t rest rest' h k. given v v' t rest rest' h k)
            where
              given : (v : V) (v' : V') (t : Option Tree) (rest : List (Item V W)) (rest' : List (Item V' W')) → RI t v v' → Each Items rest rest' → Rules (if_found t (λ t. if_found (D.put t v s.memory) (λ r. went (record s { stack = word_item r.0 ∷ rest; memory = r.1 })))) (if_found t (λ t. if_found (D'.put t v' s'.memory) (λ r. went (record s' { stack = word_item r.0 ∷ rest'; memory = r.1 }))))
              given v v' None rest rest' h k = tt
              given v v' (Some t) rest rest' h k =
                  makes_goes Known Gives KnownOf States _ _ (D.put t v s.memory) (D'.put t v' s'.memory) (H.put t v v' s.memory s'.memory h r.memory) (went_back (λ r. record s { stack = word_item r.0 ∷ rest; memory = r.1 }) Known (λ x g. g)) (λ p q u g. record { stack = (u.0, k); slots = r.slots; memory = u.1; blocks = r.blocks; returned = r.returned; called = r.called; answer = r.answer })
          act_goes (lowering x) s s' r = top_values KnownOf States _ _ s.stack s'.stack r.stack (λ v v' t rest rest' h k. found_goes RW KnownOf States _ _ (D.lower x v) (D'.lower x v') (H.lower x v v' (H.forget t v v' h)) (λ w w' u. onto s s' _ _ r (u, k)))
          act_goes (lifting x) s s' r = top_words KnownOf States _ _ s.stack s'.stack r.stack (λ w w' rest rest' h k. found_goes RV KnownOf States _ _ (D.lift x w) (D'.lift x w') (H.lift x w w' h) (λ v v' u. onto s s' _ _ r ((H.plain v v' u, refl), k)))
          act_goes list_pointer_length s s' r = top_values KnownOf States _ _ s.stack s'.stack r.stack (λ v v' t rest rest' h k. found_goes _ KnownOf States _ _ (D.list_words v) (D'.list_words v') (H.list_words v v' (H.forget t v v' h)) (λ w w' u. onto s s' _ _ r (u.1, (u.0, k))))
          act_goes list_from_pointer_length s s' r = top_words KnownOf States _ _ s.stack s'.stack r.stack (λ l l' rest rest' h k. top_words KnownOf States _ _ rest rest' k (λ a a' more more' i j. found_goes RV KnownOf States _ _ (D.list_value a l) (D'.list_value a' l') (H.list_value a a' l l' i h) (λ v v' u. onto s s' _ _ r ((H.plain v v' u, refl), j))))
          act_goes (return_pointer_get n) s s' r = found_goes RW KnownOf States _ _ (slot_word n s.slots) (slot_word n s'.slots) (both_follows RW _ _ (slot_follows n s.slots s'.slots r.slots)) (λ w w' u. onto s s' _ _ r (u, r.stack))
          act_goes (load t) s s' r = top_words KnownOf States _ _ s.stack s'.stack r.stack (λ a a' rest rest' h k. found_goes (RI (Some t)) KnownOf States _ _ (D.get t a s.memory) (D'.get t a' s'.memory) (H.get t a a' s.memory s'.memory h r.memory) (λ v v' u. onto s s' _ _ r ((u, refl), k)))
          act_goes (store t) s s' r = top_words KnownOf States _ _ s.stack s'.stack r.stack (λ a a' rest rest' h k. top_values KnownOf States _ _ rest rest' k (λ v v' c more more' i j. makes_goes G RM KnownOf States _ _ (D.set t a v s.memory) (D'.set t a' v' s'.memory) (H.set t a a' v v' s.memory s'.memory h (H.forget c v v' i) r.memory) (went_back (λ m. record s { stack = more; memory = m }) G (λ x g. g)) (λ m m' u g. record { stack = j; slots = r.slots; memory = u; blocks = r.blocks; returned = r.returned; called = r.called; answer = r.answer })))
          act_goes (tuple_lift n) s s' r = found_goes _ KnownOf States _ _ (values_off n [] s.stack) (values_off n [] s'.stack) (off_values n [] [] s.stack s'.stack tt r.stack) (λ p q k. onto s s' _ _ r ((H.plain (D.tuple p.0) (D'.tuple q.0) (H.tuple p.0 q.0 k.0), refl), k.1))
          act_goes (tuple_lower n) s s' r = top_values KnownOf States _ _ s.stack s'.stack r.stack (λ v v' t rest rest' h k. found_goes (Each RV) KnownOf States _ _ (D.parts n v) (D'.parts n v') (H.parts n v v' (H.forget t v v' h)) (λ vs vs' u. onto s s' _ _ r (each_pushed Items (map plain_item vs) rest (map plain_item vs') rest' (plain_each vs vs' u) k)))
          act_goes variant_payload s s' r = found_goes Items KnownOf States _ _ (payload_in inside) (payload_in inside') (payload_follows inside inside' insides) (λ x y h. onto s s' _ _ r (h, r.stack))
          act_goes reuse_return s s' r = found_goes RW KnownOf States _ _ s.returned s'.returned (both_follows RW _ _ r.returned) (λ w w' u. onto s s' _ _ r (u, r.stack))
          act_goes (result_lower ok err) s s' r =
              only_goes KnownOf States _ _ _ _ (cases ok err) (top_values KnownOf States _ _ s.stack s'.stack r.stack (λ v v' t rest rest' h k. blocks_go KnownOf States _ _ s.blocks s'.blocks r.blocks (λ a b m a' b' m' ha hb hm. picked v v' rest rest' k a b m a' b' m' ha hb hm (D.picks ok err v) (D'.picks ok err v') refl (H.picks ok err v v' (H.forget t v v' h)))))
            where
              lowered : (c : Bool × Option (V × Option Tree)) (d : Bool × Option (V' × Option Tree)) (rest : List (Item V W)) (rest' : List (Item V' W')) (a b : Block E) (m : List (Block E)) (a' b' : Block E') (m' : List (Block E')) → Each Items rest rest' → Blocks a a' → Blocks b b' → Each Blocks m m' → RW (D.case_word c.0) (D'.case_word c.0) → Both Pays c.1 d.1 →
                  Rules (goes_on (run_block event place D side runs (in_lower (payload_item c.1)) (cond c.0 b a) (record s { blocks = m })) (λ r. if_found (block_word D c.0 r.0) (λ w. went (with_stack (word_item w ∷ rest) r.1)))) (goes_on (run_block event' place' D' side' runs' (in_lower (payload_item d.1)) (cond c.0 b' a') (record s' { blocks = m' })) (λ r. if_found (block_word D' c.0 r.0) (λ w. went (with_stack (word_item w ∷ rest') r.1))))
              lowered c d rest rest' a b m a' b' m' k ha hb hm w hp =
                  next_goes KnownLeft Left KnownOf States _ _ _ _
                  (block_goes (in_lower (payload_item c.1)) (in_lower (payload_item d.1)) (cond c.0 b a) (cond c.0 b' a') (record s { blocks = m }) (record s' { blocks = m' }) (payload_both c.1 d.1 hp) (chosen c.0 a b a' b' ha hb) (record { stack = r.stack; slots = r.slots; memory = r.memory; blocks = hm; returned = r.returned; called = r.called; answer = r.answer }))
                  (λ x z e g. found_back (block_word D c.0 x.0) (λ w. with_stack (word_item w ∷ rest) x.1) x.1.memory (λ w. refl) z e g)
                  (λ x y l. found_goes RW KnownOf States _ _ (block_word D c.0 x.0) (block_word D' c.0 y.0) (picked_word c.0 x.0 y.0 w l.0) (λ w w' u. onto x.1 y.1 _ _ l.1 (u, k)))

              picked : (v : V) (v' : V') (rest : List (Item V W)) (rest' : List (Item V' W')) → Each Items rest rest' → (a b : Block E) (m : List (Block E)) (a' b' : Block E') (m' : List (Block E')) → Blocks a a' → Blocks b b' → Each Blocks m m' → (o : Option (Bool × Option (V × Option Tree))) (p : Option (Bool × Option (V' × Option Tree))) → D.picks ok err v ≡ o → Follows Picks o p →
                  Rules (if_found o (λ c. goes_on (run_block event place D side runs (in_lower (payload_item c.1)) (cond c.0 b a) (record s { blocks = m })) (λ r. if_found (block_word D c.0 r.0) (λ w. went (with_stack (word_item w ∷ rest) r.1))))) (if_found p (λ c. goes_on (run_block event' place' D' side' runs' (in_lower (payload_item c.1)) (cond c.0 b' a') (record s' { blocks = m' })) (λ r. if_found (block_word D' c.0 r.0) (λ w. went (with_stack (word_item w ∷ rest') r.1)))))
              picked v v' rest rest' k a b m a' b' m' ha hb hm None p is h = tt
              picked v v' rest rest' k a b m a' b' m' ha hb hm (Some c) None is h = absurd h
              picked v v' rest rest' k a b m a' b' m' ha hb hm (Some c) (Some d) is h =
                  subst (λ e. Rules (goes_on (run_block event place D side runs (in_lower (payload_item c.1)) (cond c.0 b a) (record s { blocks = m })) (λ r. if_found (block_word D c.0 r.0) (λ w. went (with_stack (word_item w ∷ rest) r.1)))) (goes_on (run_block event' place' D' side' runs' (in_lower (payload_item d.1)) (cond e b' a') (record s' { blocks = m' })) (λ r. if_found (block_word D' e r.0) (λ w. went (with_stack (word_item w ∷ rest') r.1))))) h.0
                  (lowered c d rest rest' a b m a' b' m' k ha hb hm (H.case_word ok err v c is) h.1)
          act_goes result_lift s s' r =
              top_words KnownOf States _ _ s.stack s'.stack r.stack (λ w w' rest rest' h k. blocks_go KnownOf States _ _ s.blocks s'.blocks r.blocks (λ a b m a' b' m' ha hb hm. found_goes ◌≡◌ KnownOf States _ _ (D.chooses w) (D'.chooses w') (H.chooses w w' h) (λ e e' is. subst (λ e'. Rules (ends s a b m rest e) (ends' s' a' b' m' rest' e')) is (lifted s s' r a b m rest a' b' m' rest' e k ha hb hm))))
          act_goes (call_wasm m n ps rs) s s' r = wasm m n ps rs s s' r
          act_goes (call_interface m n ps rs) s s' r = interface m n ps rs s s' r
          act_goes (returns n) s s' r = return_goes n inside inside' s s' insides r

          space_goes : (k : ℕ) (t : Tree) (x : Option W) (y : Option W') (s : State E V W M C) (s' : State E' V' W' M' C') → Both RW x y → States s s' → Rules (give_slot event place D side runs inside k t x s) (give_slot event' place' D' side' runs' inside' k t y s')
          space_goes k t (Some w) y s s' h r = tt
          space_goes k t None (Some w) s s' h r = absurd h
          space_goes k t None None s s' h r = makes_goes Known Gives KnownOf States _ _ (D.give t s.memory) (D'.give t s'.memory) (H.give t s.memory s'.memory r.memory) (went_back (λ r. record s { slots = (k, r.0) ∷ s.slots; memory = r.1 }) Known (λ x g. g)) (λ p q u g. record { stack = r.stack; slots = ((refl, u.0), r.slots); memory = u.1; blocks = r.blocks; returned = r.returned; called = r.called; answer = r.answer })

          -- the rest of the trace
          abbrev AllFlows : (State E V W M C → Tried P (State E V W M C)) → Type 0
          AllFlows f = Back KnownOf KnownOf f

          after_goes : (p : P) (p' : P') (last last' : Bool) (t : Tried P (State E V W M C)) (t' : Tried P' (State E' V' W' M' C')) (go : State E V W M C → Tried P (State E V W M C)) (go' : State E' V' W' M' C' → Tried P' (State E' V' W' M' C')) → last ≡ last' → Rules t t' → Back KnownOf KnownOf go → ((x : State E V W M C) (y : State E' V' W' M' C') → States x y → Rules (go x) (go' y)) → Rules (after p last t go) (after p' last' t' go')
          after_goes p p' last last' no_rule t' go go' l h b k = tt
          after_goes p p' last last' (stuck_at q) t' go go' l h b k = tt
          after_goes p p' last last' (went x) (went y) go go' l h b k =
              only_if KnownOf States _ _ (λ z e g. let r = h (back (is_none x.answer || last) z e g) in subst (λ l'. Rules (cond (is_none x.answer || last) (go x) (stuck_at p)) (cond (is_none y.answer || l') (go' y) (stuck_at p'))) l (subst (λ n. Rules (cond (is_none x.answer || last) (go x) (stuck_at p)) (cond (n || last) (go' y) (stuck_at p'))) (both_none (Each Items) x.answer y.answer r.answer) (both (is_none x.answer || last) (k x y r))))
            where
              back : (c : Bool) (z : State E V W M C) → cond c (go x) (stuck_at p) ≡ went z → G z.memory → G x.memory
              back true z e g = b x z e g
              back false z e g = absurd (not_stuck e)

              both : (c : Bool) → Rules (go x) (go' y) → Rules (cond c (go x) (stuck_at p)) (cond c (go' y) (stuck_at p'))
              both true h = h
              both false h = tt
          after_goes p p' last last' (went x) no_rule go go' l h b k =
              only_if KnownOf States _ _ (λ z e g. absurd (h (back (is_none x.answer || last) z e g)))
            where
              back : (c : Bool) (z : State E V W M C) → cond c (go x) (stuck_at p) ≡ went z → G z.memory → G x.memory
              back true z e g = b x z e g
              back false z e g = absurd (not_stuck e)
          after_goes p p' last last' (went x) (stuck_at q) go go' l h b k =
              only_if KnownOf States _ _ (λ z e g. absurd (h (back (is_none x.answer || last) z e g)))
            where
              back : (c : Bool) (z : State E V W M C) → cond c (go x) (stuck_at p) ≡ went z → G z.memory → G x.memory
              back true z e g = b x z e g
              back false z e g = absurd (not_stuck e)

          abbrev pub Flows : Flow E → Flow E' → Type 0
          Flows = FlowsOf event event'

          abbrev pub FlowsGo : (Flow E → State E V W M C → Tried P (State E V W M C)) → (Flow E' → State E' V' W' M' C' → Tried P' (State E' V' W' M' C')) → Type 0
          FlowsGo f g = (a : Flow E) (b : Flow E') (s : State E V W M C) (s' : State E' V' W' M' C') → Flows a b → States s s' → Rules (f a s) (g b s')

          flows_go : (x : Event) (e : E) (e' : E') (last last' : Bool) (f : Flow E → State E V W M C → Tried P (State E V W M C)) (g : Flow E' → State E' V' W' M' C' → Tried P' (State E' V' W' M' C')) (s : State E V W M C) (s' : State E' V' W' M' C') → last ≡ last' → FlowsGo f g → ((fl : Flow E) → Back KnownOf KnownOf (f fl)) → States s s' → Rules (flows event place D side runs inside x e last f s) (flows event' place' D' side' runs' inside' x e' last' g s')
          flows_go (emit x) e e' last last' f g s s' l h b r = after_goes (place e) (place' e') last last' _ _ (f flowing) (g flowing) l (act_goes (row x) s s' r) (b flowing) (λ t t' q. h flowing flowing t t' tt q)
          flows_go (space k t) e e' last last' f g s s' l h b r = after_goes (place e) (place' e') last last' _ _ (f flowing) (g flowing) l (space_goes k t (slot_word k s.slots) (slot_word k s'.slots) s s' (slot_follows k s.slots s'.slots r.slots) r) (b flowing) (λ t t' q. h flowing flowing t t' tt q)
          flows_go push e e' last last' f g s s' l h b r = h (gathering e 0 []) (gathering e' 0 []) s s' (refl, tt) r
          flows_go (finish v) e e' last last' f g s s' l h b r = tt

          gathers_go : (x : Event) (e b : E) (e' b' : E') (d : ℕ) (es : List E) (es' : List E') (f : Flow E → State E V W M C → Tried P (State E V W M C)) (g : Flow E' → State E' V' W' M' C' → Tried P' (State E' V' W' M' C')) (s : State E V W M C) (s' : State E' V' W' M' C') → event e ≡ event' e' → Events es es' → FlowsGo f g → States s s' → Rules (gathers event place D side x e b d es f s) (gathers event' place' D' side' x e' b' d es' g s')
          gathers_go (emit x) e b e' b' d es es' f g s s' p k h r = h _ _ s s' (refl, each_append _ es (e ∷ []) es' (e' ∷ []) k (p, tt)) r
          gathers_go (space n t) e b e' b' d es es' f g s s' p k h r = h _ _ s s' (refl, each_append _ es (e ∷ []) es' (e' ∷ []) k (p, tt)) r
          gathers_go push e b e' b' d es es' f g s s' p k h r = h _ _ s s' (refl, each_append _ es (e ∷ []) es' (e' ∷ []) k (p, tt)) r
          gathers_go (finish v) e b e' b' zero es es' f g s s' p k h r = h flowing flowing (set_aside es v e s) (set_aside es' v e' s') tt (record { stack = r.stack; slots = r.slots; memory = r.memory; blocks = ((k, refl), r.blocks); returned = r.returned; called = r.called; answer = r.answer })
          gathers_go (finish v) e b e' b' (suc d) es es' f g s s' p k h r = h _ _ s s' (refl, each_append _ es (e ∷ []) es' (e' ∷ []) k (p, tt)) r

          pub play_goes : ((es : List E) (fl : Flow E) → Back KnownOf KnownOf (play event place D side runs inside es fl)) → (es : List E) (es' : List E') → Events es es' → FlowsGo (play event place D side runs inside es) (play event' place' D' side' runs' inside' es')
          play_goes backs [] [] k flowing flowing s s' h r = λ g. r
          play_goes backs [] [] k flowing (gathering b' d' gs') s s' h r = absurd h
          play_goes backs [] [] k (gathering b d gs) fl s s' h r = tt
          play_goes backs [] (e' ∷ es') k a b s s' h r = absurd k
          play_goes backs (e ∷ es) [] k a b s s' h r = absurd k
          play_goes backs (e ∷ es) (e' ∷ es') k flowing flowing s s' h r =
              subst (λ x. Rules (flows event place D side runs inside (event e) e (is_nil es) (play event place D side runs inside es) s) (flows event' place' D' side' runs' inside' x e' (is_nil es') (play event' place' D' side' runs' inside' es') s')) k.0
              (flows_go (event e) e e' (is_nil es) (is_nil es') (play event place D side runs inside es) (play event' place' D' side' runs' inside' es') s s' (each_nil _ es es' k.1) (play_goes backs es es' k.1) (backs es) r)
          play_goes backs (e ∷ es) (e' ∷ es') k flowing (gathering b' d' gs') s s' h r = absurd h
          play_goes backs (e ∷ es) (e' ∷ es') k (gathering b d gs) flowing s s' h r = absurd h
          play_goes backs (e ∷ es) (e' ∷ es') k (gathering b d gs) (gathering b' d' gs') s s' h r =
              subst (λ d'. Rules (gathers event place D side (event e) e b d gs (play event place D side runs inside es) s) (gathers event' place' D' side' (event' e') e' b' d' gs' (play event' place' D' side' runs' inside' es') s')) h.0
              (subst (λ x. Rules (gathers event place D side (event e) e b d gs (play event place D side runs inside es) s) (gathers event' place' D' side' x e' b' d gs' (play event' place' D' side' runs' inside' es') s')) k.0
              (gathers_go (event e) e b e' b' d gs gs' (play event place D side runs inside es) (play event' place' D' side' runs' inside' es') s s' k.0 h.1 (play_goes backs es es' k.1) r))

        -- what is known afterwards is known before, of every part of a run
        abbrev pub Backs : Type 0
        Backs = (n : ℕ) (i : Inside V W) (es : List E) (fl : Flow E) → Back KnownOf KnownOf (play event place D side (runs_within event place D side n) i es fl)

        pub runs_go : Backs → (n : ℕ) (i : Inside V W) (i' : Inside V' W') (es : List E) (es' : List E') (s : State E V W M C) (s' : State E' V' W' M' C') → Insides i i' → Events es es' → States s s' → Rules (runs_within event place D side n i es s) (runs_within event' place' D' side' n i' es' s')
        runs_go backs zero i i' es es' s s' h k r = tt
        runs_go backs (suc n) i i' es es' s s' h k r = play_goes (runs_within event place D side n) (runs_within event' place' D' side' n) (runs_go backs n) i i' h (backs n i) es es' k flowing flowing s s' tt r

        -- a whole trace
        abbrev pub Ends : C × List (Item V W) × State E V W M C → C' × List (Item V' W') × State E' V' W' M' C' → Type 0
        Ends r r' = RC r.0 r'.0 × Each Items r.1 r'.1 × States r.2 r'.2

        abbrev pub KnownEnd : C × List (Item V W) × State E V W M C → Type 0
        KnownEnd r = G r.2.memory

        ended_back : (p : P) (c : Option C) (a : Option (List (Item V W))) (s : State E V W M C) (z : C × List (Item V W) × State E V W M C) → ended p c a s ≡ went z → KnownEnd z → G s.memory
        ended_back p (Some c) (Some xs) s z e g = subst (λ z. G z.2.memory) (sym (went_same e)) g
        ended_back p None a s z e g = absurd (not_stuck e)
        ended_back p (Some c) None s z e g = absurd (not_stuck e)

        ended_goes : (p : P) (p' : P') (c : Option C) (c' : Option C') (a : Option (List (Item V W))) (a' : Option (List (Item V' W'))) (s : State E V W M C) (s' : State E' V' W' M' C') → Both RC c c' → Both (Each Items) a a' → States s s' → Goes KnownEnd Ends (ended p c a s) (ended p' c' a' s')
        ended_goes p p' None c' a a' s s' h k r = tt
        ended_goes p p' (Some c) c' None a' s s' h k r = tt
        ended_goes p p' (Some c) None (Some xs) a' s s' h k r = absurd h
        ended_goes p p' (Some c) (Some c') (Some xs) None s s' h k r = absurd k
        ended_goes p p' (Some c) (Some c') (Some xs) (Some ys) s s' h k r = λ g. (h, k, r)

        pub trace_goes : Backs → (p : P) (p' : P') (es : List E) (es' : List E') (s : State E V W M C) (s' : State E' V' W' M' C') → Events es es' → States s s' → Goes KnownEnd Ends (run_trace event place D side p es s) (run_trace event' place' D' side' p' es' s')
        trace_goes backs p p' es es' s s' k r =
            next_goes KnownOf States KnownEnd Ends (λ s. ended p s.called s.answer s) (λ s. ended p' s.called s.answer s) (runs_within event place D side (suc (length es)) outside es s) (runs_within event' place' D' side' (suc (length es')) outside es' s')
            (subst (λ n. Rules (runs_within event place D side (suc (length es)) outside es s) (runs_within event' place' D' side' (suc n) outside es' s')) (each_length _ es es' k) (runs_go backs (suc (length es)) outside outside es es' s s' tt k r))
            (λ x z e g. ended_back p x.called x.answer x z e g)
            (λ x y q. ended_goes p p' x.called y.called x.answer y.answer x y q.called q.answer q)
