-- The block behind a push is cut out by the number of its end.
use Rattle.std.proofs.Common.{◌≡◌, ℕ, zero, suc, ◌+◌, ◌<◌, ◌≤◌, Bool, true, false, cond, T, List, [], ◌∷◌, map, take, drop, refl, sym, ap, ◌∙◌, subst, arith, Option, Some, None, slice_get, nat_lt, ltb→lt, lt→ltb}
use Rattle.witx_machine.specs.Events.{Event, emit, space, push, finish}
use Rattle.witx_machine.specs.Positions.{Spot, numbered}
use Rattle.witx_run.specs.BlockEnds.{first, behind_first, unmatched, ends_from}
use Rattle.witx_run.specs.Cuts.{Cut, cut_deeper, cut, cut_by}

-- where the d-th of the ends stands, d blocks being open
abbrev pub behind : {A : Type 0} → ℕ → List A → List A
behind zero xs = xs
behind (suc d) xs = behind d (behind_first xs)

behind_behind : {A : Type 0} (d : ℕ) (xs : List A) → behind d (behind_first xs) ≡ behind_first (behind d xs)
behind_behind zero xs = refl
behind_behind (suc d) xs = behind_behind d (behind_first xs)

none_some : {A : Type 0} {x : A} → None ≡ Some x → ⊥
none_some e = cc

some_same : {A : Type 0} {x y : A} → Some x ≡ Some y → x ≡ y
some_same {A} {x} e = ap (of x) e
  where
    of : A → Option A → A
    of d (Some y) = y
    of d None = d

module _ {E : Type 0} (event : E → Event) where
  abbrev pub CutAt : List E → ℕ → Option (Cut E) → Option ℕ → Type 0
  CutAt es i c None = c ≡ None
  CutAt es i c (Some k) = (n : ℕ) × (k ≡ i + n) × (v : Bool) × (e : E) × (slice_get es n ≡ Some e) × (event e ≡ finish v) × (c ≡ Some (record { inner = take n es; has_value = v; end = e; rest = drop (suc n) es }))

  further : (e : E) (es : List E) (i : ℕ) (c : Option (Cut E)) (o : Option ℕ) → CutAt es (i + 1) c o → CutAt (e ∷ es) i (cut_deeper e c) o
  further e es i c None h = ap (cut_deeper e) h
  further e es i c (Some k) h =
      let plus : i + 1 + h.0 ≡ i + suc h.0 = omega arith in
      (suc h.0, h.1 ∙ plus, h.2, h.3, h.4, h.5, ap (cut_deeper e) h.6)

  pub cut_at : (es : List E) (i d : ℕ) → CutAt es i (cut event es d) (first (behind d (ends_from i (map event es))))
  cut_at [] i d = by d
    where
      by : (d : ℕ) → CutAt [] i None (first (behind d []))
      by zero = refl
      by (suc d) = by d
  cut_at (e ∷ es) i d = by (event e) refl d (cut_at es (i + 1))
    where
      rest : List ℕ
      rest = ends_from (i + 1) (map event es)

      by : (x : Event) → event e ≡ x → (d : ℕ) → ((d : ℕ) → CutAt es (i + 1) (cut event es d) (first (behind d rest))) → CutAt (e ∷ es) i (cut_by event x e d es (cut event es)) (first (behind d (unmatched x i rest)))
      by (emit y) is d h = further e es i (cut event es d) (first (behind d rest)) (h d)
      by (space k t) is d h = further e es i (cut event es d) (first (behind d rest)) (h d)
      by push is d h = further e es i (cut event es (suc d)) (first (behind d (behind_first rest))) (h (suc d))
      by (finish v) is zero h =
          let plus : i ≡ i + 0 = omega arith in
          (0, plus, v, e, refl, is, refl)
      by (finish v) is (suc d) h = further e es i (cut event es d) (first (behind d rest)) (h d)

-- in the first n of the events the same ends are matched, but for those that stand behind them
abbrev pub Grows : ℕ → List ℕ → Type 0
Grows k [] = Unit {0}
Grows k (x ∷ xs) = (k ≤ x) × Grows (suc x) xs

abbrev pub within : ℕ → List ℕ → List ℕ
within m [] = []
within m (x ∷ xs) = cond (nat_lt x m) (x ∷ within m xs) []

grows-less : (k j : ℕ) (xs : List ℕ) → k ≤ j → Grows j xs → Grows k xs
grows-less k j [] h g = tt
grows-less k j (x ∷ xs) h g = (let p = g.0 in omega arith, g.1)

grows-behind : (k : ℕ) (xs : List ℕ) → Grows k xs → Grows k (behind_first xs)
grows-behind k [] g = tt
grows-behind k (x ∷ xs) g = grows-less k (suc x) xs (let p = g.0 in omega arith) g.1

pub ends-grow : (es : List Event) (i : ℕ) → Grows i (ends_from i es)
ends-grow [] i = tt
ends-grow (e ∷ es) i = by e (ends-grow es (i + 1))
  where
    by : (e : Event) → Grows (i + 1) (ends_from (i + 1) es) → Grows i (unmatched e i (ends_from (i + 1) es))
    by (emit x) g = grows-less i (i + 1) _ (omega arith) g
    by (space k t) g = grows-less i (i + 1) _ (omega arith) g
    by push g = grows-behind i _ (grows-less i (i + 1) _ (omega arith) g)
    by (finish v) g = (omega arith, grows-less (suc i) (i + 1) _ (omega arith) g)

not-less : (x m : ℕ) → m ≤ x → nat_lt x m ≡ false
not-less x m h = by (nat_lt x m) refl
  where
    by : (b : Bool) → nat_lt x m ≡ b → b ≡ false
    by false e = refl
    by true e = absurd (let lt : x < m = ltb→lt x m (subst T (sym e) tt) in omega arith)

is-less : (x m : ℕ) → x < m → nat_lt x m ≡ true
is-less x m h = by (nat_lt x m) refl
  where
    by : (b : Bool) → nat_lt x m ≡ b → b ≡ true
    by true e = refl
    by false e = absurd (subst T e (lt→ltb x m h))

within-none : (m k : ℕ) (xs : List ℕ) → m ≤ k → Grows k xs → within m xs ≡ []
within-none m k [] h g = refl
within-none m k (x ∷ xs) h g = ap (λ b. cond b (x ∷ within m xs) []) (not-less x m (let p = g.0 in omega arith))

within-behind : (m k : ℕ) (xs : List ℕ) → Grows k xs → behind_first (within m xs) ≡ within m (behind_first xs)
within-behind m k [] g = refl
within-behind m k (x ∷ xs) g = by (nat_lt x m) refl
  where
    by : (b : Bool) → nat_lt x m ≡ b → behind_first (cond b (x ∷ within m xs) []) ≡ within m xs
    by true e = refl
    by false e = sym (within-none m (suc x) xs (at_most (nat_lt x m) e (λ lt. lt→ltb x m lt)) g.1)
      where
        at_most : (b : Bool) → b ≡ false → (x < m → T b) → m ≤ suc x
        at_most b e f = grind (arith, refused b e f)
          where
            refused : (b : Bool) → b ≡ false → (x < m → T b) → x < m → ⊥
            refused b e f lt = subst T e (f lt)

pub ends-within : (es : List Event) (i n : ℕ) → ends_from i (take n es) ≡ within (i + n) (ends_from i es)
ends-within [] i zero = refl
ends-within [] i (suc n) = refl
ends-within (e ∷ es) i zero = sym (within-none (i + 0) i (ends_from i (e ∷ es)) (omega arith) (ends-grow (e ∷ es) i))
ends-within (e ∷ es) i (suc n) =
    let plus : i + 1 + n ≡ i + suc n = omega arith in
    ap (unmatched e i) (ends-within es (i + 1) n ∙ ap (λ m. within m (ends_from (i + 1) es)) plus) ∙ by e (ends-grow es (i + 1))
  where
    by : (e : Event) → Grows (i + 1) (ends_from (i + 1) es) → unmatched e i (within (i + suc n) (ends_from (i + 1) es)) ≡ within (i + suc n) (unmatched e i (ends_from (i + 1) es))
    by (emit x) g = refl
    by (space k t) g = refl
    by push g = within-behind (i + suc n) (i + 1) (ends_from (i + 1) es) g
    by (finish v) g = ap (λ b. cond b (i ∷ within (i + suc n) (ends_from (i + 1) es)) []) (sym (is-less i (i + suc n) (omega arith)))

-- What the table tells of a push in a part of a trace that is numbered from i and has n events: its block is cut out
-- by the end that the table has, where that stands within the part; else there is none.
abbrev pub below : ℕ → Option ℕ → Option ℕ
below m None = None
below m (Some k) = cond (nat_lt k m) (Some k) None

first-within : (m : ℕ) (xs : List ℕ) → first (within m xs) ≡ below m (first xs)
first-within m [] = refl
first-within m (x ∷ xs) = by (nat_lt x m)
  where
    by : (b : Bool) → first (cond b (x ∷ within m xs) []) ≡ cond b (Some x) None
    by true = refl
    by false = refl

numbered-events : (spot : ℕ → Spot) (i : ℕ) (es : List Event) → map (λ (e : Spot × Event). e.1) (numbered spot i es) ≡ es
numbered-events spot i [] = refl
numbered-events spot i (e ∷ es) = ap (λ l. e ∷ l) (numbered-events spot (i + 1) es)

pub table-cuts : (spot : ℕ → Spot) (i n : ℕ) (rest : List Event) →
    CutAt (λ (e : Spot × Event). e.1) (numbered spot i (take n rest)) i (cut (λ (e : Spot × Event). e.1) (numbered spot i (take n rest)) 0) (below (i + n) (first (ends_from i rest)))
table-cuts spot i n rest =
    let part = numbered spot i (take n rest) in
    subst (CutAt (λ (e : Spot × Event). e.1) part i (cut (λ (e : Spot × Event). e.1) part 0))
    (ap (λ es. first (ends_from i es)) (numbered-events spot i (take n rest)) ∙ ap first (ends-within rest i n) ∙ first-within (i + n) (ends_from i rest))
    (cut_at (λ (e : Spot × Event). e.1) part i 0)
