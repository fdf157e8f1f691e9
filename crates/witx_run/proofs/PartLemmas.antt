-- A part of a trace begins with its first event; and of its first block the table of ends says where it ends.
use Rattle.std.proofs.Common.{◌≡◌, ℕ, zero, suc, ◌+◌, ◌-◌, ◌<◌, ◌≤◌, Bool, true, false, cond, T, List, [], ◌∷◌, take, drop, refl, sym, ap, ◌∙◌, subst, arith, Some, None, slice_get, nat_lt, lt→ltb}
use Rattle.std.proofs.lemmas.List.{drop-take}
use Rattle.witx_machine.specs.Events.{Event, finish}
use Rattle.witx_machine.specs.Positions.{Spot, numbered}
use Rattle.witx_run.specs.BlockEnds.{first, ends_from, block_ends}
use Rattle.witx_run.specs.MachineViews.{Numbered, part}
use Rattle.witx_run.specs.Cuts.{cut}
use Rattle.witx_run.proofs.Cutting.{CutAt, below, table-cuts}

drop-got : {A : Type 0} (xs : List A) (i : ℕ) (x : A) → slice_get xs i ≡ Some x → drop i xs ≡ x ∷ drop (suc i) xs
drop-got [] i x e = absurd (clash e)
  where
    clash : None ≡ Some x → ⊥
    clash e = cc
drop-got (y ∷ xs) zero x e = ap (λ z. z ∷ xs) (same e)
  where
    same : {A : Type 0} {a b : A} → Some a ≡ Some b → a ≡ b
    same e = cc
drop-got (y ∷ xs) (suc i) x e = drop-got xs i x e

drop-none : {A : Type 0} (xs : List A) (i : ℕ) → slice_get xs i ≡ None → drop i xs ≡ []
drop-none [] zero e = refl
drop-none [] (suc i) e = refl
drop-none (y ∷ xs) zero e = absurd (clash e)
  where
    clash : Some y ≡ None → ⊥
    clash e = cc
drop-none (y ∷ xs) (suc i) e = drop-none xs i e

take-none : {A : Type 0} (n : ℕ) → take {A = A} n [] ≡ []
take-none zero = refl
take-none (suc n) = refl

pub part-next : (spot : ℕ → Spot) (es : List Event) (i end : ℕ) (e : Event) → slice_get es i ≡ Some e → i < end → part spot es i end ≡ (spot i, e) ∷ part spot es (suc i) end
part-next spot es i end e got l =
    let n : end - i ≡ suc (end - suc i) = omega arith in
    let one : i + 1 ≡ suc i = omega arith in
    ap (λ n. numbered spot i (take n (drop i es))) n
    ∙ ap (λ xs. numbered spot i (take (suc (end - suc i)) xs)) (drop-got es i e got)
    ∙ ap (λ j. (spot i, e) ∷ numbered spot j (take (end - suc i) (drop (suc i) es))) one

pub part-past : (spot : ℕ → Spot) (es : List Event) (i end : ℕ) → end ≤ i → part spot es i end ≡ []
part-past spot es i end l = let n : end - i ≡ 0 = omega arith in ap (λ n. numbered spot i (take n (drop i es))) n ∙ ap (numbered spot i) (nothing (drop i es))
  where
    nothing : (xs : List Event) → take 0 xs ≡ []
    nothing [] = refl
    nothing (x ∷ xs) = refl

pub part-none : (spot : ℕ → Spot) (es : List Event) (i end : ℕ) → slice_get es i ≡ None → part spot es i end ≡ []
part-none spot es i end e = ap (λ xs. numbered spot i (take (end - i) xs)) (drop-none es i e) ∙ ap (numbered spot i) (take-none (end - i))

-- the table of ends, by number
pub end-at : (es : List Event) (i j : ℕ) (e : Event) → slice_get es i ≡ Some e → slice_get (block_ends j es) i ≡ Some (first (ends_from (j + suc i) (drop (suc i) es)))
end-at [] i j e got = absurd (clash got)
  where
    clash : None ≡ Some e → ⊥
    clash e = cc
end-at (x ∷ es) zero j e got = ap Some (ap (λ xs. first (ends_from (j + 1) xs)) (sym (from_first es)))
  where
    from_first : (es : List Event) → drop 0 es ≡ es
    from_first [] = refl
    from_first (x ∷ xs) = refl
end-at (x ∷ es) (suc i) j e got =
    let k : j + 1 + suc i ≡ j + suc (suc i) = omega arith in
    end-at es i (j + 1) e got ∙ ap (λ k. Some (first (ends_from k (drop (suc i) es)))) k

take-numbered : (spot : ℕ → Spot) (n j : ℕ) (xs : List Event) → take n (numbered spot j xs) ≡ numbered spot j (take n xs)
take-numbered spot zero j [] = refl
take-numbered spot (suc n) j [] = refl
take-numbered spot zero j (x ∷ xs) = refl
take-numbered spot (suc n) j (x ∷ xs) = ap (λ l. (spot j, x) ∷ l) (take-numbered spot n (j + 1) xs)

drop-numbered : (spot : ℕ → Spot) (n j : ℕ) (xs : List Event) → drop n (numbered spot j xs) ≡ numbered spot (j + n) (drop n xs)
drop-numbered spot zero j [] = refl
drop-numbered spot (suc n) j [] = refl
drop-numbered spot zero j (x ∷ xs) = let z : j ≡ j + 0 = omega arith in ap (λ k. numbered spot k (x ∷ xs)) z
drop-numbered spot (suc n) j (x ∷ xs) = let k : j + 1 + n ≡ j + suc n = omega arith in drop-numbered spot n (j + 1) xs ∙ ap (λ k. numbered spot k (drop n xs)) k

take-less : {A : Type 0} (n m : ℕ) (xs : List A) → take n (take (n + m) xs) ≡ take n xs
take-less zero m [] = take_zero (take m [])
  where
    take_zero : {A : Type 0} (xs : List A) → take 0 xs ≡ []
    take_zero [] = refl
    take_zero (x ∷ xs) = refl
take-less zero m (x ∷ xs) = take_zero (take m (x ∷ xs))
  where
    take_zero : {A : Type 0} (xs : List A) → take 0 xs ≡ []
    take_zero [] = refl
    take_zero (x ∷ xs) = refl
take-less (suc n) m [] = ap (take (suc n)) (take-none (suc n + m))
take-less (suc n) m (x ∷ xs) = let k : suc n + m ≡ suc (n + m) = omega arith in ap (λ k. take (suc n) (take k (x ∷ xs))) k ∙ ap (λ l. x ∷ l) (take-less n m xs)

drop-nothing : {A : Type 0} (n : ℕ) → drop {A = A} n [] ≡ []
drop-nothing zero = refl
drop-nothing (suc n) = refl

drop-further : {A : Type 0} (n m : ℕ) (xs : List A) → drop n (drop m xs) ≡ drop (m + n) xs
drop-further n m [] = ap (drop n) (drop-nothing m) ∙ drop-nothing n ∙ sym (drop-nothing (m + n))
drop-further n zero (x ∷ xs) = let z : n ≡ 0 + n = omega arith in ap (λ k. drop k (x ∷ xs)) z
drop-further n (suc m) (x ∷ xs) = let k : suc (m + n) ≡ suc m + n = omega arith in drop-further n m xs ∙ ap (λ k. drop k (x ∷ xs)) k

get-numbered : (spot : ℕ → Spot) (n j : ℕ) (xs : List Event) (e : Numbered) → slice_get (numbered spot j xs) n ≡ Some e → e ≡ (spot (j + n), e.1) × (slice_get xs n ≡ Some e.1)
get-numbered spot n j [] e got = absurd (clash got)
  where
    clash : None ≡ Some e → ⊥
    clash e = cc
get-numbered spot zero j (x ∷ xs) e got = let z : j ≡ j + 0 = omega arith in (sym (same got) ∙ ap (λ k. (spot k, x)) z ∙ ap (λ y. (spot (j + 0), y)) (ap (λ p. p.1) (same got)), ap (λ p. Some p.1) (same got))
  where
    same : {A : Type 0} {a b : A} → Some a ≡ Some b → a ≡ b
    same e = cc
get-numbered spot (suc n) j (x ∷ xs) e got =
    let k : j + 1 + n ≡ j + suc n = omega arith in
    let rest = get-numbered spot n (j + 1) xs e got in
    (rest.0 ∙ ap (λ k. (spot k, e.1)) k, rest.1)

get-take : {A : Type 0} (n m : ℕ) (xs : List A) (x : A) → slice_get (take m xs) n ≡ Some x → (slice_get xs n ≡ Some x) × (n < m)
get-take n zero [] x got = absurd (clash got)
  where
    clash : None ≡ Some x → ⊥
    clash e = cc
get-take n (suc m) [] x got = absurd (clash got)
  where
    clash : None ≡ Some x → ⊥
    clash e = cc
get-take n zero (y ∷ xs) x got = absurd (clash got)
  where
    clash : None ≡ Some x → ⊥
    clash e = cc
get-take zero (suc m) (y ∷ xs) x got = (got, omega arith)
get-take (suc n) (suc m) (y ∷ xs) x got = let rest = get-take n m xs x got in (rest.0, let l : n < m = rest.1 in omega arith)

get-nothing : {A : Type 0} (n : ℕ) → slice_get (take {A = A} 0 []) n ≡ None
get-nothing zero = refl
get-nothing (suc n) = refl

get-drop : {A : Type 0} (n m : ℕ) (xs : List A) → slice_get (drop m xs) n ≡ slice_get xs (m + n)
get-drop {A} n m [] = ap (λ xs. slice_get xs n) (drop-nothing {A = A} m) ∙ get-nothing {A = A} n ∙ sym (get-nothing {A = A} (m + n))
get-drop n zero (x ∷ xs) = let z : n ≡ 0 + n = omega arith in ap (slice_get (x ∷ xs)) z
get-drop n (suc m) (x ∷ xs) = let k : suc (m + n) ≡ suc m + n = omega arith in get-drop n m xs ∙ ap (slice_get (x ∷ xs)) k

-- what the table says of a block that begins behind i and ends at k
pub record BlockAt (spot : ℕ → Spot) (es : List Event) (i end k : ℕ) : Type 0 where
  pub later : i < k
  pub has_value : Bool
  pub finishes : slice_get es k ≡ Some (finish has_value)
  pub cuts : cut (λ (e : Numbered). e.1) (part spot es (suc i) end) 0 ≡
      Some (record { inner = part spot es (suc i) k; has_value = has_value; end = (spot k, finish has_value); rest = part spot es (suc k) end })

pub block-at : (spot : ℕ → Spot) (es : List Event) (i end k : ℕ) → i < end → first (ends_from (suc i) (drop (suc i) es)) ≡ Some k → k < end → BlockAt spot es i end k
block-at spot es i end k l is less = by (table-cuts spot (suc i) (end - suc i) (drop (suc i) es))
  where
    full : suc i + (end - suc i) ≡ end
    full = omega arith

    within : below (suc i + (end - suc i)) (first (ends_from (suc i) (drop (suc i) es))) ≡ Some k
    within = ap (λ m. below m (first (ends_from (suc i) (drop (suc i) es)))) full ∙ ap (below end) is ∙ ap (λ b. cond b (Some k) None) (test (nat_lt k end) (λ h. lt→ltb k end h))
      where
        test : (b : Bool) → (k < end → T b) → b ≡ true
        test true f = refl
        test false f = absurd (f less)

    by : CutAt (λ (e : Numbered). e.1) (part spot es (suc i) end) (suc i) (cut (λ (e : Numbered). e.1) (part spot es (suc i) end) 0) (below (suc i + (end - suc i)) (first (ends_from (suc i) (drop (suc i) es)))) → BlockAt spot es i end k
    by h = with (subst (CutAt (λ (e : Numbered). e.1) (part spot es (suc i) end) (suc i) (cut (λ (e : Numbered). e.1) (part spot es (suc i) end) 0)) within h)
      where
        with : CutAt (λ (e : Numbered). e.1) (part spot es (suc i) end) (suc i) (cut (λ (e : Numbered). e.1) (part spot es (suc i) end) 0) (Some k) → BlockAt spot es i end k
        with h =
            let n : ℕ = h.0 in
            let at : k ≡ suc i + n = h.1 in
            let named = get-numbered spot n (suc i) (take (end - suc i) (drop (suc i) es)) h.3 h.4 in
            let got = get-take n (end - suc i) (drop (suc i) es) h.3.1 named.1 in
            let less : n < end - suc i = got.1 in
            let more : end - suc i ≡ n + (end - suc i - n) = omega arith in
            let rest : end - suc i ≡ suc n + (end - suc k) = omega arith in
            let behind : suc i + suc n ≡ suc k = omega arith in
            let inside : n ≡ k - suc i = omega arith in
            record {
              later = omega arith;
              has_value = h.2;
              finishes = ap (slice_get es) at ∙ sym (get-drop n (suc i) es) ∙ got.0 ∙ ap Some h.5;
              cuts = h.6
                  ∙ ap (λ xs. Some (record { inner = xs; has_value = h.2; end = h.3; rest = drop (suc n) (part spot es (suc i) end) }))
                  (take-numbered spot n (suc i) (take (end - suc i) (drop (suc i) es))
                  ∙ ap (λ m. numbered spot (suc i) (take n (take m (drop (suc i) es)))) more
                  ∙ ap (numbered spot (suc i)) (take-less n (end - suc i - n) (drop (suc i) es))
                  ∙ ap (λ m. numbered spot (suc i) (take m (drop (suc i) es))) inside)
                  ∙ ap (λ e. Some (record { inner = part spot es (suc i) k; has_value = h.2; end = e; rest = drop (suc n) (part spot es (suc i) end) }))
                  (named.0 ∙ ap (λ j. (spot j, h.3.1)) (sym at) ∙ ap (λ e. (spot k, e)) h.5)
                  ∙ ap (λ xs. Some (record { inner = part spot es (suc i) k; has_value = h.2; end = (spot k, finish h.2); rest = xs }))
                  (drop-numbered spot (suc n) (suc i) (take (end - suc i) (drop (suc i) es))
                  ∙ ap (λ m. numbered spot (suc i + suc n) (drop (suc n) (take m (drop (suc i) es)))) rest
                  ∙ ap (numbered spot (suc i + suc n)) (drop-take (suc n) (end - suc k) (drop (suc i) es) ∙ ap (take (end - suc k)) (drop-further (suc n) (suc i) es))
                  ∙ ap (λ j. numbered spot j (take (end - suc k) (drop j es))) behind);
            }

-- no block ends within the part
pub block-open : (spot : ℕ → Spot) (es : List Event) (i end : ℕ) → i < end → below end (first (ends_from (suc i) (drop (suc i) es))) ≡ None →
    cut (λ (e : Numbered). e.1) (part spot es (suc i) end) 0 ≡ None
block-open spot es i end l none = let full : suc i + (end - suc i) ≡ end = omega arith in
    subst (CutAt (λ (e : Numbered). e.1) (part spot es (suc i) end) (suc i) (cut (λ (e : Numbered). e.1) (part spot es (suc i) end) 0))
    (ap (λ m. below m (first (ends_from (suc i) (drop (suc i) es)))) full ∙ none) (table-cuts spot (suc i) (end - suc i) (drop (suc i) es))
