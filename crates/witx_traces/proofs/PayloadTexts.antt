-- The texts of the payloads of a result that is lowered: the ok type's ends before the first ` err `, so a line has one reading.
use Rattle.std.proofs.Common.{◌≡◌, ℕ, ◌+◌, ◌-◌, ◌<◌, ◌≤◌, ◌⊎◌, inl, inr, List, [], ◌∷◌, ◌++◌, length, take, drop, refl, sym, ap, ◌∙◌, Option, Some, None, Bor, arith, append_assoc, length-append}
use Rattle.std.specs.Prelude.{codes, MatchOption}
use Rattle.std.specs.Str.Pattern.{FindsText, FindsTextSuffix}
use Rattle.std.proofs.lemmas.Str.Pattern.{split_text_parts}
use Rattle.witx_traces.specs.LineReading.{IsBehind, EndsFirst, PayloadsAt, payloads_tail}

some-same : {A : Type 0} (x y : A) → Some x ≡ Some y → x ≡ y
some-same x y e = cc

first-of : (a b : ℕ) (xs ys : List ℕ) → a ∷ xs ≡ b ∷ ys → a ≡ b
first-of a b xs ys e = cc

rest-of : (a b : ℕ) (xs ys : List ℕ) → a ∷ xs ≡ b ∷ ys → xs ≡ ys
rest-of a b xs ys e = cc

record Front (xs zs : List ℕ) : Type 0 where
  behind : List ℕ
  same : xs ≡ zs ++ behind

split-front : (xs ys zs ws : List ℕ) → xs ++ ys ≡ zs ++ ws → length zs ≤ length xs → Front xs zs
split-front xs ys [] ws e l = record { behind = xs; same = refl }
split-front [] ys (z ∷ zs) ws e l = absurd (omega (arith, l))
split-front (x ∷ xs) ys (z ∷ zs) ws e l =
    let more = split-front xs ys zs ws (rest-of x z _ _ e) (omega (arith, l)) in
    record { behind = more.behind; same = ap (λ c. c ∷ xs) (first-of x z _ _ e) ∙ ap (λ c. z ∷ c) more.same }

same-fronts : (xs ys zs ws : List ℕ) → xs ++ ys ≡ zs ++ ws → length xs ≡ length zs → (xs ≡ zs) × (ys ≡ ws)
same-fronts [] ys [] ws e l = (refl, e)
same-fronts [] ys (z ∷ zs) ws e l = absurd (omega (arith, l))
same-fronts (x ∷ xs) ys [] ws e l = absurd (omega (arith, l))
same-fronts (x ∷ xs) ys (z ∷ zs) ws e l =
    let more = same-fronts xs ys zs ws (rest-of x z _ _ e) (omega (arith, l)) in
    (ap (λ c. c ∷ xs) (first-of x z _ _ e) ∙ ap (λ c. z ∷ c) more.0, more.1)

-- a text that ends at the first ` err ` has none before it
not-before : (t other u v : List ℕ) → EndsFirst (Some t) → other ++ (codes " err " ++ u) ≡ t ++ (codes " err " ++ v) → length other < length t → ⊥
not-before t other u v ends e less =
    let flat : (t ++ codes " err ") ++ v ≡ (other ++ codes " err ") ++ u
    = append_assoc t (codes " err ") v ∙ (sym e ∙ sym (append_assoc other (codes " err ") u)) in
    let lengths : length (other ++ codes " err ") ≤ length (t ++ codes " err ") = omega (arith, less, length-append other (codes " err "), length-append t (codes " err ")) in
    let front = split-front (t ++ codes " err ") v (other ++ codes " err ") u flat lengths in
    let long = ends other front.behind (front.same ∙ append_assoc other (codes " err ") front.behind) in
    omega (arith, long, less)

not-within : (t other u : List ℕ) → EndsFirst (Some t) → t ≡ other ++ (codes " err " ++ u) → ⊥
not-within t other u ends e =
    let long = ends other (u ++ codes " err ") (ap (λ z. z ++ codes " err ") e ∙ append_assoc other (codes " err " ++ u) (codes " err ")) in
    let all = ap length e in
    omega (arith, long, all, length-append other (codes " err " ++ u))

equal-unless : (j k : ℕ) → (j < k → ⊥) → (k < j → ⊥) → j ≡ k
equal-unless j k f g = grind (arith)

both-same : (t u a b : List ℕ) → EndsFirst (Some t) → EndsFirst (Some a) → t ++ (codes " err " ++ u) ≡ a ++ (codes " err " ++ b) → (t ≡ a) × (u ≡ b)
both-same t u a b f g e =
    let long = equal-unless (length t) (length a) (not-before a t u b g e) (not-before t a b u f (sym e)) in
    let cut = same-fronts _ _ _ _ e long in
    (cut.0, ap (drop 5) cut.1)

pub payloads-same : (ok err ok' err' : Option (List ℕ)) → EndsFirst ok → EndsFirst ok' → payloads_tail ok err ≡ payloads_tail ok' err' → (ok ≡ ok') × (err ≡ err')
payloads-same None None None None f g e = (refl, refl)
payloads-same None None (Some a) None f g e = absurd (cc)
payloads-same None None None (Some b) f g e = absurd (cc)
payloads-same None None (Some a) (Some b) f g e = absurd (cc)
payloads-same (Some t) None None None f g e = absurd (cc)
payloads-same (Some t) None (Some a) None f g e = (ap Some (ap (drop 3) (some-same _ _ e)), refl)
payloads-same (Some t) None None (Some b) f g e = let wrong : 111 ≡ 101 = first-of 111 101 _ _ (some-same _ _ e) in absurd (omega (arith, wrong))
payloads-same (Some t) None (Some a) (Some b) f g e = absurd (not-within t a b f (ap (drop 3) (some-same _ _ e)))
payloads-same None (Some u) None None f g e = absurd (cc)
payloads-same None (Some u) (Some a) None f g e = let wrong : 101 ≡ 111 = first-of 101 111 _ _ (some-same _ _ e) in absurd (omega (arith, wrong))
payloads-same None (Some u) None (Some b) f g e = (refl, ap Some (ap (drop 4) (some-same _ _ e)))
payloads-same None (Some u) (Some a) (Some b) f g e = let wrong : 101 ≡ 111 = first-of 101 111 _ _ (some-same _ _ e) in absurd (omega (arith, wrong))
payloads-same (Some t) (Some u) None None f g e = absurd (cc)
payloads-same (Some t) (Some u) (Some a) None f g e = absurd (not-within a t u g (sym (ap (drop 3) (some-same _ _ e))))
payloads-same (Some t) (Some u) None (Some b) f g e = let wrong : 111 ≡ 101 = first-of 111 101 _ _ (some-same _ _ e) in absurd (omega (arith, wrong))
payloads-same (Some t) (Some u) (Some a) (Some b) f g e =
    let s = both-same t u a b f g (ap (drop 3) (some-same _ _ e)) in
    (ap Some s.0, ap Some s.1)

-- ---- what the reader answers

read-so : (tail : List ℕ) (ok err : Option (List ℕ)) → EndsFirst ok → payloads_tail ok err ≡ Some tail → PayloadsAt tail (Some (ok, err))
read-so tail ok err f e = record { ends = f; same = e }

pub err-read : (tail err : List ℕ) → tail ≡ codes "err " ++ err → PayloadsAt tail (Some (None, Some err))
err-read tail err e = read-so tail None (Some err) tt (ap Some (sym e))

pub none-read : (tail : List ℕ) → IsBehind (codes "ok ") tail None → IsBehind (codes "err ") tail None → PayloadsAt tail None
none-read tail a b = record { none = λ p f. by p.0 p.1 f.ends f.same }
  where
    by : (ok err : Option (List ℕ)) → EndsFirst ok → payloads_tail ok err ≡ Some tail → ⊥
    by None None f e = absurd (cc)
    by (Some t) None f e = a.none t (sym (some-same _ _ e))
    by (Some t) (Some u) f e = a.none (t ++ (codes " err " ++ u)) (sym (some-same _ _ e))
    by None (Some u) f e = b.none u (sym (some-same _ _ e))

-- what `split_once` says at ` err `
abbrev pub SplitAtErr : List ℕ → Option (Bor (List ℕ) × Bor (List ℕ)) → Type 0
SplitAtErr bs r = MatchOption r (FindsText (codes " err ") bs None)
    (λ x. (i : ℕ) × (j : ℕ) × FindsText (codes " err ") bs (Some (i, j)) × (x.0.now ≡ take i bs) × (x.1.now ≡ drop j bs) × (i ≤ j) × (length x.0.now ≡ i) × (length x.1.now + j ≡ length bs))

drop-front : (xs ys : List ℕ) → drop (length xs) (xs ++ ys) ≡ ys
drop-front [] ys = refl
drop-front (x ∷ xs) ys = drop-front xs ys

least : (m n : ℕ) → (m < n → ⊥) → n ≤ m
least m n f = grind (arith)

-- the first ` err ` ends the ok type's text
pub ok-and-err : (tail payloads : List ℕ) (x : Bor (List ℕ) × Bor (List ℕ)) → SplitAtErr payloads (Some x) → tail ≡ codes "ok " ++ payloads → PayloadsAt tail (Some (Some x.0.now, Some x.1.now))
ok-and-err tail payloads x h e =
    let whole : payloads ≡ x.0.now ++ (codes " err " ++ x.1.now) = split_text_parts (codes " err ") payloads (Some x) h in
    let earlier : (xs ys : List ℕ) → x.0.now ++ codes " err " ≡ xs ++ (codes " err " ++ ys) → length xs < length x.0.now → ⊥ =
    λ xs ys is less.
    let there : payloads ≡ xs ++ (codes " err " ++ (ys ++ x.1.now)) =
    whole ∙ (sym (append_assoc x.0.now (codes " err ") x.1.now) ∙ (ap (λ z. z ++ x.1.now) is ∙ (append_assoc xs (codes " err " ++ ys) x.1.now ∙ ap (λ z. xs ++ z) (append_assoc (codes " err ") ys x.1.now)))) in
    h.2.0 (length xs) (omega (arith, less, h.6)) (ys ++ x.1.now) (ap (drop (length xs)) there ∙ drop-front xs (codes " err " ++ (ys ++ x.1.now))) in
    read-so tail (Some x.0.now) (Some x.1.now) (λ xs ys is. least (length xs) (length x.0.now) (earlier xs ys is)) (ap Some (sym (e ∙ ap (λ z. codes "ok " ++ z) whole)))

-- an ` err ` that begins within a text and ends behind it
overlaps : (ks ys : List ℕ) → ks ++ codes " err " ≡ codes " err " ++ ys → 0 < length ks → length ks < 5 → ks ≡ codes " err"
overlaps [] ys e some few = absurd (omega (arith, some))
overlaps (a ∷ []) ys e some few = let wrong : 32 ≡ 101 = first-of 32 101 _ _ (rest-of a 32 _ _ e) in absurd (omega (arith, wrong))
overlaps (a ∷ b ∷ []) ys e some few = let wrong : 32 ≡ 114 = first-of 32 114 _ _ (rest-of b 101 _ _ (rest-of a 32 _ _ e)) in absurd (omega (arith, wrong))
overlaps (a ∷ b ∷ c ∷ []) ys e some few = let wrong : 32 ≡ 114 = first-of 32 114 _ _ (rest-of c 114 _ _ (rest-of b 101 _ _ (rest-of a 32 _ _ e))) in absurd (omega (arith, wrong))
overlaps (a ∷ b ∷ c ∷ d ∷ []) ys e some few =
    let f = rest-of a 32 _ _ e in
    let g = rest-of b 101 _ _ f in
    let h = rest-of c 114 _ _ g in
    ap (λ z. z ∷ b ∷ c ∷ d ∷ []) (first-of a 32 _ _ e) ∙ (ap (λ z. 32 ∷ z ∷ c ∷ d ∷ []) (first-of b 101 _ _ f) ∙ (ap (λ z. 32 ∷ 101 ∷ z ∷ d ∷ []) (first-of c 114 _ _ g) ∙ ap (λ z. 32 ∷ 101 ∷ 114 ∷ z ∷ []) (first-of d 114 _ _ h)))
overlaps (a ∷ b ∷ c ∷ d ∷ f ∷ ks) ys e some few = absurd (omega (arith, few))

cancel : (xs ys zs : List ℕ) → xs ++ ys ≡ xs ++ zs → ys ≡ zs
cancel [] ys zs e = e
cancel (x ∷ xs) ys zs e = cancel xs ys zs (rest-of x x _ _ e)

-- no ` err ` within, and no ` err` at the end
record Errless (payloads : List ℕ) : Type 0 where
  within : (xs ys : List ℕ) → payloads ≡ xs ++ (codes " err " ++ ys) → ⊥
  last : (xs : List ℕ) → payloads ≡ xs ++ codes " err" → ⊥

either-way : (m n : ℕ) → (m ≤ n) ⊎ (n < m)
either-way m n = grind (arith)

errless-ends : (payloads : List ℕ) → Errless payloads → EndsFirst (Some payloads)
errless-ends payloads f xs ys is = least (length xs) (length payloads) earlier
  where
    earlier : length xs < length payloads → ⊥
    earlier less = by (either-way (length xs + 5) (length payloads))
      where
        front : Front payloads xs
        front = split-front payloads (codes " err ") xs (codes " err " ++ ys) is (omega (arith, less))

        by : (length xs + 5 ≤ length payloads) ⊎ (length payloads < length xs + 5) → ⊥
        by (inl l) =
            let long = split-front payloads (codes " err ") (xs ++ codes " err ") ys (is ∙ sym (append_assoc xs (codes " err ") ys)) (omega (arith, l, length-append xs (codes " err "))) in
            f.within xs long.behind (long.same ∙ append_assoc xs (codes " err ") long.behind)
        by (inr r) =
            let all = ap length front.same in
            let here : front.behind ++ codes " err " ≡ codes " err " ++ ys = cancel xs _ _ (sym (append_assoc xs front.behind (codes " err ")) ∙ (ap (λ z. z ++ codes " err ") (sym front.same) ∙ is)) in
            let ks = overlaps front.behind ys here (omega (arith, less, all, length-append xs front.behind)) (omega (arith, r, all, length-append xs front.behind)) in
            f.last xs (front.same ∙ ap (λ z. xs ++ z) ks)

pub ok-alone : (tail payloads : List ℕ) → SplitAtErr payloads None → ((xs : List ℕ) → payloads ≡ xs ++ codes " err" → ⊥) → tail ≡ codes "ok " ++ payloads → PayloadsAt tail (Some (Some payloads, None))
ok-alone tail payloads h last e =
    read-so tail (Some payloads) None (errless-ends payloads (record { within = split_text_parts (codes " err ") payloads None h; last = last })) (ap Some (sym e))

cons-three : (a b c : ℕ) (xs ys : List ℕ) → a ∷ b ∷ c ∷ xs ≡ a ∷ b ∷ c ∷ ys → xs ≡ ys
cons-three a b c xs ys e = cc

-- an ok type that ends with ` err` has no reading
pub no-ok : (tail payloads front : List ℕ) → SplitAtErr payloads None → payloads ≡ front ++ codes " err" → tail ≡ codes "ok " ++ payloads → PayloadsAt tail None
no-ok tail payloads front h is e = record { none = λ p f. by p.0 p.1 f.ends f.same }
  where
    within : (xs ys : List ℕ) → payloads ≡ xs ++ (codes " err " ++ ys) → ⊥
    within = split_text_parts (codes " err ") payloads None h

    by : (ok err : Option (List ℕ)) → EndsFirst ok → payloads_tail ok err ≡ Some tail → ⊥
    by None None f s = absurd (cc)
    by (Some t) None f s =
        let same : t ≡ payloads = cons-three 111 107 32 t payloads (some-same _ _ s ∙ e) in
        let long = f front (codes "err ") (ap (λ z. z ++ codes " err ") (same ∙ is) ∙ append_assoc front (codes " err") (codes " err ")) in
        let all = ap length (same ∙ is) in
        omega (arith, long, all, length-append front (codes " err"))
    by (Some t) (Some u) f s = within t u (sym (cons-three 111 107 32 _ payloads (some-same _ _ s ∙ e)))
    by None (Some u) f s = let wrong : 101 ≡ 111 = first-of 101 111 _ _ (some-same _ _ s ∙ e) in absurd (omega (arith, wrong))

-- what `strip_suffix` says of ` err`
pub ends-err : (text : List ℕ) (r : Option (Bor (List ℕ)))
    → MatchOption r (FindsTextSuffix (codes " err") text None) (λ x. (n : ℕ) × FindsTextSuffix (codes " err") text (Some n) × (x.now ≡ take (length text - n) text) × (length x.now + n ≡ length text))
    → MatchOption r ((xs : List ℕ) → text ≡ xs ++ codes " err" → ⊥) (λ x. text ≡ x.now ++ codes " err")
ends-err text None h = h
ends-err text (Some x) h = h.1.1 ∙ ap (λ z. z ++ codes " err") (sym h.2)

pub ruleset texts_rules = (err-read, none-read)
