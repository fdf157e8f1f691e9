-- The text of an ok type ends before the first ` err `.
use Rattle.std.proofs.Common.{◌≡◌, ℕ, ◌+◌, ◌<◌, ◌≤◌, List, [], ◌∷◌, ◌++◌, length, true, refl, sym, ap, ◌∙◌, Some, arith, append_assoc, length-append}
use Rattle.std.specs.Prelude.{codes}
use Rattle.witx_ast.specs.TypeNames.{comma_joined, tuple_text}
use Rattle.witx_traces.specs.LineParts.{no_blank}
use Rattle.witx_traces.specs.LineReading.{EndsFirst}
use Rattle.witx_traces.proofs.OneEvent.{first-of, no-start, rest-of}

abbrev pub EachNoBlank : List (List ℕ) → Type 0
EachNoBlank [] = Unit {0}
EachNoBlank (n ∷ ns) = (no_blank n ≡ true) × EachNoBlank ns

-- what stands at a blank stands behind a text without one
record Later (name xs rest ys : List ℕ) : Type 0 where
  more : List ℕ
  same : xs ≡ name ++ more
  here : rest ≡ more ++ (32 ∷ ys)

later : (name xs rest ys : List ℕ) → no_blank name ≡ true → name ++ rest ≡ xs ++ (32 ∷ ys) → Later name xs rest ys
later [] xs rest ys f e = record { more = xs; same = refl; here = e }
later (b ∷ name) [] rest ys f e = absurd ((no-start b name f).0 (first-of b 32 _ _ e))
later (b ∷ name) (x ∷ xs) rest ys f e =
    let l = later name xs rest ys (no-start b name f).1 (rest-of b x _ _ e) in
    record { more = l.more; same = ap (λ c. c ∷ xs) (sym (first-of b x _ _ e)) ∙ ap (λ z. b ∷ z) l.same; here = l.here }

-- a name before a comma or a parenthesis isn't `err` before a blank
not-err : (name rest ys : List ℕ) (c : ℕ) → no_blank name ≡ true → 33 ≤ c → c < 48 → name ++ (c ∷ rest) ≡ codes "err " ++ ys → ⊥
not-err [] rest ys c f l m e = let wrong : c ≡ 101 = first-of c 101 _ _ e in omega (arith, wrong, m)
not-err (a ∷ []) rest ys c f l m e = let wrong : c ≡ 114 = first-of c 114 _ _ (rest-of a 101 _ _ e) in omega (arith, wrong, m)
not-err (a ∷ b ∷ []) rest ys c f l m e = let wrong : c ≡ 114 = first-of c 114 _ _ (rest-of b 114 _ _ (rest-of a 101 _ _ e)) in omega (arith, wrong, m)
not-err (a ∷ b ∷ d ∷ []) rest ys c f l m e = let wrong : c ≡ 32 = first-of c 32 _ _ (rest-of d 114 _ _ (rest-of b 114 _ _ (rest-of a 101 _ _ e))) in omega (arith, wrong, l)
not-err (a ∷ b ∷ d ∷ g ∷ name) rest ys c f l m e =
    let blank : g ≡ 32 = first-of g 32 _ _ (rest-of d 114 _ _ (rest-of b 114 _ _ (rest-of a 101 _ _ e))) in
    (no-start g name (no-start d (g ∷ name) (no-start b (d ∷ g ∷ name) (no-start a (b ∷ d ∷ g ∷ name) f).1).1).1).0 blank

pub name-ends : (name : List ℕ) → no_blank name ≡ true → EndsFirst (Some name)
name-ends name f xs ys e =
    let l = later name xs (codes " err ") (codes "err " ++ ys) f e in
    let all = ap length l.same in
    omega (arith, all, length-append name l.more)

-- what follows a name with a comma behind it, where the rest is known
inside-more : (n m : List ℕ) (ns : List (List ℕ)) → EachNoBlank (n ∷ m ∷ ns)
    → ((xs ys : List ℕ) → comma_joined (m ∷ ns) ++ (41 ∷ codes " err ") ≡ xs ++ (codes " err " ++ ys) → length (comma_joined (m ∷ ns)) + 1 ≤ length xs)
    → (xs ys : List ℕ) → comma_joined (n ∷ m ∷ ns) ++ (41 ∷ codes " err ") ≡ xs ++ (codes " err " ++ ys) → length (comma_joined (n ∷ m ∷ ns)) + 1 ≤ length xs
inside-more n m ns h deep xs ys e = by (later n xs (44 ∷ 32 ∷ inner) (codes "err " ++ ys) h.0 (sym (append_assoc n (codes ", " ++ comma_joined (m ∷ ns)) (41 ∷ codes " err ")) ∙ e))
  where
    inner : List ℕ
    inner = comma_joined (m ∷ ns) ++ (41 ∷ codes " err ")

    starts : (ks : List (List ℕ)) → comma_joined (m ∷ ks) ++ (41 ∷ codes " err ") ≡ codes "err " ++ ys → ⊥
    starts [] e = not-err m (codes " err ") ys 41 h.1.0 (omega arith) (omega arith) e
    starts (k ∷ ks) e = not-err m (32 ∷ (comma_joined (k ∷ ks) ++ (41 ∷ codes " err "))) ys 44 h.1.0 (omega arith) (omega arith) (sym (append_assoc m (codes ", " ++ comma_joined (k ∷ ks)) (41 ∷ codes " err ")) ∙ e)

    go : (more : List ℕ) → xs ≡ n ++ more → 44 ∷ 32 ∷ inner ≡ more ++ (32 ∷ (codes "err " ++ ys)) → length (comma_joined (n ∷ m ∷ ns)) + 1 ≤ length xs
    go [] s e = let wrong : 44 ≡ 32 = first-of 44 32 _ _ e in absurd (omega (arith, wrong))
    go (b ∷ []) s e = absurd (starts ns (rest-of 32 32 _ _ (rest-of 44 b _ _ e)))
    go (b ∷ c ∷ more) s e =
        let far = deep more ys (rest-of 32 c _ _ (rest-of 44 b _ _ e)) in
        let all = ap length s in
        omega (arith, far, all, length-append n (b ∷ c ∷ more), length-append n (codes ", " ++ comma_joined (m ∷ ns)))

    by : Later n xs (44 ∷ 32 ∷ inner) (codes "err " ++ ys) → length (comma_joined (n ∷ m ∷ ns)) + 1 ≤ length xs
    by l = go l.more l.same l.here

-- what follows a tuple's opening parenthesis
inside-ends : (names : List (List ℕ)) → EachNoBlank names → (xs ys : List ℕ) → comma_joined names ++ (41 ∷ codes " err ") ≡ xs ++ (codes " err " ++ ys) → length (comma_joined names) + 1 ≤ length xs
inside-ends [] h [] ys e = let wrong : 41 ≡ 32 = first-of 41 32 _ _ e in absurd (omega (arith, wrong))
inside-ends [] h (x ∷ xs) ys e = omega arith
inside-ends (n ∷ []) h xs ys e = by (later n xs (41 ∷ codes " err ") (codes "err " ++ ys) h.0 e)
  where
    by : Later n xs (41 ∷ codes " err ") (codes "err " ++ ys) → length n + 1 ≤ length xs
    by l = go l.more l.same l.here
      where
        go : (more : List ℕ) → xs ≡ n ++ more → 41 ∷ codes " err " ≡ more ++ (32 ∷ (codes "err " ++ ys)) → length n + 1 ≤ length xs
        go [] s e = let wrong : 41 ≡ 32 = first-of 41 32 _ _ e in absurd (omega (arith, wrong))
        go (b ∷ more) s e = let all = ap length s in omega (arith, all, length-append n (b ∷ more))
inside-ends (n ∷ m ∷ ns) h xs ys e =
    inside-more n m ns h (inside-ends (m ∷ ns) h.1) xs ys e

pub tuple-ends : (names : List (List ℕ)) → EachNoBlank names → EndsFirst (Some (tuple_text names))
tuple-ends names h [] ys e = let wrong : 40 ≡ 32 = first-of 40 32 _ _ e in absurd (omega (arith, wrong))
tuple-ends names h (x ∷ xs) ys e =
    let flat = append_assoc (comma_joined names) (codes ")") (codes " err ") in
    let deep = inside-ends names h xs ys (sym flat ∙ rest-of 40 x _ _ e) in
    omega (arith, deep, length-append (comma_joined names) (codes ")"))
