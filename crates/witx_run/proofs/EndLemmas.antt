-- Where blocks end: what each event does, from the last to the first.
use Rattle.std.proofs.Common.{◌≡◌, ℕ, zero, suc, ◌+◌, ◌-◌, ◌<◌, ◌≤◌, true, false, List, [], ◌∷◌, ◌++◌, map, drop, length, get_or, refl, sym, ap, ◌∙◌, subst, arith, Option, Some, None, ltb, length-append, length-set}
use Rattle.std.specs.Prelude.{reverse, set, IfSome, is_some}
use Rattle.std.specs.Option.{option_copied}
use Rattle.std.specs.Borrow.{Bor}
use Rattle.std.proofs.Math.Seq.{drop-cons}
use Rattle.std.proofs.lemmas.List.{reverse-append, reverse-reverse, drop-map}
use Rattle.std.proofs.lemmas.Grind.{drop-set_at}
use Rattle.witx_machine.specs.Events.{Event}
use Rattle.witx_run.specs.BlockEnds.{first, unmatched, ends_from, block_ends}

pub reverse-pushed : (xs : List ℕ) (x : ℕ) → reverse (xs ++ x ∷ []) ≡ x ∷ reverse xs
reverse-pushed xs x = reverse-append xs (x ∷ [])

pub ruleset end_rules = (reverse-pushed)

-- what stands from the i-th event on
pub record Sofar (es : List Event) (i : ℕ) (ends : List (Option ℕ)) (left : List ℕ) : Type 0 where
  pub long : length ends ≡ length es
  pub left_over : reverse left ≡ ends_from i (drop i es)
  pub done : drop i ends ≡ block_ends i (drop i es)

last_at : (zs : List ℕ) (y d : ℕ) → get_or (zs ++ y ∷ []) (length (zs ++ y ∷ []) - 1) d ≡ y
last_at zs y d = let e : length (zs ++ y ∷ []) - 1 ≡ length zs = omega (arith, length-append zs (y ∷ [])) in ap (λ n. get_or (zs ++ y ∷ []) n d) e ∙ go zs
  where
    go : (zs : List ℕ) → get_or (zs ++ y ∷ []) (length zs) d ≡ y
    go [] = refl
    go (z ∷ zs) = go zs

-- the last item is the first from behind
pub last_first : (xs : List ℕ) (r : Option (Bor ℕ)) → is_some r ≡ ltb 0 (length xs) → IfSome r (λ x. x.now ≡ get_or xs (length xs - 1) x.now) → option_copied r ≡ first (reverse xs)
last_first xs r some last = by (reverse xs) (reverse-reverse xs) r some last
  where
    by : (ys : List ℕ) → reverse ys ≡ xs → (r : Option (Bor ℕ)) → is_some r ≡ ltb 0 (length xs) → IfSome r (λ x. x.now ≡ get_or xs (length xs - 1) x.now) → option_copied r ≡ first ys
    by [] e None some last = refl
    by [] e (Some x) some last = absurd (clash (subst (λ xs. true ≡ ltb 0 (length xs)) (sym e) some))
      where
        clash : true ≡ false → ⊥
        clash e = cc
    by (y ∷ ys) e None some last = absurd (clash (subst (λ xs. false ≡ ltb 0 (length xs)) (sym e ∙ reverse-append (y ∷ []) ys) some))
      where
        clash : false ≡ ltb 0 (length (reverse ys ++ y ∷ [])) → ⊥
        clash e = absurd (grind (arith, length-append (reverse ys) (y ∷ [])))
    by (y ∷ ys) e (Some x) some last = ap Some (last ∙ ap (λ xs. get_or xs (length xs - 1) x.now) (sym e ∙ reverse-append (y ∷ []) ys) ∙ last_at (reverse ys) y x.now)

at_event : {X : Type 0} (f : X → Event) (xs : List X) (n : ℕ) (x : X) → n < length xs → x ≡ get_or xs n x → drop n (map f xs) ≡ f x ∷ drop (suc n) (map f xs)
at_event f xs n x lt e = drop-map f n xs ∙ ap (map f) (drop-cons xs n x lt) ∙ ap (λ y. f y ∷ map f (drop (suc n) xs)) (sym e) ∙ ap (λ l. f x ∷ l) (sym (drop-map f (suc n) xs))

map_length : {A B : Type 0} (f : A → B) (xs : List A) → length (map f xs) ≡ length xs
map_length f [] = refl
map_length f (x ∷ xs) = ap suc (map_length f xs)

pub next_sofar : {X : Type 0} (f : X → Event) (xs : List X) (i : ℕ) (x : X) (ends : List (Option ℕ)) (left left' : List ℕ) (top : Option ℕ) → Sofar (map f xs) i ends left → 0 < i → i ≤ length xs → x ≡ get_or xs (i - 1) x → top ≡ first (reverse left) → reverse left' ≡ unmatched (f x) (i - 1) (reverse left) → Sofar (map f xs) (i - 1) (set ends (i - 1) top) left'
next_sofar f xs zero x ends left left' top s pos le e t l = absurd (omega arith)
next_sofar f xs (suc n) x ends left left' top s pos le e t l =
    let one : suc n - 1 ≡ n = omega arith in
    subst (λ k. Sofar (map f xs) k (set ends k top) left') (sym one) (record {
      long = length-set ends n top ∙ s.long;
      left_over = subst (λ k. reverse left' ≡ unmatched (f x) k (reverse left)) one l ∙ ap (unmatched (f x) n) (s.left_over ∙ ap (λ k. ends_from k (drop (suc n) (map f xs))) plus) ∙ ap (ends_from n) (sym here);
      done = drop-set_at ends n n top refl bound ∙ ap (λ k. top ∷ drop k ends) (sym plus) ∙ ap (λ l. top ∷ l) (s.done ∙ ap (λ k. block_ends k (drop (suc n) (map f xs))) plus) ∙ ap (λ o. o ∷ block_ends (n + 1) (drop (suc n) (map f xs))) (t ∙ ap first (s.left_over ∙ ap (λ k. ends_from k (drop (suc n) (map f xs))) plus)) ∙ ap (block_ends n) (sym here);
    })
  where
    plus : suc n ≡ n + 1
    plus = omega arith

    lt : n < length xs
    lt = omega arith

    bound : n < length ends
    bound = let p = s.long in omega (arith, map_length f xs)

    here : drop n (map f xs) ≡ f x ∷ drop (suc n) (map f xs)
    here = at_event f xs n x lt (let one : suc n - 1 ≡ n = omega arith in subst (λ k. x ≡ get_or xs k x) one e)
