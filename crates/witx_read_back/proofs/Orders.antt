-- Names that differ, and what filters keep of them.
use Rattle.std.proofs.Common.{◌≡◌, ℕ, Bool, true, false, not, ◌||◌, cond, List, [], ◌∷◌, ◌++◌, map, filter, Option, Some, None, refl, sym, ap, ◌∙◌, subst}
use Rattle.std.specs.Map.{keys_of}
use Rattle.std.specs.Option.{is_some}
use Rattle.std.specs.List.{list_any}
use Rattle.std.specs.Ordering.{is_eq, nat_cmp}
use Rattle.std.specs.Cmp.Lexicographic.{slice_cmp, same_text as one_text, texts_ties}
use Rattle.std.proofs.lemmas.Cmp.{nat_list_eq_equiv}
use Rattle.std.proofs.lemmas.Map.Made.{is_some-lookup}
use Rattle.witx_base.specs.Found.{found}
use Rattle.witx_read_back.specs.Distinct.{any_same, AllNew}

abbrev pub same : List ℕ → List ℕ → Bool
same n m = is_eq (slice_cmp nat_cmp n m)

pub same_is : (n m : List ℕ) → same n m ≡ true → n ≡ m
same_is n m e = one_text n m (sym (texts_ties n m ∙ e))

pub same_sym : (n m : List ℕ) → same n m ≡ same m n
same_sym n m = sym (texts_ties n m) ∙ nat_list_eq_equiv.symm n m ∙ texts_ties m n

abbrev pub or_else : {A : Type 0} → Option A → Option A → Option A
or_else None p = p
or_else (Some x) p = Some x

true_false : true ≡ false → ⊥
true_false e = cc

pub or_parts : (a b : Bool) → (a || b) ≡ false → (a ≡ false) × (b ≡ false)
or_parts true b e = absurd (true_false e)
or_parts false b e = (refl, e)

pub or_none : (a b : Bool) → a ≡ false → b ≡ false → (a || b) ≡ false
or_none true b e f = absurd (true_false e)
or_none false b e f = f

abbrev pub NotIn : List ℕ → List (List ℕ) → Type 0
NotIn n ns = any_same n ns ≡ false

-- each name differs from those behind it
abbrev pub AllDiffer : List (List ℕ) → Type 0
AllDiffer [] = Unit {0}
AllDiffer (n ∷ ns) = NotIn n ns × AllDiffer ns

pub not_in_both : (n : List ℕ) (xs ys : List (List ℕ)) → NotIn n xs → NotIn n ys → NotIn n (xs ++ ys)
not_in_both n [] ys e f = f
not_in_both n (x ∷ xs) ys e f =
    let p = or_parts (same n x) (any_same n xs) e in
    or_none (same n x) (any_same n (xs ++ ys)) p.0 (not_in_both n xs ys p.1 f)

-- a name in the middle of those that are seen isn't met again
not_again : (before behind : List (List ℕ)) (s : List ℕ) (ns : List (List ℕ)) → AllNew (before ++ s ∷ behind) ns → NotIn s ns
not_again before behind s [] w = refl
not_again before behind s (m ∷ ns) w = or_none (same s m) (any_same s ns) (same_sym s m ∙ in_middle before w.0) (not_again (m ∷ before) behind s ns w.1)
  where
    in_middle : (xs : List (List ℕ)) → any_same m (xs ++ s ∷ behind) ≡ false → same m s ≡ false
    in_middle [] e = (or_parts (same m s) (any_same m behind) e).0
    in_middle (x ∷ xs) e = in_middle xs (or_parts (same m x) (any_same m (xs ++ s ∷ behind)) e).1

pub new_differ : (seen ns : List (List ℕ)) → AllNew seen ns → AllDiffer ns
new_differ seen [] w = tt
new_differ seen (n ∷ ns) w = (not_again [] seen n ns w.1, new_differ (n ∷ seen) ns w.1)

abbrev AllOut : List (List ℕ) → List (List ℕ) → Type 0
AllOut seen [] = Unit {0}
AllOut seen (n ∷ ns) = NotIn n seen × AllOut seen ns

more_out : (s : List ℕ) (seen ns : List (List ℕ)) → NotIn s ns → AllOut seen ns → AllOut (s ∷ seen) ns
more_out s seen [] e w = tt
more_out s seen (n ∷ ns) e w =
    let p = or_parts (same s n) (any_same s ns) e in
    (or_none (same n s) (any_same n seen) (same_sym n s ∙ p.0) w.0, more_out s seen ns p.1 w.1)

all_out : (ns : List (List ℕ)) → AllOut [] ns
all_out [] = tt
all_out (n ∷ ns) = (refl, all_out ns)

differ_new : (seen ns : List (List ℕ)) → AllDiffer ns → AllOut seen ns → AllNew seen ns
differ_new seen [] d w = tt
differ_new seen (n ∷ ns) d w = (w.0, differ_new (n ∷ seen) ns d.1 (more_out n seen ns d.0 w.1))

pub differ_all_new : (ns : List (List ℕ)) → AllDiffer ns → AllNew [] ns
differ_all_new ns d = differ_new [] ns d (all_out ns)

-- ---- filters

module _ {T : Type 0} (key : T → List ℕ) (p : T → Bool) where
  abbrev names : List T → List (List ℕ)
  names ts = map key ts

  not_in_filter : (q : T → Bool) (n : List ℕ) (ts : List T) → NotIn n (names ts) → NotIn n (names (filter q ts))
  not_in_filter q n [] e = refl
  not_in_filter q n (t ∷ ts) e =
      let o = or_parts (same n (key t)) (any_same n (names ts)) e in
      kept (q t) o.0 (not_in_filter q n ts o.1)
    where
      kept : (b : Bool) → same n (key t) ≡ false → NotIn n (names (filter q ts)) → NotIn n (names (cond b (t ∷ filter q ts) (filter q ts)))
      kept true x y = or_none (same n (key t)) (any_same n (names (filter q ts))) x y
      kept false x y = y

  names_append : (xs ys : List T) → names (xs ++ ys) ≡ names xs ++ names ys
  names_append [] ys = refl
  names_append (x ∷ xs) ys = ap (λ (l : List (List ℕ)). key x ∷ l) (names_append xs ys)

  not_in_append : (n : List ℕ) (xs ys : List T) → NotIn n (names xs) → NotIn n (names ys) → NotIn n (names (xs ++ ys))
  not_in_append n xs ys e f = subst (λ (l : List (List ℕ)). NotIn n l) (sym (names_append xs ys)) (not_in_both n (names xs) (names ys) e f)

  not_in_middle : (n : List ℕ) (t : T) (xs ys : List T) → same n (key t) ≡ false → NotIn n (names (xs ++ ys)) → NotIn n (names (xs ++ t ∷ ys))
  not_in_middle n t [] ys e f = or_none (same n (key t)) (any_same n (names ys)) e f
  not_in_middle n t (x ∷ xs) ys e f =
      let o = or_parts (same n (key x)) (any_same n (names (xs ++ ys))) f in
      or_none (same n (key x)) (any_same n (names (xs ++ t ∷ ys))) o.0 (not_in_middle n t xs ys e o.1)

  differ_middle : (t : T) (xs ys : List T) → NotIn (key t) (names (xs ++ ys)) → AllDiffer (names (xs ++ ys)) → AllDiffer (names (xs ++ t ∷ ys))
  differ_middle t [] ys e d = (e, d)
  differ_middle t (x ∷ xs) ys e d =
      let o = or_parts (same (key t) (key x)) (any_same (key t) (names (xs ++ ys))) e in
      (not_in_middle (key x) t xs ys (same_sym (key x) (key t) ∙ o.0) d.0, differ_middle t xs ys o.1 d.1)

  -- those that pass, and then the others
  pub differ_split : (ts : List T) → AllDiffer (names ts) → AllDiffer (names (filter p ts ++ filter (λ t. not (p t)) ts))
  differ_split [] d = tt
  differ_split (t ∷ ts) d =
      let out : NotIn (key t) (names (filter p ts ++ filter (λ t. not (p t)) ts))
      = not_in_append (key t) (filter p ts) (filter (λ t. not (p t)) ts) (not_in_filter p (key t) ts d.0) (not_in_filter (λ t. not (p t)) (key t) ts d.0) in
      either (p t) out (differ_split ts d.1)
    where
      either : (b : Bool) → NotIn (key t) (names (filter p ts ++ filter (λ t. not (p t)) ts)) → AllDiffer (names (filter p ts ++ filter (λ t. not (p t)) ts))
          → AllDiffer (names (cond b (t ∷ filter p ts) (filter p ts) ++ cond (not b) (t ∷ filter (λ t. not (p t)) ts) (filter (λ t. not (p t)) ts)))
      either true e f = (e, f)
      either false e f = differ_middle t (filter p ts) (filter (λ t. not (p t)) ts) e f
